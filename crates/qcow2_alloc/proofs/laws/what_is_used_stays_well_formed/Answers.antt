use Rattle.qcow2_alloc.proofs.Caching.EntryUses.{table-used, block-used}
use Rattle.qcow2_alloc.proofs.laws.what_is_used_stays_well_formed.Goals as goal

pub returns : goal.returns
returns c = record { tables = table-used; blocks = block-used }
