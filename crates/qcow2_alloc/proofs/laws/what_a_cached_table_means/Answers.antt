use Rattle.qcow2_alloc.proofs.Memory.WordChanges.{cached-slot}
use Rattle.qcow2_alloc.proofs.laws.what_a_cached_table_means.Goals as goal

pub returns : goal.returns
returns c = cached-slot
