use Rattle.qcow2_alloc.proofs.Searching.FreeClusters.{old-table-waits}
use Rattle.qcow2_alloc.proofs.laws.the_old_table_waits_to_be_freed.Goals as goal

pub returns : goal.returns
returns c = old-table-waits
