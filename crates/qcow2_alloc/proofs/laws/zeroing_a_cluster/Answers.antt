use Rattle.qcow2_alloc.proofs.Memory.NameDrops.{zero-drops}
use Rattle.qcow2_alloc.proofs.laws.zeroing_a_cluster.Goals as goal

pub returns : goal.returns
returns c = zero-drops
