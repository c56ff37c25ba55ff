use Rattle.qcow2_alloc.proofs.Memory.NameDrops.{discard-drops}
use Rattle.qcow2_alloc.proofs.laws.discarding_a_cluster.Goals as goal

pub returns : goal.returns
returns c = discard-drops
