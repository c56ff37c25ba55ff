use Rattle.qcow2_alloc.proofs.Memory.NameDrops.{data-drops}
use Rattle.qcow2_alloc.proofs.laws.mapping_a_kept_cluster.Goals as goal

pub returns : goal.returns
returns c = data-drops
