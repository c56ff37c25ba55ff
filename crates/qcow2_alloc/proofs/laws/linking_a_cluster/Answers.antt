use Rattle.qcow2_alloc.proofs.Memory.WordChanges.{cluster-mapped}
use Rattle.qcow2_alloc.proofs.laws.linking_a_cluster.Goals as goal

pub returns : goal.returns
returns c = cluster-mapped
