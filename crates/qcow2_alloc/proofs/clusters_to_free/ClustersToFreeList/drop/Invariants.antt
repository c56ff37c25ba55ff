use Rattle.std.proofs.Common.{vec_len}
use Rattle.qcow2_alloc.proofs.clusters_to_free.ClustersToFreeList.drop.Given as goal

abbrev pub decreases-loop-entry : goal.decreases-loop-entry
decreases-loop-entry l = vec_len l.entries
