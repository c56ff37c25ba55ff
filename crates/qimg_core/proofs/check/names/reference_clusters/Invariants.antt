use Rattle.qimg_core.specs.Names.{AddsClusters}
use Rattle.qimg_core.proofs.check.names.reference_clusters.Given as goal

-- References to the clusters before this one are added.
abbrev pub invariant-loop-cluster : goal.invariant-loop-cluster
invariant-loop-cluster l = AddsClusters l.fn.names l.names l.fn.low l.cluster l.fn.times
