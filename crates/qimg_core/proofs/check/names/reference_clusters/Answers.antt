use Rattle.qimg_core.proofs.Names.Clusters.{adds-none, adds-more}
use Rattle.qimg_core.proofs.check.names.reference_clusters.Goals as goal

pub loop-cluster-init : goal.loop-cluster-init
loop-cluster-init c = adds-none c.args.names.now c.args.low c.args.times

pub loop-cluster-preserved : goal.loop-cluster-preserved
loop-cluster-preserved c = adds-more c.args.names.now c.loop-cluster.names c.reference_cluster.new.names c.args.low c.loop-cluster.cluster c.args.times c.loop-cluster.auto.cluster c.loop-cluster.invariant c.in_ok-reference_cluster.ensures.ok
