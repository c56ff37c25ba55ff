use Rattle.qcow2_clusters.specs.Flushed.{clusters_state}
use Rattle.qcow2_clusters.proofs.ZeroClusterFills.{fills}
use Rattle.qcow2_clusters.proofs.filling.fill.Goals as goal

pub returns-clause-fills : goal.returns-clause-fills
returns-clause-fills g c = λ guest caches space empty.
    fills g.S.Storage.state guest c.args.cluster c.args.content.now (clusters_state c.args.file.now caches space) c.write_cluster.new.file c.write_cluster.result empty
    c.write_cluster.ensures.header c.requires.whole c.write_cluster.ensures.put
