use Rattle.qcow2_clusters.specs.Flushed.{clusters_state}
use Rattle.qcow2_clusters.proofs.StoreSettlement.{one-stored}
use Rattle.qcow2_clusters.proofs.storing.store.Goals as goal

pub returns-clause-stores : goal.returns-clause-stores
returns-clause-stores g c =
    let new = c.store_run.new in
    one-stored g.S.Storage.state c.args.content.now (clusters_state c.args.file.now c.args.caches.now c.args.space.now) c.store_run.result
    (clusters_state new.file new.caches new.space) c.store_run.ensures.stores
