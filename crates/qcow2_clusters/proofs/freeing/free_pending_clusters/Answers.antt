use Rattle.qcow2_clusters.specs.Flushed.{clusters_state}
use Rattle.qcow2_clusters.proofs.FreesAtRest.{frees-waiting}
use Rattle.qcow2_clusters.proofs.StartsAtRest.{freed-unpinned}
use Rattle.qcow2_clusters.proofs.freeing.free_pending_clusters.Goals as goal

pub write_back-requires : goal.write_back-requires
write_back-requires g c =
    let freed = c.process_clusters_to_free-freed in
    record { unpinned = freed-unpinned c.args.caches.now freed.new.caches c.requires.caches_empty freed.ensures.frees.room freed.ensures.frees.pins }

pub returns : goal.returns
returns g c =
    let freed = c.process_clusters_to_free-freed in
    let state = g.S.Storage.state in
    let old = clusters_state c.args.file.now c.args.caches.now c.args.space.now in
    let mid = clusters_state freed.new.file freed.new.caches (record { allocator = freed.new.self; to_free = freed.new.list }) in
    frees-waiting state old c.requires.caches_empty c.requires.room mid freed.result freed.ensures.frees
    c.write_back.result c.write_back.new.file c.write_back.new.caches c.write_back.ensures freed.ensures.ok freed.ensures.held
