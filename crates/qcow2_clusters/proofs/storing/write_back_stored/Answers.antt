use Rattle.std.proofs.Common.{◌≡◌, ◌-◌, ◌+◌, arith, sym, Err}
use Rattle.qcow2_clusters.specs.Flushed.{clusters_state}
use Rattle.qcow2_clusters.proofs.StoreSettlement.{run-settled}
use Rattle.qcow2_clusters.proofs.storing.write_back_stored.Goals as goal

pub returns-in-Ok-clause-stores : goal.returns-in-Ok-clause-stores
returns-in-Ok-clause-stores g c = λ n content first long un.
    let mid = clusters_state c.args.file.now c.args.caches.now c.args.space.now in
    let ended = c.end_change.new in
    run-settled g.S.Storage.state n content first long c.args.stored mid un c.args.stored ended.file ended.caches c.in-Ok.ensures c.args.space.now.to_free.held un.held

-- If the final write fails, no slot is reserved: one was,
pub returns-in-Ok-stored-clause-stores : goal.returns-in-Ok-stored-clause-stores
returns-in-Ok-stored-clause-stores g c = λ n content first long un.
    let space = c.args.space.now in
    let mid = clusters_state c.args.file.now c.args.caches.now space in
    let ended = c.end_change.new in
    let more : space.to_free.held ≡ first.space.to_free.held + 1 = rw (← c.stored.view_is, c.in-Ok-stored.is) at un.held in
    let held : space.to_free.held - 1 ≡ first.space.to_free.held = omega (arith, more) in
    rw (c.release.ensures) (run-settled g.S.Storage.state n content first long c.args.stored mid un (Err c.in-Err.fault) ended.file ended.caches
    c.in-Err.ensures (space.to_free.held - 1) held)

-- or none was.
pub returns-in-Err-stored-clause-stores : goal.returns-in-Err-stored-clause-stores
returns-in-Err-stored-clause-stores g c = λ n content first long un.
    let mid = clusters_state c.args.file.now c.args.caches.now c.args.space.now in
    let ended = c.end_change.new in
    run-settled g.S.Storage.state n content first long c.args.stored mid un (Err c.in-Err.fault) ended.file ended.caches
    c.in-Err.ensures c.args.space.now.to_free.held (rw (← c.stored.view_is, c.in-Err-stored.is) at un.held)
