use Rattle.std.proofs.Common.{ℕ, refl, ◌*◌, arith, ap, sym, subst, ◌∙◌, [], Ok}
use Rattle.qcow2_types.specs.Header.{cluster_size}
use Rattle.qcow2_types.specs.Pending.{FreeEntry}
use Rattle.qcow2_clusters.specs.Flushed.{clusters_state}
use Rattle.qcow2_clusters.specs.Storing.{StoresRunUnsettled}
use Rattle.qcow2_clusters.proofs.AllocationsAtRest.{run-refused}
use Rattle.qcow2_clusters.proofs.EarlyRefusals.{run-spared}
use Rattle.qcow2_clusters.proofs.FileEnds.{put-nothing}
use Rattle.qcow2_clusters.proofs.RunStores.{stored-unsettled}
use Rattle.qcow2_alloc.proofs.Faults.{handed-on}
use Rattle.qcow2_clusters.proofs.storing.allocate_run.Goals as goal

pub returns-in_err-pending-clause-allocates : goal.returns-in_err-pending-clause-allocates
returns-in_err-pending-clause-allocates g c = rw (handed-on _ _ c.from_residual.ensures.1) (
    let new = c.try_allocate_clusters.new in
    run-refused g.S.Storage.state (clusters_state c.args.file.now c.args.caches.now c.args.space.now) c.requires.caches_empty c.requires.room c.args.count
    (clusters_state new.file new.caches (record { allocator = new.self; to_free = new.list })) c.in_err-pending.field-0.0
    c.in_err-pending.ensures.allocates [] c.in_err-pending.ensures.held)

-- No bytes are stored.
pub returns-clause-allocates : goal.returns-clause-allocates
returns-clause-allocates g c =
    let state = g.S.Storage.state in
    let first = c.cluster-cluster.ensures ∙ ap (λ (e : FreeEntry). e.first) c.pending.view_is in
    let old = clusters_state c.args.file.now c.args.caches.now c.args.space.now in
    let new = c.try_allocate_clusters.new in
    let mid = clusters_state new.file new.caches (record { allocator = new.self; to_free = new.list }) in
    subst (λ (n : ℕ). StoresRunUnsettled state c.args.count [] old (Ok n) mid) (sym first)
    (stored-unsettled state old c.requires.caches_empty c.requires.room c.args.count mid c.in_ok-pending.pending c.in_ok-pending.ensures.allocates
    c.requires.any [] (omega arith) new.file refl
    (put-nothing (state new.file.image) (c.in_ok-pending.pending.first * cluster_size new.file.header.fields)) c.in_ok-pending.ensures.held)

pub returns-in_err-pending-clause-untouched_unless_begun : goal.returns-in_err-pending-clause-untouched_unless_begun
returns-in_err-pending-clause-untouched_unless_begun g c = rw (handed-on _ _ c.from_residual.ensures.1) (
    let new = c.try_allocate_clusters.new in
    run-spared g.S.Storage.state c.args.begun.now new.begun (clusters_state c.args.file.now c.args.caches.now c.args.space.now) c.in_err-pending.field-0.0 new.self
    new.caches new.file new.list c.requires.caches_empty c.in_err-pending.ensures.untouched_unless_begun c.in_err-pending.ensures.held)
