use Rattle.std.proofs.Common.{◌≡◌, ℕ, ◌-◌, ◌*◌, arith, ap, sym, subst, ◌∙◌, List, Ok, Err}
use Rattle.imago_storage.specs.Through.{WriteOutcome}
use Rattle.qcow2_types.specs.Header.{cluster_size}
use Rattle.qcow2_types.specs.Pending.{FreeEntry}
use Rattle.qcow2_alloc.specs.FreeList.{FreeList}
use Rattle.qcow2_clusters.specs.Flushed.{clusters_state}
use Rattle.qcow2_clusters.specs.Storing.{StoresRunUnsettled}
use Rattle.qcow2_clusters.proofs.EarlyRefusals.{run-spared}
use Rattle.qcow2_clusters.proofs.AllocationsAtRest.{run-refused}
use Rattle.qcow2_clusters.proofs.Settlement.{done_so, refused_so}
use Rattle.qcow2_clusters.proofs.RunStores.{stored-refused, stored-unsettled, whole-fits}
use Rattle.qcow2_alloc.proofs.Faults.{handed-on}
use Rattle.qcow2_clusters.proofs.storing.allocate_and_write.Goals as goal

abbrev room_for : List FreeEntry → ℕ → FreeList
room_for entries held = record { entries = entries; held = held }

pub returns-in-Ok-clause-stores : goal.returns-in-Ok-clause-stores
returns-in-Ok-clause-stores g c =
    let state = g.S.Storage.state in
    let first = c.cluster-cluster.ensures ∙ ap (λ (e : FreeEntry). e.first) c.pending.view_is in
    let old = clusters_state c.args.file.now c.args.caches.now c.args.space.now in
    let new = c.try_allocate_clusters.new in
    let mid = clusters_state new.file new.caches (record { allocator = new.self; to_free = new.list }) in
    let after = c.write_cluster.new.file in
    let put = subst (λ (n : ℕ). WriteOutcome (state new.file.image) (state after.image) (n * cluster_size new.file.header.fields) c.args.content.now
    done_so) first c.in-Ok.ensures.put in
    subst (λ (n : ℕ). StoresRunUnsettled state c.args.count c.args.content.now old (Ok n) (clusters_state after new.caches (record { allocator = new.self; to_free = new.list }))) (sym first)
    (stored-unsettled state old c.requires.caches_empty c.requires.room c.args.count mid c.in_ok-pending.pending c.in_ok-pending.ensures.allocates
    c.requires.any
    c.args.content.now (whole-fits c.args.content.now c.args.count (cluster_size c.args.file.now.header.fields) c.requires.any
    c.requires.whole) after c.write_cluster.ensures.header put c.in_ok-pending.ensures.held)

pub returns-in-Err-clause-stores : goal.returns-in-Err-clause-stores
returns-in-Err-clause-stores g c =
    let state = g.S.Storage.state in
    let first = c.cluster-cluster.ensures ∙ ap (λ (e : FreeEntry). e.first) c.pending.view_is in
    let old = clusters_state c.args.file.now c.args.caches.now c.args.space.now in
    let new = c.try_allocate_clusters.new in
    let mid = clusters_state new.file new.caches (record { allocator = new.self; to_free = new.list }) in
    let after = c.write_cluster.new.file in
    let fault = c.in-Err.fault in
    let put = subst (λ (n : ℕ). WriteOutcome (state new.file.image) (state after.image) (n * cluster_size new.file.header.fields) c.args.content.now
    (refused_so fault)) first c.in-Err.ensures.put in
    let held : new.list.held - 1 ≡ c.args.space.now.to_free.held = (let more = c.in_ok-pending.ensures.held in omega (arith, more)) in
    let left : c.release.new.self ≡ record { entries = new.list.entries; held = c.args.space.now.to_free.held } =
    c.release.ensures ∙ ap (λ (n : ℕ). room_for new.list.entries n) held in
    subst (λ (l : FreeList). StoresRunUnsettled state c.args.count c.args.content.now old (Err fault) (clusters_state after new.caches (record { allocator = new.self; to_free = l }))) (sym left)
    (stored-refused state old c.requires.caches_empty c.requires.room c.args.count mid c.in_ok-pending.pending c.in_ok-pending.ensures.allocates
    c.requires.any
    c.args.content.now (whole-fits c.args.content.now c.args.count (cluster_size c.args.file.now.header.fields) c.requires.any c.requires.whole) after c.write_cluster.ensures.header fault put)

pub returns-in_err-pending-clause-stores : goal.returns-in_err-pending-clause-stores
returns-in_err-pending-clause-stores g c = rw (handed-on _ _ c.from_residual.ensures.1) (
    let new = c.try_allocate_clusters.new in
    run-refused g.S.Storage.state (clusters_state c.args.file.now c.args.caches.now c.args.space.now) c.requires.caches_empty c.requires.room c.args.count
    (clusters_state new.file new.caches (record { allocator = new.self; to_free = new.list })) c.in_err-pending.field-0.0
    c.in_err-pending.ensures.allocates c.args.content.now c.in_err-pending.ensures.held)

pub returns-in_err-pending-clause-untouched_unless_begun : goal.returns-in_err-pending-clause-untouched_unless_begun
returns-in_err-pending-clause-untouched_unless_begun g c = rw (handed-on _ _ c.from_residual.ensures.1) (
    let new = c.try_allocate_clusters.new in
    run-spared g.S.Storage.state c.args.begun.now new.begun (clusters_state c.args.file.now c.args.caches.now c.args.space.now) c.in_err-pending.field-0.0 new.self
    new.caches new.file new.list c.requires.caches_empty c.in_err-pending.ensures.untouched_unless_begun c.in_err-pending.ensures.held)

pub returns-in-Ok-clause-untouched_unless_begun : goal.returns-in-Ok-clause-untouched_unless_begun
returns-in-Ok-clause-untouched_unless_begun g c = λ not. absurd (c.in-Ok.ensures.untouched_unless_begun not).1

-- The call has begun once clusters are allocated.
pub returns-in-Err-clause-untouched_unless_begun : goal.returns-in-Err-clause-untouched_unless_begun
returns-in-Err-clause-untouched_unless_begun g c = λ not.
    let unbegun = (c.in-Err.ensures.untouched_unless_begun not).0 in
    let never = sym (c.in_ok-pending.ensures.begins c.requires.any) ∙ unbegun in
    absurd (cc never)
