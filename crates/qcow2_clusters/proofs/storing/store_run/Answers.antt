use Rattle.std.proofs.Common.{◌≡◌, ℕ, ◌+◌, ◌-◌, ◌*◌, ◌≤◌, arith, ap, length, sym, subst, Ok, Err}
use Rattle.qcow2_types.specs.Header.{Header, cluster_size}
use Rattle.qcow2_metadata.specs.Places.{IsAddressable}
use Rattle.qcow2_alloc.specs.FreeList.{FreeList}
use Rattle.qcow2_alloc.proofs.Faults.{handed-on}
use Rattle.qcow2_clusters.specs.Flushed.{clusters_state}
use Rattle.qcow2_clusters.specs.Storing.{ReachesRun, StoresRun}
use Rattle.qcow2_clusters.proofs.RunStores.{whole-fits}
use Rattle.qcow2_clusters.proofs.FileEnds.{ends-near, run-reaches, run-short}
use Rattle.qcow2_clusters.proofs.storing.store_run.Goals as goal

pub returns-in_err-first-clause-stores : goal.returns-in_err-first-clause-stores
returns-in_err-first-clause-stores g c = rw (handed-on _ _ c.from_residual.ensures.1) (
    c.in_err-first.ensures.stores c.args.count c.args.content.now (clusters_state c.args.file.now c.args.caches.now c.args.space.now)
    (whole-fits c.args.content.now c.args.count (cluster_size c.args.file.now.header.fields) c.requires.any c.requires.whole)
    c.allocate_and_write-stored.ensures.stores)

pub reach_end-requires-clause-reach : goal.reach_end-requires-clause-reach
reach_end-requires-clause-reach g c = rw c.first.view_is (
    let run = c.in_ok-first.ensures.stores c.args.count c.args.content.now (clusters_state c.args.file.now c.args.caches.now c.args.space.now)
    (whole-fits c.args.content.now c.args.count (cluster_size c.args.file.now.header.fields) c.requires.any c.requires.whole)
    c.allocate_and_write-stored.ensures.stores in
    subst (λ (b : ℕ). IsAddressable b (c.in_ok-first.first + (c.args.count - 1))) (sym (ap (λ (H : Header). H.fields.cluster_bits) run.rests.header.2)) run.named.1)

pub reach_end-requires-clause-end_bounded : goal.reach_end-requires-clause-end_bounded
reach_end-requires-clause-end_bounded g c = rw c.first.view_is (
    let run = c.in_ok-first.ensures.stores c.args.count c.args.content.now (clusters_state c.args.file.now c.args.caches.now c.args.space.now)
    (whole-fits c.args.content.now c.args.count (cluster_size c.args.file.now.header.fields) c.requires.any c.requires.whole)
    c.allocate_and_write-stored.ensures.stores in
    ends-near c.in_ok-first.first c.args.count c.args.file.now.header.fields.cluster_bits c.requires.any run.named.1)

pub returns-in-Ok-clause-stores : goal.returns-in-Ok-clause-stores
returns-in-Ok-clause-stores g c = rw c.first.view_is (
    let old = clusters_state c.args.file.now c.args.caches.now c.args.space.now in
    let new = c.write_back_stored.new in
    let run = c.in_ok-first.ensures.stores c.args.count c.args.content.now old
    (whole-fits c.args.content.now c.args.count (cluster_size c.args.file.now.header.fields) c.requires.any c.requires.whole)
    c.allocate_and_write-stored.ensures.stores in
    run-reaches g.S.Storage.state c.args.count c.requires.any c.args.content.now c.in_ok-first.first old (clusters_state new.file new.caches new.space) run
    c.reach_end.new.file (subst (λ (n : ℕ). ReachesRun g.S.Storage.state n c.args.count new.file (Ok tt) c.reach_end.new.file) c.first.view_is c.in-Ok.ensures))

pub returns-in-Ok-clause-reaches : goal.returns-in-Ok-clause-reaches
returns-in-Ok-clause-reaches g c =
    let run = c.in_ok-first.ensures.stores c.args.count c.args.content.now (clusters_state c.args.file.now c.args.caches.now c.args.space.now)
    (whole-fits c.args.content.now c.args.count (cluster_size c.args.file.now.header.fields) c.requires.any c.requires.whole)
    c.allocate_and_write-stored.ensures.stores in
    subst (λ (s : ℕ). (c.first.inside.cluster + c.args.count) * s ≤ length (g.S.Storage.state c.reach_end.new.file.image).bytes)
    (ap (λ (H : Header). cluster_size H.fields) run.rests.header.2) c.in-Ok.ensures.long

pub returns-in-Err-clause-stores : goal.returns-in-Err-clause-stores
returns-in-Err-clause-stores g c =
    let state = g.S.Storage.state in
    let old = clusters_state c.args.file.now c.args.caches.now c.args.space.now in
    let new = c.write_back_stored.new in
    let mid = clusters_state new.file new.caches new.space in
    let fault = c.in-Err.fault in
    let run = c.in_ok-first.ensures.stores c.args.count c.args.content.now old
    (whole-fits c.args.content.now c.args.count (cluster_size c.args.file.now.header.fields) c.requires.any c.requires.whole)
    c.allocate_and_write-stored.ensures.stores in
    let held : new.space.to_free.held - 1 ≡ c.args.space.now.to_free.held = (let more = run.held in omega (arith, more)) in
    subst (λ (l : FreeList). StoresRun state c.args.count c.args.content.now old (Err fault)
    (clusters_state c.reach_end.new.file new.caches (record { allocator = new.space.allocator; to_free = l }))) (sym c.release.ensures)
    (run-short state c.args.count c.requires.any c.args.content.now c.in_ok-first.first old mid run c.reach_end.new.file fault
    (subst (λ (n : ℕ). ReachesRun state n c.args.count new.file (Err fault) c.reach_end.new.file) c.first.view_is c.in-Err.ensures)
    (new.space.to_free.held - 1) held)

pub release-requires : goal.release-requires
release-requires g c =
    let run = c.in_ok-first.ensures.stores c.args.count c.args.content.now (clusters_state c.args.file.now c.args.caches.now c.args.space.now)
    (whole-fits c.args.content.now c.args.count (cluster_size c.args.file.now.header.fields) c.requires.any c.requires.whole)
    c.allocate_and_write-stored.ensures.stores in
    let more = run.held in
    omega (arith, more)

pub returns-in_err-first-clause-untouched_unless_begun : goal.returns-in_err-first-clause-untouched_unless_begun
returns-in_err-first-clause-untouched_unless_begun g c = rw (handed-on _ _ c.from_residual.ensures.1) (
    c.in_err-first.ensures.untouched_unless_begun c.args.begun.now c.allocate_and_write-stored.new.begun
    (clusters_state c.args.file.now c.args.caches.now c.args.space.now) c.allocate_and_write-stored.ensures.untouched_unless_begun)

pub returns-in-Ok-clause-untouched_unless_begun : goal.returns-in-Ok-clause-untouched_unless_begun
returns-in-Ok-clause-untouched_unless_begun g c = λ not.
    absurd (c.in_ok-first.ensures.untouched_unless_begun c.args.begun.now c.allocate_and_write-stored.new.begun
    (clusters_state c.args.file.now c.args.caches.now c.args.space.now) c.allocate_and_write-stored.ensures.untouched_unless_begun not).refused

pub returns-in-Err-clause-untouched_unless_begun : goal.returns-in-Err-clause-untouched_unless_begun
returns-in-Err-clause-untouched_unless_begun g c = λ not.
    absurd (c.in_ok-first.ensures.untouched_unless_begun c.args.begun.now c.allocate_and_write-stored.new.begun
    (clusters_state c.args.file.now c.args.caches.now c.args.space.now) c.allocate_and_write-stored.ensures.untouched_unless_begun not).refused
