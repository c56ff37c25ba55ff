use Rattle.std.proofs.Common.{◌≡◌, ℕ, ◌+◌, ◌-◌, ◌*◌, ◌≤◌, [], arith, ap, length, replicate, sym, subst, Ok, Err}
use Rattle.qcow2_types.specs.Header.{Header, cluster_size}
use Rattle.qcow2_metadata.specs.Places.{IsAddressable}
use Rattle.qcow2_alloc.specs.FreeList.{FreeList}
use Rattle.qcow2_alloc.proofs.Faults.{handed-on}
use Rattle.qcow2_clusters.specs.Flushed.{clusters_state}
use Rattle.qcow2_clusters.specs.Storing.{StoresRun, ZeroesRun}
use Rattle.qcow2_clusters.proofs.FileEnds.{ends-near}
use Rattle.qcow2_clusters.proofs.ZeroRuns.{run-unstored, run-unzeroed, run-zeroes}
use Rattle.qcow2_clusters.proofs.storing.store_zeroes.Goals as goal

pub returns-in_err-first-clause-stores : goal.returns-in_err-first-clause-stores
returns-in_err-first-clause-stores g c = rw (handed-on _ _ c.from_residual.ensures.1) (
    let old = clusters_state c.args.file.now c.args.caches.now c.args.space.now in
    let new = c.write_back_stored.new in
    run-unstored g.S.Storage.state c.args.count old (clusters_state new.file new.caches new.space) c.in_err-first.field-0.0
    (c.in_err-first.ensures.stores c.args.count [] old (omega arith) c.allocate_run-allocated.ensures.allocates)
    (replicate (c.args.count * cluster_size c.args.file.now.header.fields) 0))

pub returns-in_err-first-clause-untouched_unless_begun : goal.returns-in_err-first-clause-untouched_unless_begun
returns-in_err-first-clause-untouched_unless_begun g c = rw (handed-on _ _ c.from_residual.ensures.1) (
    c.in_err-first.ensures.untouched_unless_begun c.args.begun.now c.allocate_run-allocated.new.begun
    (clusters_state c.args.file.now c.args.caches.now c.args.space.now) c.allocate_run-allocated.ensures.untouched_unless_begun)

pub zero_run-requires-clause-reach : goal.zero_run-requires-clause-reach
zero_run-requires-clause-reach g c = rw c.first.view_is (
    let run = c.in_ok-first.ensures.stores c.args.count [] (clusters_state c.args.file.now c.args.caches.now c.args.space.now) (omega arith)
    c.allocate_run-allocated.ensures.allocates in
    subst (λ (b : ℕ). IsAddressable b (c.in_ok-first.first + (c.args.count - 1))) (sym (ap (λ (H : Header). H.fields.cluster_bits) run.rests.header.2)) run.named.1)

pub zero_run-requires-clause-end_bounded : goal.zero_run-requires-clause-end_bounded
zero_run-requires-clause-end_bounded g c = rw c.first.view_is (
    let run = c.in_ok-first.ensures.stores c.args.count [] (clusters_state c.args.file.now c.args.caches.now c.args.space.now) (omega arith)
    c.allocate_run-allocated.ensures.allocates in
    ends-near c.in_ok-first.first c.args.count c.args.file.now.header.fields.cluster_bits c.requires.any run.named.1)

pub release-requires : goal.release-requires
release-requires g c =
    let run = c.in_ok-first.ensures.stores c.args.count [] (clusters_state c.args.file.now c.args.caches.now c.args.space.now) (omega arith)
    c.allocate_run-allocated.ensures.allocates in
    let more = run.held in
    omega (arith, more)

pub returns-in-Ok-clause-stores : goal.returns-in-Ok-clause-stores
returns-in-Ok-clause-stores g c = rw c.first.view_is (
    let old = clusters_state c.args.file.now c.args.caches.now c.args.space.now in
    let new = c.write_back_stored.new in
    let run = c.in_ok-first.ensures.stores c.args.count [] old (omega arith) c.allocate_run-allocated.ensures.allocates in
    run-zeroes g.S.Storage.state c.args.count c.requires.any c.in_ok-first.first old (clusters_state new.file new.caches new.space) run c.zero_run.new.file
    (subst (λ (n : ℕ). ZeroesRun g.S.Storage.state n c.args.count new.file (Ok tt) c.zero_run.new.file) c.first.view_is c.in-Ok.ensures))

pub returns-in-Ok-clause-reaches : goal.returns-in-Ok-clause-reaches
returns-in-Ok-clause-reaches g c =
    let run = c.in_ok-first.ensures.stores c.args.count [] (clusters_state c.args.file.now c.args.caches.now c.args.space.now) (omega arith)
    c.allocate_run-allocated.ensures.allocates in
    subst (λ (s : ℕ). (c.first.inside.cluster + c.args.count) * s ≤ length (g.S.Storage.state c.zero_run.new.file.image).bytes)
    (ap (λ (H : Header). cluster_size H.fields) run.rests.header.2) c.in-Ok.ensures.long

pub returns-in-Err-clause-stores : goal.returns-in-Err-clause-stores
returns-in-Err-clause-stores g c =
    let state = g.S.Storage.state in
    let old = clusters_state c.args.file.now c.args.caches.now c.args.space.now in
    let new = c.write_back_stored.new in
    let mid = clusters_state new.file new.caches new.space in
    let fault = c.in-Err.fault in
    let run = c.in_ok-first.ensures.stores c.args.count [] old (omega arith) c.allocate_run-allocated.ensures.allocates in
    let held : new.space.to_free.held - 1 ≡ c.args.space.now.to_free.held = (let more = run.held in omega (arith, more)) in
    subst (λ (l : FreeList). StoresRun state c.args.count (replicate (c.args.count * cluster_size c.args.file.now.header.fields) 0) old (Err fault)
    (clusters_state c.zero_run.new.file new.caches (record { allocator = new.space.allocator; to_free = l }))) (sym c.release.ensures)
    (run-unzeroed state c.args.count c.requires.any c.in_ok-first.first old mid run c.zero_run.new.file fault
    (subst (λ (n : ℕ). ZeroesRun state n c.args.count new.file (Err fault) c.zero_run.new.file) c.first.view_is c.in-Err.ensures)
    (new.space.to_free.held - 1) held)

pub returns-in-Ok-clause-untouched_unless_begun : goal.returns-in-Ok-clause-untouched_unless_begun
returns-in-Ok-clause-untouched_unless_begun g c = λ not.
    absurd (c.in_ok-first.ensures.untouched_unless_begun c.args.begun.now c.allocate_run-allocated.new.begun
    (clusters_state c.args.file.now c.args.caches.now c.args.space.now) c.allocate_run-allocated.ensures.untouched_unless_begun not).refused

pub returns-in-Err-clause-untouched_unless_begun : goal.returns-in-Err-clause-untouched_unless_begun
returns-in-Err-clause-untouched_unless_begun g c = λ not.
    absurd (c.in_ok-first.ensures.untouched_unless_begun c.args.begun.now c.allocate_run-allocated.new.begun
    (clusters_state c.args.file.now c.args.caches.now c.args.space.now) c.allocate_run-allocated.ensures.untouched_unless_begun not).refused
