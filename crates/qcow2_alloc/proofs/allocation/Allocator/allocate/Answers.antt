use Rattle.std.proofs.Common.{◌≡◌, ℕ, refl, ap, sym, subst, ◌∙◌, Ok, Err}
use Rattle.std.proofs.lemmas.Bool.{eqb-true}
use Rattle.qcow2_types.specs.Pending.{FreeEntry}
use Rattle.qcow2_alloc.specs.Allocating.{CountsRun}
use Rattle.qcow2_alloc.specs.Allocators.{first_free_of}
use Rattle.qcow2_alloc.specs.ReadyingRuns.{Allocates, ReadiesRun, first_free_after}
use Rattle.qcow2_alloc.specs.State.{seen, with_first_free, allocator_state}
use Rattle.qcow2_alloc.proofs.Handing.RunAllocations.{none-allocated, run-refused, count-refused, run-allocated}
use Rattle.qcow2_alloc.proofs.Searching.SearchSequences.{clean-none}
use Rattle.qcow2_alloc.proofs.Faults.{handed-on}
use Rattle.qcow2_alloc.proofs.allocation.Allocator.allocate.Goals as goal

pub returns-then-eq-clause-allocates : goal.returns-then-eq-clause-allocates
returns-then-eq-clause-allocates g c =
    let s = allocator_state c.args.self.now c.args.caches.now c.args.file.now c.args.list.now in
    let zero = eqb-true c.args.count 0 (sym c.eq.ensures ∙ c.if-eq.true) in
    subst (λ (e : FreeEntry). Allocates g.S.Storage.state c.args.count c.args.metadata s (Ok e) s)
    (sym c.pending_run.ensures)
    (none-allocated g.S.Storage.state c.args.count c.args.metadata s zero)

pub returns-in_err-first-clause-allocates : goal.returns-in_err-first-clause-allocates
returns-in_err-first-clause-allocates g c = rw (handed-on _ _ c.from_residual.ensures.1) (
    let s = allocator_state c.args.self.now c.args.caches.now c.args.file.now c.args.list.now in
    let state = g.S.Storage.state in
    let new = c.ready_run.new in
    let s' = allocator_state new.self new.caches new.file new.list in
    let ready : ReadiesRun state c.args.count s (Err c.in_err-first.field-0.0) s' =
    subst (λ (n : ℕ). ReadiesRun state n s (Err c.in_err-first.field-0.0) s') c.count.view_is c.in_err-first.ensures.readies in
    run-refused state c.args.count c.args.metadata s s' c.in_err-first.field-0.0 ready)

pub returns-clause-allocates : goal.returns-clause-allocates
returns-clause-allocates g c =
    let s = allocator_state c.args.self.now c.args.caches.now c.args.file.now c.args.list.now in
    let state = g.S.Storage.state in
    let mid = c.ready_run.new in
    let between = allocator_state mid.self mid.caches mid.file mid.list in
    let new = c.count_run.new in
    let entry : ℕ → FreeEntry = λ n. record { first = c.in_ok-first.first; count = n; metadata = c.args.metadata } in
    let ready : ReadiesRun state c.args.count s (Ok c.in_ok-first.first) between =
    subst (λ (n : ℕ). ReadiesRun state n s (Ok c.in_ok-first.first) between) c.count.view_is c.in_ok-first.ensures.readies in
    let counts : CountsRun state c.in_ok-first.first c.args.count between.image (Ok tt) (seen mid.self new.caches new.file mid.list) =
    subst (λ (n : ℕ). CountsRun state c.in_ok-first.first n between.image (Ok tt) (seen mid.self new.caches new.file mid.list)) c.count.view_is (c.in_ok-count_run.ensures mid.list.entries) in
    let marked : c.next_first_free-self.result ≡ first_free_after (first_free_of c.args.self.now) c.args.count c.in_ok-first.first =
    c.next_first_free-self.ensures ∙ ap (λ (n : ℕ). first_free_after (first_free_of mid.self) n c.in_ok-first.first) c.count.view_is ∙ ap (λ (m : ℕ). first_free_after m c.args.count c.in_ok-first.first) c.in_ok-first.ensures.readies.mark in
    subst (λ (m : ℕ). Allocates state c.args.count c.args.metadata s (Ok c.pending_run-2.result) (with_first_free (seen mid.self new.caches new.file mid.list) m)) (sym marked)
    (subst (λ (e : FreeEntry). Allocates state c.args.count c.args.metadata s (Ok e) (with_first_free (seen mid.self new.caches new.file mid.list) (first_free_after (first_free_of c.args.self.now) c.args.count c.in_ok-first.first)))
    (sym (c.pending_run-2.ensures ∙ ap entry c.count.view_is))
    (run-allocated state c.args.count c.args.metadata s between c.in_ok-first.first ready new.caches new.file counts))

pub returns-in_err-count_run-clause-allocates : goal.returns-in_err-count_run-clause-allocates
returns-in_err-count_run-clause-allocates g c = rw (handed-on _ _ c.from_residual-in_err-count_run.ensures.1) (
    let s = allocator_state c.args.self.now c.args.caches.now c.args.file.now c.args.list.now in
    let state = g.S.Storage.state in
    let mid = c.ready_run.new in
    let between = allocator_state mid.self mid.caches mid.file mid.list in
    let new = c.count_run.new in
    let fault = c.in_err-count_run.field-0.0 in
    let ready : ReadiesRun state c.args.count s (Ok c.in_ok-first.first) between =
    subst (λ (n : ℕ). ReadiesRun state n s (Ok c.in_ok-first.first) between) c.count.view_is c.in_ok-first.ensures.readies in
    let counts : CountsRun state c.in_ok-first.first c.args.count between.image (Err fault) (seen mid.self new.caches new.file mid.list) =
    subst (λ (n : ℕ). CountsRun state c.in_ok-first.first n between.image (Err fault) (seen mid.self new.caches new.file mid.list)) c.count.view_is (c.in_err-count_run.ensures mid.list.entries) in
    count-refused state c.args.count c.args.metadata s between c.in_ok-first.first ready new.caches new.file fault counts)

pub returns-then-eq-clause-untouched_unless_begun : goal.returns-then-eq-clause-untouched_unless_begun
returns-then-eq-clause-untouched_unless_begun g c = λ not. (not, refl, refl, refl, clean-none g.S.Storage.state c.args.caches.now c.args.file.now)

-- `ready_run` has set `begun`.
pub returns-clause-untouched_unless_begun : goal.returns-clause-untouched_unless_begun
returns-clause-untouched_unless_begun g c = λ not. let is = sym c.in_ok-first.ensures.begins ∙ not in absurd (cc is)

pub returns-in_err-count_run-clause-untouched_unless_begun : goal.returns-in_err-count_run-clause-untouched_unless_begun
returns-in_err-count_run-clause-untouched_unless_begun g c = λ not. let is = sym c.in_ok-first.ensures.begins ∙ not in absurd (cc is)
