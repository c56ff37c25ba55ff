use Rattle.std.proofs.Common.{List, refl, ap, sym, subst, ◌≡◌}
use Rattle.imago_storage.specs.declared.fault.Fault.{Fault}
use Rattle.qcow2_types.specs.Pending.{FreeEntry}
use Rattle.qcow2_alloc.specs.Allocators.{table_of, first_free_of}
use Rattle.qcow2_alloc.specs.FreeList.{FreeList}
use Rattle.qcow2_alloc.specs.HandingOut.{AllocatesClusters}
use Rattle.qcow2_alloc.specs.ReadyingRuns.{LeavesUntouched}
use Rattle.qcow2_alloc.specs.State.{image_state, seen, with_first_free, allocator_state}
use Rattle.qcow2_alloc.proofs.Handing.AllocationsInOrder.{refused_run, run_so, run-not-held}
use Rattle.qcow2_alloc.proofs.Searching.SearchSequences.{clean-none}
use Rattle.qcow2_alloc.proofs.Faults.{handed-on}
use Rattle.qcow2_alloc.proofs.allocation.Allocator.try_allocate_clusters.Goals as goal

pub returns-in_err-hold-clause-allocates : goal.returns-in_err-hold-clause-allocates
returns-in_err-hold-clause-allocates g c = rw (handed-on _ _ c.from_residual.ensures.1) (
    let state = g.S.Storage.state in
    let mark = first_free_of c.args.self.now in
    let t = table_of c.args.self.now in
    let entries = c.args.list.now.entries in
    let refused = c.in_err-hold.ensures.err in
    subst (λ (l : FreeList). AllocatesClusters state c.args.count c.args.metadata (allocator_state c.args.self.now c.args.caches.now c.args.file.now c.args.list.now) (refused_run c.in_err-hold.field-0.0) (allocator_state c.args.self.now c.args.caches.now c.args.file.now l)) (sym refused.1)
    (subst (λ (f : Fault). AllocatesClusters state c.args.count c.args.metadata (allocator_state c.args.self.now c.args.caches.now c.args.file.now c.args.list.now) (refused_run f) (allocator_state c.args.self.now c.args.caches.now c.args.file.now c.args.list.now)) (sym refused.0)
    (run-not-held state c.args.count c.args.metadata (allocator_state c.args.self.now c.args.caches.now c.args.file.now c.args.list.now))))

pub returns-in-Ok-clause-allocates : goal.returns-in-Ok-clause-allocates
returns-in-Ok-clause-allocates g c =
    let state = g.S.Storage.state in
    let new = c.free_and_allocate.new in
    subst (λ (l : FreeList). AllocatesClusters state c.args.count c.args.metadata (allocator_state c.args.self.now c.args.caches.now c.args.file.now l) (run_so c.in-Ok.pending) (allocator_state new.self new.caches new.file new.list))
    c.in_ok-hold.ensures.ok c.in-Ok.ensures.allocates

pub returns-in-Err-clause-allocates : goal.returns-in-Err-clause-allocates
returns-in-Err-clause-allocates g c =
    let state = g.S.Storage.state in
    let new = c.free_and_allocate.new in
    let fault = c.in-Err.fault in
    let has_no_dirty_data : c.release.new.self.entries ≡ new.list.entries = ap (λ (l : FreeList). l.entries) c.release.ensures in
    subst (λ (es : List FreeEntry). AllocatesClusters state c.args.count c.args.metadata (allocator_state c.args.self.now c.args.caches.now c.args.file.now c.args.list.now) (refused_run fault) (with_first_free (image_state (table_of new.self) new.caches new.file es) (first_free_of new.self))) (sym has_no_dirty_data)
    (subst (λ (l : FreeList). AllocatesClusters state c.args.count c.args.metadata (allocator_state c.args.self.now c.args.caches.now c.args.file.now l) (refused_run fault) (allocator_state new.self new.caches new.file new.list))
    c.in_ok-hold.ensures.ok c.in-Err.ensures.allocates)

pub returns-in_err-hold-clause-untouched_unless_begun : goal.returns-in_err-hold-clause-untouched_unless_begun
returns-in_err-hold-clause-untouched_unless_begun g c = λ not.
    let has_no_dirty_data = ap (λ (l : FreeList). l.entries) c.in_err-hold.ensures.err.1 in
    (not, refl, has_no_dirty_data, refl, clean-none g.S.Storage.state c.args.caches.now c.args.file.now)

pub returns-in-Ok-clause-untouched_unless_begun : goal.returns-in-Ok-clause-untouched_unless_begun
returns-in-Ok-clause-untouched_unless_begun g c =
    let state = g.S.Storage.state in
    let new = c.free_and_allocate.new in
    subst (λ (l : FreeList). LeavesUntouched state c.args.begun.now new.begun c.args.self.now (seen c.args.self.now c.args.caches.now c.args.file.now l) new.self (seen new.self new.caches new.file new.list))
    c.in_ok-hold.ensures.ok c.in-Ok.ensures.untouched_unless_begun

pub returns-in-Err-clause-untouched_unless_begun : goal.returns-in-Err-clause-untouched_unless_begun
returns-in-Err-clause-untouched_unless_begun g c =
    let state = g.S.Storage.state in
    let new = c.free_and_allocate.new in
    let has_no_dirty_data : c.release.new.self.entries ≡ new.list.entries = ap (λ (l : FreeList). l.entries) c.release.ensures in
    subst (λ (es : List FreeEntry). LeavesUntouched state c.args.begun.now new.begun c.args.self.now (seen c.args.self.now c.args.caches.now c.args.file.now c.args.list.now) new.self (image_state (table_of new.self) new.caches new.file es)) (sym has_no_dirty_data)
    (subst (λ (l : FreeList). LeavesUntouched state c.args.begun.now new.begun c.args.self.now (seen c.args.self.now c.args.caches.now c.args.file.now l) new.self (seen new.self new.caches new.file new.list))
    c.in_ok-hold.ensures.ok c.in-Err.ensures.untouched_unless_begun)
