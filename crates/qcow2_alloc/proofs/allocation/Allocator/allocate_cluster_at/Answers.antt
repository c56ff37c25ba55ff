use Rattle.std.proofs.Common.{List, Option, None, Some, ap, sym, subst, ◌≡◌}
use Rattle.imago_storage.specs.declared.fault.Fault.{Fault}
use Rattle.imago_storage.specs.declared.fault.Fault.TheVariants.{Memory}
use Rattle.qcow2_types.specs.Pending.{FreeEntry}
use Rattle.qcow2_alloc.specs.Allocators.{table_of, first_free_of}
use Rattle.qcow2_alloc.specs.FreeList.{FreeList}
use Rattle.qcow2_alloc.specs.HandingOut.{AllocatesClusterAt}
use Rattle.qcow2_alloc.specs.State.{image_state, with_first_free, allocator_state}
use Rattle.qcow2_alloc.proofs.Handing.BlocksBeforeTables.{not-begun}
use Rattle.qcow2_alloc.proofs.Handing.SingleCounts.{handed_so, not_handed}
use Rattle.qcow2_alloc.proofs.Handing.AllocationsInOrder.{at-not-announced}
use Rattle.qcow2_alloc.proofs.Faults.{handed-on}
use Rattle.qcow2_alloc.proofs.allocation.Allocator.allocate_cluster_at.Goals as goal

pub returns-in_err-hold-clause-allocates : goal.returns-in_err-hold-clause-allocates
returns-in_err-hold-clause-allocates g c = rw (handed-on _ _ c.from_residual.ensures.1) (
    let state = g.S.Storage.state in
    let mark = first_free_of c.args.self.now in
    let t = table_of c.args.self.now in
    let entries = c.args.list.now.entries in
    let refused = c.in_err-hold.ensures.err in
    subst (λ (l : FreeList). AllocatesClusterAt state c.args.cluster (allocator_state c.args.self.now c.args.caches.now c.args.file.now c.args.list.now) (not_handed c.in_err-hold.field-0.0) (allocator_state c.args.self.now c.args.caches.now c.args.file.now l)) (sym refused.1)
    (subst (λ (f : Fault). AllocatesClusterAt state c.args.cluster (allocator_state c.args.self.now c.args.caches.now c.args.file.now c.args.list.now) (not_handed f) (allocator_state c.args.self.now c.args.caches.now c.args.file.now c.args.list.now)) (sym refused.0)
    (at-not-announced state c.args.cluster (allocator_state c.args.self.now c.args.caches.now c.args.file.now c.args.list.now) c.args.caches.now c.args.file.now Memory (not-begun state (image_state t c.args.caches.now c.args.file.now entries)))))

pub returns-in-Ok-Some-clause-allocates : goal.returns-in-Ok-Some-clause-allocates
returns-in-Ok-Some-clause-allocates g c =
    let state = g.S.Storage.state in
    let new = c.announce_and_allocate_at.new in
    let s' = allocator_state new.self new.caches new.file new.list in
    subst (λ (l : FreeList). AllocatesClusterAt state c.args.cluster (allocator_state c.args.self.now c.args.caches.now c.args.file.now l) (handed_so (Some c.in-Ok-Some.pending)) s')
    c.in_ok-hold.ensures.ok
    (subst (λ (found : Option FreeEntry). AllocatesClusterAt state c.args.cluster (allocator_state c.args.self.now c.args.caches.now c.args.file.now c.reserve_slot.new.self) (handed_so found) s')
    c.in-Ok-Some.field-0-is c.in-Ok-Some.ensures.allocates)

pub returns-in-Ok-None-clause-allocates : goal.returns-in-Ok-None-clause-allocates
returns-in-Ok-None-clause-allocates g c =
    let state = g.S.Storage.state in
    let new = c.announce_and_allocate_at.new in
    let s' = allocator_state new.self new.caches new.file new.list in
    let has_no_dirty_data : c.release.new.self.entries ≡ new.list.entries = ap (λ (l : FreeList). l.entries) c.release.ensures in
    subst (λ (es : List FreeEntry). AllocatesClusterAt state c.args.cluster (allocator_state c.args.self.now c.args.caches.now c.args.file.now c.args.list.now) (handed_so None) (with_first_free (image_state (table_of new.self) new.caches new.file es) (first_free_of new.self))) (sym has_no_dirty_data)
    (subst (λ (l : FreeList). AllocatesClusterAt state c.args.cluster (allocator_state c.args.self.now c.args.caches.now c.args.file.now l) (handed_so None) s')
    c.in_ok-hold.ensures.ok
    (subst (λ (found : Option FreeEntry). AllocatesClusterAt state c.args.cluster (allocator_state c.args.self.now c.args.caches.now c.args.file.now c.reserve_slot.new.self) (handed_so found) s')
    c.in-Ok-None.field-0-is c.in-Ok-None.ensures.allocates))

pub returns-in-Err-clause-allocates : goal.returns-in-Err-clause-allocates
returns-in-Err-clause-allocates g c =
    let state = g.S.Storage.state in
    let new = c.announce_and_allocate_at.new in
    let fault = c.in-Err.fault in
    let has_no_dirty_data : c.release-in-Err.new.self.entries ≡ new.list.entries = ap (λ (l : FreeList). l.entries) c.release-in-Err.ensures in
    subst (λ (es : List FreeEntry). AllocatesClusterAt state c.args.cluster (allocator_state c.args.self.now c.args.caches.now c.args.file.now c.args.list.now) (not_handed fault) (with_first_free (image_state (table_of new.self) new.caches new.file es) (first_free_of new.self))) (sym has_no_dirty_data)
    (subst (λ (l : FreeList). AllocatesClusterAt state c.args.cluster (allocator_state c.args.self.now c.args.caches.now c.args.file.now l) (not_handed fault) (allocator_state new.self new.caches new.file new.list))
    c.in_ok-hold.ensures.ok c.in-Err.ensures.allocates)
