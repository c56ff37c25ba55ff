use Rattle.std.proofs.Common.{Bool, true, false, ◌≡◌, ℕ, sym, subst}
use Rattle.std.specs.Prelude.{IsTrue}
use Rattle.qcow2_metadata.specs.Places.{IsAddressable}
use Rattle.qcow2_metadata.specs.Tables.{TableValue}
use Rattle.qcow2_alloc.specs.declared.allocation.handing_out.Readiness.{Readiness}
use Rattle.qcow2_alloc.specs.Allocators.{first_free_of}
use Rattle.qcow2_alloc.specs.HandingOut.{IsBarred}
use Rattle.qcow2_alloc.specs.HandingOutOne.{AllocatesAt, ReadiesCounter}
use Rattle.qcow2_alloc.specs.State.{image_state, with_first_free, allocator_state}
use Rattle.qcow2_alloc.proofs.Handing.AllocationsWithCounters.{out-of-reach, uncounted-at, refused-at, readied-at}
use Rattle.qcow2_alloc.proofs.Blocks.CounterProvision.{ready_so}
use Rattle.qcow2_alloc.proofs.Faults.{handed-on}
use Rattle.qcow2_alloc.proofs.allocation.Allocator.allocate_at.Goals as goal

never : (b : Bool) → b ≡ false → IsTrue b → ⊥
never false is holds = cc holds
never true is holds = cc is

pub returns-then-not-is_addressable-clause-allocates : goal.returns-then-not-is_addressable-clause-allocates
returns-then-not-is_addressable-clause-allocates g c =
    out-of-reach g.S.Storage.state c.args.cluster (allocator_state c.args.self.now c.args.caches.now c.args.file.now c.args.list.now)
    (λ near. never c.is_addressable.result c.if-not-is_addressable.true (c.is_addressable.ensures.1 (subst (λ (b : ℕ). IsAddressable b c.args.cluster) (sym c.cluster_bits.ensures.value) near)))

pub returns-in-Ready-clause-allocates : goal.returns-in-Ready-clause-allocates
returns-in-Ready-clause-allocates g c =
    let s = allocator_state c.args.self.now c.args.caches.now c.args.file.now c.args.list.now in
    let state = g.S.Storage.state in
    let mid = c.ensure_counter.new in
    let between = allocator_state mid.self mid.caches mid.file mid.list in
    let new = c.allocate_one.new in
    let counter = subst (λ (r : Readiness). ReadiesCounter state c.args.cluster s (ready_so r) between) c.in-Ready.is c.in_ok-ensure_counter.ensures.readies in
    subst (λ (t : TableValue). AllocatesAt state (λ m. IsBarred m (first_free_of c.args.self.now) c.args.cluster) c.args.cluster s c.allocate_one.result (with_first_free (image_state t new.caches new.file mid.list.entries) (first_free_of new.self))) (sym c.allocate_one.ensures.table)
    (readied-at state c.args.cluster s between counter c.allocate_one.result new.caches new.file (first_free_of new.self)
    (c.allocate_one.ensures.allocates mid.list.entries))

pub returns-in-NoPlace-clause-allocates : goal.returns-in-NoPlace-clause-allocates
returns-in-NoPlace-clause-allocates g c =
    let s = allocator_state c.args.self.now c.args.caches.now c.args.file.now c.args.list.now in
    let state = g.S.Storage.state in
    let mid = c.ensure_counter.new in
    let between = allocator_state mid.self mid.caches mid.file mid.list in
    uncounted-at state c.args.cluster s between
    (subst (λ (r : Readiness). ReadiesCounter state c.args.cluster s (ready_so r) between) c.in-NoPlace.is c.in_ok-ensure_counter.ensures.readies)

pub returns-in_err-ensure_counter-clause-allocates : goal.returns-in_err-ensure_counter-clause-allocates
returns-in_err-ensure_counter-clause-allocates g c = rw (handed-on _ _ c.from_residual.ensures.1) (
    let s = allocator_state c.args.self.now c.args.caches.now c.args.file.now c.args.list.now in
    let state = g.S.Storage.state in
    let mid = c.ensure_counter.new in
    let between = allocator_state mid.self mid.caches mid.file mid.list in
    refused-at state c.args.cluster s between c.in_err-ensure_counter.field-0.0 c.in_err-ensure_counter.ensures.readies)
