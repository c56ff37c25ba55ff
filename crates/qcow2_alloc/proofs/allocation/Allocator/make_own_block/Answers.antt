use Rattle.std.proofs.Common.{◌≡◌, ◌∙◌, arith, refl, subst, sym}
use Rattle.qcow2_metadata.specs.Places.{IsAddressable}
use Rattle.qcow2_alloc.specs.Allocators.{table_of, metadata_of}
use Rattle.qcow2_alloc.specs.Causes.{HasCause}
use Rattle.qcow2_alloc.specs.MakingBlocks.{naming_causes}
use Rattle.qcow2_alloc.specs.GuestView.{IsSound, counted}
use Rattle.qcow2_alloc.specs.State.{image_state}
use Rattle.qcow2_alloc.proofs.Searching.FreeClusters.{uncounted-free}
use Rattle.qcow2_alloc.proofs.Blocks.BlockCreationCalls.{begins-none, first-counted, namable, unmade-memory, unmade-place, unforgotten}
use Rattle.qcow2_alloc.proofs.Blocks.OwnBlocks.{own-uncounted, own-made-at}
use Rattle.qcow2_alloc.proofs.Faults.{handed-on}
use Rattle.qcow2_alloc.proofs.allocation.Allocator.make_own_block.Goals as goal
use Rattle.std.proofs.Common.{ℕ, ◌*◌, ap, ◌≢◌}
use Rattle.std.specs.Prelude.{slice_index, OnOk, ◌^◌}
use Rattle.qcow2_types.specs.Words.{block_offset}
use Rattle.qcow2_metadata.specs.Blocks.{Block}
use Rattle.qcow2_alloc.proofs.Blocks.NewBlockPlaces.{written-on-ok}

pub returns-in_err-check_place-clause-makes : goal.returns-in_err-check_place-clause-makes
returns-in_err-check_place-clause-makes g c = rw (handed-on _ _ c.from_residual.ensures.1) (λ pending.
    let state = g.S.Storage.state in
    let table = table_of c.args.self.now in
    let d = c.own_place-place.result in
    let m = metadata_of state c.args.file.now c.args.caches.now table pending in
    let first = c.own_place-place.ensures.first in
    unmade-place state c.args.index (image_state table c.args.caches.now c.args.file.now pending) c.args.caches.now c.args.file.now (begins-none state c.args.index (image_state table c.args.caches.now c.args.file.now pending)) d c.in_err-check_place.field-0.0 (omega (arith, first))
    (λ holds none.
    let sound : IsSound m = holds.2 in
    let zero : counted m d ≡ 0 = own-uncounted m c.args.index d c.own_place-place.ensures.own c.requires.inside c.requires.empty sound in
    let at : counted m 0 ≡ 0 = subst (λ n. counted m n ≡ 0) none zero in
    let some = first-counted m sound in
    omega (arith, at, some))
    (subst (λ b. HasCause (naming_causes table b d) c.in_err-check_place.field-0.0) c.cluster_bits.ensures.value c.in_err-check_place.ensures.err))

pub returns-in_err-block-clause-makes : goal.returns-in_err-block-clause-makes
returns-in_err-block-clause-makes g c = rw (handed-on _ _ c.from_residual-in_err-block.ensures.1) (λ pending.
    let state = g.S.Storage.state in
    let s = image_state (table_of c.args.self.now) c.args.caches.now c.args.file.now pending in
    unmade-memory state c.args.index s c.args.caches.now c.args.file.now (begins-none state c.args.index s) c.in_err-block.field-0.0 c.in_err-block.ensures.err)

pub returns-clause-makes : goal.returns-clause-makes
returns-clause-makes g c = λ pending.
    let state = g.S.Storage.state in
    let table = table_of c.args.self.now in
    let old = c.args.caches.now in
    let before = c.args.file.now in
    let d = c.own_place-place.result in
    let new = c.write_block.new in
    let named = c.in_ok-check_place.ensures.ok in
    let reach : IsAddressable before.header.fields.cluster_bits d = subst (λ b. IsAddressable b d) c.cluster_bits.ensures.value named.1 in
    own-made-at state (image_state table old before pending) d c.args.index c.own_place-place.ensures.own c.requires.inside c.requires.empty c.cluster_bits.ensures.shaped.low named.0.offset_nonzero reach
    c.in_ok-block.block c.in_ok-block.ensures.ok c.rb_forget.new.self c.in_ok-rb_forget.ensures.ok c.write_block.result (table_of new.self) new.file c.write_block.ensures.header c.write_block.ensures.names

pub returns-in_err-rb_forget-clause-makes : goal.returns-in_err-rb_forget-clause-makes
returns-in_err-rb_forget-clause-makes g c = rw (handed-on _ _ c.from_residual-in_err-rb_forget.ensures.1) (λ pending.
    let state = g.S.Storage.state in
    let table = table_of c.args.self.now in
    let d = c.own_place-place.result in
    let m = metadata_of state c.args.file.now c.args.caches.now table pending in
    unforgotten state c.args.index (image_state table c.args.caches.now c.args.file.now pending) c.args.caches.now c.args.file.now (begins-none state c.args.index (image_state table c.args.caches.now c.args.file.now pending)) d c.in_err-rb_forget.field-0.0 c.rb_forget.new.self
    (λ holds. (uncounted-free m holds.2 holds.1 d (own-uncounted m c.args.index d c.own_place-place.ensures.own c.requires.inside c.requires.empty holds.2)).0) c.in_err-rb_forget.ensures.err)

pub returns-clause-at : goal.returns-clause-at
returns-clause-at g c =
    let table = table_of c.args.self.now in
    let d = c.own_place-place.result in
    let h = c.args.file.now.header.fields in
    let named = c.in_ok-check_place.ensures.ok in
    let reach : IsAddressable h.cluster_bits d = subst (λ b. IsAddressable b d) c.cluster_bits.ensures.value named.1 in
    subst (λ (n : ℕ). OnOk c.write_block.result ((n ≢ 0) × (block_offset (slice_index (table_of c.write_block.new.self).raw_entries c.args.index) ≡ n * 2 ^ h.cluster_bits))) c.own_place-place.ensures.first
    (written-on-ok table c.args.index d h.cluster_bits c.in_ok-block.block _ _ (table_of c.write_block.new.self) c.write_block.result c.requires.inside c.cluster_bits.ensures.shaped.low reach
    (ap (λ (b : Block). b.cluster_bits) c.in_ok-block.ensures.ok) (ap (λ (b : Block). b.cluster) c.in_ok-block.ensures.ok) named.0.offset_nonzero c.write_block.ensures.names)

pub returns-in_err-check_place-clause-at : goal.returns-in_err-check_place-clause-at
returns-in_err-check_place-clause-at g c = rw (handed-on _ _ c.from_residual.ensures.1) tt

pub returns-in_err-check_place-clause-mark : goal.returns-in_err-check_place-clause-mark
returns-in_err-check_place-clause-mark g c = refl

pub returns-in_err-block-clause-at : goal.returns-in_err-block-clause-at
returns-in_err-block-clause-at g c = rw (handed-on _ _ c.from_residual-in_err-block.ensures.1) tt

pub returns-in_err-block-clause-mark : goal.returns-in_err-block-clause-mark
returns-in_err-block-clause-mark g c = refl

pub returns-in_err-rb_forget-clause-at : goal.returns-in_err-rb_forget-clause-at
returns-in_err-rb_forget-clause-at g c = rw (handed-on _ _ c.from_residual-in_err-rb_forget.ensures.1) tt

pub returns-in_err-rb_forget-clause-mark : goal.returns-in_err-rb_forget-clause-mark
returns-in_err-rb_forget-clause-mark g c = refl

pub returns-clause-mark : goal.returns-clause-mark
returns-clause-mark g c = c.write_block.ensures.mark

pub write_block-requires-clause-inside : goal.write_block-requires-clause-inside
write_block-requires-clause-inside g c = c.requires.inside

pub write_block-requires-clause-placed : goal.write_block-requires-clause-placed
write_block-requires-clause-placed g c = c.in_ok-check_place.ensures.ok.0.placed

pub write_block-requires-clause-bits : goal.write_block-requires-clause-bits
write_block-requires-clause-bits g c =
    ap (λ (b : Block). b.cluster_bits) c.in_ok-block.ensures.ok ∙ sym c.cluster_bits.ensures.value
    ∙ sym c.in_ok-check_place.ensures.ok.0.bits

pub write_block-requires-clause-can_be_referenced : goal.write_block-requires-clause-can_be_referenced
write_block-requires-clause-can_be_referenced g c =
    let named = c.in_ok-check_place.ensures.ok in
    namable (table_of c.args.self.now) c.cluster_bits.result c.own_place-place.result named.0 named.1 c.in_ok-block.block.cluster
    (ap (λ (b : Block). b.cluster) c.in_ok-block.ensures.ok)
