use Rattle.std.proofs.Common.{◌≡◌, ◌*◌, ◌<◌, ◌∙◌, arith, ap, refl, subst, sym}
use Rattle.imago_storage.specs.declared.fault.Fault.TheVariants.{DamagedTable}
use Rattle.qcow2_types.specs.Counts.{counters_of_block}
use Rattle.qcow2_metadata.specs.Blocks.{Block}
use Rattle.qcow2_metadata.specs.Places.{IsAddressable}
use Rattle.qcow2_alloc.specs.Allocating.{IncrementsCluster}
use Rattle.qcow2_alloc.specs.Allocators.{table_of, metadata_of}
use Rattle.qcow2_alloc.specs.Caches.{cached_file}
use Rattle.qcow2_alloc.specs.Causes.{HasCause}
use Rattle.qcow2_alloc.specs.MakingBlocks.{naming_causes}
use Rattle.qcow2_alloc.specs.GuestView.{counted}
use Rattle.qcow2_alloc.specs.State.{image_state}
use Rattle.qcow2_alloc.specs.declared.cache.MetadataCaches.{MetadataCaches}
use Rattle.qcow2_alloc.proofs.Blocks.ClusterCounts.{succeeded}
use Rattle.qcow2_alloc.proofs.Searching.FreeClusters.{uncounted-free}
use Rattle.qcow2_alloc.proofs.Freeing.EntryFrees.{failed}
use Rattle.qcow2_alloc.proofs.Blocks.BlockCreationCalls.{first-counted, namable, unmade, unmade-memory, unmade-place, unforgotten}
use Rattle.qcow2_alloc.proofs.Blocks.OutsideBlocks.{uncounted-made, unwritten-made, taken-made-so}
use Rattle.qcow2_alloc.proofs.Faults.{handed-on}
use Rattle.qcow2_alloc.proofs.allocation.Allocator.make_counted_block.Goals as goal
use Rattle.qcow2_alloc.proofs.Blocks.NewBlockPlaces.{written-on-ok}

pub returns-then-place-own_place-clause-makes : goal.returns-then-place-own_place-clause-makes
returns-then-place-own_place-clause-makes g c = λ pending first f begun free.
    let own = c.own_place.ensures.first in
    let past = c.if-place-own_place.true in
    unmade g.S.Storage.state c.args.index (image_state (table_of c.args.self.now) first f pending) c.args.caches.now c.args.file.now begun DamagedTable
    (λ holds. let below = (free holds.1 holds.0 holds.2).below in omega (arith, own, past, below))

pub returns-in_err-check_place-clause-makes : goal.returns-in_err-check_place-clause-makes
returns-in_err-check_place-clause-makes g c = rw (handed-on _ _ c.from_residual.ensures.1) (λ pending first f begun free.
    let state = g.S.Storage.state in
    let table = table_of c.args.self.now in
    let m = metadata_of state c.args.file.now c.args.caches.now table pending in
    let own = c.own_place.ensures.first in
    let below = c.if-place-own_place.false in
    unmade-place state c.args.index (image_state table first f pending) c.args.caches.now c.args.file.now begun c.args.place c.in_err-check_place.field-0.0 (omega (arith, own, below))
    (λ holds none.
    let zero : counted m c.args.place ≡ 0 = (free holds.1 holds.0 holds.2).uncounted in
    let at : counted m 0 ≡ 0 = subst (λ n. counted m n ≡ 0) none zero in
    let some = first-counted m ((begun.guest_unchanged holds.1).holds holds.0 holds.2 tt).0 in
    omega (arith, at, some))
    (subst (λ b. HasCause (naming_causes table b c.args.place) c.in_err-check_place.field-0.0) c.cluster_bits.ensures.value c.in_err-check_place.ensures.err))

pub returns-in_err-block-clause-makes : goal.returns-in_err-block-clause-makes
returns-in_err-block-clause-makes g c = rw (handed-on _ _ c.from_residual-in_err-block.ensures.1) (λ pending first f begun free.
    unmade-memory g.S.Storage.state c.args.index (image_state (table_of c.args.self.now) first f pending) c.args.caches.now c.args.file.now begun c.in_err-block.field-0.0 c.in_err-block.ensures.err)

pub returns-in_err-rb_forget-clause-makes : goal.returns-in_err-rb_forget-clause-makes
returns-in_err-rb_forget-clause-makes g c = rw (handed-on _ _ c.from_residual-in_err-rb_forget.ensures.1) (λ pending first f begun free.
    let state = g.S.Storage.state in
    let table = table_of c.args.self.now in
    let m = metadata_of state c.args.file.now c.args.caches.now table pending in
    unforgotten state c.args.index (image_state table first f pending) c.args.caches.now c.args.file.now begun c.args.place c.in_err-rb_forget.field-0.0 c.rb_forget.new.self
    (λ holds. (uncounted-free m ((begun.guest_unchanged holds.1).holds holds.0 holds.2 tt).0 (begun.order ∙ holds.1) c.args.place (free holds.1 holds.0 holds.2).uncounted).0) c.in_err-rb_forget.ensures.err)

pub returns-in_err-count_cluster-clause-makes : goal.returns-in_err-count_cluster-clause-makes
returns-in_err-count_cluster-clause-makes g c = rw (handed-on _ _ c.from_residual-in_err-count_cluster.ensures.1) (λ pending first f begun free.
    let state = g.S.Storage.state in
    let table = table_of c.args.self.now in
    let new = c.count_cluster.new in
    uncounted-made state (image_state table first f pending) c.args.index c.args.place c.args.caches.now c.args.file.now begun free c.in_err-count_cluster.field-0.0 new.caches new.file
    (subst (λ (m : MetadataCaches _). IncrementsCluster state table c.args.place (cached_file m c.args.file.now) (failed c.in_err-count_cluster.field-0.0) (cached_file new.caches new.file)) c.in_ok-rb_forget.ensures.ok c.in_err-count_cluster.ensures))

pub write_block-requires-clause-can_be_referenced : goal.write_block-requires-clause-can_be_referenced
write_block-requires-clause-can_be_referenced g c =
    let named = c.in_ok-check_place.ensures.ok in
    namable (table_of c.args.self.now) c.cluster_bits.result c.args.place named.0 named.1 c.in_ok-block.block.cluster (ap (λ (b : Block). b.cluster) c.in_ok-block.ensures.ok)

pub returns-clause-makes : goal.returns-clause-makes
returns-clause-makes g c = λ pending first f begun free.
    let state = g.S.Storage.state in
    let table = table_of c.args.self.now in
    let mid = c.count_cluster.new in
    let flushed = c.flush_rb.new in
    let new = c.write_block.new in
    let done = c.in_ok-flush_rb.ensures in
    let named = c.in_ok-check_place.ensures.ok in
    let reach : IsAddressable c.args.file.now.header.fields.cluster_bits c.args.place = subst (λ b. IsAddressable b c.args.place) c.cluster_bits.ensures.value named.1 in
    let own = c.own_place.ensures.first in
    let ge = c.if-place-own_place.false in
    let below : c.args.place < c.args.index * counters_of_block c.args.file.now.header.fields = omega (arith, own, ge) in
    let raises = subst (λ (m : MetadataCaches _). IncrementsCluster state table c.args.place (cached_file m c.args.file.now) succeeded (cached_file mid.caches mid.file)) c.in_ok-rb_forget.ensures.ok c.in_ok-count_cluster.ensures in
    taken-made-so state (image_state table first f pending) c.args.index c.args.place c.args.caches.now c.args.file.now begun free mid.caches mid.file raises flushed.self flushed.file done.writes_back_cached done.written_value_unchanged done.others done.room done.cause done.clean
    c.requires.inside c.requires.empty c.cluster_bits.ensures.shaped.low named.0.offset_nonzero reach below c.in_ok-block.block c.in_ok-block.ensures.ok c.write_block.result (table_of new.self) new.file c.write_block.ensures.header c.write_block.ensures.names

pub returns-in_err-flush_rb-clause-makes : goal.returns-in_err-flush_rb-clause-makes
returns-in_err-flush_rb-clause-makes g c = rw (handed-on _ _ c.from_residual-in_err-flush_rb.ensures.1) (λ pending first f begun free.
    let state = g.S.Storage.state in
    let table = table_of c.args.self.now in
    let mid = c.count_cluster.new in
    let flushed = c.flush_rb.new in
    let done = c.in_err-flush_rb.ensures in
    let raises = subst (λ (m : MetadataCaches _). IncrementsCluster state table c.args.place (cached_file m c.args.file.now) succeeded (cached_file mid.caches mid.file)) c.in_ok-rb_forget.ensures.ok c.in_ok-count_cluster.ensures in
    unwritten-made state (image_state table first f pending) c.args.index c.args.place c.args.caches.now c.args.file.now begun free mid.caches mid.file raises c.in_err-flush_rb.field-0.0 flushed.self flushed.file done.writes_back_cached done.written_value_unchanged done.others done.room done.cause done.faults)

pub returns-clause-at : goal.returns-clause-at
returns-clause-at g c =
    let table = table_of c.args.self.now in
    let h = c.args.file.now.header.fields in
    let named = c.in_ok-check_place.ensures.ok in
    let reach : IsAddressable h.cluster_bits c.args.place = subst (λ b. IsAddressable b c.args.place) c.cluster_bits.ensures.value named.1 in
    written-on-ok table c.args.index c.args.place h.cluster_bits c.in_ok-block.block _ _ (table_of c.write_block.new.self) c.write_block.result c.requires.inside c.cluster_bits.ensures.shaped.low reach
    (ap (λ (b : Block). b.cluster_bits) c.in_ok-block.ensures.ok) (ap (λ (b : Block). b.cluster) c.in_ok-block.ensures.ok) named.0.offset_nonzero c.write_block.ensures.names

pub returns-then-place-own_place-clause-at : goal.returns-then-place-own_place-clause-at
returns-then-place-own_place-clause-at g c = tt

pub returns-then-place-own_place-clause-mark : goal.returns-then-place-own_place-clause-mark
returns-then-place-own_place-clause-mark g c = refl

pub returns-in_err-check_place-clause-at : goal.returns-in_err-check_place-clause-at
returns-in_err-check_place-clause-at g c = rw (handed-on _ _ c.from_residual.ensures.1) tt

pub returns-in_err-check_place-clause-mark : goal.returns-in_err-check_place-clause-mark
returns-in_err-check_place-clause-mark g c = refl

pub returns-in_err-block-clause-at : goal.returns-in_err-block-clause-at
returns-in_err-block-clause-at g c = rw (handed-on _ _ c.from_residual-in_err-block.ensures.1) tt

pub returns-in_err-block-clause-mark : goal.returns-in_err-block-clause-mark
returns-in_err-block-clause-mark g c = refl

pub returns-in_err-rb_forget-clause-at : goal.returns-in_err-rb_forget-clause-at
returns-in_err-rb_forget-clause-at g c = rw (handed-on _ _ c.from_residual-in_err-rb_forget.ensures.1) tt

pub returns-in_err-rb_forget-clause-mark : goal.returns-in_err-rb_forget-clause-mark
returns-in_err-rb_forget-clause-mark g c = refl

pub returns-in_err-count_cluster-clause-at : goal.returns-in_err-count_cluster-clause-at
returns-in_err-count_cluster-clause-at g c = rw (handed-on _ _ c.from_residual-in_err-count_cluster.ensures.1) tt

pub returns-in_err-count_cluster-clause-mark : goal.returns-in_err-count_cluster-clause-mark
returns-in_err-count_cluster-clause-mark g c = refl

pub returns-in_err-flush_rb-clause-at : goal.returns-in_err-flush_rb-clause-at
returns-in_err-flush_rb-clause-at g c = rw (handed-on _ _ c.from_residual-in_err-flush_rb.ensures.1) tt

pub returns-in_err-flush_rb-clause-mark : goal.returns-in_err-flush_rb-clause-mark
returns-in_err-flush_rb-clause-mark g c = refl

pub returns-clause-mark : goal.returns-clause-mark
returns-clause-mark g c = c.write_block.ensures.mark

pub write_block-requires-clause-inside : goal.write_block-requires-clause-inside
write_block-requires-clause-inside g c = c.requires.inside

pub write_block-requires-clause-placed : goal.write_block-requires-clause-placed
write_block-requires-clause-placed g c = c.in_ok-check_place.ensures.ok.0.placed

pub write_block-requires-clause-bits : goal.write_block-requires-clause-bits
write_block-requires-clause-bits g c =
    ap (λ (b : Block). b.cluster_bits) c.in_ok-block.ensures.ok ∙ sym c.cluster_bits.ensures.value
    ∙ sym c.in_ok-check_place.ensures.ok.0.bits
