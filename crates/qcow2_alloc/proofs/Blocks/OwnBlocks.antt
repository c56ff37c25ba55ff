-- Making a refcount block in a cluster that the block counts itself.
use Rattle.std.proofs.Common.{◌≡◌, ◌≢◌, ℕ, ◌/◌, ◌%◌, ◌<◌, ◌≤◌, refl, arith, sym, subst, ◌∙◌, List, length, inl, None, Some, true, Result}
use Rattle.std.specs.Prelude.{⊤, nat_eq, slice_index, slice_set, replicate, IsTrue}
use Rattle.std.specs.Map.{lookup, remove_entry}
use Rattle.imago_storage.specs.State.{StorageState}
use Rattle.imago_storage.specs.declared.fault.Fault.{Fault}
use Rattle.imago_storage.proofs.Composing.{later_same}
use Rattle.std.proofs.lemmas.List.{length-set, length-replicate}
use Rattle.qcow2_types.specs.Counts.{counters_of_block}
use Rattle.qcow2_types.specs.Header.{refcount_table_entries}
use Rattle.qcow2_types.specs.Words.{block_offset}
use Rattle.qcow2_metadata.specs.Blocks.{Block, block_of}
use Rattle.qcow2_metadata.specs.Places.{IsAddressable}
use Rattle.qcow2_metadata.specs.Tables.{TableValue}
use Rattle.qcow2_alloc.specs.declared.cache.CacheDependency.TheVariants.{L2DependsOnRb}
use Rattle.qcow2_alloc.specs.declared.cache.MetadataCaches.{MetadataCaches}
use Rattle.qcow2_alloc.specs.declared.file.ImageFile.{ImageFile}
use Rattle.qcow2_alloc.specs.Allocating.{MakesBlock}
use Rattle.qcow2_alloc.specs.Allocators.{metadata_of}
use Rattle.qcow2_alloc.specs.Caches.{cached_in, order_of}
use Rattle.qcow2_alloc.specs.CachesLending.{with_blocks}
use Rattle.qcow2_alloc.specs.MakingBlocks.{Begins, LinksWritten}
use Rattle.qcow2_alloc.specs.GuestView.{Metadata, counted, referenced_at_all, IsSound}
use Rattle.qcow2_alloc.specs.State.{ImageState, image_state, metadata}
use Rattle.qcow2_alloc.proofs.Caching.BlockDrops.{forgotten-quiet, forgotten-counts, removed-apart}
use Rattle.qcow2_alloc.proofs.Searching.FreeClusters.{uncounted-free}
use Rattle.qcow2_alloc.proofs.Memory.FreeClusterWrites.{block-quietly}
use Rattle.qcow2_alloc.proofs.Caching.UnpinnedCaches.{loose-on}
use Rattle.qcow2_alloc.proofs.Blocks.BlockCreationCalls.{B, ends, made}
use Rattle.qcow2_alloc.proofs.Blocks.BlockCreation.{unnamed-uncounted, own-block-made, own-block-raises}
use Rattle.qcow2_alloc.proofs.GuestView.QuietFlushes.{memory-quietly}
use Rattle.qcow2_alloc.proofs.GuestView.QuietPremises.{quietly-given}
use Rattle.qcow2_alloc.proofs.Caching.Pins.{pins-removed}

pub own-uncounted : (m : Metadata) (i d : ℕ) → d / counters_of_block m.header.fields ≡ i → i < length m.table.raw_entries → block_offset (slice_index m.table.raw_entries i) ≡ 0 → IsSound m → counted m d ≡ 0
own-uncounted m i d own inside empty sound =
    let lt : i < refcount_table_entries m.header.fields = (let long = sound.table.long in omega (arith, inside, long)) in
    unnamed-uncounted m sound d (subst (λ k. k < refcount_table_entries m.header.fields) (sym own) lt) (subst (λ k. block_offset (slice_index m.table.raw_entries k) ≡ 0) (sym own) empty)

module _ {S : Type 0} (state : S → StorageState) (image : ImageState S) (d : ℕ) where
  abbrev pub without : MetadataCaches S
  without = with_blocks image.caches (remove_entry (nat_eq d) (cached_in image.caches).blocks)

  abbrev m : Metadata
  m = metadata state image

  -- The cached block of an unreferenced cluster is dropped.
  pub forgets : (order_of image.caches ≡ L2DependsOnRb → IsTrue (state image.file.image).shape.keeps → IsSound m → referenced_at_all m d ≡ 0) → Begins state image (λ _. 0) (image_state image.table without image.file image.pending)
  forgets not_referenced = record {
    shape = refl;
    counts_not_fallen = later_same (state image.file.image);
    guest_unchanged = λ order. quietly-given ⊤ (λ _. 0) (λ _. 0) (state image.file.image) m (state image.file.image) (metadata_of state image.file without image.table image.pending) refl (later_same (state image.file.image))
        (λ keeps sound. memory-quietly ⊤ (λ _. 0) (λ _. 0) (state image.file.image) m (metadata_of state image.file without image.table image.pending) (λ s done. forgotten-quiet m d s (not_referenced order keeps s)));
    raised = λ order keeps sound c. inl (forgotten-counts m d sound (not_referenced order keeps sound) c);
    faults = (refl, refl);
    header = refl;
    order = refl;
    keeps_unpinned_room = loose-on image.table image.caches without (pins-removed (nat_eq d) (cached_in image.caches).blocks) refl;
    room = record { tables = refl; blocks = refl; entries = refl };
  }

  abbrev i : ℕ
  i = d / counters_of_block image.file.header.fields

  abbrev m1 : Metadata
  m1 = metadata_of state image.file without image.table image.pending

  abbrev counters : List ℕ
  counters = slice_set (replicate (counters_of_block image.file.header.fields) 0) (d % counters_of_block image.file.header.fields) 1

  record Ready : Type 0 where
    pub order : order_of image.caches ≡ L2DependsOnRb
    pub inside : d / counters_of_block image.file.header.fields < refcount_table_entries image.file.header.fields
    pub uncached : lookup (nat_eq d) (cached_in without).blocks ≡ None

  long : length counters ≡ counters_of_block image.file.header.fields
  long = length-set (replicate (counters_of_block image.file.header.fields) 0) (d % counters_of_block image.file.header.fields) 1 ∙ length-replicate {A = ℕ} (counters_of_block image.file.header.fields) 0

  -- The block is written and linked.
  pub own-made : (inside : d / counters_of_block image.file.header.fields < length image.table.raw_entries) → block_offset (slice_index image.table.raw_entries (d / counters_of_block image.file.header.fields)) ≡ 0 → 9 ≤ image.file.header.fields.cluster_bits → d ≢ 0 → IsAddressable image.file.header.fields.cluster_bits d
      → (result : Result Unit Fault) (table' : TableValue) (after : ImageFile S) → after.header ≡ image.file.header
      → LinksWritten image.table i (B state i d counters (image_state image.table without image.file image.pending)) (state image.file.image) result table' (state after.image) → MakesBlock state i image result (image_state table' without after image.pending)
  own-made inside empty low some reach result table' after header names =
      made state i image (λ _. 0) Ready d counters without image.file
      (forgets (λ order keeps sound. (uncounted-free m sound order d (own-uncounted m i d refl inside empty sound)).0))
      (λ order keeps sound c used. refl)
      (λ order keeps sound sound1. record {
        order = order;
        inside = let raw_entries = sound.table.long in omega (arith, inside, raw_entries);
        uncached = (removed-apart d (cached_in image.caches).blocks sound.well_formed.blocks_apart).0;
      })
      empty result table' after header
      (ends state i d counters (image_state image.table without image.file image.pending) Ready (λ _. 0) inside low some reach
      (λ r mid done put. block-quietly m1 d (B state i d counters (image_state image.table without image.file image.pending)) (state image.file.image) mid refl refl long (λ _. 0)
      (λ sound. let free = uncounted-free m1 sound r.order d (own-uncounted m1 i d refl inside empty sound) in (free.0, λ used. absurd (free.2 used))) done put)
      (λ r modified mid new done ok put answer named. (
        own-block-made m1 d (B state i d counters (image_state image.table without image.file image.pending)) modified (state image.file.image) mid new refl refl refl r.order r.inside empty some reach r.uncached done ok put answer named,
        λ keeps sound is. own-block-raises m1 d (B state i d counters (image_state image.table without image.file image.pending)) modified (state image.file.image) mid new refl refl refl r.order r.inside empty some reach r.uncached done ok put keeps sound answer named is,
      ))
      result table' (state after.image) names)

  pub own-made-at : (index : ℕ) → d / counters_of_block image.file.header.fields ≡ index → index < length image.table.raw_entries → block_offset (slice_index image.table.raw_entries index) ≡ 0 → 9 ≤ image.file.header.fields.cluster_bits → d ≢ 0 → IsAddressable image.file.header.fields.cluster_bits d
      → (block : Block) → block ≡ block_of image.file.header.fields.cluster_bits image.file.header.fields.refcount_order counters (Some d) true → (new : MetadataCaches S) → new ≡ without
      → (result : Result Unit Fault) (table' : TableValue) (after : ImageFile S) → after.header ≡ image.file.header → LinksWritten image.table index block (state image.file.image) result table' (state after.image) → MakesBlock state index image result (image_state table' new after image.pending)
  own-made-at index own inside empty low some reach block is new left result table' after header names =
      subst (λ (c : MetadataCaches S). MakesBlock state index image result (image_state table' c after image.pending)) (sym left)
      (subst (λ k. k < length image.table.raw_entries → block_offset (slice_index image.table.raw_entries k) ≡ 0 → LinksWritten image.table k (B state k d counters (image_state image.table without image.file image.pending)) (state image.file.image) result table' (state after.image)
      → MakesBlock state k image result (image_state table' without after image.pending)) own
      (λ inside empty names. own-made inside empty low some reach result table' after header names)
      inside empty (subst (λ (b : Block). LinksWritten image.table index b (state image.file.image) result table' (state after.image)) is names))
