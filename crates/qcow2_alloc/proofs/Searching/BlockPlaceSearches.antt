-- Searching for the cluster of a new refcount block.
use Rattle.std.proofs.Common.{◌≡◌, ◌≢◌, ℕ, ◌*◌, ◌/◌, ◌<◌, refl, arith, sym, subst, ◌∙◌, inl, Option, Some, Result, Ok, Err}
use Rattle.std.specs.Prelude.{IsTrue, slice_index}
use Rattle.imago_storage.specs.State.{StorageState}
use Rattle.imago_storage.specs.declared.fault.Fault.{Fault}
use Rattle.qcow2_types.specs.Bytes.{bytes_of}
use Rattle.qcow2_types.specs.Counts.{counters_of_block}
use Rattle.qcow2_types.specs.Header.{Header}
use Rattle.qcow2_types.specs.Words.{block_offset}
use Rattle.qcow2_types.proofs.Counting.Parts.{block-inside}
use Rattle.qcow2_alloc.specs.declared.cache.CacheDependency.{CacheDependency}
use Rattle.qcow2_alloc.specs.declared.cache.CacheDependency.TheVariants.{L2DependsOnRb}
use Rattle.qcow2_alloc.specs.declared.cache.MetadataCaches.{MetadataCaches}
use Rattle.qcow2_alloc.specs.declared.file.ImageFile.{ImageFile}
use Rattle.qcow2_alloc.specs.Allocating.{MakesBlock}
use Rattle.qcow2_alloc.specs.Allocators.{metadata_of}
use Rattle.qcow2_alloc.specs.Caches.{cached_in, order_of, cached_file}
use Rattle.qcow2_alloc.specs.Going.{HadNoResourceError}
use Rattle.qcow2_alloc.specs.MakingBlocks.{Begins, IsFreePlace}
use Rattle.qcow2_alloc.specs.GuestView.{Metadata, counted, IsSound, PreservesGuest}
use Rattle.qcow2_alloc.specs.SearchingClusters.{IsSafeWith, Looked, LooksForFree}
use Rattle.qcow2_alloc.specs.State.{ImageState, image_state, metadata}
use Rattle.qcow2_alloc.proofs.Causes.{cause-weaker}
use Rattle.qcow2_alloc.proofs.Searching.FreeClusters.{flushes-count}
use Rattle.qcow2_alloc.proofs.Caching.UnpinnedCaches.{loose-all}
use Rattle.qcow2_alloc.proofs.Blocks.BlockCreationCalls.{Follows, begins-none, begins-then, begins-refused, freeing-allocates}
use Rattle.qcow2_alloc.proofs.GuestView.QuietFlushes.{going-quietly}

-- The result of a search.
abbrev pub Found : Type 0
Found = Result (Option ℕ) Fault

abbrev pub found_so : Option ℕ → Found
found_so found = Ok found

abbrev pub refused_so : Fault → Found
refused_so fault = Err fault

module _ {S : Type 0} (state : S → StorageState) (image : ImageState S) (i : ℕ) (C : MetadataCaches S) (fC : ImageFile S) where
  abbrev m0 : Metadata
  m0 = metadata state image

  abbrev mC : Metadata
  mC = metadata_of state fC C image.table image.pending

  abbrev Keeps : Type 0
  Keeps = IsTrue (state image.file.image).shape.keeps

  safe-with : Keeps → IsSound m0 → IsSafeWith state image.table image.caches image.file
  safe-with keeps sound = record { keeps = keeps; well_formed = sound.well_formed; table_of_file = sound.table }

  module _ (result : Found) (looked : Looked state image.table (cached_file image.caches image.file) result (cached_file C fC)) where
    moved : (P : Metadata → Type 0) → P (record m0 { file = bytes_of (state fC.image).bytes; cached = cached_in C }) → P mC
    moved P p =
        subst (λ (h : Header). P (record m0 { file = bytes_of (state fC.image).bytes; cached = cached_in C; header = h; order = order_of C })) (sym looked.header)
        (subst (λ (o : CacheDependency). P (record m0 { file = bytes_of (state fC.image).bytes; cached = cached_in C; order = o })) (sym looked.order) p)

    counts-same : Keeps → IsSound m0 → HadNoResourceError result → (c : ℕ) → counted mC c ≡ counted m0 c
    counts-same keeps sound whole c =
        moved (λ m. counted m c ≡ counted m0 c) (flushes-count m0 (state image.file.image).bytes (state fC.image).bytes (cached_in C) refl (looked.writes_back_cached.holds keeps sound.well_formed tt (inl whole)) c).0

    looking : Follows state i image (HadNoResourceError result) (λ _. 0) image.caches image.file C fC
    looking = record {
      shape = looked.writes_back_cached.shape;
      counts_not_fallen = looked.writes_back_cached.counts_not_fallen;
      faults = looked.writes_back_cached.faults;
      guest_unchanged = λ order keeps sound s. moved (λ m. PreservesGuest (HadNoResourceError result) (λ _. 0) (λ _. 0) (state image.file.image) m0 (state fC.image) m)
          (going-quietly m0 (HadNoResourceError result) (state image.file.image) (state fC.image) (cached_in C) refl looked.writes_back_cached);
      raised = λ order keeps sound s whole c. inl (counts-same keeps s whole c);
      stays = record { header = looked.header; order = looked.order; loose = looked.keeps_unpinned_room; room = looked.room };
    }

  pub looked-refused : (fault : Fault) → Looked state image.table (cached_file image.caches image.file) (refused_so fault) (cached_file C fC) → MakesBlock state i image (Err fault) (image_state image.table C fC image.pending)
  looked-refused fault looked =
      begins-refused state i image (λ _. 0) (λ _. 0) image.caches image.file C fC (begins-none state i image) fault (looking (refused_so fault) looked) (λ order keeps sound whole c. omega arith)
      (cause-weaker (freeing-allocates (λ holds. safe-with holds.0 holds.2) (λ u. loose-all image.table image.caches u.0 u.2) refl) fault looked.cause)

  pub looked-begins : (found : Option ℕ) → Looked state image.table (cached_file image.caches image.file) (found_so found) (cached_file C fC) → Begins state image (λ _. 0) (image_state image.table C fC image.pending)
  looked-begins found looked =
      begins-then state i image (λ _. 0) (λ _. 0) image.caches image.file C fC (begins-none state i image) (λ _. 0) (λ c. omega arith) (looking (found_so found) looked)

  -- The cluster that was found is free.
  free-place : (from place : ℕ) → LooksForFree state image.table from (i * counters_of_block image.file.header.fields) (cached_file image.caches image.file) (found_so (Some place)) (cached_file C fC) → Keeps → IsSound m0 → IsFreePlace mC i place
  free-place from place looks keeps sound =
      let found = looks.found (safe-with keeps sound) in
      let inside = block-inside m0.file m0.header.fields (place / counters_of_block image.file.header.fields) found.has_counter in
      let same : (c : ℕ) → counted mC c ≡ counted m0 c = counts-same (found_so (Some place)) looks.looked keeps sound tt in
      record {
        below = subst (λ (h : Header). place < i * counters_of_block h.fields) (sym looks.looked.header) found.before;
        uncounted = same place ∙ found.free;
        block_exists = subst (λ (h : Header). block_offset (slice_index image.table.raw_entries (place / counters_of_block h.fields)) ≢ 0) (sym looks.looked.header)
            (λ none. found.has_counter (sym (sound.table.names (place / counters_of_block image.file.header.fields) inside) ∙ none));
      }

  pub found-free : (from place : ℕ) (found : Option ℕ) → found ≡ Some place → LooksForFree state image.table from (i * counters_of_block image.file.header.fields) (cached_file image.caches image.file) (found_so found) (cached_file C fC) → order_of image.caches ≡ L2DependsOnRb → Keeps → IsSound m0 → IsFreePlace mC i place
  found-free from place found is looks order =
      free-place from place (subst (λ (o : Option ℕ). LooksForFree state image.table from (i * counters_of_block image.file.header.fields) (cached_file image.caches image.file) (found_so o) (cached_file C fC)) is looks)
