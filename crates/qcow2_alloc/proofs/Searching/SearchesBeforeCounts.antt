-- A search changes no refcount, and may come before calls that do.
use Rattle.std.proofs.Common.{◌≡◌, ◌≢◌, ℕ, ◌+◌, ◌*◌, ◌/◌, ◌<◌, refl, arith, ap, sym, subst, ◌∙◌, inl, inr, length, Option, Some, None, Result, Ok}
use Rattle.std.specs.Prelude.{IsTrue, slice_index}
use Rattle.std.proofs.lemmas.Bool.{cases_lt}
use Rattle.std.proofs.lemmas.List.{get_or_past}
use Rattle.std.proofs.lemmas.Nat.{div-add-mod', mod_below}
use Rattle.qcow2_types.proofs.Counting.Counters.{some-counters}
use Rattle.imago_storage.specs.State.{StorageState}
use Rattle.imago_storage.specs.declared.fault.Fault.{Fault}
use Rattle.qcow2_types.specs.Bytes.{bytes_of}
use Rattle.qcow2_types.specs.Counts.{counters_of_block}
use Rattle.qcow2_types.specs.Header.{Header}
use Rattle.qcow2_types.specs.Words.{block_offset}
use Rattle.qcow2_alloc.specs.declared.cache.CacheDependency.{CacheDependency}
use Rattle.qcow2_alloc.specs.declared.cache.MetadataCaches.{MetadataCaches}
use Rattle.qcow2_alloc.specs.declared.file.ImageFile.{ImageFile}
use Rattle.qcow2_alloc.specs.Allocating.{Allocating}
use Rattle.qcow2_alloc.specs.Allocators.{metadata_of}
use Rattle.qcow2_alloc.specs.Caches.{cached_in, order_of, cached_file}
use Rattle.qcow2_alloc.specs.Going.{HadNoResourceError}
use Rattle.qcow2_alloc.specs.GuestView.{Metadata, counted, IsSound, PreservesGuest}
use Rattle.qcow2_alloc.specs.SearchingClusters.{FindsFree, HasCounter, IsSafeWith, Looked, LooksForFree, counts_in}
use Rattle.qcow2_alloc.specs.State.{ImageState, image_state, metadata}
use Rattle.qcow2_alloc.proofs.Handing.CountSequences.{moved-none}
use Rattle.qcow2_alloc.proofs.Searching.FreeClusters.{flushes-count}
use Rattle.qcow2_alloc.proofs.Memory.Patches.{shaped-in}
use Rattle.qcow2_alloc.proofs.GuestView.QuietFlushes.{going-quietly}

module _ {S : Type 0} (state : S → StorageState) (s : ImageState S) where
  abbrev Old : Metadata
  Old = metadata state s

  pub sound-safe : IsTrue (state s.file.image).shape.keeps → IsSound Old → IsSafeWith state s.table s.caches s.file
  sound-safe keeps sound = record { keeps = keeps; well_formed = sound.well_formed; table_of_file = sound.table }

  module _ (T : Type 0) (result : Result T Fault) (new : MetadataCaches S) (after : ImageFile S) (looked : Looked state s.table (cached_file s.caches s.file) result (cached_file new after)) where
    abbrev New : Metadata
    New = metadata_of state after new s.table s.pending

    moved : (P : Metadata → Type 0) → P (record Old { file = bytes_of (state after.image).bytes; cached = cached_in new }) → P New
    moved P p =
        subst (λ (h : Header). P (record Old { file = bytes_of (state after.image).bytes; cached = cached_in new; header = h; order = order_of new })) (sym looked.header)
        (subst (λ (o : CacheDependency). P (record Old { file = bytes_of (state after.image).bytes; cached = cached_in new; order = o })) (sym looked.order) p)

    pub counts-looked : IsTrue (state s.file.image).shape.keeps → IsSound Old → HadNoResourceError result → (c : ℕ) → counted New c ≡ counted Old c
    counts-looked keeps sound whole c =
        moved (λ m. counted m c ≡ counted Old c) (flushes-count Old (state s.file.image).bytes (state after.image).bytes (cached_in new) refl (looked.writes_back_cached.holds keeps sound.well_formed tt (inl whole)) c).0

    pub looked-allocates : Allocating state (HadNoResourceError result) (λ _. 0) s (image_state s.table new after s.pending)
    looked-allocates = record {
      faults = looked.writes_back_cached.faults;
      guest_unchanged = λ order. moved (λ m. PreservesGuest (HadNoResourceError result) (λ _. 0) (λ _. 0) (state s.file.image) Old (state after.image) m) (going-quietly Old (HadNoResourceError result) (state s.file.image) (state after.image) (cached_in new) refl looked.writes_back_cached);
      raised = λ order keeps sound whole c. inl (counts-looked keeps sound whole c);
      order = looked.order;
      moved = moved-none s.file.header after.header looked.header;
      longer = omega arith;
      keeps_unpinned_room = looked.keeps_unpinned_room;
      room = looked.room;
    }

  -- A cluster has a counter if the refcount table references its block.
  pub counter-there : IsSound Old → (c : ℕ) → block_offset (slice_index s.table.raw_entries (c / counters_of_block s.file.header.fields)) ≢ 0 → HasCounter (bytes_of (state s.file.image).bytes) s.file.header.fields c
  counter-there sound c some none = elim (cases_lt (c / counters_of_block s.file.header.fields) (length s.table.raw_entries)) [
    | inl inside ↦ let long = sound.table.long in some (sound.table.names (c / counters_of_block s.file.header.fields) (omega (arith, inside, long)) ∙ none)
    | inr past ↦ some (ap block_offset (get_or_past s.table.raw_entries (c / counters_of_block s.file.header.fields) 0 past))
  ]

  -- A search in the block of a cluster shows if the cluster is counted.
  module _ (c : ℕ) (some : block_offset (slice_index s.table.raw_entries (c / counters_of_block s.file.header.fields)) ≢ 0) (found : Option ℕ) (new : MetadataCaches S) (after : ImageFile S)
      (looks : LooksForFree state s.table c ((c / counters_of_block s.file.header.fields + 1) * counters_of_block s.file.header.fields) (cached_file s.caches s.file) (Ok found) (cached_file new after)) (keeps : IsTrue (state s.file.image).shape.keeps) (sound : IsSound Old) where
    same : counted (metadata_of state after new s.table s.pending) c ≡ counted Old c
    same = counts-looked (Option ℕ) (Ok found) new after looks.looked keeps sound tt c

    behind : c < (c / counters_of_block s.file.header.fields + 1) * counters_of_block s.file.header.fields
    behind = let shape = div-add-mod' c (counters_of_block s.file.header.fields) in let below = mod_below c (counters_of_block s.file.header.fields) (some-counters s.file.header.fields (shaped-in Old.file Old.header sound.well_formed.consistent)) in omega (arith, shape, below)

    pub counted-found : found ≢ Some c → 0 < counted (metadata_of state after new s.table s.pending) c
    counted-found other = let more = by-found found (looks.found (sound-safe keeps sound)) other in let is = same in omega (arith, more, is)
      where
        by-found : (o : Option ℕ) → FindsFree (bytes_of (state s.file.image).bytes) s.file.header.fields (counts_in state s.caches s.file) c ((c / counters_of_block s.file.header.fields + 1) * counters_of_block s.file.header.fields) o → o ≢ Some c → 0 < counted Old c
        by-found None all apart = all c (omega arith) behind (counter-there sound c some)
        by-found (Some d) first apart = elim (cases_lt c d) [
          | inl earlier ↦ first.least c (omega arith) earlier (counter-there sound c some)
          | inr past ↦ let ge = first.not_before_start in absurd (apart (let at : d ≡ c = omega (arith, ge, past) in ap (λ (n : ℕ). Some n) at))
        ]

    pub free-found : found ≡ Some c → counted (metadata_of state after new s.table s.pending) c ≡ 0
    free-found is =
        let first = subst (λ (o : Option ℕ). FindsFree (bytes_of (state s.file.image).bytes) s.file.header.fields (counts_in state s.caches s.file) c ((c / counters_of_block s.file.header.fields + 1) * counters_of_block s.file.header.fields) o) is (looks.found (sound-safe keeps sound)) in
        same ∙ first.free
