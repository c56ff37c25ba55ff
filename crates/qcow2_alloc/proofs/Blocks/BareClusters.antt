-- Incrementing the refcount of an unreferenced cluster: nothing references it afterwards, and no block at it is cached.
use Rattle.std.proofs.Common.{◌≡◌, ◌≢◌, ℕ, ◌/◌, ◌%◌, refl, arith, sym, subst, ◌∙◌, List, ◌++◌, length, Option, None, Some, Ok, Err, inl, inr}
use Rattle.std.specs.Prelude.{IsTrue, nat_eq, nat_lt, slice_index, MatchOption}
use Rattle.std.specs.Map.{lookup, remove_entry}
use Rattle.std.specs.Option.{option_map_or}
use Rattle.std.proofs.lemmas.Bool.{cases_Bool, cases_eq, cases_lt, ne_eqb}
use Rattle.std.proofs.lemmas.Nat.{pow_pos}
use Rattle.imago_storage.specs.State.{StorageState}
use Rattle.imago_storage.specs.declared.fault.Fault.TheVariants.{DamagedTable}
use Rattle.qcow2_types.specs.Bytes.{bytes_of}
use Rattle.qcow2_types.specs.Header.{Header, cluster_size}
use Rattle.qcow2_types.specs.Counts.{counters_of_block}
use Rattle.qcow2_types.specs.Pending.{FreeEntry}
use Rattle.qcow2_types.specs.Versions.{references_in_either}
use Rattle.qcow2_types.proofs.Counting.Parts.{block-inside}
use Rattle.qcow2_metadata.specs.Tables.{TableValue}
use Rattle.qcow2_metadata.specs.Blocks.{Block, with_counter}
use Rattle.qcow2_alloc.specs.declared.async_lru_cache.Slot.{Slot}
use Rattle.qcow2_alloc.specs.declared.cache.CacheDependency.{CacheDependency}
use Rattle.qcow2_alloc.specs.declared.cache.CacheDependency.TheVariants.{L2DependsOnRb}
use Rattle.qcow2_alloc.specs.declared.cache.MetadataCaches.{MetadataCaches}
use Rattle.qcow2_alloc.specs.declared.file.ImageFile.{ImageFile}
use Rattle.qcow2_alloc.specs.Allocating.{IncrementsCounter, IncrementsCluster}
use Rattle.qcow2_alloc.specs.Allocators.{metadata_of, referenced_block, UsesBlock, BlockUsed}
use Rattle.qcow2_alloc.specs.Cache.{hit, victim}
use Rattle.qcow2_alloc.specs.Caches.{cached_in, order_of, cached_file}
use Rattle.qcow2_alloc.specs.Changes.{SetsCounter}
use Rattle.qcow2_alloc.specs.Finding.{Sought, with_room}
use Rattle.qcow2_alloc.specs.Memory.{Cached, memory, written_block}
use Rattle.qcow2_alloc.specs.GuestView.{Metadata, IsSound, counted, referenced_at_all}
use Rattle.qcow2_alloc.specs.WellFormedness.{WellFormed}
use Rattle.qcow2_alloc.proofs.Memory.CounterChanges.{counter-raised}
use Rattle.qcow2_alloc.proofs.Blocks.ClusterCounts.{succeeded}
use Rattle.qcow2_alloc.proofs.Caching.Entries.{hit_missed, remove_absent}
use Rattle.qcow2_alloc.proofs.Caching.BlockDrops.{block-names}
use Rattle.qcow2_alloc.proofs.Searching.FreeClusters.{uncounted-free, flushes-count}
use Rattle.qcow2_alloc.proofs.Freeing.ClusterFrees.{named-there}
use Rattle.qcow2_alloc.proofs.Memory.Patches.{place-there}
use Rattle.qcow2_alloc.proofs.Caching.Places.{place-of-key, place-hit}

module _ {V : Type 0} (c : ℕ) where
  -- An absent key stays absent when an entry is evicted, used or searched for.
  pub none-in-room : (size : ℕ) (es : List (ℕ × Slot V)) → lookup (nat_eq c) es ≡ None → lookup (nat_eq c) (with_room size es) ≡ None
  none-in-room size es none = elim (cases_Bool (nat_lt (length es) size)) [
    | inl t ↦ rw t none
    | inr t ↦ rw t (by-victim (victim es) refl)
  ]
    where
      by-victim : (v : Option ℕ) → victim es ≡ v → lookup (nat_eq c) (option_map_or (λ key. remove_entry (nat_eq key) es) v es) ≡ None
      by-victim None is = none
      by-victim (Some key) is = remove_absent (nat_eq key) (nat_eq c) es none

  pub none-in-hit : (key : ℕ) (es : List (ℕ × Slot V)) (value : V) → key ≢ c → lookup (nat_eq c) es ≡ None → lookup (nat_eq c) (hit (nat_eq key) es value) ≡ None
  none-in-hit key es value apart none = by-slot (lookup (nat_eq key) es) refl
    where
      by-slot : (o : Option (Slot V)) → lookup (nat_eq key) es ≡ o → lookup (nat_eq c) (hit (nat_eq key) es value) ≡ None
      by-slot None is = rw (hit_missed (nat_eq key) es is value) none
      by-slot (Some slot) is =
          let p = place-of-key key es slot is in
          let rest : lookup (nat_eq c) (p.front ++ p.back) ≡ None = subst (λ (l : List (ℕ × Slot V)). lookup (nat_eq c) l ≡ None) p.removed (remove_absent (nat_eq key) (nat_eq c) es none) in
          rw (place-hit key es slot p value) (rw (ne_eqb c key (λ same. apart (sym same))) rest)

  pub none-in-search : (written : ℕ × Slot V → ℕ × Slot V) (size key : ℕ) (read : V) (es es' : List (ℕ × Slot V)) → Sought written size key read es (Ok tt) es' → key ≢ c → lookup (nat_eq c) es ≡ None → lookup (nat_eq c) es' ≡ None
  none-in-search written size key read es es' sought apart none = by-slot (lookup (nat_eq key) es) refl
    where
      by-slot : (o : Option (Slot V)) → lookup (nat_eq key) es ≡ o → lookup (nat_eq c) es' ≡ None
      by-slot None is = rw (sought.loaded is) (rw (ne_eqb c key (λ same. apart (sym same))) (none-in-room size es none))
      by-slot (Some slot) is = rw (sought.unchanged_if_cached (rw is refl)) none

module _ {S : Type 0} (state : S → StorageState) (table : TableValue) (pending : List FreeEntry) (c : ℕ) (old : MetadataCaches S) (before : ImageFile S) (new : MetadataCaches S) (after : ImageFile S) where
  abbrev Old : Metadata
  Old = metadata_of state before old table pending

  abbrev New : Metadata
  New = metadata_of state after new table pending

  abbrev i : ℕ
  i = c / counters_of_block before.header.fields

  abbrev Apart : Type 0
  Apart = (referenced_at_all New c ≡ 0) × (lookup (nat_eq c) (cached_in new).blocks ≡ None)

  module _ (keeps : IsTrue (state before.image).shape.keeps) (order : order_of old ≡ L2DependsOnRb) (sound : IsSound Old) (zero : counted Old c ≡ 0) (uncached : lookup (nat_eq c) (cached_in old).blocks ≡ None) where
    not_referenced : referenced_at_all Old c ≡ 0
    not_referenced = (uncounted-free Old sound order c zero).0

    key-apart : (key : ℕ) → referenced_block table i ≡ Some key → key ≢ c
    key-apart key names same =
        let place = named-there Old i key sound names in
        let inside = block-inside Old.file Old.header.fields i (λ none. place-there (cluster_size before.header.fields) key (pow_pos before.header.fields.cluster_bits) place.1 (sym place.0 ∙ none)) in
        let some = block-names Old i key inside place.0 place.1 in
        let none : referenced_at_all Old key ≡ 0 = subst (λ n. referenced_at_all Old n ≡ 0) (sym same) not_referenced in
        omega (arith, some, none)

    done-so : (index : ℕ) (block block' : Block) → IncrementsCounter index block (Ok tt) block' → block' ≡ with_counter block index 1
    done-so index block block' raises = elim (cases_lt index (length block.counters)) [
      | inr past ↦ absurd (let no = (raises.out past).0 in cc no)
      | inl inside ↦ elim (cases_eq (slice_index block.counters index) 0) [
        | inl none ↦ (raises.none inside none).1
        | inr some ↦ absurd (let no = (raises.if_counted inside (omega (arith, some))).0 in cc no)
      ]
    ]

    by-use : (key : ℕ) → referenced_block table i ≡ Some key → BlockUsed state key (IncrementsCounter (c % counters_of_block before.header.fields)) (cached_file old before) (Ok tt) (cached_file new after) → Apart
    by-use key names u =
        let f = bytes_of (state after.image).bytes in
        let mid : Cached = cached_in u.mid in
        let settled = u.found.writes_back_cached.holds keeps sound.well_formed tt (inl tt) in
        let well_formed : WellFormed f before.header mid L2DependsOnRb = subst (λ (o : CacheDependency). WellFormed f before.header mid o) order settled.well_formed in
        let flushed = flushes-count Old (state before.image).bytes (state after.image).bytes mid refl settled c in
        let place = named-there Old i key sound names in
        let block' = with_counter u.value (c % counters_of_block before.header.fields) 1 in
        let cached' : Cached = record mid { blocks = hit (nat_eq key) mid.blocks block' } in
        let sets : SetsCounter f before.header.fields mid key c 1 cached' = record {
          block = u.value;
          caches = record { block_cached = u.value_cached; counts = settled.left.raw_entries.places.blocks i ∙ place.0; cluster_nonzero = place.1 };
          blocks = refl;
          tables = refl;
        } in
        let raised = counter-raised f before.header mid cached' key c well_formed sets (flushed.0 ∙ zero) in
        let names-now : references_in_either f (memory f before.header.fields cached') before.header.fields c ≡ 0 = raised.0.names c ∙ raised.1 in
        let is = done-so (c % counters_of_block before.header.fields) u.value u.value' u.used in (
          subst (λ (h : Header). references_in_either f (memory f h.fields (cached_in new)) h.fields c ≡ 0) (sym u.found.others.1)
              (subst (λ (m : MetadataCaches S). references_in_either f (memory f before.header.fields (cached_in m)) before.header.fields c ≡ 0) (sym u.left)
              (subst (λ (b : Block). references_in_either f (memory f before.header.fields (record mid { blocks = hit (nat_eq key) mid.blocks b })) before.header.fields c ≡ 0) (sym is) names-now)),
          subst (λ (m : MetadataCaches S). lookup (nat_eq c) (cached_in m).blocks ≡ None) (sym u.left)
              (none-in-hit c key mid.blocks u.value' (key-apart key names) (none-in-search c written_block _ key _ (cached_in old).blocks mid.blocks u.found.sought (key-apart key names) uncached)),
        )

    pub counted-apart : IncrementsCluster state table c (cached_file old before) (Ok tt) (cached_file new after) → Apart
    counted-apart = by-name (referenced_block table i) refl
      where
        by-name : (o : Option ℕ) → referenced_block table i ≡ o → MatchOption o ((succeeded ≡ Err DamagedTable) × (new ≡ old) × (after ≡ before)) (λ key. UsesBlock state key (IncrementsCounter (c % counters_of_block before.header.fields)) (cached_file old before) (Ok tt) (cached_file new after)) → Apart
        by-name None names (is, same, same') = absurd (cc is)
        by-name (Some key) names (inl (fault, is, found)) = absurd (cc is)
        by-name (Some key) names (inr u) = by-use key names u
