-- Incrementing refcounts from 0, while blocks are written before tables.
use Rattle.std.proofs.Common.{◌≡◌, ◌≢◌, ℕ, ◌+◌, ◌/◌, ◌%◌, ◌^◌, ◌<◌, ◌≤◌, refl, arith, ap, sym, subst, ◌∙◌, List, length, Option, None, Some, Result, Ok, Err, inl, inr}
use Rattle.std.specs.Prelude.{⊤, IsTrue, nat_eq, slice_index, MatchOption, OnOk, ◌==◌, if◌then◌else◌}
use Rattle.std.specs.Map.{lookup}
use Rattle.std.specs.Option.{option_map}
use Rattle.std.proofs.lemmas.Bool.{cases_eq, cases_lt, ne_eqb}
use Rattle.std.proofs.lemmas.Nat.{mod_below, pow_pos}
use Rattle.imago_storage.specs.State.{StorageState}
use Rattle.imago_storage.specs.declared.fault.Fault.{Fault}
use Rattle.imago_storage.specs.declared.fault.Fault.TheVariants.{DamagedTable, Counter}
use Rattle.imago_storage.proofs.Composing.{later_same}
use Rattle.qcow2_types.specs.Bytes.{bytes_of}
use Rattle.qcow2_types.specs.Header.{Header, cluster_size}
use Rattle.qcow2_types.specs.Words.{block_offset}
use Rattle.qcow2_types.specs.Counts.{count, counters_of_block}
use Rattle.qcow2_types.specs.Pending.{FreeEntry}
use Rattle.qcow2_types.proofs.Counting.Counters.{some-counters}
use Rattle.qcow2_metadata.specs.Places.{IsAddressable}
use Rattle.qcow2_metadata.specs.Tables.{TableValue}
use Rattle.qcow2_metadata.specs.Blocks.{Block, with_counter}
use Rattle.qcow2_alloc.specs.declared.async_lru_cache.Slot.{Slot}
use Rattle.qcow2_alloc.specs.declared.cache.CacheDependency.TheVariants.{L2DependsOnRb}
use Rattle.qcow2_alloc.specs.declared.cache.MetadataCaches.{MetadataCaches}
use Rattle.qcow2_alloc.specs.declared.file.ImageFile.{ImageFile}
use Rattle.qcow2_alloc.specs.Allocating.{IncrementsCounter, IncrementsCluster, CountsRun}
use Rattle.qcow2_alloc.specs.Allocators.{metadata_of, referenced_block, UsesBlock, BlockUsed}
use Rattle.qcow2_alloc.specs.Cache.{hit}
use Rattle.qcow2_alloc.specs.Caches.{cached_in, order_of, cached_file}
use Rattle.qcow2_alloc.specs.CachesLending.{with_blocks}
use Rattle.qcow2_alloc.specs.Causes.{FailsFor}
use Rattle.qcow2_alloc.specs.Changes.{CachesBlock, SetsCounter}
use Rattle.qcow2_alloc.specs.Finding.{BlockFound, IsPinnedFull, search_causes}
use Rattle.qcow2_alloc.specs.Freeing.{HasUnpinnedRoom, counting_causes}
use Rattle.qcow2_alloc.specs.FreeList.{covers}
use Rattle.qcow2_alloc.specs.Going.{HadNoResourceError, AreTablesAddressable, AreBlocksAddressable}
use Rattle.qcow2_alloc.specs.MakingRoom.{run_of}
use Rattle.qcow2_alloc.specs.Memory.{memory}
use Rattle.qcow2_alloc.specs.GuestView.{Metadata, IsSound, GuestUnchanged, PreservesGuest, counted, one_at}
use Rattle.qcow2_alloc.specs.WellFormedness.{WellFormed, IsCachedBlock}
use Rattle.qcow2_alloc.specs.State.{image_state}
use Rattle.qcow2_alloc.proofs.Causes.{Implies, cause-weaker}
use Rattle.qcow2_alloc.proofs.Memory.CounterChanges.{cached-count, counter-raised}
use Rattle.qcow2_alloc.proofs.Blocks.ClusterBlocks.{block-named}
use Rattle.qcow2_alloc.proofs.Freeing.ClusterFrees.{named-there, search-quietly}
use Rattle.qcow2_alloc.proofs.Caching.UnpinnedCaches.{loose-never, found-stays, used-stays}
use Rattle.qcow2_alloc.proofs.Freeing.EntryFrees.{failed}
use Rattle.qcow2_alloc.proofs.Freeing.ClusterOccurrences.{covers-none, covers-one}
use Rattle.qcow2_alloc.proofs.Memory.Patches.{shaped-in, place-there}
use Rattle.qcow2_alloc.proofs.Caching.Places.{slot-of}
use Rattle.qcow2_alloc.proofs.GuestView.QuietCounters.{hand-out-quiet, here-one, away-none}
use Rattle.qcow2_alloc.proofs.GuestView.QuietFlushes.{used-quiet, memory-quietly, quiet-none}
use Rattle.qcow2_alloc.proofs.GuestView.QuietPremises.{quietly-then-given}
use Rattle.qcow2_alloc.proofs.GuestView.QuietSequences.{quiet-otherwise, quietly-otherwise}
use Rattle.qcow2_alloc.proofs.Memory.SafeLaws.{safe-reach}
use Rattle.qcow2_alloc.proofs.Caching.SearchOutcomes.{all-at}
use Rattle.qcow2_alloc.proofs.Caching.EntryUses.{block-used}

abbrev pub succeeded : Result Unit Fault
succeeded = Ok tt

-- The number of increments that were made: 1 on success, 0 on error.
abbrev pub done_of : Result Unit Fault → ℕ
done_of (Ok done) = 1
done_of (Err fault) = 0

pub one-run : (c d : ℕ) → covers d (run_of c 1) ≡ one_at c d
one-run c d = covers-one d (run_of c 1) refl

module _ {S : Type 0} (state : S → StorageState) (table : TableValue) (pending : List FreeEntry) (c : ℕ) where
  abbrev At : MetadataCaches S → ImageFile S → Metadata
  At caches file = metadata_of state file caches table pending

  abbrev given : Result Unit Fault → ℕ → ℕ
  given result d = covers d (run_of c (done_of result))

  -- The block is cached. Its counter is incremented, or that fails.
  module _ (key : ℕ) (mid : MetadataCaches S) (after : ImageFile S) (named : referenced_block table (c / counters_of_block after.header.fields) ≡ Some key)
      (block : Block) (there : option_map (λ (s : Slot Block). s.value) (lookup (nat_eq key) (cached_in mid).blocks) ≡ Some block) where
    abbrev Was : Metadata
    Was = At mid after

    abbrev index : ℕ
    index = c % counters_of_block after.header.fields

    caches-it : IsSound Was → CachesBlock Was.file Was.header.fields Was.cached key c block
    caches-it sound = let place = named-there Was (c / counters_of_block after.header.fields) key sound named in record { block_cached = there; counts = place.0; cluster_nonzero = place.1 }

    counter-is : IsSound Was → counted Was c ≡ slice_index block.counters index
    counter-is sound = cached-count Was.file Was.header Was.cached Was.order key c block sound.well_formed (caches-it sound)

    pub counter-inside : IsSound Was → index < length block.counters
    counter-inside sound =
        let found = slot-of (lookup (nat_eq key) (cached_in mid).blocks) block there in
        let fits : IsCachedBlock Was.file Was.header.fields key found.0.value = all-at (λ (e : ℕ × Slot Block). IsCachedBlock Was.file Was.header.fields e.0 e.1.value) key (cached_in mid).blocks found.0 found.1 sound.well_formed.blocks in
        let long : length block.counters ≡ counters_of_block Was.header.fields = ap (λ (b : Block). length b.counters) (sym found.2) ∙ fits.long in
        rw long (mod_below c (counters_of_block Was.header.fields) (some-counters Was.header.fields (shaped-in Was.file Was.header sound.well_formed.consistent)))

    abbrev With : Block → Metadata
    With block' = At (with_blocks mid (hit (nat_eq key) (cached_in mid).blocks block')) after

    -- The image after the increment.
    abbrev Ends : Result Unit Fault → Block → Type 0
    Ends result block' = IsSound (With block') × GuestUnchanged (given result) (λ _. 0) Was (With block') × ((d : ℕ) → counted (With block') d ≡ counted Was d + given result d)

    stays : (fault : Fault) → IsSound Was → Ends (Err fault) block
    stays fault sound =
        let used = block-used Was.file Was.header Was.cached Was.order key sound.well_formed block there in
        let guest_unchanged = used-quiet Was (record (cached_in mid) { blocks = hit (nat_eq key) (cached_in mid).blocks block }) sound used in
        let none : (d : ℕ) → given (Err fault) d ≡ 0 = λ d. covers-none d (run_of c 0) refl in (
          guest_unchanged.0,
          quiet-otherwise Was (With block) (λ _. 0) (λ _. 0) (given (Err fault)) (λ _. 0) (λ d. let zero = none d in omega (arith, zero)) (λ d used zero. zero) guest_unchanged.1,
          λ d. let same : counted (With block) d ≡ counted Was d = ap (λ g. count g Was.header.fields d) used.memory_same in let zero = none d in omega (arith, same, zero),
        )

    raised : IsSound Was → Was.order ≡ L2DependsOnRb → counted Was c ≡ 0 → Ends (Ok tt) (with_counter block index 1)
    raised sound order zero =
        let sets : SetsCounter Was.file Was.header.fields Was.cached key c 1 (With (with_counter block index 1)).cached = record { block = block; caches = caches-it sound; blocks = refl; tables = refl } in
        let guest_unchanged = hand-out-quiet Was key c (With (with_counter block index 1)).cached sound order sets zero in
        let changed = (counter-raised Was.file Was.header Was.cached (With (with_counter block index 1)).cached key c (subst (λ o. WellFormed Was.file Was.header Was.cached o) order sound.well_formed) sets zero).0 in
        let one : (d : ℕ) → given (Ok tt) d ≡ one_at c d = one-run c in (
          guest_unchanged.0,
          quiet-otherwise Was (With (with_counter block index 1)) (one_at c) (λ _. 0) (given (Ok tt)) (λ _. 0) (λ d. let is = one d in omega (arith, is)) (λ d used none. none) guest_unchanged.1,
          λ d. let is = one d in elim (cases_eq d c) [
            | inl same ↦
                let here = here-one c in
                let own : counted (With (with_counter block index 1)) d ≡ 1 = subst (λ n. counted (With (with_counter block index 1)) n ≡ 1) (sym same) changed.written.here in
                let was : counted Was d ≡ 0 = subst (λ n. counted Was n ≡ 0) (sym same) zero in
                let at : one_at c d ≡ 1 = subst (λ n. one_at c n ≡ 1) (sym same) here in
                omega (arith, is, own, was, at)
            | inr apart ↦ let other = changed.written.others d apart in let none = away-none c d apart in omega (arith, is, other, none)
          ],
        )

    pub ends : (result : Result Unit Fault) (block' : Block) → IncrementsCounter index block result block' → Was.order ≡ L2DependsOnRb → IsSound Was → counted Was c ≡ 0 → Ends result block'
    ends result block' raises order sound zero = elim (cases_lt index (length block.counters)) [
      | inr past ↦ let out = raises.out past in so (Err DamagedTable) block out.0 out.1 (stays DamagedTable sound)
      | inl inside ↦ elim (cases_eq (slice_index block.counters index) 0) [
        | inl none ↦ let done = raises.none inside none in so (Ok tt) (with_counter block index 1) done.0 done.1 (raised sound order zero)
        | inr some ↦ let out = raises.if_counted inside (omega (arith, some)) in so (Err Counter) block out.0 out.1 (stays Counter sound)
      ]
    ]
      where
        so : (r : Result Unit Fault) (b : Block) → result ≡ r → block' ≡ b → Ends r b → Ends result block'
        so r b is same known = subst (λ (q : Result Unit Fault). Ends q block') (sym is) (subst (λ (x : Block). Ends r x) (sym same) known)

  -- The block is searched for, and its counter incremented. Either may fail.
  module _ (old : MetadataCaches S) (before : ImageFile S) (result : Result Unit Fault) (new : MetadataCaches S) (after : ImageFile S) where
    abbrev Old : Metadata
    Old = At old before

    abbrev New : Metadata
    New = At new after

    abbrev i : ℕ
    i = c / counters_of_block before.header.fields

    abbrev Does : Block → Result Unit Fault → Block → Type 0
    Does = IncrementsCounter (c % counters_of_block before.header.fields)

    abbrev Keeps : Type 0
    Keeps = IsTrue (state before.image).shape.keeps

    -- The refcount of the cluster is 0.
    abbrev Free : Type 0
    Free = (d : ℕ) → c ≤ d → d < c + 1 → counted Old d ≡ 0

    abbrev Holds : Type 0
    Holds = Keeps × (order_of old ≡ L2DependsOnRb) × IsSound Old × ((d : ℕ) → c ≤ d → d < c + 1 → (counted Old d ≡ 0) × (block_offset (slice_index table.raw_entries (d / counters_of_block before.header.fields)) ≢ 0))

    here : {P : ℕ → Type 0} → ((d : ℕ) → c ≤ d → d < c + 1 → P d) → P c
    here each = each c (omega arith) (omega arith)

    abbrev Counts : Result Unit Fault → Type 0
    Counts q = FailsFor (counting_causes Holds (HasUnpinnedRoom table old) (state before.image).faults (state after.image).faults) q

    -- A search without a resource error doesn't change refcounts.
    found-counts : (key : ℕ) (answer : Result Unit Fault) (mid : MetadataCaches S) → BlockFound state key old before answer mid after → Keeps → IsSound Old → HadNoResourceError answer → (d : ℕ) → counted (At mid after) d ≡ counted Old d
    found-counts key answer mid found keeps sound whole d =
        let settled = found.writes_back_cached.holds keeps sound.well_formed tt (inl whole) in
        subst (λ (h : Header). count (memory (bytes_of (state after.image).bytes) h.fields (cached_in mid)) h.fields d ≡ counted Old d) (sym found.others.1) (ap (λ g. count g before.header.fields d) settled.memory_same)

    search-counts : (key : ℕ) → referenced_block table i ≡ Some key
        → Implies (search_causes (IsAddressable before.header.fields.cluster_bits key × AreBlocksAddressable (cached_in old) × AreTablesAddressable (cached_in old)) (IsPinnedFull old.rb.slots.cap (cached_in old).blocks) (state before.image).faults (state after.image).faults)
        (counting_causes Holds (HasUnpinnedRoom table old) (state before.image).faults (state after.image).faults)
    search-counts key named = record {
      before = omega arith;
      after = omega arith;
      damaged = λ wrong holds.
          let sound = holds.2 in
          let place = named-there Old i key sound named in
          let there = block-named Old sound c (λ none. place-there (cluster_size before.header.fields) key (pow_pos before.header.fields.cluster_bits) place.1 (sym place.0 ∙ none)) in
          let same : there.key ≡ key = (let e = sym there.names ∙ named in cc) in
          let reach = safe-reach Old.file Old.header Old.cached Old.order sound.well_formed in
          wrong (subst (λ n. IsAddressable before.header.fields.cluster_bits n) same there.reach, reach.1, reach.0);
      counter = absurd;
      full = λ full u. loose-never table old u.0 u.2 full;
      limit = λ number. absurd;
    }

    none-given : (fault : Fault) (new' : MetadataCaches S) (after' : ImageFile S) → PreservesGuest (HadNoResourceError (failed fault)) (λ _. 0) (λ _. 0) (state before.image) Old (state after'.image) (At new' after')
        → PreservesGuest (HadNoResourceError (failed fault)) (given (Err fault)) (λ _. 0) (state before.image) Old (state after'.image) (At new' after')
    none-given fault new' after' guest_unchanged = quietly-otherwise (HadNoResourceError (failed fault)) (λ _. 0) (λ _. 0) (given (Err fault)) (λ _. 0) (state before.image) Old (state after'.image) (At new' after')
        (λ sound d. let zero = covers-none d (run_of c 0) refl in omega (arith, zero)) (λ sound d used none. none) guest_unchanged

    -- A run of one cluster is counted completely, or not at all.
    abbrev CountsOne : Result Unit Fault → MetadataCaches S → ImageFile S → Type 0
    CountsOne q m f = (run : CountsRun state c 1 (image_state table old before pending) q (image_state table m f pending)) × (run.part ≡ done_of q)

    not-found : (key : ℕ) → referenced_block table i ≡ Some key → (fault : Fault) → BlockFound state key old before (Err fault) new after → CountsOne (Err fault) new after
    not-found key named fault found =
        let stays = found-stays state table key old before (Err fault) new after found in
        let guest_unchanged = search-quietly state table key pending old before (Err fault) new after found in (
          record {
            part = 0;
            inside = omega arith;
            whole = tt;
            shape = guest_unchanged.shape;
            counts_not_fallen = guest_unchanged.counts_not_fallen;
            faults = found.writes_back_cached.faults;
            guest_unchanged = λ order free. none-given fault new after guest_unchanged;
            raised = λ order keeps sound free whole d. let same = found-counts key (Err fault) new found keeps sound whole d in let zero = covers-none d (run_of c 0) refl in omega (arith, same, zero);
            order = stays.order;
            header = stays.header;
            keeps_unpinned_room = stays.loose;
            room = stays.room;
            cause = cause-weaker (search-counts key named) fault found.cause;
          },
          refl,
        )

    used-run : (key : ℕ) → referenced_block table i ≡ Some key → BlockUsed state key Does (cached_file old before) result (cached_file new after) → CountsOne result new after
    used-run key named u =
        let stays = used-stays state table key Does old before result new after u in
        let found = search-quietly state table key pending old before succeeded u.mid after u.found in
        let named-now : referenced_block table (c / counters_of_block after.header.fields) ≡ Some key = subst (λ (h : Header). referenced_block table (c / counters_of_block h.fields) ≡ Some key) (sym stays.header) named in
        let raises : IncrementsCounter (c % counters_of_block after.header.fields) u.value result u.value' = subst (λ (h : Header). IncrementsCounter (c % counters_of_block h.fields) u.value result u.value') (sym stays.header) u.used in
        let order-now : order_of old ≡ L2DependsOnRb → order_of u.mid ≡ L2DependsOnRb = λ order. u.found.others.0 ∙ order in
        let mid-sound : Keeps → IsSound Old → IsSound (At u.mid after) = λ keeps sound. (found.holds keeps sound tt).0 in
        let zero : Keeps → IsSound Old → Free → counted (At u.mid after) c ≡ 0 = λ keeps sound free. found-counts key succeeded u.mid u.found keeps sound tt c ∙ here free in (
          record {
            part = done_of result;
            inside = at-most result;
            whole = all-done result;
            shape = found.shape;
            counts_not_fallen = found.counts_not_fallen;
            faults = λ whole. u.found.writes_back_cached.faults tt;
            guest_unchanged = λ order free. subst (λ (m : MetadataCaches S). PreservesGuest (HadNoResourceError result) (given result) (λ _. 0) (state before.image) Old (state after.image) (At m after)) (sym u.left)
                (quietly-otherwise (HadNoResourceError result) (λ d. 0 + given result d) (λ d. 0 + 0) (given result) (λ _. 0) (state before.image) Old (state after.image) _ (λ sound d. omega arith) (λ sound d used none. omega arith)
                (quietly-then-given ⊤ (HadNoResourceError result) (λ _. 0) (λ _. 0) (given result) (λ _. 0) (state before.image) Old (state after.image) (At u.mid after) (state after.image) (With key u.mid after named-now u.value u.value_cached u.value') tt (λ sound d some. refl)
                found refl (later_same (state after.image)) (λ keeps sound sound1 guest_unchanged.
                memory-quietly (HadNoResourceError result) (given result) (λ _. 0) (state after.image) (At u.mid after) (With key u.mid after named-now u.value u.value_cached u.value') (λ sound2 whole.
                let e = ends key u.mid after named-now u.value u.value_cached result u.value' raises (order-now order) sound2 (zero keeps sound (free sound)) in (e.0, e.1)))));
            raised = λ order keeps sound free whole d.
                let e = ends key u.mid after named-now u.value u.value_cached result u.value' raises (order-now order) (mid-sound keeps sound) (zero keeps sound free) in
                let more : counted New d ≡ counted (At u.mid after) d + given result d = subst (λ (m : MetadataCaches S). counted (At m after) d ≡ counted (At u.mid after) d + given result d) (sym u.left) (e.2 d) in
                let same = found-counts key succeeded u.mid u.found keeps sound tt d in
                omega (arith, more, same);
            order = stays.order;
            header = stays.header;
            keeps_unpinned_room = stays.loose;
            room = stays.room;
            cause = elim (cases_lt (c % counters_of_block after.header.fields) (length u.value.counters)) [
              | inr past ↦ subst (λ (q : Result Unit Fault). Counts q) (sym (raises.out past).0) (λ holds. let inside = counter-inside key u.mid after named-now u.value u.value_cached (mid-sound holds.0 holds.2) in omega (arith, inside, past))
              | inl inside ↦ elim (cases_eq (slice_index u.value.counters (c % counters_of_block after.header.fields)) 0) [
                | inl none ↦ subst (λ (q : Result Unit Fault). Counts q) (sym (raises.none inside none).0) u.found.cause
                | inr some ↦ subst (λ (q : Result Unit Fault). Counts q) (sym (raises.if_counted inside (omega (arith, some))).0) (λ holds.
                    let is = counter-is key u.mid after named-now u.value u.value_cached (mid-sound holds.0 holds.2) in
                    let none = zero holds.0 holds.2 (λ d le lt. (holds.3 d le lt).0) in
                    omega (arith, some, is, none))
              ]
            ];
          },
          refl,
        )
      where
        at-most : (r : Result Unit Fault) → done_of r ≤ 1
        at-most (Ok done) = omega arith
        at-most (Err fault) = omega arith

        all-done : (r : Result Unit Fault) → OnOk r (done_of r ≡ 1)
        all-done (Ok done) = refl
        all-done (Err fault) = tt

    pub one-counted : IncrementsCluster state table c (cached_file old before) result (cached_file new after) → CountsOne result new after
    one-counted = by-name (referenced_block table i) refl
      where
        refused : referenced_block table i ≡ None → CountsOne (failed DamagedTable) old before
        refused named =
            let has_no_dirty_data = memory-quietly ⊤ (λ _. 0) (λ _. 0) (state before.image) Old Old (λ sound whole. (sound, quiet-none Old sound)) in (
              record {
                part = 0;
                inside = omega arith;
                whole = tt;
                shape = refl;
                counts_not_fallen = later_same (state before.image);
                faults = λ whole. (refl, refl);
                guest_unchanged = λ order free. none-given DamagedTable old before has_no_dirty_data;
                raised = λ order keeps sound free whole d. let zero = covers-none d (run_of c 0) refl in omega (arith, zero);
                order = refl;
                header = refl;
                keeps_unpinned_room = λ any loose. loose;
                room = record { tables = refl; blocks = refl; entries = refl };
                cause = λ holds. not_referenced (block_offset (slice_index table.raw_entries i)) (table.layout.cluster_bits) (here holds.3).1 named;
              },
              refl,
            )
          where
            not_referenced : (w bits : ℕ) → w ≢ 0 → (if w == 0 then None else Some (w / 2 ^ bits)) ≡ None → ⊥
            not_referenced w bits some none = let no : Some (w / 2 ^ bits) ≡ None = sym (rw (ne_eqb w 0 some) refl) ∙ none in cc

        by-name : (o : Option ℕ) → referenced_block table i ≡ o → MatchOption o ((result ≡ Err DamagedTable) × (new ≡ old) × (after ≡ before)) (λ key. UsesBlock state key Does (cached_file old before) result (cached_file new after)) → CountsOne result new after
        by-name None named (is, same, same') =
            subst (λ (q : Result Unit Fault). CountsOne q new after) (sym is)
            (subst (λ (m : MetadataCaches S). CountsOne (failed DamagedTable) m after) (sym same)
            (subst (λ (f : ImageFile S). CountsOne (failed DamagedTable) old f) (sym same') (refused named)))
        by-name (Some key) named (inl (fault, is, found)) = subst (λ (q : Result Unit Fault). CountsOne q new after) (sym is) (not-found key named fault found)
        by-name (Some key) named (inr u) = used-run key named u

    pub cluster-counted : IncrementsCluster state table c (cached_file old before) result (cached_file new after) → CountsRun state c 1 (image_state table old before pending) result (image_state table new after pending)
    cluster-counted raises = (one-counted raises).0
