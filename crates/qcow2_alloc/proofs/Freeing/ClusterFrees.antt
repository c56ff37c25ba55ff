-- Decrementing the refcount of one cluster on the free list.
use Rattle.std.proofs.Common.{◌≡◌, ◌≢◌, ℕ, ◌+◌, ◌-◌, ◌*◌, ◌/◌, ◌%◌, ◌<◌, ◌≤◌, refl, arith, ap, sym, subst, ◌∙◌, List, length, Option, None, Some, Result, Ok, Err, inl, inr}
use Rattle.std.specs.Prelude.{◌⊎◌, ⊤, IsTrue, nat_eq, slice_index, MatchOption}
use Rattle.std.specs.Map.{lookup}
use Rattle.std.specs.Option.{option_map}
use Rattle.std.proofs.lemmas.Nat.{mod_below}
use Rattle.std.proofs.lemmas.Bool.{cases_eq, cases_lt}
use Rattle.imago_storage.specs.State.{StorageState}
use Rattle.imago_storage.specs.declared.fault.Fault.{Fault}
use Rattle.imago_storage.specs.declared.fault.Fault.TheVariants.{DamagedTable, Counter}
use Rattle.qcow2_types.specs.Bytes.{bytes_of}
use Rattle.qcow2_types.specs.Header.{Header, cluster_size}
use Rattle.qcow2_types.specs.Counts.{block_at, count, counters_of_block}
use Rattle.qcow2_types.specs.Pending.{FreeEntry}
use Rattle.qcow2_metadata.specs.Tables.{TableValue}
use Rattle.qcow2_metadata.specs.Blocks.{Block, with_counter}
use Rattle.qcow2_alloc.specs.declared.async_lru_cache.Slot.{Slot}
use Rattle.qcow2_alloc.specs.declared.cache.CacheDependency.{CacheDependency}
use Rattle.qcow2_alloc.specs.declared.cache.CacheDependency.TheVariants.{RbDependsOnL2}
use Rattle.qcow2_alloc.specs.declared.cache.MetadataCaches.{MetadataCaches}
use Rattle.qcow2_alloc.specs.declared.file.ImageFile.{ImageFile}
use Rattle.qcow2_alloc.specs.Allocators.{metadata_of, referenced_block, DecrementsCounter, DecrementsCluster, UsesBlock, BlockUsed}
use Rattle.qcow2_alloc.specs.Cache.{hit}
use Rattle.qcow2_alloc.specs.Caches.{cached_in, order_of, cached_file}
use Rattle.qcow2_alloc.specs.CachesLending.{with_blocks}
use Rattle.qcow2_alloc.specs.Causes.{FailsFor}
use Rattle.qcow2_alloc.specs.Changes.{CachesBlock, IsStillCovered}
use Rattle.qcow2_alloc.specs.Finding.{BlockFound, IsPinnedFull, search_causes}
use Rattle.qcow2_alloc.specs.Freeing.{HasUnpinnedSlot, NoErrorOrNoChangeRefused, freeing_causes}
use Rattle.qcow2_metadata.specs.Places.{IsAddressable}
use Rattle.qcow2_alloc.specs.FreeList.{listed}
use Rattle.qcow2_alloc.specs.Going.{HadNoResourceError, AreTablesAddressable, AreBlocksAddressable}
use Rattle.qcow2_alloc.specs.Memory.{memory}
use Rattle.qcow2_alloc.specs.GuestView.{Metadata, IsSound, GuestUnchanged, PreservesGuest, counted, in_memory, metadata_in, one_at}
use Rattle.qcow2_alloc.proofs.Causes.{Implies, cause-weaker}
use Rattle.qcow2_alloc.proofs.Blocks.TableBlocks.{named-block}
use Rattle.qcow2_alloc.proofs.Memory.CounterChanges.{cached-count, counter-lowered}
use Rattle.qcow2_alloc.proofs.GuestView.QuietCounters.{free-quiet, here-one, waiting-covered, metadata-covered}
use Rattle.qcow2_alloc.proofs.GuestView.QuietSequences.{quietly-then}
use Rattle.qcow2_alloc.proofs.Caching.EntryUses.{block-used}
use Rattle.qcow2_alloc.proofs.Caching.Places.{slot-of}
use Rattle.qcow2_alloc.proofs.Memory.SafeLaws.{safe-reach}
use Rattle.qcow2_alloc.proofs.Caching.SearchOutcomes.{all-at}
use Rattle.qcow2_alloc.proofs.Memory.Patches.{shaped-in}
use Rattle.qcow2_alloc.specs.WellFormedness.{IsCachedBlock}
use Rattle.qcow2_types.proofs.Counting.Counters.{some-counters}
use Rattle.qcow2_alloc.proofs.Blocks.ClusterBlocks.{counted-block}
use Rattle.qcow2_alloc.proofs.Caching.UnpinnedCaches.{KeepsPins, named-keeps}
use Rattle.qcow2_alloc.proofs.Caching.Pins.{full-pinned}
use Rattle.qcow2_alloc.proofs.GuestView.QuietFlushes.{quiet-none, used-quiet, flushes-quietly, quietly-weaker, memory-quietly}

pub named-there : (m : Metadata) (i key : ℕ) → IsSound m → referenced_block m.table i ≡ Some key → (block_at m.file m.header.fields i ≡ key * cluster_size m.header.fields) × (key ≢ 0)
named-there m i key sound is = let named = named-block m.file m.header m.table i sound.table key sound.well_formed.consistent is in (named.place, named.some)

module _ {S : Type 0} (state : S → StorageState) (table : TableValue) where
  abbrev At : MetadataCaches S → ImageFile S → List FreeEntry → Metadata
  At caches file pending = metadata_of state file caches table pending

  abbrev has_no_dirty_data : ℕ → ℕ
  has_no_dirty_data c = 0

  -- Searching for a block preserves the guest.
  pub search-calmly : (key : ℕ) (pending : List FreeEntry) (old : MetadataCaches S) (before : ImageFile S) (answer : Result Unit Fault) (mid : MetadataCaches S) (after : ImageFile S) → BlockFound state key old before answer mid after
      → PreservesGuest (NoErrorOrNoChangeRefused answer (state before.image) (state after.image)) has_no_dirty_data has_no_dirty_data (state before.image) (At old before pending) (state after.image) (At mid after pending)
  search-calmly key pending old before answer mid after found =
      let m = At old before pending in
      let guest_unchanged = flushes-quietly m (HadNoResourceError answer) (state before.image) (state after.image) (cached_in mid) refl found.writes_back_cached in
      subst (λ (h : Header). PreservesGuest (NoErrorOrNoChangeRefused answer (state before.image) (state after.image)) has_no_dirty_data has_no_dirty_data (state before.image) m (state after.image) (record m { file = bytes_of (state after.image).bytes; cached = cached_in mid; header = h; order = order_of mid })) (sym found.others.1)
      (subst (λ (o : CacheDependency). PreservesGuest (NoErrorOrNoChangeRefused answer (state before.image) (state after.image)) has_no_dirty_data has_no_dirty_data (state before.image) m (state after.image) (record m { file = bytes_of (state after.image).bytes; cached = cached_in mid; order = o })) (sym found.others.0) guest_unchanged)

  pub search-quietly : (key : ℕ) (pending : List FreeEntry) (old : MetadataCaches S) (before : ImageFile S) (answer : Result Unit Fault) (mid : MetadataCaches S) (after : ImageFile S) → BlockFound state key old before answer mid after
      → PreservesGuest (HadNoResourceError answer) has_no_dirty_data has_no_dirty_data (state before.image) (At old before pending) (state after.image) (At mid after pending)
  search-quietly key pending old before answer mid after found =
      quietly-weaker _ (HadNoResourceError answer) has_no_dirty_data has_no_dirty_data (state before.image) (At old before pending) (state after.image) (At mid after pending) (λ sound whole. inl whole) (search-calmly key pending old before answer mid after found)

  module _ (c : ℕ) (pending pending' : List FreeEntry) where
    -- The free list after the call.
    abbrev pub left : Result Unit Fault → List FreeEntry
    left (Ok done) = pending'
    left (Err fault) = pending

    -- The free list loses one occurrence of the cluster.
    pub record LosesOne (old : MetadataCaches S) : Type 0 where
      pub one : (d : ℕ) → listed pending' d + one_at c d ≡ listed pending d
      pub metadata : (d : ℕ) → listed (metadata_in pending') d ≤ listed (metadata_in pending) d
      pub may : (order_of old ≡ RbDependsOnL2) ⊎ (0 < listed (metadata_in pending) c)

    module _ (key : ℕ) (mid : MetadataCaches S) (after : ImageFile S) (loses : LosesOne mid) (named : referenced_block table (c / counters_of_block after.header.fields) ≡ Some key)
        (block : Block) (there : option_map (λ (s : Slot Block). s.value) (lookup (nat_eq key) (cached_in mid).blocks) ≡ Some block) where
      abbrev Was : Metadata
      Was = At mid after pending

      abbrev index : ℕ
      index = c % counters_of_block after.header.fields

      caches-it : IsSound Was → CachesBlock Was.file Was.header.fields Was.cached key c block
      caches-it sound = let place = named-there Was (c / counters_of_block after.header.fields) key sound named in record { block_cached = there; counts = place.0; cluster_nonzero = place.1 }

      pub counter-is : IsSound Was → counted Was c ≡ slice_index block.counters index
      counter-is sound = cached-count Was.file Was.header Was.cached Was.order key c block sound.well_formed (caches-it sound)

      abbrev Result' : Result Unit Fault → Block → Type 0
      Result' result block' = IsSound (At (with_blocks mid (hit (nat_eq key) (cached_in mid).blocks block')) after (left result)) × GuestUnchanged has_no_dirty_data has_no_dirty_data Was (At (with_blocks mid (hit (nat_eq key) (cached_in mid).blocks block')) after (left result))

      refused : (fault : Fault) → IsSound Was → Result' (Err fault) block
      refused fault sound = used-quiet Was (record (cached_in mid) { blocks = hit (nat_eq key) (cached_in mid).blocks block }) sound (block-used Was.file Was.header Was.cached Was.order key sound.well_formed block there)

      lowered : IsSound Was → 0 < slice_index block.counters index → Result' (Ok tt) (with_counter block index (slice_index block.counters index - 1))
      lowered sound some =
          let is = counter-is sound in
          free-quiet Was key c (slice_index block.counters index - 1) (record (cached_in mid) { blocks = hit (nat_eq key) (cached_in mid).blocks (with_counter block index (slice_index block.counters index - 1)) }) pending' sound loses.may
          (record { block = block; caches = caches-it sound; blocks = refl; tables = refl }) (is ∙ omega (arith, some)) loses.one loses.metadata

      -- The block is found. Its counter is decremented, or that fails.
      pub lower-quietly : (ok : Type 0) (result : Result Unit Fault) (block' : Block) → DecrementsCounter index block result block'
          → PreservesGuest ok has_no_dirty_data has_no_dirty_data (state after.image) Was (state after.image) (At (with_blocks mid (hit (nat_eq key) (cached_in mid).blocks block')) after (left result))
      lower-quietly ok result block' lowers = memory-quietly ok has_no_dirty_data has_no_dirty_data (state after.image) Was _ (λ sound whole. elim (cases_lt index (length block.counters)) [
        | inr past ↦ let out = lowers.out past in so (Err DamagedTable) block out.0 out.1 (refused DamagedTable sound)
        | inl inside ↦ elim (cases_eq (slice_index block.counters index) 0) [
          | inl none ↦ let out = lowers.none inside none in so (Err Counter) block out.0 out.1 (refused Counter sound)
          | inr some ↦ let done = lowers.if_counted inside (omega (arith, some)) in so (Ok tt) (with_counter block index (slice_index block.counters index - 1)) done.0 done.1 (lowered sound (omega (arith, some)))
        ]
      ])
        where
          so : (r : Result Unit Fault) (b : Block) → result ≡ r → block' ≡ b → Result' r b → Result' result block'
          so r b is same given = subst (λ (q : Result Unit Fault). Result' q block') (sym is) (subst (λ (d : Block). Result' r d) (sym same) given)

      covers : IsSound Was → (n : ℕ) → counted Was c ≡ n + 1 → IsStillCovered Was.order Was.file (in_memory Was) Was.header.fields c n
      covers sound n more =
          let own = loses.one c in
          let one = here-one c in
          elim loses.may [ inl order ↦ waiting-covered Was c n sound order (omega (arith, own, one)) more | inr some ↦ metadata-covered Was c n sound some ]

      pub others-counted : IsSound Was → (result : Result Unit Fault) (block' : Block) → DecrementsCounter index block result block' → (d : ℕ) → d ≢ c → counted (At (with_blocks mid (hit (nat_eq key) (cached_in mid).blocks block')) after (left result)) d ≡ counted Was d
      others-counted sound result block' lowers d away = elim (cases_lt index (length block.counters)) [
        | inr past ↦ same-counted (lowers.out past).1
        | inl inside ↦ elim (cases_eq (slice_index block.counters index) 0) [
          | inl none ↦ same-counted (lowers.none inside none).1
          | inr some ↦
              let n = slice_index block.counters index - 1 in
              let done = lowers.if_counted inside (omega (arith, some)) in
              let more : counted Was c ≡ n + 1 = counter-is sound ∙ omega (arith, some) in
              let changed = counter-lowered Was.file Was.header Was.cached (record (cached_in mid) { blocks = hit (nat_eq key) (cached_in mid).blocks (with_counter block index n) }) Was.order key c n sound.well_formed
              (record { block = block; caches = caches-it sound; blocks = refl; tables = refl }) more (covers sound n more) in
              subst (λ (b : Block). count (memory Was.file Was.header.fields (record (cached_in mid) { blocks = hit (nat_eq key) (cached_in mid).blocks b })) Was.header.fields d ≡ counted Was d) (sym done.1) (changed.written.others d away)
        ]
      ]
        where
          same-counted : block' ≡ block → counted (At (with_blocks mid (hit (nat_eq key) (cached_in mid).blocks block')) after (left result)) d ≡ counted Was d
          same-counted same = subst (λ (b : Block). count (memory Was.file Was.header.fields (record (cached_in mid) { blocks = hit (nat_eq key) (cached_in mid).blocks b })) Was.header.fields d ≡ counted Was d) (sym same)
              (ap (λ g. count g Was.header.fields d) (block-used Was.file Was.header Was.cached Was.order key sound.well_formed block there).memory_same)

      pub counter-there : IsSound Was → (0 < listed pending c) → (index < length block.counters) × (0 < slice_index block.counters index)
      counter-there sound waits =
          let was = sound.covered c in
          let is = counter-is sound in
          let found = slot-of (lookup (nat_eq key) (cached_in mid).blocks) block there in
          let fits : IsCachedBlock Was.file Was.header.fields key found.0.value = all-at (λ (e : ℕ × Slot Block). IsCachedBlock Was.file Was.header.fields e.0 e.1.value) key (cached_in mid).blocks found.0 found.1 sound.well_formed.blocks in
          let long : length block.counters ≡ counters_of_block Was.header.fields = ap (λ (b : Block). length b.counters) (sym found.2) ∙ fits.long in
          (rw long (mod_below c (counters_of_block Was.header.fields) (some-counters Was.header.fields (shaped-in Was.file Was.header sound.well_formed.consistent))), omega (arith, was, is, waits))

    -- The block is searched for, and its counter decremented. Either may fail.
    module _ (old : MetadataCaches S) (before : ImageFile S) (result : Result Unit Fault) (new : MetadataCaches S) (after : ImageFile S) (loses : LosesOne old) where
      abbrev Old : Metadata
      Old = At old before pending

      abbrev New : Metadata
      New = At new after (left result)

      abbrev Done : Type 0
      Done = NoErrorOrNoChangeRefused result (state before.image) (state after.image)

      loses-still : (mid : MetadataCaches S) → mid.order ≡ old.order → LosesOne mid
      loses-still mid same = record { one = loses.one; metadata = loses.metadata; may = elim loses.may [ inl order ↦ inl (same ∙ order) | inr some ↦ inr some ] }

      named-still : (key : ℕ) → referenced_block table (c / counters_of_block before.header.fields) ≡ Some key → after.header ≡ before.header → referenced_block table (c / counters_of_block after.header.fields) ≡ Some key
      named-still key named same = subst (λ (h : Header). referenced_block table (c / counters_of_block h.fields) ≡ Some key) (sym same) named

      used-quietly : (key : ℕ) → referenced_block table (c / counters_of_block before.header.fields) ≡ Some key → BlockUsed state key (DecrementsCounter (c % counters_of_block before.header.fields)) (cached_file old before) result (cached_file new after)
          → PreservesGuest Done has_no_dirty_data has_no_dirty_data (state before.image) Old (state after.image) New
      used-quietly key named u =
          let header = u.found.others.1 in
          let lowers : DecrementsCounter (c % counters_of_block after.header.fields) u.value result u.value' = subst (λ (h : Header). DecrementsCounter (c % counters_of_block h.fields) u.value result u.value') (sym header) u.used in
          subst (λ (m : MetadataCaches S). PreservesGuest Done has_no_dirty_data has_no_dirty_data (state before.image) Old (state after.image) (At m after (left result))) (sym u.left)
          (quietly-then ⊤ Done has_no_dirty_data has_no_dirty_data has_no_dirty_data has_no_dirty_data (state before.image) Old (state after.image) (At u.mid after pending) (state after.image) _ tt (λ sound d some. refl)
          (search-quietly key pending old before (Ok tt) u.mid after u.found)
          (lower-quietly key u.mid after (loses-still u.mid u.found.others.0) (named-still key named header) u.value u.value_cached Done result u.value' lowers))

      uses-quietly : (key : ℕ) → referenced_block table (c / counters_of_block before.header.fields) ≡ Some key → UsesBlock state key (DecrementsCounter (c % counters_of_block before.header.fields)) (cached_file old before) result (cached_file new after)
          → PreservesGuest Done has_no_dirty_data has_no_dirty_data (state before.image) Old (state after.image) New
      uses-quietly key named (inl (fault, is, found)) =
          subst (λ (q : Result Unit Fault). PreservesGuest (NoErrorOrNoChangeRefused q (state before.image) (state after.image)) has_no_dirty_data has_no_dirty_data (state before.image) Old (state after.image) (At new after (left q))) (sym is) (search-calmly key pending old before (Err fault) new after found)
      uses-quietly key named (inr u) = used-quietly key named u

      abbrev Nothing : Type 0
      Nothing = (result ≡ Err DamagedTable) × (new ≡ old) × (after ≡ before)

      stays-quietly : Nothing → PreservesGuest Done has_no_dirty_data has_no_dirty_data (state before.image) Old (state after.image) New
      stays-quietly (is, same, same') =
          subst (λ (q : Result Unit Fault). PreservesGuest Done has_no_dirty_data has_no_dirty_data (state before.image) Old (state after.image) (At new after (left q))) (sym is)
          (subst (λ (m : MetadataCaches S). PreservesGuest Done has_no_dirty_data has_no_dirty_data (state before.image) Old (state after.image) (At m after pending)) (sym same)
          (subst (λ (f : ImageFile S). PreservesGuest Done has_no_dirty_data has_no_dirty_data (state before.image) Old (state f.image) (At old f pending)) (sym same')
          (memory-quietly Done has_no_dirty_data has_no_dirty_data (state before.image) Old Old (λ sound whole. (sound, quiet-none Old sound)))))

      pub cluster-freed : DecrementsCluster state table c (cached_file old before) result (cached_file new after) → PreservesGuest Done has_no_dirty_data has_no_dirty_data (state before.image) Old (state after.image) New
      cluster-freed = by-name (referenced_block table (c / counters_of_block before.header.fields)) refl
        where
          by-name : (o : Option ℕ) → referenced_block table (c / counters_of_block before.header.fields) ≡ o → MatchOption o Nothing (λ key. UsesBlock state key (DecrementsCounter (c % counters_of_block before.header.fields)) (cached_file old before) result (cached_file new after))
              → PreservesGuest Done has_no_dirty_data has_no_dirty_data (state before.image) Old (state after.image) New
          by-name None named nothing = stays-quietly nothing
          by-name (Some key) named uses = uses-quietly key named uses

      abbrev Holds : Type 0
      Holds = IsTrue (state before.image).shape.keeps × IsSound Old

      -- The causes of a failure, if the cluster is on the list.
      abbrev Counts : Result Unit Fault → Type 0
      Counts q = FailsFor (freeing_causes Holds (HasUnpinnedSlot old) (state before.image).faults (state after.image).faults) q

      search-frees : (key : ℕ) → referenced_block table (c / counters_of_block before.header.fields) ≡ Some key → 0 < listed pending c
          → Implies (search_causes (IsAddressable before.header.fields.cluster_bits key × AreBlocksAddressable (cached_in old) × AreTablesAddressable (cached_in old)) (IsPinnedFull old.rb.slots.cap (cached_in old).blocks) (state before.image).faults (state after.image).faults)
          (freeing_causes Holds (HasUnpinnedSlot old) (state before.image).faults (state after.image).faults)
      search-frees key named waits = record {
        before = omega arith;
        after = omega arith;
        damaged = λ wrong holds.
            let was = holds.1.covered c in
            let there = counted-block Old holds.1 c (omega (arith, was, waits)) in
            let same : there.key ≡ key = (let e = sym there.names ∙ named in cc) in
            let reach = safe-reach Old.file Old.header Old.cached Old.order holds.1.well_formed in
            wrong (subst (λ n. IsAddressable before.header.fields.cluster_bits n) same there.reach, reach.1, reach.0);
        counter = absurd;
        full = λ all spare. let full = full-pinned (cached_in old).blocks all in omega (arith, full, spare);
        limit = λ number. absurd;
      }

      used-caused : (key : ℕ) → referenced_block table (c / counters_of_block before.header.fields) ≡ Some key → BlockUsed state key (DecrementsCounter (c % counters_of_block before.header.fields)) (cached_file old before) result (cached_file new after) → 0 < listed pending c → Counts result
      used-caused key named u waits =
          let header = u.found.others.1 in
          let lowers : DecrementsCounter (c % counters_of_block after.header.fields) u.value result u.value' = subst (λ (h : Header). DecrementsCounter (c % counters_of_block h.fields) u.value result u.value') (sym header) u.used in
          let there : Holds → (c % counters_of_block after.header.fields < length u.value.counters) × (0 < slice_index u.value.counters (c % counters_of_block after.header.fields)) = λ holds.
          counter-there key u.mid after (loses-still u.mid u.found.others.0) (named-still key named header) u.value u.value_cached ((search-quietly key pending old before (Ok tt) u.mid after u.found).holds holds.0 holds.1 tt).0 waits in
          elim (cases_lt (c % counters_of_block after.header.fields) (length u.value.counters)) [
            | inr past ↦ subst (λ (q : Result Unit Fault). Counts q) (sym (lowers.out past).0) (λ holds. let inside = (there holds).0 in omega (arith, past, inside))
            | inl inside ↦ elim (cases_eq (slice_index u.value.counters (c % counters_of_block after.header.fields)) 0) [
              | inl none ↦ subst (λ (q : Result Unit Fault). Counts q) (sym (lowers.none inside none).0) (λ holds. let some = (there holds).1 in omega (arith, none, some))
              | inr some ↦ subst (λ (q : Result Unit Fault). Counts q) (sym (lowers.if_counted inside (omega (arith, some))).0) u.found.cause
            ]
          ]

      pub freeing-caused : DecrementsCluster state table c (cached_file old before) result (cached_file new after) → 0 < listed pending c → Counts result
      freeing-caused = by-name (referenced_block table (c / counters_of_block before.header.fields)) refl
        where
          by-uses : (key : ℕ) → referenced_block table (c / counters_of_block before.header.fields) ≡ Some key → UsesBlock state key (DecrementsCounter (c % counters_of_block before.header.fields)) (cached_file old before) result (cached_file new after) → 0 < listed pending c → Counts result
          by-uses key named (inl (fault, is, found)) waits = subst (λ (q : Result Unit Fault). Counts q) (sym is) (cause-weaker (search-frees key named waits) fault found.cause)
          by-uses key named (inr u) waits = used-caused key named u waits

          by-name : (o : Option ℕ) → referenced_block table (c / counters_of_block before.header.fields) ≡ o → MatchOption o Nothing (λ key. UsesBlock state key (DecrementsCounter (c % counters_of_block before.header.fields)) (cached_file old before) result (cached_file new after)) → 0 < listed pending c → Counts result
          by-name None named nothing waits = subst (λ (q : Result Unit Fault). Counts q) (sym nothing.0) (λ holds.
              let was = holds.1.covered c in
              let there = counted-block Old holds.1 c (omega (arith, was, waits)) in
              let no : None ≡ Some there.key = sym named ∙ there.names in cc)
          by-name (Some key) named uses waits = by-uses key named uses waits

      pub counts-stay : DecrementsCluster state table c (cached_file old before) result (cached_file new after) → Holds → Done → (d : ℕ) → d ≢ c → counted New d ≡ counted Old d
      counts-stay = by-name (referenced_block table (c / counters_of_block before.header.fields)) refl
        where
          in-mid : (key : ℕ) (answer : Result Unit Fault) (mid : MetadataCaches S) → BlockFound state key old before answer mid after → Holds → NoErrorOrNoChangeRefused answer (state before.image) (state after.image) → (d : ℕ) → counted (At mid after pending) d ≡ counted Old d
          in-mid key answer mid found holds why d =
              let settled = found.writes_back_cached.holds holds.0 holds.1.well_formed tt why in
              subst (λ (h : Header). count (memory (bytes_of (state after.image).bytes) h.fields (cached_in mid)) h.fields d ≡ counted Old d) (sym found.others.1) (ap (λ g. count g before.header.fields d) settled.memory_same)

          by-used : (key : ℕ) → referenced_block table (c / counters_of_block before.header.fields) ≡ Some key → BlockUsed state key (DecrementsCounter (c % counters_of_block before.header.fields)) (cached_file old before) result (cached_file new after) → Holds → (d : ℕ) → d ≢ c → counted New d ≡ counted Old d
          by-used key named u holds d away =
              let header = u.found.others.1 in
              let lowers : DecrementsCounter (c % counters_of_block after.header.fields) u.value result u.value' = subst (λ (h : Header). DecrementsCounter (c % counters_of_block h.fields) u.value result u.value') (sym header) u.used in
              subst (λ (m : MetadataCaches S). counted (At m after (left result)) d ≡ counted Old d) (sym u.left)
              (others-counted key u.mid after (loses-still u.mid u.found.others.0) (named-still key named header) u.value u.value_cached ((search-quietly key pending old before (Ok tt) u.mid after u.found).holds holds.0 holds.1 tt).0 result u.value' lowers d away
              ∙ in-mid key (Ok tt) u.mid u.found holds (inl tt) d)

          by-uses : (key : ℕ) → referenced_block table (c / counters_of_block before.header.fields) ≡ Some key → UsesBlock state key (DecrementsCounter (c % counters_of_block before.header.fields)) (cached_file old before) result (cached_file new after) → Holds → Done → (d : ℕ) → d ≢ c → counted New d ≡ counted Old d
          by-uses key named (inl (fault, is, found)) holds why d away = in-mid key (Err fault) new found holds (subst (λ (q : Result Unit Fault). NoErrorOrNoChangeRefused q (state before.image) (state after.image)) is why) d
          by-uses key named (inr u) holds why d away = by-used key named u holds d away

          by-name : (o : Option ℕ) → referenced_block table (c / counters_of_block before.header.fields) ≡ o → MatchOption o Nothing (λ key. UsesBlock state key (DecrementsCounter (c % counters_of_block before.header.fields)) (cached_file old before) result (cached_file new after))
              → Holds → Done → (d : ℕ) → d ≢ c → counted New d ≡ counted Old d
          by-name None named (is, same, same') holds why d away =
              subst (λ (m : MetadataCaches S). counted (At m after (left result)) d ≡ counted Old d) (sym same) (subst (λ (f : ImageFile S). counted (At old f (left result)) d ≡ counted Old d) (sym same') refl)
          by-name (Some key) named uses holds why d away = by-uses key named uses holds why d away

      pub freeing-stays : DecrementsCluster state table c (cached_file old before) result (cached_file new after) → KeepsPins old before new after
      freeing-stays = named-keeps state (referenced_block table (c / counters_of_block before.header.fields)) (DecrementsCounter (c % counters_of_block before.header.fields)) (result ≡ Err DamagedTable) old before result new after
