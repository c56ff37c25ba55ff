-- Sequences of searches, which load blocks and change nothing else.
use Rattle.std.proofs.Common.{◌≡◌, ◌≢◌, ℕ, ◌+◌, ◌*◌, ◌/◌, ◌%◌, ◌<◌, ◌≤◌, refl, arith, ap, sym, subst, ◌∙◌, List, length, Some, Result, Ok, Err, inl, inr, Bool, true, false}
use Rattle.std.specs.Prelude.{⊤, IfOk, MatchResult, nat_eq, slice_index}
use Rattle.std.specs.Option.{option_map}
use Rattle.std.specs.Map.{lookup}
use Rattle.std.proofs.lemmas.Bool.{cases_eq}
use Rattle.std.proofs.lemmas.Nat.{div-mul-add, mod-mul-add}
use Rattle.imago_storage.specs.State.{StorageState}
use Rattle.imago_storage.specs.Calls.{UnchangedButFaults}
use Rattle.imago_storage.specs.declared.fault.Fault.{Fault}
use Rattle.imago_storage.specs.declared.fault.Fault.TheVariants.{DamagedTable}
use Rattle.imago_storage.proofs.Composing.{keeps_on, no_stops, later_same}
use Rattle.qcow2_types.specs.Bytes.{Bytes, bytes_of}
use Rattle.qcow2_types.specs.Header.{Header}
use Rattle.qcow2_types.specs.Counts.{block_at, count, counters_of_block}
use Rattle.qcow2_types.proofs.Counting.Leaks.{count-no-block, count-past}
use Rattle.qcow2_metadata.specs.Places.{IsAddressable}
use Rattle.qcow2_metadata.specs.Tables.{TableValue}
use Rattle.qcow2_metadata.specs.Blocks.{Block}
use Rattle.qcow2_alloc.specs.declared.async_lru_cache.Slot.{Slot}
use Rattle.qcow2_alloc.specs.declared.cache.CacheDependency.{CacheDependency}
use Rattle.qcow2_alloc.specs.declared.cache.MetadataCaches.{MetadataCaches}
use Rattle.qcow2_alloc.specs.declared.file.ImageFile.{ImageFile}
use Rattle.qcow2_alloc.specs.Allocators.{referenced_block, UsesBlock, BlockUsed}
use Rattle.qcow2_alloc.specs.Cache.{hit}
use Rattle.qcow2_alloc.specs.Caches.{cached_in, order_of, cached_file}
use Rattle.qcow2_alloc.specs.CachesLending.{with_blocks}
use Rattle.qcow2_alloc.specs.Changes.{CachesBlock, StaysAsItIs}
use Rattle.qcow2_alloc.specs.Finding.{BlockFound, IsPinnedFull, search_causes}
use Rattle.qcow2_alloc.specs.Freeing.{HasUnpinnedRoom, freeing_causes}
use Rattle.qcow2_alloc.specs.Going.{WritesBackCached, Always, HadNoResourceError, AreTablesAddressable, AreBlocksAddressable}
use Rattle.qcow2_alloc.specs.Memory.{Cached, memory}
use Rattle.qcow2_alloc.specs.GuestView.{IsTableOf}
use Rattle.qcow2_alloc.specs.WellFormedness.{WellFormed, IsSettled, IsCachedBlock}
use Rattle.qcow2_alloc.specs.Scanning.{Reads, AreCounted}
use Rattle.qcow2_alloc.specs.SearchingClusters.{counts_in, IsSafeWith, KeepsClean, Looked}
use Rattle.qcow2_alloc.proofs.Caching.UnpinnedCaches.{loose-on, loose-never}
use Rattle.qcow2_alloc.proofs.Caching.Pins.{pins-hit}
use Rattle.qcow2_alloc.proofs.Causes.{cause-weaker, Implies, fails-weaker}
use Rattle.qcow2_alloc.proofs.Flushing.WriteSequences.{going-none, going-both, going-weaker, kept-same, left-same}
use Rattle.qcow2_alloc.proofs.Freeing.EntryFrees.{freeing-weaker}
use Rattle.qcow2_alloc.proofs.Memory.CounterChanges.{cached-count}
use Rattle.qcow2_alloc.proofs.Memory.MemoryWords.{places-in-memory}
use Rattle.qcow2_alloc.proofs.Blocks.TableBlocks.{IsNamed, named-block}
use Rattle.qcow2_alloc.proofs.Caching.Places.{slot-of}
use Rattle.qcow2_alloc.proofs.GuestView.QuietFlushes.{still-table}
use Rattle.qcow2_alloc.proofs.Memory.SafeLaws.{safe-reach}
use Rattle.qcow2_alloc.proofs.Caching.SearchOutcomes.{all-at}
use Rattle.qcow2_alloc.proofs.Caching.EntryUses.{all-hit, block-used}

-- A use of the caches makes no request.
going-used : (H : Header) (order : CacheDependency) (s : StorageState) (cached cached' : Cached) → (WellFormed (bytes_of s.bytes) H cached order → StaysAsItIs (bytes_of s.bytes) H cached order cached') → WritesBackCached H order Always ⊤ s cached s cached'
going-used H order s cached cached' stays = record {
  shape = refl;
  counts_not_fallen = later_same s;
  faults = λ done. (refl, refl);
  ready = λ r. r;
  passes = λ keeps well_formed ready no_change_refused. (λ same. same, no_stops _ s s refl refl);
  holds = λ keeps well_formed ready why. let stay = stays well_formed in
      record { well_formed = stay.well_formed; memory_same = stay.memory_same; left = left-same (bytes_of s.bytes) (memory (bytes_of s.bytes) H.fields cached) H well_formed.consistent };
}

pub kept-then : (a b c : StorageState) → UnchangedButFaults a b → UnchangedButFaults b c → UnchangedButFaults a c
kept-then a b c first second = record {
  shape = second.shape ∙ first.shape;
  bytes = second.bytes ∙ first.bytes;
  refusals = second.refusals ∙ first.refusals;
  crash_image = second.crash_image ∙ first.crash_image;
  past_crash_images = second.past_crash_images ∙ first.past_crash_images;
}

module _ {S : Type 0} (state : S → StorageState) where
  -- `KeepsClean` for no call, and for two calls.
  pub clean-none : (caches : MetadataCaches S) (file : ImageFile S) → KeepsClean state (cached_file caches file) (cached_file caches file)
  clean-none caches file tables blocks = record { unchanged_but_faults = kept-same (state file.image); tables = tables; blocks = blocks }

  pub clean-then : (old : MetadataCaches S) (before : ImageFile S) (mid : MetadataCaches S) (between : ImageFile S) (new : MetadataCaches S) (after : ImageFile S)
      → KeepsClean state (cached_file old before) (cached_file mid between) → KeepsClean state (cached_file mid between) (cached_file new after) → KeepsClean state (cached_file old before) (cached_file new after)
  clean-then old before mid between new after first second tables blocks =
      let one = first tables blocks in
      let two = second one.tables one.blocks in
      record { unchanged_but_faults = kept-then (state before.image) (state between.image) (state after.image) one.unchanged_but_faults two.unchanged_but_faults; tables = two.tables; blocks = two.blocks }

module _ {S : Type 0} (state : S → StorageState) (table : TableValue) where
  -- No search was made yet.
  pub looked-none : {T : Type 0} (v : T) (caches : MetadataCaches S) (file : ImageFile S) → Looked state table (cached_file caches file) (Ok v) (cached_file caches file)
  looked-none v caches file = record {
    writes_back_cached = going-none file.header (order_of caches) Always ⊤ (state file.image) (cached_in caches);
    order = refl;
    header = refl;
    keeps_unpinned_room = λ any loose. loose;
    room = record { tables = refl; blocks = refl; entries = refl };
    clean = clean-none state caches file;
    cause = refl;
  }

  -- `Looked` doesn't depend on the returned value.
  pub looked-answer : {T U : Type 0} (old : MetadataCaches S) (before : ImageFile S) (v : T) (w : U) (new : MetadataCaches S) (after : ImageFile S) → Looked state table (cached_file old before) (Ok v) (cached_file new after) → Looked state table (cached_file old before) (Ok w) (cached_file new after)
  looked-answer old before v w new after looked = record { writes_back_cached = looked.writes_back_cached; order = looked.order; header = looked.header; keeps_unpinned_room = looked.keeps_unpinned_room; room = looked.room; clean = looked.clean; cause = looked.cause }

  pub looked-refused : {T U : Type 0} (old : MetadataCaches S) (before : ImageFile S) (fault : Fault) (new : MetadataCaches S) (after : ImageFile S) → Looked state {T = T} table (cached_file old before) (Err fault) (cached_file new after) → Looked state {T = U} table (cached_file old before) (Err fault) (cached_file new after)
  looked-refused old before fault new after looked = record { writes_back_cached = looked.writes_back_cached; order = looked.order; header = looked.header; keeps_unpinned_room = looked.keeps_unpinned_room; room = looked.room; clean = looked.clean; cause = looked.cause }

  module _ {T : Type 0} (old : MetadataCaches S) (before : ImageFile S) (v : T) (new : MetadataCaches S) (after : ImageFile S) (looked : Looked state table (cached_file old before) (Ok v) (cached_file new after)) (sound : IsSafeWith state table old before) where
    settled : IsSettled before.header (order_of old) (state before.image).bytes (cached_in old) (state after.image).bytes (cached_in new)
    settled = looked.writes_back_cached.holds sound.keeps sound.well_formed tt (inl tt)

    -- `IsSafeWith` still holds after a search.
    pub safe-still : IsSafeWith state table new after
    safe-still =
        let x = bytes_of (state after.image).bytes in record {
          keeps = keeps_on (state before.image) (state after.image) looked.writes_back_cached.shape sound.keeps;
          well_formed = subst (λ (h : Header). WellFormed x h (cached_in new) (order_of new)) (sym looked.header) (subst (λ (o : CacheDependency). WellFormed x before.header (cached_in new) o) (sym looked.order) settled.well_formed);
          table_of_file = subst (λ (h : Header). IsTableOf x h.fields table) (sym looked.header) (still-table (bytes_of (state before.image).bytes) x before.header.fields table settled.left.raw_entries.places.blocks sound.table_of_file);
        }

    -- Refcounts are unchanged.
    pub counts-still : (c : ℕ) → counts_in state new after c ≡ counts_in state old before c
    counts-still c =
        subst (λ (h : Header). count (memory (bytes_of (state after.image).bytes) h.fields (cached_in new)) h.fields c ≡ counts_in state old before c) (sym looked.header)
        (ap (λ (g : Bytes). count g before.header.fields c) settled.memory_same)

    -- Blocks are at the same offsets.
    pub blocks-still : (i : ℕ) → block_at (bytes_of (state after.image).bytes) before.header.fields i ≡ block_at (bytes_of (state before.image).bytes) before.header.fields i
    blocks-still i = settled.left.raw_entries.places.blocks i

  module _ {T U : Type 0} (old : MetadataCaches S) (before : ImageFile S) (v : T) (mid : MetadataCaches S) (between : ImageFile S) (result : Result U Fault) (new : MetadataCaches S) (after : ImageFile S)
      (first : Looked state table (cached_file old before) (Ok v) (cached_file mid between)) (second : Looked state table (cached_file mid between) result (cached_file new after)) where
    abbrev Goes : Header → CacheDependency → Type 0
    Goes h o = WritesBackCached h o Always (HadNoResourceError result) (state between.image) (cached_in mid) (state after.image) (cached_in new)

    -- A second search follows.
    pub looked-then : Looked state table (cached_file old before) result (cached_file new after)
    looked-then =
        let going : Goes before.header (order_of old) = subst (λ (h : Header). Goes h (order_of old)) first.header (subst (λ (o : CacheDependency). Goes between.header o) first.order second.writes_back_cached) in record {
          writes_back_cached = going-weaker before.header (order_of old) Always (⊤ × HadNoResourceError result) (HadNoResourceError result) (state before.image) (state after.image) (cached_in old) (cached_in new) (λ whole. (tt, whole))
              (going-both before.header (order_of old) Always ⊤ (HadNoResourceError result) (state before.image) (state between.image) (state after.image) (cached_in old) (cached_in mid) (cached_in new) first.writes_back_cached going);
          order = second.order ∙ first.order;
          header = second.header ∙ first.header;
          keeps_unpinned_room = λ any loose. second.keeps_unpinned_room any (first.keeps_unpinned_room any loose);
          room = record { tables = second.room.tables ∙ first.room.tables; blocks = second.room.blocks ∙ first.room.blocks; entries = second.room.entries ∙ first.room.entries };
          clean = clean-then state old before mid between new after first.clean second.clean;
          cause = fails-weaker _ _ (freeing-weaker (safe-still old before v mid between first) (first.keeps_unpinned_room true) first.cause) (λ same. same ∙ first.cause) result second.cause;
        }

  -- Searching for a block that the refcount table references.
  module _ (key i : ℕ) (named : referenced_block table i ≡ Some key) (old : MetadataCaches S) (before : ImageFile S) (new : MetadataCaches S) (after : ImageFile S) where
    named-there : IsSafeWith state table old before → IsNamed (bytes_of (state before.image).bytes) before.header i key
    named-there sound = named-block (bytes_of (state before.image).bytes) before.header table i sound.table_of_file key sound.well_formed.consistent named

    search-frees : Implies (search_causes (IsAddressable before.header.fields.cluster_bits key × AreBlocksAddressable (cached_in old) × AreTablesAddressable (cached_in old)) (IsPinnedFull old.rb.slots.cap (cached_in old).blocks) (state before.image).faults (state after.image).faults)
        (freeing_causes (IsSafeWith state table old before) (HasUnpinnedRoom table old true) (state before.image).faults (state after.image).faults)
    search-frees = record {
      before = omega arith;
      after = omega arith;
      damaged = λ wrong sound.
          let reach = safe-reach (bytes_of (state before.image).bytes) before.header (cached_in old) (order_of old) sound.well_formed in
          wrong ((named-there sound).reach, reach.1, reach.0);
      counter = absurd;
      full = λ full loose. loose-never table old true loose full;
      limit = λ number. absurd;
    }

    clean-found : (answer : Result Unit Fault) → BlockFound state key old before answer new after → KeepsClean state (cached_file old before) (cached_file new after)
    clean-found answer found tables blocks = let has_no_dirty_data = found.has_no_dirty_data blocks tables in record { unchanged_but_faults = has_no_dirty_data.0; tables = has_no_dirty_data.2; blocks = has_no_dirty_data.1 }

    loose-found : (answer : Result Unit Fault) → BlockFound state key old before answer new after → (any : Bool) → HasUnpinnedRoom table old any → HasUnpinnedRoom table new any
    loose-found answer found = loose-on table old new found.sought.pinned found.room.0

    found-refused : {T : Type 0} (fault : Fault) → BlockFound state key old before (Err fault) new after → Looked state {T = T} table (cached_file old before) (Err fault) (cached_file new after)
    found-refused fault found = record {
      writes_back_cached = found.writes_back_cached;
      order = found.others.0;
      header = found.others.1;
      keeps_unpinned_room = loose-found (Err fault) found;
      room = record { tables = found.room.1; blocks = found.room.0; entries = found.other_unchanged };
      clean = clean-found (Err fault) found;
      cause = cause-weaker search-frees fault found.cause;
    }

    found-looked : BlockFound state key old before (Ok tt) new after → Looked state {T = Unit {0}} table (cached_file old before) (Ok tt) (cached_file new after)
    found-looked found = record {
      writes_back_cached = found.writes_back_cached;
      order = found.others.0;
      header = found.others.1;
      keeps_unpinned_room = loose-found (Ok tt) found;
      room = record { tables = found.room.1; blocks = found.room.0; entries = found.other_unchanged };
      clean = clean-found (Ok tt) found;
      cause = found.cause;
    }

  -- The caches after a block is read, with its entry at the front.
  abbrev used_caches : (key : ℕ) (mid : MetadataCaches S) (block : Block) → MetadataCaches S
  used_caches key mid block = with_blocks mid (hit (nat_eq key) (cached_in mid).blocks block)

  clean-used : (key : ℕ) (mid : MetadataCaches S) (after : ImageFile S) (block : Block) → option_map (λ (s : Slot Block). s.value) (lookup (nat_eq key) (cached_in mid).blocks) ≡ Some block
      → KeepsClean state (cached_file mid after) (cached_file (used_caches key mid block) after)
  clean-used key mid after block there tables blocks = record {
    unchanged_but_faults = kept-same (state after.image);
    tables = tables;
    blocks = all-hit (λ (b : Block). b.modified ≡ false) key (cached_in mid).blocks block there blocks;
  }

  used-looked : (key : ℕ) (mid : MetadataCaches S) (after : ImageFile S) (block : Block) → option_map (λ (s : Slot Block). s.value) (lookup (nat_eq key) (cached_in mid).blocks) ≡ Some block
      → Looked state {T = Unit {0}} table (cached_file mid after) (Ok tt) (cached_file (used_caches key mid block) after)
  used-looked key mid after block there = record {
    writes_back_cached = going-used after.header (order_of mid) (state after.image) (cached_in mid) (cached_in (used_caches key mid block))
        (λ well_formed. block-used (bytes_of (state after.image).bytes) after.header (cached_in mid) (order_of mid) key well_formed block there);
    order = refl;
    header = refl;
    keeps_unpinned_room = loose-on table mid (used_caches key mid block) (pins-hit key (cached_in mid).blocks block) refl;
    room = record { tables = refl; blocks = refl; entries = refl };
    clean = clean-used key mid after block there;
    cause = refl;
  }

  block-long : (key : ℕ) (caches : MetadataCaches S) (file : ImageFile S) (block : Block) → option_map (λ (s : Slot Block). s.value) (lookup (nat_eq key) (cached_in caches).blocks) ≡ Some block
      → IsSafeWith state table caches file → length block.counters ≡ counters_of_block file.header.fields
  block-long key caches file block there sound =
      let f = bytes_of (state file.image).bytes in
      let found = slot-of (lookup (nat_eq key) (cached_in caches).blocks) block there in
      let fits : IsCachedBlock f file.header.fields key found.0.value = all-at (λ (e : ℕ × Slot Block). IsCachedBlock f file.header.fields e.0 e.1.value) key (cached_in caches).blocks found.0 found.1 sound.well_formed.blocks in
      ap (λ (b : Block). length b.counters) (sym found.2) ∙ fits.long

  -- The counters of a cached block are the refcounts of its clusters.
  block-counts : (key i : ℕ) → referenced_block table i ≡ Some key → (caches : MetadataCaches S) (file : ImageFile S) (block : Block) → option_map (λ (s : Slot Block). s.value) (lookup (nat_eq key) (cached_in caches).blocks) ≡ Some block
      → IsSafeWith state table caches file → AreCounted (counts_in state caches file) (i * counters_of_block file.header.fields) block.counters
  block-counts key i named caches file block there sound j lt =
      let f = bytes_of (state file.image).bytes in
      let k = counters_of_block file.header.fields in
      let place = named-block f file.header table i sound.table_of_file key sound.well_formed.consistent named in
      let long = block-long key caches file block there sound in
      let inside : j < k = omega (arith, lt, long) in
      let own : (i * k + j) / k ≡ i = div-mul-add i k j inside in
      let at : (i * k + j) % k ≡ j = mod-mul-add i k j inside in
      let caches-it : CachesBlock f file.header.fields (cached_in caches) key (i * k + j) block = record { block_cached = there; counts = ap (λ n. block_at f file.header.fields n) own ∙ place.place; cluster_nonzero = place.some } in
      cached-count f file.header (cached_in caches) (order_of caches) key (i * k + j) block sound.well_formed caches-it ∙ ap (λ n. slice_index block.counters n) at

  -- A block that the refcount table references is found and read, or that fails.
  module _ {T : Type 0} (P : List ℕ → T → Type 0) (key i : ℕ) (named : referenced_block table i ≡ Some key) (old : MetadataCaches S) (before : ImageFile S) (new : MetadataCaches S) (after : ImageFile S) where
    abbrev k : ℕ
    k = counters_of_block before.header.fields

    module _ (result : Result T Fault) (used : BlockUsed state key (Reads k P) (cached_file old before) result (cached_file new after)) where
      same-block : new ≡ used_caches key used.mid used.value
      same-block = used.left ∙ ap (λ (b : Block). used_caches key used.mid b) used.used.same

      found-first : Looked state {T = Unit {0}} table (cached_file old before) (Ok tt) (cached_file used.mid after)
      found-first = found-looked key i named old before used.mid after used.found

      used-there : Looked state {T = Unit {0}} table (cached_file old before) (Ok tt) (cached_file new after)
      used-there = subst (λ (m : MetadataCaches S). Looked state {T = Unit {0}} table (cached_file old before) (Ok tt) (cached_file m after)) (sym same-block)
          (looked-then old before tt used.mid after (Ok tt) (used_caches key used.mid used.value) after found-first (used-looked key used.mid after used.value used.value_cached))

      mid-long : IsSafeWith state table old before → length used.value.counters ≡ k
      mid-long sound =
          block-long key used.mid after used.value used.value_cached (safe-still old before tt used.mid after found-first sound)
          ∙ ap (λ (h : Header). counters_of_block h.fields) used.found.others.1

      mid-counts : IsSafeWith state table old before → AreCounted (counts_in state old before) (i * k) used.value.counters
      mid-counts sound j lt =
          sym (counts-still old before tt used.mid after found-first sound (i * k + j))
          ∙ subst (λ (h : Header). counts_in state used.mid after (i * counters_of_block h.fields + j) ≡ slice_index used.value.counters j) used.found.others.1
          (block-counts key i named used.mid after used.value used.value_cached (safe-still old before tt used.mid after found-first sound) j lt)

      even-looked : (r : Result T Fault) → MatchResult r (P used.value.counters) (λ fault. ⊥) → Looked state table (cached_file old before) r (cached_file new after)
      even-looked (Ok v) reads = let u = used-there in record { writes_back_cached = u.writes_back_cached; order = u.order; header = u.header; keeps_unpinned_room = u.keeps_unpinned_room; room = u.room; clean = u.clean; cause = u.cause }
      even-looked (Err fault) never = absurd never

      odd-looked : length used.value.counters ≢ k → Looked state {T = T} table (cached_file old before) (Err DamagedTable) (cached_file new after)
      odd-looked odd = let u = used-there in record { writes_back_cached = u.writes_back_cached; order = u.order; header = u.header; keeps_unpinned_room = u.keeps_unpinned_room; room = u.room; clean = u.clean; cause = λ sound. odd (mid-long sound) }

      used-read : Looked state table (cached_file old before) result (cached_file new after)
      used-read = elim (cases_eq (length used.value.counters) k) [
        | inl even ↦ even-looked result (used.used.even even)
        | inr odd ↦ subst (λ (r : Result T Fault). Looked state table (cached_file old before) r (cached_file new after)) (sym (used.used.odd odd)) (odd-looked odd)
      ]

    -- The facts about a block that was read.
    pub record IsRead (v : T) : Type 0 where
      pub counters : List ℕ
      pub long : length counters ≡ k
      pub reads : P counters v
      pub counted : IsSafeWith state table old before → AreCounted (counts_in state old before) (i * k) counters

    pub reads-looked : (result : Result T Fault) → UsesBlock state key (Reads k P) (cached_file old before) result (cached_file new after) → Looked state table (cached_file old before) result (cached_file new after)
    reads-looked result (inl (fault, is, found)) = subst (λ (r : Result T Fault). Looked state table (cached_file old before) r (cached_file new after)) (sym is) (found-refused key i named old before new after fault found)
    reads-looked result (inr used) = used-read result used

    pub reads-known : (result : Result T Fault) → UsesBlock state key (Reads k P) (cached_file old before) result (cached_file new after) → IfOk result IsRead
    reads-known result (inl (fault, is, found)) = subst (λ (r : Result T Fault). IfOk r IsRead) (sym is) tt
    reads-known result (inr used) = elim (cases_eq (length used.value.counters) k) [
      | inl even ↦ even-known result (used.used.even even) even
      | inr odd ↦ subst (λ (r : Result T Fault). IfOk r IsRead) (sym (used.used.odd odd)) tt
    ]
      where
        even-known : (r : Result T Fault) → MatchResult r (P used.value.counters) (λ fault. ⊥) → length used.value.counters ≡ k → IfOk r IsRead
        even-known (Ok v) reads even = record { counters = used.value.counters; long = even; reads = reads; counted = mid-counts result used }
        even-known (Err fault) never even = absurd never

  module _ (caches : MetadataCaches S) (file : ImageFile S) (sound : IsSafeWith state table caches file) where
    -- A cluster without a block has refcount 0.
    pub uncounted : (c : ℕ) → block_at (bytes_of (state file.image).bytes) file.header.fields (c / counters_of_block file.header.fields) ≡ 0 → counts_in state caches file c ≡ 0
    uncounted c none =
        let f = bytes_of (state file.image).bytes in
        let places = places-in-memory f file.header sound.well_formed.consistent (cached_in caches) sound.well_formed.tables sound.well_formed.blocks in
        let empty : block_at (memory f file.header.fields (cached_in caches)) file.header.fields (c / counters_of_block file.header.fields) ≡ 0 = places.blocks (c / counters_of_block file.header.fields) ∙ none in
        count-no-block (memory f file.header.fields (cached_in caches)) file.header.fields c empty

    -- A cluster after those that the table's blocks count has refcount 0.
    pub uncounted-behind : (c : ℕ) → length table.raw_entries ≤ c / counters_of_block file.header.fields → counts_in state caches file c ≡ 0
    uncounted-behind c past =
        let long = sound.table_of_file.long in
        count-past (memory (bytes_of (state file.image).bytes) file.header.fields (cached_in caches)) file.header.fields c (omega (arith, long, past))
