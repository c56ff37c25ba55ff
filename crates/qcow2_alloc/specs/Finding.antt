-- Specifies lookups of L2 tables and refcount blocks: they are found in their caches, or loaded into them.
use Rattle.std.specs.Prelude.{◌≡◌, ◌⊎◌, ℕ, ◌<◌, ◌≤◌, ◌∷◌, ◌&&◌, Bool, true, IsSome, OnOk, OnErr, Ok, Err, Result, MatchResult, List, None, Some, if◌then◌else◌, length, map, nat_eq, nat_lt}
use Rattle.std.specs.Option.{option_map_or}
use Rattle.std.specs.List.{AllByRecursion, count_by}
use Rattle.std.specs.Map.{lookup, remove_entry}
use Rattle.imago_storage.specs.State.{StorageState}
use Rattle.imago_storage.specs.Calls.{UnchangedButFaults}
use Rattle.imago_storage.specs.declared.fault.Fault.{Fault}
use Rattle.imago_storage.specs.declared.fault.Fault.TheVariants.{CacheFull}
use Rattle.qcow2_types.specs.Bytes.{bytes_of}
use Rattle.qcow2_alloc.specs.declared.async_lru_cache.Slot.{Slot}
use Rattle.qcow2_alloc.specs.declared.cache.MetadataCaches.{MetadataCaches}
use Rattle.qcow2_alloc.specs.declared.file.ImageFile.{ImageFile}
use Rattle.qcow2_alloc.specs.Backends.{Flushed}
use Rattle.qcow2_alloc.specs.Cache.{victim, FlushedAt}
use Rattle.qcow2_alloc.specs.CachedKinds.{AreClean, AreInReach, Beside, CachedKind, WritesOther, as_written, block_entries, by_blocks, by_tables, cached_of, table_entries}
use Rattle.qcow2_alloc.specs.Causes.{Causes, FailsFor}
use Rattle.qcow2_alloc.specs.Going.{WritesBackCached, Behind, CachedStep, Always, HadNoResourceError}

module _ {V : Type 0} where
  -- The entries of a cache with space for one more entry. If the cache is full, the least recently used one that isn't pinned is removed.
  abbrev pub with_room : ℕ → List (ℕ × Slot V) → List (ℕ × Slot V)
  with_room cap es = if nat_lt (length es) cap then es else option_map_or (λ key. remove_entry (nat_eq key) es) (victim es) es

  -- The cache is full, and each entry is pinned.
  pub record IsPinnedFull (cap : ℕ) (es : List (ℕ × Slot V)) : Type 0 where
    pub full : cap ≤ length es
    pub pinned : AllByRecursion (λ e. 0 < e.1.pins) es

  -- The number of pinned entries with a key for which the condition holds.
  abbrev pub pinned_among : (ℕ → Bool) → List (ℕ × Slot V) → ℕ
  pinned_among keys es = count_by (λ e. keys e.0 && nat_lt 0 e.1.pins) es

  -- The number of entries that are pinned.
  abbrev pub pinned_in : List (ℕ × Slot V) → ℕ
  pinned_in es = pinned_among (λ _. true) es

  -- Nothing is pinned that wasn't pinned before.
  pub record PinsNothing (old new : List (ℕ × Slot V)) : Type 0 where
    pub among : (keys : ℕ → Bool) → pinned_among keys new ≤ pinned_among keys old

  -- The entries of a cache after a lookup of a key. `read` is the value in the file, and `written` an entry after its flush. A cached entry
  -- stays where it is; otherwise the value that was read becomes the first entry.
  pub record Sought (written : ℕ × Slot V → ℕ × Slot V) (cap key : ℕ) (read : V) (es : List (ℕ × Slot V)) (result : Result Unit Fault)
      (es' : List (ℕ × Slot V)) : Type 0 where
    pub unchanged_if_cached : IsSome (lookup (nat_eq key) es) → es' ≡ es
    pub loaded : lookup (nat_eq key) es ≡ None → OnOk result (es' ≡ (key, record { value = read; pins = 0 }) ∷ with_room cap es)
    pub refused : OnErr result ((map written es' ≡ map written es) ⊎ (es' ≡ with_room cap es))
    pub pinned : PinsNothing es es'

-- An entry is let into a full cache: the evicted one is flushed by one call, and nothing is written after that. If the flush fails, the
-- entry stays. If all entries are pinned, the call makes no request.
pub record LetsIn {V : Type 0} (flushes : StorageState → ℕ → V → Result Unit Fault → StorageState → V → Type 0) (old : StorageState)
    (es : List (ℕ × Slot V)) (result : Result Unit Fault) (new : StorageState) (es' : List (ℕ × Slot V)) : Type 0 where
  pub stuck : victim es ≡ None → (result ≡ Err CacheFull) × (new ≡ old) × (es' ≡ es)
  pub goes : (key : ℕ) → victim es ≡ Some key → (mid : StorageState) × (answer : Result Unit Fault) × (flushed : List (ℕ × Slot V))
      × FlushedAt nat_eq flushes key old es answer mid flushed
      × MatchResult answer (λ _. UnchangedButFaults mid new) (λ fault. (result ≡ Err fault) × (new ≡ mid) × (es' ≡ flushed))

-- An entry is let into one cache, and the other cache is unchanged.
abbrev pub LetsEntryIn : {S V W : Type 0} → CachedKind S V W → CachedStep
LetsEntryIn kind old cached result new cached' = (kind.others cached' ≡ kind.others cached)
    × LetsIn (Flushed kind.writes) old (kind.own cached) result new (kind.own cached')

-- The causes of a failed lookup. The table is damaged if `fine` doesn't hold: that all clusters involved are addressable, and the loaded
-- entries valid. The cache is full if `full` holds.
abbrev pub search_causes : (fine full : Type 0) → (before after : ℕ) → Causes
search_causes fine full before after =
    record { damaged = fine → ⊥; counter = ⊥; full = full; limit = λ number. ⊥; before = before; after = after }

-- A lookup of an entry.
pub record EntryFound {S V W A B : Type 0} (kind : CachedKind S V W) (cluster : ℕ) (old : Beside S V W A B) (before : ImageFile S)
    (result : Result Unit Fault) (new : Beside S V W A B) (after : ImageFile S) : Type 0 where
  pub writes_back_cached : WritesBackCached before.header old.order Always (HadNoResourceError result) (kind.state before.image) (cached_of kind old)
      (kind.state after.image) (cached_of kind new)
  -- If the entry is cached, nothing else happens.
  pub hit : IsSome (lookup (nat_eq cluster) old.own.slots.entries) → (result ≡ Ok tt) × (new ≡ old) × (after ≡ before)
  pub found_cached : OnOk result (IsSome (lookup (nat_eq cluster) new.own.slots.entries))
  pub sought : Sought (as_written kind.writes) old.own.slots.cap cluster
      (kind.read (bytes_of (kind.state after.image).bytes) before.header.fields cluster) old.own.slots.entries result new.own.slots.entries
  -- If the cache isn't full, nothing is written.
  pub roomy : length old.own.slots.entries < old.own.slots.cap
      → UnchangedButFaults (kind.state before.image) (kind.state after.image) × (new.other ≡ old.other)
  -- The other cache is only written if it comes first.
  pub other_unchanged : map (as_written kind.other_writes) new.other.slots.entries ≡ map (as_written kind.other_writes) old.other.slots.entries
  pub apart : (old.order ≡ kind.first → ⊥) → new.other ≡ old.other
  -- If the cache is full, the other cache is written before an entry is evicted.
  pub evicts_when_full : lookup (nat_eq cluster) old.own.slots.entries ≡ None → old.own.slots.cap ≤ length old.own.slots.entries
      → Behind (old.order ≡ kind.first) (WritesOther kind) (LetsEntryIn kind) (kind.state before.image) (cached_of kind old) result
      (kind.state after.image) (cached_of kind new)
  -- If no entry is dirty, nothing is written, and no entry is dirty after the lookup.
  pub has_no_dirty_data : AreClean kind.writes old.own.slots.entries → AreClean kind.other_writes old.other.slots.entries
      → UnchangedButFaults (kind.state before.image) (kind.state after.image) × AreClean kind.writes new.own.slots.entries
      × AreClean kind.other_writes new.other.slots.entries
  pub others : (new.order ≡ old.order) × (after.header ≡ before.header)
  pub room : (new.own.slots.cap ≡ old.own.slots.cap) × (new.other.slots.cap ≡ old.other.slots.cap)
  pub cause : FailsFor (search_causes (kind.Fine (bytes_of (kind.state after.image).bytes) before.header.fields cluster
      × AreInReach kind.writes old.own.slots.entries × AreInReach kind.other_writes old.other.slots.entries)
      (IsPinnedFull old.own.slots.cap old.own.slots.entries) (kind.state before.image).faults (kind.state after.image).faults) result

module _ {S : Type 0} (state : S → StorageState) (cluster : ℕ) (old : MetadataCaches S) (before : ImageFile S) (result : Result Unit Fault)
    (new : MetadataCaches S) (after : ImageFile S) where
  -- A lookup of an L2 table.
  abbrev pub TableFound : Type 0
  TableFound = EntryFound (table_entries state) cluster (by_tables old) before result (by_tables new) after

  -- A lookup of a refcount block.
  abbrev pub BlockFound : Type 0
  BlockFound = EntryFound (block_entries state) cluster (by_blocks old) before result (by_blocks new) after
