-- Specifies how L2 tables and refcount blocks are put into their caches.
use Rattle.std.specs.Prelude.{◌≡◌, ◌⊎◌, ℕ, ◌<◌, ◌≤◌, ◌∷◌, false, IsSome, OnOk, IfErr, Ok, Err, Result, List, None, Some, length, map, nat_eq}
use Rattle.std.specs.List.{AllByRecursion}
use Rattle.std.specs.Map.{lookup}
use Rattle.imago_storage.specs.State.{StorageState}
use Rattle.imago_storage.specs.Calls.{UnchangedButFaults}
use Rattle.imago_storage.specs.declared.fault.Fault.{Fault}
use Rattle.qcow2_types.specs.Bytes.{bytes_of}
use Rattle.qcow2_metadata.specs.Tables.{TableValue}
use Rattle.qcow2_metadata.specs.Blocks.{Block}
use Rattle.qcow2_alloc.specs.declared.async_lru_cache.Slot.{Slot}
use Rattle.qcow2_alloc.specs.declared.file.ImageFile.{ImageFile}
use Rattle.qcow2_alloc.specs.Backends.{Flushed}
use Rattle.qcow2_alloc.specs.Cache.{hit, victim}
use Rattle.qcow2_alloc.specs.CachedKinds.{AreInReach, Beside, CachedKind, WritesOther, as_written, block_entries, by_blocks, by_tables, cached_of, table_entries}
use Rattle.qcow2_alloc.specs.Caches.{CachedFile}
use Rattle.qcow2_alloc.specs.Causes.{FailsFor}
use Rattle.qcow2_alloc.specs.Finding.{with_room, LetsEntryIn, IsPinnedFull, PinsNothing, search_causes}
use Rattle.qcow2_alloc.specs.Going.{WritesBackCached, Behind, CachedStep, HadNoResourceError}
use Rattle.qcow2_alloc.specs.Memory.{Cached}

module _ {V : Type 0} where
  -- The result without the value that an error returns.
  abbrev pub refusal_of : Result Unit (Fault × V) → Result Unit Fault
  refusal_of (Ok done) = Ok tt
  refusal_of (Err refused) = Err refused.0

  -- The entries of a cache after a put at a key. `written` is an entry after its flush. A value that is put over another keeps the pins. On
  -- error the value is returned.
  pub record PutInto (written : ℕ × Slot V → ℕ × Slot V) (cap key : ℕ) (value : V) (es : List (ℕ × Slot V))
      (result : Result Unit (Fault × V)) (es' : List (ℕ × Slot V)) : Type 0 where
    pub over : IsSome (lookup (nat_eq key) es) → OnOk result (es' ≡ hit (nat_eq key) es value)
    pub added : lookup (nat_eq key) es ≡ None → OnOk result (es' ≡ (key, record { value = value; pins = 0 }) ∷ with_room cap es)
    pub refused : IfErr result (λ r. (r.1 ≡ value) × ((map written es' ≡ map written es) ⊎ (es' ≡ with_room cap es)))
    pub pinned : PinsNothing es es'

  -- The entry at k makes way for one at this key: it is at the same key, or the cache is full and k is evicted.
  abbrev pub MakesWay : ℕ → ℕ → List (ℕ × Slot V) → ℕ → Type 0
  MakesWay cap key es k = (k ≡ key) ⊎ ((lookup (nat_eq key) es ≡ None) × (cap ≤ length es) × (victim es ≡ Some k))

-- The new value is what the file has, and no dirty value is cached there.
pub record IsNew {S V W A B : Type 0} (kind : CachedKind S V W) (cluster : ℕ) (value : V) (c : Beside S V W A B)
    (file : ImageFile S) : Type 0 where
  pub fits : kind.Fits (bytes_of (kind.state file.image).bytes) file.header.fields cluster value
  pub clean : kind.writes.modified value ≡ false
  pub free : AllByRecursion (λ e. e.0 ≡ cluster → kind.writes.modified e.1.value ≡ false) c.own.slots.entries

-- The entry that makes way is flushed, after what comes first, if anything does.
pub record MadeWay (comes_first : Type 0) (First : CachedStep) (Flushes : StorageState → StorageState → Type 0) (before : StorageState)
    (cached : Cached) (after : StorageState) : Type 0 where
  pub mid : StorageState
  pub between : Cached
  pub alone : (comes_first → ⊥) → mid ≡ before
  pub first : comes_first → First before cached (Ok tt) mid between
  pub flush : Flushes mid after

-- A put of a value. Well-formed caches stay well-formed if the value is what the file has.
pub record EntryInserted {S V W A B : Type 0} (kind : CachedKind S V W) (cluster : ℕ) (value : V) (old : Beside S V W A B)
    (before : ImageFile S) (result : Result Unit (Fault × V)) (new : Beside S V W A B) (after : ImageFile S) : Type 0 where
  pub writes_back_cached : WritesBackCached before.header old.order (λ _. IsNew kind cluster value old before) (HadNoResourceError (refusal_of result))
      (kind.state before.image) (cached_of kind old) (kind.state after.image) (cached_of kind new)
  pub put : PutInto (as_written kind.writes) old.own.slots.cap cluster value old.own.slots.entries result new.own.slots.entries
  pub flushed : (key : ℕ) (slot : Slot V) → MakesWay old.own.slots.cap cluster old.own.slots.entries key
      → lookup (nat_eq key) old.own.slots.entries ≡ Some slot
      → OnOk result (MadeWay (old.order ≡ kind.first) (WritesOther kind)
      (λ mid after. (left : V) × Flushed kind.writes mid key slot.value (Ok tt) after left) (kind.state before.image) (cached_of kind old)
      (kind.state after.image))
  -- If the cache isn't full, nothing is written.
  pub roomy : lookup (nat_eq cluster) old.own.slots.entries ≡ None → length old.own.slots.entries < old.own.slots.cap
      → UnchangedButFaults (kind.state before.image) (kind.state after.image) × (new.other ≡ old.other)
  -- The other cache is only written if it comes first.
  pub other_unchanged : map (as_written kind.other_writes) new.other.slots.entries ≡ map (as_written kind.other_writes) old.other.slots.entries
  pub apart : (old.order ≡ kind.first → ⊥) → new.other ≡ old.other
  -- If the cache is full, the other cache is written before an entry is evicted.
  pub evicts_when_full : lookup (nat_eq cluster) old.own.slots.entries ≡ None → old.own.slots.cap ≤ length old.own.slots.entries
      → Behind (old.order ≡ kind.first) (WritesOther kind) (LetsEntryIn kind) (kind.state before.image) (cached_of kind old)
      (refusal_of result) (kind.state after.image) (cached_of kind new)
  pub others : (new.order ≡ old.order) × (after.header ≡ before.header)
  pub room : (new.own.slots.cap ≡ old.own.slots.cap) × (new.other.slots.cap ≡ old.other.slots.cap)
  pub cause : FailsFor (search_causes
      (AreInReach kind.writes old.own.slots.entries × AreInReach kind.other_writes old.other.slots.entries)
      (IsPinnedFull old.own.slots.cap old.own.slots.entries) (kind.state before.image).faults (kind.state after.image).faults)
      (refusal_of result)

module _ {S : Type 0} (state : S → StorageState) (cluster : ℕ) where
  -- A put of an L2 table.
  abbrev pub TableInserted : TableValue → CachedFile S → Result Unit (Fault × TableValue) → CachedFile S → Type 0
  TableInserted table old result new = EntryInserted (table_entries state) cluster table (by_tables old.caches) old.file result
      (by_tables new.caches) new.file

  -- A put of a refcount block.
  abbrev pub BlockInserted : Block → CachedFile S → Result Unit (Fault × Block) → CachedFile S → Type 0
  BlockInserted block old result new = EntryInserted (block_entries state) cluster block (by_blocks old.caches) old.file result
      (by_blocks new.caches) new.file
