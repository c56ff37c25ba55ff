-- Specifies the search for free clusters: refcount blocks are loaded into their cache, and nothing else changes.
use Rattle.std.specs.Prelude.{max, length, ◌*◌, ◌≡◌, ◌≢◌, ℕ, ◌+◌, ◌/◌, ◌<◌, ◌≤◌, IsTrue, Result, IfOk, Option, MatchOption, Bool, true}
use Rattle.imago_storage.specs.State.{StorageState}
use Rattle.imago_storage.specs.Calls.{UnchangedButFaults}
use Rattle.imago_storage.specs.declared.fault.Fault.{Fault}
use Rattle.qcow2_types.specs.Bytes.{Bytes, bytes_of}
use Rattle.qcow2_types.specs.Header.{Fields}
use Rattle.qcow2_types.specs.Counts.{block_at, count, counters_of_block}
use Rattle.qcow2_metadata.specs.Tables.{TableValue}
use Rattle.qcow2_alloc.specs.declared.cache.MetadataCaches.{MetadataCaches}
use Rattle.qcow2_alloc.specs.declared.file.ImageFile.{ImageFile}
use Rattle.qcow2_alloc.specs.Caches.{CachedFile, cached_in, order_of, KeepsTables}
use Rattle.qcow2_alloc.specs.Causes.{FailsFor}
use Rattle.qcow2_alloc.specs.Freeing.{HasUnpinnedRoom, freeing_causes}
use Rattle.qcow2_alloc.specs.Going.{WritesBackCached, Always, HadNoResourceError}
use Rattle.qcow2_alloc.specs.Memory.{memory}
use Rattle.qcow2_alloc.specs.GuestView.{IsTableOf}
use Rattle.qcow2_alloc.specs.WellFormedness.{WellFormed, AreTablesClean, AreBlocksClean}

-- The first free run of n clusters from `from` on.
pub record IsFirstRun (counts : ℕ → ℕ) (from n first : ℕ) : Type 0 where
  pub not_before_start : from ≤ first
  pub free : (c : ℕ) → first ≤ c → c < first + n → counts c ≡ 0
  pub least : (z : ℕ) → from ≤ z → z < first → (c : ℕ) × (z ≤ c) × (c < z + n) × (0 < counts c)

-- The refcount table references the block of a cluster.
abbrev pub HasCounter : Bytes → Fields → ℕ → Type 0
HasCounter f h c = block_at f h (c / counters_of_block h) ≢ 0

-- The first free cluster of a range that has a block.
pub record IsFirstFree (f : Bytes) (h : Fields) (counts : ℕ → ℕ) (from end c : ℕ) : Type 0 where
  pub not_before_start : from ≤ c
  pub before : c < end
  pub has_counter : HasCounter f h c
  pub free : counts c ≡ 0
  pub least : (z : ℕ) → from ≤ z → z < c → HasCounter f h z → 0 < counts z

abbrev pub FindsFree : Bytes → Fields → (ℕ → ℕ) → ℕ → ℕ → Option ℕ → Type 0
FindsFree f h counts from end found = MatchOption found ((z : ℕ) → from ≤ z → z < end → HasCounter f h z → 0 < counts z)
    (IsFirstFree f h counts from end)

module _ {S : Type 0} (state : S → StorageState) where
  -- The refcount of each cluster in memory.
  abbrev pub counts_in : MetadataCaches S → ImageFile S → ℕ → ℕ
  counts_in caches file = count (memory (bytes_of (state file.image).bytes) file.header.fields (cached_in caches)) file.header.fields

  -- The storage keeps what is written, the caches are well-formed, and the refcount table is the file's.
  pub record IsSafeWith (table : TableValue) (caches : MetadataCaches S) (file : ImageFile S) : Type 0 where
    pub keeps : IsTrue (state file.image).shape.keeps
    pub well_formed : WellFormed (bytes_of (state file.image).bytes) file.header (cached_in caches) (order_of caches)
    pub table_of_file : IsTableOf (bytes_of (state file.image).bytes) file.header.fields table

  -- The caches are clean, and no byte of the file has changed.
  pub record StaysClean (old new : CachedFile S) : Type 0 where
    pub unchanged_but_faults : UnchangedButFaults (state old.file.image) (state new.file.image)
    pub tables : AreTablesClean (cached_in new.caches)
    pub blocks : AreBlocksClean (cached_in new.caches)

  -- If the caches were clean, they still are, and no byte of the file has changed.
  abbrev pub KeepsClean : CachedFile S → CachedFile S → Type 0
  KeepsClean old new = AreTablesClean (cached_in old.caches) → AreBlocksClean (cached_in old.caches) → StaysClean old new

  -- A search: blocks are loaded, and others are evicted if the cache is full.
  pub record Looked {T : Type 0} (table : TableValue) (old : CachedFile S) (result : Result T Fault) (new : CachedFile S) : Type 0 where
    pub writes_back_cached : WritesBackCached old.file.header (order_of old.caches) Always (HadNoResourceError result) (state old.file.image) (cached_in old.caches)
        (state new.file.image) (cached_in new.caches)
    pub order : new.caches.order ≡ old.caches.order
    pub header : new.file.header ≡ old.file.header
    pub keeps_unpinned_room : (any : Bool) → HasUnpinnedRoom table old.caches any → HasUnpinnedRoom table new.caches any
    pub room : KeepsTables old.caches new.caches
    pub clean : KeepsClean old new
    pub cause : FailsFor (freeing_causes (IsSafeWith table old.caches old.file) (HasUnpinnedRoom table old.caches true)
        (state old.file.image).faults (state new.file.image).faults) result

  -- A search for the first free run of n clusters from `from` on.
  pub record LooksForRun (table : TableValue) (from n : ℕ) (old : CachedFile S) (result : Result ℕ Fault)
      (new : CachedFile S) : Type 0 where
    pub looked : Looked table old result new
    pub result_bounded : IfOk result (λ z. (from ≤ z) × (z ≤ max from (length table.raw_entries * counters_of_block old.file.header.fields)))
    pub found : IsSafeWith table old.caches old.file → IfOk result (IsFirstRun (counts_in old.caches old.file) from n)

  -- A search for the first free cluster of a range that has a block.
  pub record LooksForFree (table : TableValue) (from end : ℕ) (old : CachedFile S) (result : Result (Option ℕ) Fault)
      (new : CachedFile S) : Type 0 where
    pub looked : Looked table old result new
    pub found : IsSafeWith table old.caches old.file → IfOk result
        (FindsFree (bytes_of (state old.file.image).bytes) old.file.header.fields (counts_in old.caches old.file) from end)
