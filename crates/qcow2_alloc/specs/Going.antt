-- Specifies writes of cached L2 tables and refcount blocks, and their effect on the image file and on the caches.
use Rattle.std.specs.Prelude.{◌≡◌, ◌⊎◌, ◌≤◌, ℕ, ⊤, IsTrue, true, length, Result, IsErr, Ok, Err}
use Rattle.std.specs.List.{AllByRecursion}
use Rattle.imago_storage.specs.State.{StorageState}
use Rattle.imago_storage.specs.Calls.{CountsNotFallen, IsFaultless}
use Rattle.imago_storage.specs.Passing.{UnrefusedCrashImages}
use Rattle.imago_storage.specs.declared.fault.Fault.{Fault}
use Rattle.imago_storage.specs.declared.fault.Fault.TheVariants.{Memory, Storage}
use Rattle.qcow2_types.specs.Bytes.{bytes_of}
use Rattle.qcow2_types.specs.Header.{Header}
use Rattle.qcow2_metadata.specs.Places.{IsAddressable}
use Rattle.qcow2_alloc.specs.declared.cache.CacheDependency.{CacheDependency}
use Rattle.qcow2_alloc.specs.declared.cache.CacheDependency.TheVariants.{L2DependsOnRb, RbDependsOnL2}
use Rattle.qcow2_alloc.specs.Cache.{FlushedEach, fault_of}
use Rattle.qcow2_alloc.specs.Backends.{TableFlushed, BlockFlushed}
use Rattle.qcow2_alloc.specs.Causes.{Causes}
use Rattle.qcow2_alloc.specs.Memory.{Cached, memory}
use Rattle.qcow2_alloc.specs.WellFormedness.{WellFormed, IsCrashImage, NoChangeRefused, IsSettled, AreTablesClean, AreBlocksClean}

-- A table may be written: if blocks come first, no block is dirty.
abbrev pub ReadyTables : CacheDependency → Cached → Type 0
ReadyTables order cached = order ≡ L2DependsOnRb → AreBlocksClean cached

-- A block may be written: if tables come first, no table is dirty.
abbrev pub ReadyBlocks : CacheDependency → Cached → Type 0
ReadyBlocks order cached = order ≡ RbDependsOnL2 → AreTablesClean cached

-- Nothing must be written before.
abbrev pub Always : Cached → Type 0
Always cached = ⊤

-- Any number of writes of cached tables or blocks. `Ready` states what must be written before. If `ok` holds, they succeeded.
pub record WritesBackCached (H : Header) (order : CacheDependency) (Ready : Cached → Type 0) (ok : Type 0) (old : StorageState) (cached : Cached)
    (new : StorageState) (cached' : Cached) : Type 0 where
  pub shape : new.shape ≡ old.shape
  pub counts_not_fallen : CountsNotFallen old new
  pub faults : ok → IsFaultless old new
  pub ready : Ready cached → Ready cached'
  -- If the caches were well-formed, each crash image of the call is as `IsCrashImage` says, whether the call succeeds or not.
  pub passes : IsTrue old.shape.keeps → WellFormed (bytes_of old.bytes) H cached order → Ready cached
      → UnrefusedCrashImages (λ x. IsCrashImage (bytes_of old.bytes) (memory (bytes_of old.bytes) H.fields cached) H (bytes_of x)) old new
  -- Well-formed caches stay well-formed, and the image in memory stays the same. That holds if `ok` does, or if the storage exposes its
  -- crash images and refused no change.
  pub holds : IsTrue old.shape.keeps → WellFormed (bytes_of old.bytes) H cached order → Ready cached → ok ⊎ NoChangeRefused old new
      → IsSettled H order old.bytes cached new.bytes cached'

-- The cluster of each dirty table is addressable.
abbrev pub AreTablesAddressable : Cached → Type 0
AreTablesAddressable cached = AllByRecursion (λ e. e.1.value.modified ≡ true → IsAddressable e.1.value.layout.cluster_bits e.0) cached.tables

-- The cluster of each dirty block is addressable.
abbrev pub AreBlocksAddressable : Cached → Type 0
AreBlocksAddressable cached = AllByRecursion (λ e. e.1.value.modified ≡ true → IsAddressable e.1.value.cluster_bits e.0) cached.blocks

-- The causes of a failed write. Apart from resource errors it fails only as a damaged table, and only if `sound` doesn't hold: that the
-- clusters of the dirty tables and blocks are addressable.
abbrev pub writing_causes : (sound : Type 0) → (before after : ℕ) → Causes
writing_causes sound before after =
    record { damaged = sound → ⊥; counter = ⊥; full = ⊥; limit = λ number. ⊥; before = before; after = after }

-- A relation of a file and its cached entries, before and after a call.
abbrev pub CachedStep : Type 1
CachedStep = StorageState → Cached → Result Unit Fault → StorageState → Cached → Type 0

-- The tables are flushed, each by at most one request, and no block is.
abbrev pub WritesTables : CachedStep
WritesTables old cached result new cached' = (cached'.blocks ≡ cached.blocks)
    × FlushedEach TableFlushed old cached.tables (fault_of result) new cached'.tables

-- The blocks are flushed, each by at most one request, and no table is.
abbrev pub WritesBlocks : CachedStep
WritesBlocks old cached result new cached' = (cached'.tables ≡ cached.tables)
    × FlushedEach BlockFlushed old cached.blocks (fault_of result) new cached'.blocks

-- `First` happens and, if it succeeds, `Second`. No request of `Second` comes before the last one of `First`.
pub record InTurn (First Second : CachedStep) (old : StorageState) (cached : Cached) (result : Result Unit Fault) (new : StorageState)
    (cached' : Cached) : Type 0 where
  pub mid : StorageState
  pub between : Cached
  pub answer : Result Unit Fault
  pub first : First old cached answer mid between
  pub halted : IsErr answer → (result ≡ answer) × (new ≡ mid) × (cached' ≡ between)
  pub second : answer ≡ Ok tt → Second mid between result new cached'

-- `Done` happens, after `First` if `comes_first` holds.
pub record Behind (comes_first : Type 0) (First Done : CachedStep) (old : StorageState) (cached : Cached) (result : Result Unit Fault)
    (new : StorageState) (cached' : Cached) : Type 0 where
  pub alone : (comes_first → ⊥) → Done old cached result new cached'
  pub in_turn : comes_first → InTurn First Done old cached result new cached'

-- The second file isn't shorter than the first.
abbrev pub IsNoShorter : StorageState → StorageState → Type 0
IsNoShorter old new = length old.bytes ≤ length new.bytes

-- The fault is neither `Memory` nor `Storage`.
abbrev pub IsNotResourceError : Fault → Type 0
IsNotResourceError Memory = ⊥
IsNotResourceError Storage = ⊥
IsNotResourceError fault = ⊤

-- The call succeeded, or failed without a resource error.
abbrev pub HadNoResourceError : {T : Type 0} → Result T Fault → Type 0
HadNoResourceError (Ok v) = ⊤
HadNoResourceError (Err fault) = IsNotResourceError fault
