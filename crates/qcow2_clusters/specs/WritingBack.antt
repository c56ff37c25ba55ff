-- Specifies how a change ends: dirty metadata is written, and the caches are emptied.
use Rattle.std.specs.Prelude.{◌≡◌, ◌⊎◌, ℕ, List, [], map, IsTrue, Result, Err, OnOk, OnErr}
use Rattle.std.specs.List.{AllByRecursion}
use Rattle.imago_storage.specs.State.{StorageState}
use Rattle.imago_storage.specs.Calls.{IsFaultless, UnchangedButFaults}
use Rattle.imago_storage.specs.declared.fault.Fault.{Fault}
use Rattle.qcow2_types.specs.Bytes.{bytes_of}
use Rattle.qcow2_types.specs.Pending.{FreeEntry}
use Rattle.qcow2_metadata.specs.Tables.{TableValue}
use Rattle.qcow2_alloc.specs.declared.cache.CacheDependency.TheVariants.{Unset}
use Rattle.qcow2_alloc.specs.declared.cache.MetadataCaches.{MetadataCaches}
use Rattle.qcow2_alloc.specs.declared.file.ImageFile.{ImageFile}
use Rattle.qcow2_alloc.specs.Allocators.{metadata_of}
use Rattle.qcow2_alloc.specs.Caches.{cached_in, HasRoomOf}
use Rattle.qcow2_alloc.specs.Causes.{HasCause}
use Rattle.qcow2_alloc.specs.Going.{AreBlocksAddressable, AreTablesAddressable, IsNoShorter, HadNoResourceError, writing_causes}
use Rattle.qcow2_alloc.specs.GuestView.{IsSound, Metadata, PreservesGuest, counted}
use Rattle.qcow2_alloc.specs.CachesLending.{with_tables}
use Rattle.qcow2_alloc.specs.Memory.{written_table}
use Rattle.qcow2_alloc.specs.WellFormedness.{AreBlocksClean, AreTablesClean, IsCachedTable}
use Rattle.qcow2_clusters.specs.Flushed.{AreEmpty, nothing_cached}

-- Nothing in the caches is pinned.
pub record AreUnpinned {S : Type 0} (caches : MetadataCaches S) : Type 0 where
  pub tables : AllByRecursion (λ e. e.1.pins ≡ 0) (cached_in caches).tables
  pub blocks : AllByRecursion (λ e. e.1.pins ≡ 0) (cached_in caches).blocks

-- The image with nothing cached.
abbrev pub all_flushed : Metadata → Metadata
all_flushed m = record m { cached = nothing_cached; order = Unset }

-- A change with the result `given` ends with empty caches. Without a resource error dirty metadata is written, and an
-- error of that replaces `given`. The guest bytes and refcounts stay the same, and the file gets no shorter. If nothing
-- is dirty, no byte changes.
pub record WritesBack {S T : Type 0} (state : S → StorageState) (given : Result T Fault) (before : ImageFile S) (old : MetadataCaches S)
    (result : Result T Fault) (after : ImageFile S) (new : MetadataCaches S) : Type 0 where
  pub empty : AreEmpty new
  pub room : HasRoomOf old new
  pub header : after.header ≡ before.header
  pub no_shorter : IsNoShorter (state before.image) (state after.image)
  pub guest_unchanged : (table : TableValue) (pending : List FreeEntry) → PreservesGuest (HadNoResourceError result) (λ _. 0) (λ _. 0) (state before.image)
      (metadata_of state before old table pending) (state after.image) (all_flushed (metadata_of state after old table pending))
  pub counts : (table : TableValue) (pending : List FreeEntry) → IsTrue (state before.image).shape.keeps
      → IsSound (metadata_of state before old table pending) → HadNoResourceError result → (c : ℕ)
      → counted (all_flushed (metadata_of state after old table pending)) c ≡ counted (metadata_of state before old table pending) c
  pub faults : HadNoResourceError result → IsFaultless (state before.image) (state after.image)
  pub has_no_dirty_data : AreTablesClean (cached_in old) → AreBlocksClean (cached_in old) → UnchangedButFaults (state before.image) (state after.image)
  pub cut : (HadNoResourceError given → ⊥) → (result ≡ given) × (after ≡ before)
  pub ok : OnOk result (result ≡ given)
  pub answer : (result ≡ given) ⊎ ((fault : Fault) × (result ≡ Err fault)
      × HasCause (writing_causes (AreTablesAddressable (cached_in old) × AreBlocksAddressable (cached_in old)) (state before.image).faults
      (state after.image).faults) fault)

-- The caches without their L2 tables.
abbrev pub without_tables : {S : Type 0} → MetadataCaches S → MetadataCaches S
without_tables caches = with_tables caches []

-- On success the cached L2 tables stay cached, as the file has them. On error no table is cached.
pub record KeepsCachedTables {S : Type 0} (state : S → StorageState) (before : ImageFile S) (old : MetadataCaches S)
    (result : Result Unit Fault) (after : ImageFile S) (new : MetadataCaches S) : Type 0 where
  pub clean : AreTablesClean (cached_in new)
  pub unpinned : AllByRecursion (λ e. e.1.pins ≡ 0) (cached_in new).tables
  pub none : OnErr result ((cached_in new).tables ≡ [])
  pub same : OnOk result (map written_table (cached_in new).tables ≡ map written_table (cached_in old).tables)
  pub fit : (table : TableValue) (pending : List FreeEntry) → IsTrue (state before.image).shape.keeps
      → IsSound (metadata_of state before old table pending) → OnOk result
      (AllByRecursion (λ e. IsCachedTable (bytes_of (state after.image).bytes) after.header.fields e.0 e.1.value) (cached_in new).tables)
