-- A flushed image: nothing is cached and nothing is dirty, so the file has all metadata except the list of clusters to
-- free.
use Rattle.std.specs.Prelude.{◌≡◌, ◌<◌, [], IsTrue, Result}
use Rattle.imago_storage.specs.State.{StorageState}
use Rattle.imago_storage.specs.declared.fault.Fault.{Fault}
use Rattle.qcow2_types.specs.Bytes.{bytes_of}
use Rattle.qcow2_metadata.specs.Tables.{TableValue}
use Rattle.qcow2_alloc.specs.declared.cache.CacheDependency.TheVariants.{Unset}
use Rattle.qcow2_alloc.specs.declared.cache.MetadataCaches.{MetadataCaches}
use Rattle.qcow2_alloc.specs.declared.file.ImageFile.{ImageFile}
use Rattle.qcow2_alloc.specs.Allocators.{metadata_of, table_of}
use Rattle.qcow2_alloc.specs.Caches.{cached_in}
use Rattle.qcow2_alloc.specs.Going.{HadNoResourceError}
use Rattle.qcow2_alloc.specs.Memory.{Cached}
use Rattle.qcow2_alloc.specs.Opening.{IsL1Of}
use Rattle.qcow2_alloc.specs.GuestView.{Metadata, IsSound}
use Rattle.qcow2_clusters.specs.declared.space.Space.{Space}

-- The parameters of a call: the file with its header, the caches, and the free space.
pub record Clusters (S : Type 0) : Type 0 where
  pub file : ImageFile S
  pub caches : MetadataCaches S
  pub space : Space

abbrev pub clusters_state : {S : Type 0} → ImageFile S → MetadataCaches S → Space → Clusters S
clusters_state file caches space = record { file = file; caches = caches; space = space }

-- Nothing is cached.
abbrev pub nothing_cached : Cached
nothing_cached = record { tables = []; blocks = [] }

abbrev pub AreEmpty : {S : Type 0} → MetadataCaches S → Type 0
AreEmpty caches = cached_in caches ≡ nothing_cached

-- The caches have space for a table and for a block.
pub record HasEntries {S : Type 0} (caches : MetadataCaches S) : Type 0 where
  pub tables : 0 < caches.l2.slots.cap
  pub blocks : 0 < caches.rb.slots.cap

-- The metadata of an image during a change, while something may be cached.
abbrev pub changed : {S : Type 0} → (S → StorageState) → Clusters S → Metadata
changed state c = metadata_of state c.file c.caches (table_of c.space.allocator) c.space.to_free.entries

-- The state of the image's storage.
abbrev pub storage : {S : Type 0} → (S → StorageState) → Clusters S → StorageState
storage state c = state c.file.image

-- The metadata of a flushed image.
abbrev pub flushed_metadata : {S : Type 0} → (S → StorageState) → Clusters S → Metadata
flushed_metadata state c = record {
  file = bytes_of (storage state c).bytes;
  header = c.file.header;
  cached = nothing_cached;
  order = Unset;
  table = table_of c.space.allocator;
  pending = c.space.to_free.entries;
}

-- The flushed image is consistent, and its storage keeps what is written.
pub record IsReady {S : Type 0} (state : S → StorageState) (c : Clusters S) : Type 0 where
  pub keeps : IsTrue (storage state c).shape.keeps
  pub sound : IsSound (flushed_metadata state c)

-- The L1 entries are unchanged.
abbrev pub KeepsL1 : {S T : Type 0} → (S → StorageState) → Clusters S → Result T Fault → Clusters S → Type 0
KeepsL1 state c result c' = IsReady state c → HadNoResourceError result → (l1 : TableValue)
    → IsL1Of (flushed_metadata state c).file c.file.header.fields l1 → IsL1Of (flushed_metadata state c').file c'.file.header.fields l1
