-- Defines when the metadata in memory is what the file says. Also defines the layer of an open image: what it adds to the disk of a chain.
use Rattle.std.specs.Prelude.{◌≡◌, ◌≢◌, ◌<◌, ℕ, Bool, ◌*◌, false, Ok, Option}
use Rattle.std.specs.List.{AllByRecursion}
use Rattle.qcow2_types.specs.Bytes.{Bytes, bytes_of}
use Rattle.qcow2_types.specs.Header.{Fields, header_of, has_external_data, entries_of_cluster, layout_of, cluster_size}
use Rattle.qcow2_types.specs.Entries.{l2_table}
use Rattle.qcow2_metadata.specs.Tables.{TableValue, raw_entries_in}
use Rattle.qcow2_alloc.specs.declared.async_lru_cache.Slot.{Slot}
use Rattle.qcow2_alloc.specs.Memory.{Cached, memory}
use Rattle.qcow2_alloc.specs.Caches.{cached_in}
use Rattle.qcow2_alloc.specs.Opening.{IsL1Of}
use Rattle.imago_storage.specs.declared.storage.Storage.{Ghosts}
use Rattle.imago_access.specs.Layer.{Layer}
use Rattle.qcow2_image.specs.Holding.{PreparedMappingRun}
use Rattle.qcow2_image.specs.ImageLayer.{writable_locations, qcow2_layer}
use Rattle.qcow2_image.specs.Unspent.{holding_in}
use Rattle.qcow2_image.specs.declared.qcow2.Qcow2.{Qcow2}
use Rattle.qcow2_image.specs.declared.mode.OpenMode.{OpenMode}
use Rattle.qcow2_image.specs.declared.tables.Tables.{Tables}

-- The bytes of the file.
abbrev pub file_of : {S : Type 0} (g : Ghosts S) → Tables S g → Bytes
file_of g t = bytes_of (g.state t.file.image).bytes

-- The bytes of the file, with what is cached.
abbrev pub memory_of : {S : Type 0} (g : Ghosts S) → Tables S g → Bytes
memory_of g t = memory (file_of g t) t.file.header.fields (cached_in t.caches)

-- The layer of an open image, by its parts.
abbrev pub layer_in : {S : Type 0} (g : Ghosts S) → Tables S g → OpenMode → ℕ → Bool → Option PreparedMappingRun → Layer
layer_in g t mode number failed hold = qcow2_layer (g.state t.file.image) (memory_of g t) t.file.header.fields mode number failed hold

-- The layer of an open image.
abbrev pub layer_of : {S : Type 0} (g : Ghosts S) → Qcow2 S g → Layer
layer_of g d = layer_in g d.tables d.mode d.number d.failed (holding_in g d.unspent)

-- The locations where the bytes of an image can be written in place, by its entries.
abbrev pub writable_locations_of : {S : Type 0} (g : Ghosts S) → Qcow2 S g → ℕ → Option (ℕ × ℕ)
writable_locations_of g d = writable_locations d.mode.writable (memory_of g d.tables) d.tables.file.header.fields

-- An L1 entry references the table at this offset.
pub record IsTableAt (f : Bytes) (h : Fields) (place : ℕ) : Type 0 where
  pub row : ℕ
  pub in_l1 : row < h.l1_entries
  pub is_there : l2_table f h row ≢ 0
  pub at : l2_table f h row ≡ place

-- A cached table is referenced by an L1 entry, and has the entries that the file has in its cluster.
pub record IsOfFile (f : Bytes) (h : Fields) (e : ℕ × Slot TableValue) : Type 0 where
  pub named : IsTableAt f h (e.0 * cluster_size h)
  pub layout : e.1.value.layout ≡ layout_of h
  pub raw_entries : e.1.value.raw_entries ≡ raw_entries_in f (e.0 * cluster_size h) (entries_of_cluster h)

-- `IsOfFile` holds for each cached table.
abbrev pub AreOfFile : Bytes → Fields → Cached → Type 0
AreOfFile f h cached = AllByRecursion (IsOfFile f h) cached.tables

-- The metadata in memory is what the file says, and the data is in this file.
pub record IsCacheCoherent {S : Type 0} (g : Ghosts S) (t : Tables S g) : Type 0 where
  pub loads : header_of false (file_of g t) ≡ Ok t.file.header
  pub inside : has_external_data t.file.header.fields ≡ false
  pub l1 : IsL1Of (file_of g t) t.file.header.fields t.l1
  pub tables : AreOfFile (file_of g t) t.file.header.fields (cached_in t.caches)

-- The image with another file.
abbrev pub with_image : {S : Type 0} {g : Ghosts S} → Qcow2 S g → S → Qcow2 S g
with_image d w = record d { tables = record d.tables { file = record d.tables.file { image = w } } }
