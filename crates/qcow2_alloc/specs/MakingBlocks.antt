-- Specifies how a missing refcount block is made: it is written to a cluster, and then an entry of the refcount table references it.
use Rattle.std.specs.Prelude.{◌≡◌, ◌≢◌, ⊤, ℕ, ◌+◌, ◌*◌, ◌/◌, ◌<◌, Bool, Result, Ok, Err, slice_index}
use Rattle.std.specs.Int.{w64, to_be_bytes}
use Rattle.imago_storage.specs.State.{StorageState}
use Rattle.imago_storage.specs.Calls.{CountsNotFallen, IsFaultless}
use Rattle.imago_storage.specs.Through.{AtomicWriteOutcome}
use Rattle.imago_storage.specs.declared.fault.Fault.{Fault}
use Rattle.qcow2_types.specs.Counts.{counters_of_block}
use Rattle.qcow2_types.specs.Words.{block_offset}
use Rattle.qcow2_metadata.specs.Blocks.{Block, BlockPut}
use Rattle.qcow2_metadata.specs.Places.{IsAddressable, place_of}
use Rattle.qcow2_metadata.specs.Tables.{TableValue, IsPlacedTable, with_raw_entry, table_start}
use Rattle.qcow2_alloc.specs.declared.cache.CacheDependency.TheVariants.{L2DependsOnRb}
use Rattle.qcow2_alloc.specs.declared.cache.MetadataCaches.{MetadataCaches}
use Rattle.qcow2_alloc.specs.declared.file.ImageFile.{ImageFile}
use Rattle.qcow2_alloc.specs.Allocating.{MakesBlock, OnlyIncremented}
use Rattle.qcow2_alloc.specs.Caches.{order_of, KeepsTables}
use Rattle.qcow2_alloc.specs.Causes.{Causes, bare_causes}
use Rattle.qcow2_alloc.specs.Freeing.{HasUnpinnedRoom}
use Rattle.qcow2_alloc.specs.GuestView.{Metadata, PreservesGuest, counted}
use Rattle.qcow2_alloc.specs.State.{ImageState, image_state, metadata, WhereGuarded}

-- An entry of the refcount table can be written and reference this cluster. The image's clusters have 2^`cluster_bits` bytes.
pub record CanReference (table : TableValue) (cluster_bits place : ℕ) : Type 0 where
  pub placed : IsPlacedTable table
  pub bits : table.layout.cluster_bits ≡ cluster_bits
  pub offset_nonzero : place ≢ 0

-- The causes of a failure to reference a cluster: the entry can't be written, or the cluster isn't addressable.
abbrev pub naming_causes : TableValue → (cluster_bits place : ℕ) → Causes
naming_causes table cluster_bits place =
    bare_causes (CanReference table cluster_bits place → ⊥) (λ number. (IsAddressable cluster_bits place → ⊥) × (number ≡ place))

-- A block is written, and then entry i of the refcount table, which references it. If the block isn't written, the table is unchanged.
pub record LinksWritten (table : TableValue) (i : ℕ) (block : Block) (old : StorageState) (result : Result Unit Fault)
    (table' : TableValue) (new : StorageState) : Type 0 where
  pub done : Result Unit Fault
  pub mid : StorageState
  pub put : BlockPut block (place_of block.cluster_bits block.cluster) old mid done
  pub stopped : (fault : Fault) → done ≡ Err fault → (result ≡ Err fault) × (new ≡ mid) × (table' ≡ table)
  pub named : done ≡ Ok tt → AtomicWriteOutcome mid new (table_start (with_raw_entry table i (place_of block.cluster_bits block.cluster)) + 8 * i)
      (to_be_bytes w64 (slice_index (with_raw_entry table i (place_of block.cluster_bits block.cluster)).raw_entries i)) result
      × ((modified : Bool) × (table' ≡ record (with_raw_entry table i (place_of block.cluster_bits block.cluster)) { modified = modified }))

-- A free cluster that a block counts, before those that block i counts.
pub record IsFreePlace (m : Metadata) (i place : ℕ) : Type 0 where
  pub below : place < i * counters_of_block m.header.fields
  pub uncounted : counted m place ≡ 0
  pub block_exists : block_offset (slice_index m.table.raw_entries (place / counters_of_block m.header.fields)) ≢ 0

-- The state within a call: `handed` is allocated, while blocks are written before tables, and nothing else has changed.
pub record Begins {S : Type 0} (state : S → StorageState) (s : ImageState S) (handed : ℕ → ℕ) (s' : ImageState S) : Type 0 where
  pub shape : (state s'.file.image).shape ≡ (state s.file.image).shape
  pub counts_not_fallen : CountsNotFallen (state s.file.image) (state s'.file.image)
  pub guest_unchanged : order_of s.caches ≡ L2DependsOnRb → PreservesGuest ⊤ handed (λ _. 0) (state s.file.image) (metadata state s) (state s'.file.image)
      (metadata state s')
  pub raised : WhereGuarded state s (OnlyIncremented (metadata state s) (metadata state s'))
  pub faults : IsFaultless (state s.file.image) (state s'.file.image)
  pub header : s'.file.header ≡ s.file.header
  pub order : s'.caches.order ≡ s.caches.order
  pub keeps_unpinned_room : (any : Bool) → HasUnpinnedRoom s.table s.caches any → HasUnpinnedRoom s.table s'.caches any
  pub room : KeepsTables s.caches s'.caches

-- A block is made in a cluster that another block counts. The call has come to this state, and knows from the earlier image that the
-- cluster is free.
abbrev pub MakesIn : {S : Type 0} → (S → StorageState) → (index place : ℕ) → ImageState S → Result Unit Fault → ImageState S → Type 0
MakesIn {S} state index place s result s' = (first : MetadataCaches S) (file : ImageFile S)
    → Begins state (image_state s.table first file s.pending) (λ _. 0) s
    → WhereGuarded state (image_state s.table first file s.pending) (IsFreePlace (metadata state s) index place)
    → MakesBlock state index (image_state s.table first file s.pending) result s'
