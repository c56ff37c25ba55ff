-- The parts of an allocator that contracts use: its refcount table and its first-free hint. Also specifies the use of cached refcount
-- blocks and L2 tables, and how a refcount is decremented.
use Rattle.std.specs.Prelude.{◌≡◌, ◌⊎◌, ℕ, ◌-◌, ◌/◌, ◌%◌, ◌<◌, ◌≤◌, ◌^◌, Option, Some, None, Result, Ok, Err, MatchOption, IfErr, IfOk, OnOk, nat_eq, if◌then◌else◌, ◌==◌, List, slice_index, length}
use Rattle.std.specs.Option.{option_map}
use Rattle.std.specs.Map.{lookup}
use Rattle.imago_storage.specs.State.{StorageState}
use Rattle.imago_storage.specs.Calls.{UnchangedButFaults, IsFaultless}
use Rattle.imago_storage.specs.declared.fault.Fault.{Fault}
use Rattle.imago_storage.specs.declared.fault.Fault.TheVariants.{DamagedTable, Counter}
use Rattle.qcow2_types.specs.Bytes.{bytes_of}
use Rattle.qcow2_types.specs.Header.{Fields, cluster_size, refcount_table_entries, layout_of}
use Rattle.qcow2_types.specs.Counts.{counters_of_block}
use Rattle.qcow2_types.specs.Words.{block_offset, max_offset}
use Rattle.qcow2_types.specs.Pending.{FreeEntry}
use Rattle.qcow2_metadata.specs.Tables.{TableValue, AreSound, WhyNotLoaded, refcount_table_kind, raw_entries_in, table_in}
use Rattle.qcow2_metadata.specs.Blocks.{Block, with_counter}
use Rattle.qcow2_alloc.specs.declared.allocation.Allocator.{Allocator}
use Rattle.qcow2_alloc.specs.declared.cache.MetadataCaches.{MetadataCaches}
use Rattle.qcow2_alloc.specs.declared.file.ImageFile.{ImageFile}
use Rattle.qcow2_alloc.specs.Cache.{hit}
use Rattle.qcow2_alloc.specs.Caches.{CachedFile, cached_in, order_of}
use Rattle.qcow2_alloc.specs.CachesLending.{OneCache, of_tables, of_blocks}
use Rattle.qcow2_alloc.specs.Finding.{EntryFound}
use Rattle.qcow2_alloc.specs.Going.{HadNoResourceError}
use Rattle.qcow2_alloc.specs.GuestView.{Metadata, IsTableOf}

-- The refcount table in memory, and the first-free hint, where the search for free clusters starts.
abbrev pub table_of : Allocator → TableValue
table_of a = a.reftable

abbrev pub first_free_of : Allocator → ℕ
first_free_of a = a.first_free_cluster

-- The cluster of the block that an entry of the refcount table references, if any.
abbrev pub referenced_block : TableValue → ℕ → Option ℕ
referenced_block table i = if block_offset (slice_index table.raw_entries i) == 0 then None else Some
    (block_offset (slice_index table.raw_entries i) / 2 ^ table.layout.cluster_bits)

-- All that contracts see of an image with its caches, its allocator and its free list.
abbrev pub metadata_of : {S : Type 0} → (S → StorageState) → ImageFile S → MetadataCaches S → TableValue → List FreeEntry → Metadata
metadata_of state file caches table pending = record {
  file = bytes_of (state file.image).bytes;
  header = file.header;
  cached = cached_in caches;
  order = order_of caches;
  table = table;
  pending = pending;
}

-- The entry of a cluster is found in one of the caches, and `does` relates its value before and after.
pub record EntryUsed {S V W A B T : Type 0} (cache : OneCache S V W A B) (cluster : ℕ) (does : V → Result T Fault → V → Type 0)
    (old : CachedFile S) (result : Result T Fault) (new : CachedFile S) : Type 0 where
  pub mid : MetadataCaches S
  pub found : EntryFound cache.kind cluster (cache.see old.caches) old.file (Ok tt) (cache.see mid) new.file
  pub value : V
  pub value' : V
  pub value_cached : option_map (λ s. s.value) (lookup (nat_eq cluster) (cache.see mid).own.slots.entries) ≡ Some value
  pub used : does value result value'
  pub left : new.caches ≡ cache.put mid (hit (nat_eq cluster) (cache.see mid).own.slots.entries value')

-- The entry of a cluster is used, or its lookup fails.
abbrev pub UsesEntry : {S V W A B T : Type 0} → OneCache S V W A B → ℕ → (V → Result T Fault → V → Type 0) → CachedFile S → Result T Fault
    → CachedFile S → Type 0
UsesEntry cache cluster does old result new = ((fault : Fault) × (result ≡ Err fault)
    × EntryFound cache.kind cluster (cache.see old.caches) old.file (Err fault) (cache.see new.caches) new.file)
    ⊎ EntryUsed cache cluster does old result new

module _ {S T : Type 0} (state : S → StorageState) (cluster : ℕ) where
  -- A refcount block is found and used.
  abbrev pub BlockUsed : (Block → Result T Fault → Block → Type 0) → CachedFile S → Result T Fault → CachedFile S → Type 0
  BlockUsed = EntryUsed (of_blocks state) cluster

  -- A refcount block is used, or its lookup fails.
  abbrev pub UsesBlock : (Block → Result T Fault → Block → Type 0) → CachedFile S → Result T Fault → CachedFile S → Type 0
  UsesBlock = UsesEntry (of_blocks state) cluster

  -- An L2 table is found and used.
  abbrev pub TableUsed : (TableValue → Result T Fault → TableValue → Type 0) → CachedFile S → Result T Fault → CachedFile S → Type 0
  TableUsed = EntryUsed (of_tables state) cluster

  -- An L2 table is used, or its lookup fails.
  abbrev pub UsesTable : (TableValue → Result T Fault → TableValue → Type 0) → CachedFile S → Result T Fault → CachedFile S → Type 0
  UsesTable = UsesEntry (of_tables state) cluster

-- A refcount of a block is decremented. The call fails if the block has no such refcount, or if the refcount is 0.
pub record DecrementsCounter (index : ℕ) (block : Block) (result : Result Unit Fault) (block' : Block) : Type 0 where
  pub out : length block.counters ≤ index → (result ≡ Err DamagedTable) × (block' ≡ block)
  pub none : index < length block.counters → slice_index block.counters index ≡ 0 → (result ≡ Err Counter) × (block' ≡ block)
  pub if_counted : index < length block.counters → 0 < slice_index block.counters index → (result ≡ Ok tt)
      × (block' ≡ with_counter block index (slice_index block.counters index - 1))

-- A cluster's refcount is decremented, in the block that the refcount table references for it. Without such a block the table is damaged.
abbrev pub DecrementsCluster : {S : Type 0} → (S → StorageState) → TableValue → ℕ → CachedFile S → Result Unit Fault → CachedFile S → Type 0
DecrementsCluster state table cluster old result new = MatchOption
    (referenced_block table (cluster / counters_of_block old.file.header.fields))
    ((result ≡ Err DamagedTable) × (new.caches ≡ old.caches) × (new.file ≡ old.file))
    (λ key. UsesBlock state key (DecrementsCounter (cluster % counters_of_block old.file.header.fields)) old result new)

-- The header's offset of the refcount table is that of an addressable cluster.
pub record IsTablePlaced (h : Fields) : Type 0 where
  pub aligned : h.refcount_table_offset % cluster_size h ≡ 0
  pub reach : h.refcount_table_offset ≤ max_offset

-- An allocator is loaded: its refcount table is the file's, and all its entries are valid. For a consistent image it references the same
-- blocks.
pub record LoadsAllocator (old : StorageState) (h : Fields) (result : Result Allocator Fault) (new : StorageState) : Type 0 where
  pub ok : IfOk result (λ a. IsTablePlaced h × (table_of a
      ≡ table_in (bytes_of old.bytes) h (h.refcount_table_offset / cluster_size h) (refcount_table_entries h)) × (first_free_of a ≡ 0))
  pub sound : OnOk result (AreSound refcount_table_kind (layout_of h)
      (raw_entries_in (bytes_of old.bytes) h.refcount_table_offset (refcount_table_entries h)))
  pub table : IfOk result (λ a. 0 < refcount_table_entries h → IsTableOf (bytes_of old.bytes) h (table_of a))
  pub out : (IsTablePlaced h → ⊥) → (result ≡ Err DamagedTable) × (new ≡ old)
  pub err : IsTablePlaced h → IfErr result (WhyNotLoaded refcount_table_kind (layout_of h)
      (raw_entries_in (bytes_of old.bytes) h.refcount_table_offset (refcount_table_entries h)) old.faults new.faults)
  pub unchanged_but_faults : UnchangedButFaults old new
  pub faults : HadNoResourceError result → IsFaultless old new
