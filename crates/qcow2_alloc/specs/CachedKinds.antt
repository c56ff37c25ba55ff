-- The two kinds of cached entries, L2 tables and refcount blocks. Calls of either cache are specified once, over such a kind.
use Rattle.std.specs.Prelude.{◌≡◌, ℕ, ◌*◌, true, false, List, Result}
use Rattle.std.specs.List.{AllByRecursion}
use Rattle.imago_storage.specs.State.{StorageState}
use Rattle.imago_storage.specs.declared.fault.Fault.{Fault}
use Rattle.qcow2_types.specs.Bytes.{Bytes}
use Rattle.qcow2_types.specs.Header.{Fields, cluster_size, entries_of_cluster, layout_of}
use Rattle.qcow2_metadata.specs.Places.{IsAddressable}
use Rattle.qcow2_metadata.specs.Tables.{HasUnsound, TableValue, l2_table_kind, table_in, raw_entries_in}
use Rattle.qcow2_metadata.specs.Blocks.{Block, block_in}
use Rattle.qcow2_alloc.specs.declared.async_lru_cache.AsyncLruCache.{AsyncLruCache}
use Rattle.qcow2_alloc.specs.declared.async_lru_cache.Slot.{Slot}
use Rattle.qcow2_alloc.specs.declared.cache.CacheDependency.{CacheDependency}
use Rattle.qcow2_alloc.specs.declared.cache.CacheDependency.TheVariants.{L2DependsOnRb, RbDependsOnL2}
use Rattle.qcow2_alloc.specs.declared.cache.L2CacheBackend.{L2CacheBackend}
use Rattle.qcow2_alloc.specs.declared.cache.MetadataCaches.{MetadataCaches}
use Rattle.qcow2_alloc.specs.declared.cache.RefBlockCacheBackend.{RefBlockCacheBackend}
use Rattle.qcow2_alloc.specs.declared.file.ImageFile.{ImageFile}
use Rattle.qcow2_alloc.specs.Backends.{WrittenKind, Flushed, TableLoaded, BlockLoaded, written_tables, written_blocks}
use Rattle.qcow2_alloc.specs.Cache.{FlushedEach, fault_of}
use Rattle.qcow2_alloc.specs.Going.{CachedStep}
use Rattle.qcow2_alloc.specs.Memory.{Cached}
use Rattle.qcow2_alloc.specs.WellFormedness.{IsCachedTable, IsCachedBlock}

-- A kind of entries: its properties, and those of the other cache's entries.
pub record CachedKind (S V W : Type 0) : Type 1 where
  -- the storage's state, as contracts see it
  pub state : S → StorageState
  -- the write of an entry
  pub writes : WrittenKind V
  -- the write of an entry of the other cache
  pub other_writes : WrittenKind W
  -- the order in which the other cache is written first
  pub first : CacheDependency
  -- the value that the file has in a cluster
  pub read : Bytes → Fields → (cluster : ℕ) → V
  -- the cluster is addressable, and its contents in the file are valid
  pub Fine : Bytes → Fields → (cluster : ℕ) → Type 0
  -- the load of an entry
  pub Loads : Fields → (cluster : ℕ) → StorageState → Result V Fault → StorageState → Type 0
  -- a value fits the file, and may be cached for a cluster
  pub Fits : Bytes → Fields → (cluster : ℕ) → V → Type 0
  -- all that is cached, from the other cache's entries and this one's
  pub cached : List (ℕ × Slot W) → List (ℕ × Slot V) → Cached
  -- this cache's entries
  pub own : Cached → List (ℕ × Slot V)
  -- the other cache's entries
  pub others : Cached → List (ℕ × Slot W)

-- One of the two caches, the other one, and the write order.
pub record Beside (S V W A B : Type 0) : Type 0 where
  pub own : AsyncLruCache ℕ V A (ImageFile S)
  pub other : AsyncLruCache ℕ W B (ImageFile S)
  pub order : CacheDependency

module _ {V : Type 0} (writes : WrittenKind V) where
  -- An entry after it is written.
  abbrev pub as_written : ℕ × Slot V → ℕ × Slot V
  as_written e = (e.0, record e.1 { value = writes.marked e.1.value e.0 false })

  -- No entry is dirty.
  abbrev pub AreClean : List (ℕ × Slot V) → Type 0
  AreClean es = AllByRecursion (λ e. writes.modified e.1.value ≡ false) es

  -- The cluster of each dirty entry is addressable.
  abbrev pub AreInReach : List (ℕ × Slot V) → Type 0
  AreInReach es = AllByRecursion (λ e. writes.modified e.1.value ≡ true → IsAddressable (writes.cluster_bits e.1.value) e.0) es

module _ {S V W : Type 0} (kind : CachedKind S V W) where
  -- All that is cached.
  abbrev pub cached_of : {A B : Type 0} → Beside S V W A B → Cached
  cached_of c = kind.cached c.other.slots.entries c.own.slots.entries

  -- An entry is loaded from an image file, or flushed to it.
  abbrev pub loads_of : ImageFile S → ℕ → Result V Fault → ImageFile S → Type 0
  loads_of old key result new = (new.header ≡ old.header)
      × kind.Loads old.header.fields key (kind.state old.image) result (kind.state new.image)

  abbrev pub flushes_of : ImageFile S → ℕ → V → Result Unit Fault → ImageFile S → V → Type 0
  flushes_of old key value result new value' = (new.header ≡ old.header)
      × Flushed kind.writes (kind.state old.image) key value result (kind.state new.image) value'

  -- The entries of the other cache are flushed, each by at most one request. This cache's entries stay the same.
  abbrev pub WritesOther : CachedStep
  WritesOther old cached result new cached' = (kind.own cached' ≡ kind.own cached)
      × FlushedEach (Flushed kind.other_writes) old (kind.others cached) (fault_of result) new (kind.others cached')

-- The cluster is addressable, and the file has a valid L2 table there.
pub record IsTableFine (f : Bytes) (h : Fields) (cluster : ℕ) : Type 0 where
  pub reach : IsAddressable h.cluster_bits cluster
  pub sound : HasUnsound l2_table_kind (layout_of h) (raw_entries_in f (cluster * cluster_size h) (entries_of_cluster h)) → ⊥

module _ {S : Type 0} where
  -- L2 tables. Blocks are written before them for allocation.
  abbrev pub table_entries : (S → StorageState) → CachedKind S TableValue Block
  table_entries state = record {
    state = state;
    writes = written_tables;
    other_writes = written_blocks;
    first = L2DependsOnRb;
    read = λ f h cluster. table_in f h cluster (entries_of_cluster h);
    Fine = IsTableFine;
    Loads = TableLoaded;
    Fits = IsCachedTable;
    cached = λ blocks tables. record { tables = tables; blocks = blocks };
    own = λ cached. cached.tables;
    others = λ cached. cached.blocks;
  }

  -- Refcount blocks. L2 tables are written before them for freeing.
  abbrev pub block_entries : (S → StorageState) → CachedKind S Block TableValue
  block_entries state = record {
    state = state;
    writes = written_blocks;
    other_writes = written_tables;
    first = RbDependsOnL2;
    read = block_in;
    Fine = λ f h cluster. IsAddressable h.cluster_bits cluster;
    Loads = BlockLoaded;
    Fits = IsCachedBlock;
    cached = λ tables blocks. record { tables = tables; blocks = blocks };
    own = λ cached. cached.blocks;
    others = λ cached. cached.tables;
  }

  -- The two caches, with that of tables or that of blocks as the own one.
  abbrev pub by_tables : MetadataCaches S → Beside S TableValue Block (L2CacheBackend S) (RefBlockCacheBackend S)
  by_tables caches = record { own = caches.l2; other = caches.rb; order = caches.order }

  abbrev pub by_blocks : MetadataCaches S → Beside S Block TableValue (RefBlockCacheBackend S) (L2CacheBackend S)
  by_blocks caches = record { own = caches.rb; other = caches.l2; order = caches.order }
