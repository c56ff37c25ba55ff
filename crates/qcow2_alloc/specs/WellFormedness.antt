-- The invariant of the two caches over their file (`WellFormed`). It keeps the file consistent at each crash.
use Rattle.imago_storage.specs.State.{StorageState, HasRisen, CrashImageIsBytes}
use Rattle.std.specs.Prelude.{IsTrue, ◌≡◌, ◌≢◌, ◌⊎◌, ℕ, ◌*◌, ◌<◌, ◌≤◌, ◌^◌, true, false, List, length, slice_index, nat_eq, Some}
use Rattle.std.specs.List.{AllByRecursion, IsDistinct}
use Rattle.std.specs.Map.{keys_of}
use Rattle.qcow2_types.specs.Bytes.{Bytes, bytes_of}
use Rattle.qcow2_types.specs.Header.{Fields, Header, cluster_size, entries_of_cluster, refcount_table_entries, layout_of}
use Rattle.qcow2_types.specs.Entries.{l2_table}
use Rattle.qcow2_types.specs.Counts.{block_at, count, counters_of_block}
use Rattle.qcow2_types.specs.References.{refs}
use Rattle.qcow2_types.specs.Consistency.{IsConsistent}
use Rattle.qcow2_types.specs.Versions.{ReferencedOnce, IsBetween, BlocksFirst, TablesFirst}
use Rattle.qcow2_metadata.specs.Tables.{TableValue, IsTable, l2_table_kind, raw_entries_in}
use Rattle.qcow2_metadata.specs.Blocks.{Block, counters_in}
use Rattle.qcow2_alloc.specs.declared.cache.CacheDependency.{CacheDependency}
use Rattle.qcow2_alloc.specs.declared.cache.CacheDependency.TheVariants.{Unset, L2DependsOnRb, RbDependsOnL2}
use Rattle.qcow2_alloc.specs.Memory.{Cached, memory}

-- An L1 entry references the L2 table in this cluster.
abbrev pub IsLiveTable : Bytes → Fields → ℕ → Type 0
IsLiveTable f h cluster = (i : ℕ) × (i < h.l1_entries) × (l2_table f h i ≡ cluster * cluster_size h) × (cluster ≢ 0)

-- An entry of the refcount table references the block in this cluster.
abbrev pub IsLiveBlock : Bytes → Fields → ℕ → Type 0
IsLiveBlock f h cluster = (i : ℕ) × (i < refcount_table_entries h) × (block_at f h i ≡ cluster * cluster_size h) × (cluster ≢ 0)

-- A cached L2 table is what the file has, or is dirty and referenced by an L1 entry. A table that no L1 entry references any more may still
-- be cached after it was replaced: it is clean.
pub record IsCachedTable (f : Bytes) (h : Fields) (cluster : ℕ) (table : TableValue) : Type 0 where
  pub fits : IsTable l2_table_kind table
  pub placed : table.cluster ≡ Some cluster
  pub layout : table.layout ≡ layout_of h
  pub modified : table.modified ≡ true → IsLiveTable f h cluster
  pub clean : table.modified ≡ false → IsLiveTable f h cluster → table.raw_entries ≡ raw_entries_in f (cluster * cluster_size h) (entries_of_cluster h)

-- A cached block is what the file has, or is dirty and referenced by an entry of the refcount table.
pub record IsCachedBlock (f : Bytes) (h : Fields) (cluster : ℕ) (block : Block) : Type 0 where
  pub placed : block.cluster ≡ Some cluster
  pub cluster_bits : block.cluster_bits ≡ h.cluster_bits
  pub order : block.order ≡ h.refcount_order
  pub long : length block.counters ≡ counters_of_block h
  pub fit : (i : ℕ) → slice_index block.counters i < 2 ^ 2 ^ block.order
  pub modified : block.modified ≡ true → IsLiveBlock f h cluster
  pub clean : block.modified ≡ false → IsLiveBlock f h cluster → block.counters ≡ counters_in f h (cluster * cluster_size h)

-- The write order holds between the file f and the image in memory g. If no order is set, both orders hold.
abbrev pub IsOrdered : CacheDependency → Bytes → Bytes → Fields → Type 0
IsOrdered Unset f g h = BlocksFirst f g h × TablesFirst f g h
IsOrdered L2DependsOnRb f g h = BlocksFirst f g h
IsOrdered RbDependsOnL2 f g h = TablesFirst f g h

-- The invariant that keeps each crash image consistent: the file is consistent, and the cached entries fit it. The structure and COPIED
-- clusters are referenced once in the file and in memory together. Refcounts cover references, as the write order requires and in memory.
pub record WellFormed (f : Bytes) (H : Header) (cached : Cached) (order : CacheDependency) : Type 0 where
  pub consistent : IsConsistent f H
  pub tables_apart : IsDistinct nat_eq (keys_of cached.tables)
  pub blocks_apart : IsDistinct nat_eq (keys_of cached.blocks)
  pub tables : AllByRecursion (λ e. IsCachedTable f H.fields e.0 e.1.value) cached.tables
  pub blocks : AllByRecursion (λ e. IsCachedBlock f H.fields e.0 e.1.value) cached.blocks
  pub apart : ReferencedOnce f (memory f H.fields cached) H.fields
  pub ordered : IsOrdered order f (memory f H.fields cached) H.fields
  pub covered : (c : ℕ) → refs (memory f H.fields cached) H.fields c ≤ count (memory f H.fields cached) H.fields c

-- A crash image x of file f, with the image g in memory: it is consistent, each entry means what it means in f or in g, and each byte is
-- that of f or of g.
pub record IsCrashImage (f g : Bytes) (H : Header) (x : Bytes) : Type 0 where
  pub consistent : IsConsistent x H
  pub raw_entries : IsBetween f x g H.fields
  pub bytes : (p : ℕ) → (x p ≡ f p) ⊎ (x p ≡ g p)

-- No table, or no block, is dirty.
abbrev pub AreTablesClean : Cached → Type 0
AreTablesClean cached = AllByRecursion (λ e. e.1.value.modified ≡ false) cached.tables

abbrev pub AreBlocksClean : Cached → Type 0
AreBlocksClean cached = AllByRecursion (λ e. e.1.value.modified ≡ false) cached.blocks

-- The storage exposes its crash images (the file after a crash between two requests), and no change of it has failed since. The crash image
-- before was the file's bytes.
pub record NoChangeRefused (old new : StorageState) : Type 0 where
  pub no_change_refused : HasRisen old.refusals new.refusals → ⊥
  pub crash_image_is_bytes : CrashImageIsBytes old
  pub tells : IsTrue old.shape.tells

-- The caches are well-formed, and the image in memory is the same. The file is one that a crash could have left.
pub record IsSettled (H : Header) (order : CacheDependency) (old : List ℕ) (cached : Cached) (new : List ℕ)
    (cached' : Cached) : Type 0 where
  pub well_formed : WellFormed (bytes_of new) H cached' order
  pub memory_same : memory (bytes_of new) H.fields cached' ≡ memory (bytes_of old) H.fields cached
  pub left : IsCrashImage (bytes_of old) (memory (bytes_of old) H.fields cached) H (bytes_of new)
