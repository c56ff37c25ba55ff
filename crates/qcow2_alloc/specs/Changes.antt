-- Specifies changes of a refcount in a cached block, or of an entry in a cached L2 table, and what they change in memory. The changed cache
-- entry was used, and so becomes the first.
use Rattle.std.specs.Prelude.{◌≡◌, ◌≢◌, ℕ, ◌+◌, ◌*◌, ◌/◌, ◌%◌, ◌<◌, ◌≤◌, Bool, true, false, Option, Some, None, nat_eq}
use Rattle.std.specs.Option.{option_map}
use Rattle.std.specs.Map.{lookup}
use Rattle.qcow2_types.specs.Bytes.{Bytes}
use Rattle.qcow2_types.specs.Words.{Mapping, data_at, zeroes}
use Rattle.qcow2_types.specs.Header.{Fields, Header, cluster_size, entries_of_cluster}
use Rattle.qcow2_types.specs.Entries.{l2_table}
use Rattle.qcow2_types.specs.Counts.{block_at, counters_of_block}
use Rattle.qcow2_types.specs.References.{of_mapping, of_copied, meets, refs}
use Rattle.qcow2_types.specs.Slots.{slot as slot_in}
use Rattle.qcow2_types.specs.Steps.{CounterWritten, SlotWritten}
use Rattle.qcow2_types.specs.Versions.{references_in_either}
use Rattle.qcow2_metadata.specs.Tables.{TableValue, with_raw_entry}
use Rattle.qcow2_metadata.specs.Blocks.{Block, with_counter}
use Rattle.qcow2_alloc.specs.declared.cache.CacheDependency.{CacheDependency}
use Rattle.qcow2_alloc.specs.declared.cache.CacheDependency.TheVariants.{RbDependsOnL2}
use Rattle.qcow2_alloc.specs.Cache.{hit}
use Rattle.qcow2_alloc.specs.Memory.{Cached, memory}
use Rattle.qcow2_alloc.specs.WellFormedness.{WellFormed}

-- The caches stay well-formed, and the image in memory is the same.
pub record StaysAsItIs (f : Bytes) (H : Header) (cached : Cached) (order : CacheDependency) (cached' : Cached) : Type 0 where
  pub well_formed : WellFormed f H cached' order
  pub memory_same : memory f H.fields cached' ≡ memory f H.fields cached

-- This block, which has the refcount of cluster c, is cached at the key.
pub record CachesBlock (f : Bytes) (h : Fields) (cached : Cached) (key c : ℕ) (block : Block) : Type 0 where
  pub block_cached : option_map (λ s. s.value) (lookup (nat_eq key) cached.blocks) ≡ Some block
  pub counts : block_at f h (c / counters_of_block h) ≡ key * cluster_size h
  pub cluster_nonzero : key ≢ 0

-- The refcount of cluster c is set to n in the block at the key.
pub record SetsCounter (f : Bytes) (h : Fields) (cached : Cached) (key c n : ℕ) (cached' : Cached) : Type 0 where
  pub block : Block
  pub caches : CachesBlock f h cached key c block
  pub blocks : cached'.blocks ≡ hit (nat_eq key) cached.blocks (with_counter block (c % counters_of_block h) n)
  pub tables : cached'.tables ≡ cached.tables

-- The caches stay well-formed. In memory the refcount of cluster c becomes n, and nothing else changes.
pub record CounterChanged (f : Bytes) (H : Header) (order : CacheDependency) (cached : Cached) (c n : ℕ) (cached' : Cached) : Type 0 where
  pub well_formed : WellFormed f H cached' order
  pub written : CounterWritten (memory f H.fields cached) (memory f H.fields cached') H c n
  pub names : (d : ℕ) → references_in_either f (memory f H.fields cached') H.fields d ≡ references_in_either f (memory f H.fields cached) H.fields d

-- A refcount of n covers the references to cluster c: those in memory if tables are written first, otherwise also those in the file.
abbrev pub IsStillCovered : CacheDependency → Bytes → Bytes → Fields → ℕ → ℕ → Type 0
IsStillCovered RbDependsOnL2 f g h c n = refs g h c ≤ n
IsStillCovered order f g h c n = references_in_either f g h c ≤ n

-- This L2 table, which entry i of the L1 table references, is cached at the key.
pub record CachesTable (f : Bytes) (h : Fields) (cached : Cached) (key i : ℕ) (table : TableValue) : Type 0 where
  pub table_cached : option_map (λ s. s.value) (lookup (nat_eq key) cached.tables) ≡ Some table
  pub inside : i < h.l1_entries
  pub place : l2_table f h i ≡ key * cluster_size h
  pub cluster_nonzero : key ≢ 0

-- Entry j of the table at the key is set to w.
pub record SetsEntry (f : Bytes) (h : Fields) (cached : Cached) (key i j w : ℕ) (cached' : Cached) : Type 0 where
  pub table : TableValue
  pub caches : CachesTable f h cached key i table
  pub inside : j < entries_of_cluster h
  pub tables : cached'.tables ≡ hit (nat_eq key) cached.tables (with_raw_entry table j w)
  pub blocks : cached'.blocks ≡ cached.blocks

-- A file with its header, its cached entries and their write order.
pub record CachedFile : Type 0 where
  pub file : Bytes
  pub header : Header
  pub order : CacheDependency
  pub cached : Cached

abbrev pub file_with : Bytes → Header → CacheDependency → Cached → CachedFile
file_with f H order cached = record { file = f; header = H; order = order; cached = cached }

-- The image in memory over the file, with these cached entries.
abbrev pub memory_with : CachedFile → Cached → Bytes
memory_with m cached = memory m.file m.header.fields cached

-- The caches stay well-formed. Entry j of L2 table i meant `old` in memory and means `new` now. The references to clusters change
-- accordingly, and nothing else.
pub record EntryChanged (m : CachedFile) (i j : ℕ) (old new : Mapping) (cached' : Cached) : Type 0 where
  pub well_formed : WellFormed m.file m.header cached' m.order
  pub was : slot_in (memory_with m m.cached) m.header.fields i j ≡ old
  pub written : SlotWritten (memory_with m m.cached) (memory_with m cached') m.header i j new
  pub references : (c : ℕ) → refs (memory_with m cached') m.header.fields c + of_mapping m.header.fields (meets m.header.fields c) old
      ≡ refs (memory_with m m.cached) m.header.fields c + of_mapping m.header.fields (meets m.header.fields c) new

-- The new mapping references no cluster that the old one didn't, and has no COPIED flag that the old one hadn't.
abbrev pub ReferencesNoMore : Fields → Mapping → Mapping → Type 0
ReferencesNoMore h old new = (c : ℕ) → (of_mapping h (meets h c) new ≤ of_mapping h (meets h c) old)
    × (of_copied h (meets h c) new ≤ of_copied h (meets h c) old)

-- Like `EntryChanged`, for a new mapping that references no more: no cluster has more references.
pub record ReferencesDropped (m : CachedFile) (i j : ℕ) (old new : Mapping) (cached' : Cached) : Type 0 where
  pub changed : EntryChanged m i j old new cached'
  pub references : (c : ℕ) → refs (memory_with m cached') m.header.fields c ≤ refs (memory_with m m.cached) m.header.fields c
  pub names : (c : ℕ) → references_in_either m.file (memory_with m cached') m.header.fields c ≤ references_in_either m.file (memory_with m m.cached) m.header.fields c

-- Like `EntryChanged`, for a new mapping to cluster x, which had no references: x has one, and no other cluster has more.
pub record ClusterLinked (m : CachedFile) (i j : ℕ) (old : Mapping) (x : ℕ) (cached' : Cached) : Type 0 where
  pub changed : EntryChanged m i j old (data_at x true) cached'
  pub references : refs (memory_with m cached') m.header.fields x ≡ 1
  pub names : references_in_either m.file (memory_with m cached') m.header.fields x ≡ 1
  pub others : (c : ℕ) → c ≢ x
      → references_in_either m.file (memory_with m cached') m.header.fields c ≤ references_in_either m.file (memory_with m m.cached) m.header.fields c

-- The meaning of an entry that reads as zeros, with this preallocated cluster and its COPIED flag, or with none.
abbrev pub zeroed : Option (ℕ × Bool) → Mapping
zeroed None = zeroes None false
zeroed (Some kept) = zeroes (Some kept.0) kept.1
