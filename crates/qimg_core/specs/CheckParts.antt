-- Definitions for the parts of the checker: the tables, the refcount blocks and the sums over them.
use Rattle.std.specs.Prelude.{◌≡◌, ◌≢◌, ℕ, ◌+◌, ◌*◌, ◌<◌, ◌≤◌, ⊤, not, ◌==◌, min, true, IsTrue, IsFalse, Ok, List, map, length, slice_index, All, Option, Some, None}
use Rattle.std.specs.Int.{div_ceil}
use Rattle.std.specs.List.{sum_by, filter, range_with_len}
use Rattle.qcow2_types.specs.Bytes.{Bytes}
use Rattle.qcow2_types.specs.Words.{Mapping, mapping_of, is_cluster_offset}
use Rattle.qcow2_types.specs.Header.{Fields, Feature, Header, header_of, cluster_size, layout_of, refcount_table_entries}
use Rattle.qcow2_types.specs.Entries.{l2_table, l1_table_sound}
use Rattle.qcow2_types.specs.Counts.{block_at, count, counters_of_block, refcount_table_sound}
use Rattle.qcow2_types.specs.References.{meets, of_cluster, of_mapping, of_copied, structure, contents}
use Rattle.qcow2_types.specs.Consistency.{is_under_counted, leaks_below}
use Rattle.qcow2_metadata.specs.Blocks.{Block}
use Rattle.qimg_core.specs.Names.{Total, referenced_by, structure_part, mapped_part, copied_part}
use Rattle.qimg_core.specs.declared.check.names.Tallies.{Tallies}

-- `header` is the header that loads for writing, except for the feature names.
abbrev pub HasHeader : Bytes → Header → Type 0
HasHeader f header = (names : List Feature) × (header_of true f ≡ Ok (record header { features = names }))

-- For each cluster, the tallies have the number of its references in the image.
pub record Tells (f : Bytes) (h : Fields) (names : Tallies) : Type 0 where
  pub structure : (c : ℕ) → referenced_by structure_part c names ≡ structure f h (meets h c)
  pub mapped : (c : ℕ) → referenced_by mapped_part c names ≡ contents f h (of_mapping h (meets h c))
  pub copied : (c : ℕ) → referenced_by copied_part c names ≡ contents f h (of_copied h (meets h c))

-- The offsets of the L2 tables that the L1 entries reference, in their order.
unfoldable pub tables_of : Bytes → Fields → List ℕ
tables_of f h = filter (λ t. not (t == 0)) (map (l2_table f h) (range_with_len 0 h.l1_entries))

-- Refcount `j` of a block that may be missing.
abbrev pub counter_in : Option Block → ℕ → ℕ
counter_in None j = 0
counter_in (Some block) j = slice_index block.counters j

-- The sum of a function over a list of offsets.
abbrev pub sum_over : (ℕ → ℕ) → List ℕ → ℕ
sum_over of places = sum_by of places

-- The sum of a weight over the first cluster, the L1 table and the refcount table.
abbrev pub start_over : Fields → Total
start_over h weight = weight 0 (cluster_size h) + weight h.l1_offset (h.l1_entries * 8) + weight h.refcount_table_offset
    (h.refcount_table_clusters * cluster_size h)

-- The sum of a weight over the structure (header, tables and refcount blocks), given the offsets of its L2 tables and refcount blocks.
unfoldable pub structure_over : Fields → List ℕ → List ℕ → Total
structure_over h tables blocks weight =
    start_over h weight
    + sum_over (of_cluster h weight) blocks
    + sum_over (of_cluster h weight) tables

-- The sum of a function over the mappings of L2 entries.
unfoldable pub entries_over : Fields → (Mapping → ℕ) → List ℕ → ℕ
entries_over h of raw_entries = sum_by (λ w. of (mapping_of (layout_of h) w)) raw_entries

-- Each of these offsets is one of a cluster.
abbrev pub AreTables : ℕ → List ℕ → Type 0
AreTables cluster_bits places = All (λ place. IsTrue (is_cluster_offset cluster_bits place)) places

-- `blocks` are the offsets of the refcount blocks. Offsets that are missing at the end are 0.
pub record IsBlocks (f : Bytes) (h : Fields) (blocks : List ℕ) : Type 0 where
  pub each : (i : ℕ) → slice_index blocks i ≡ block_at f h i
  pub count_bounded : length blocks ≤ refcount_table_entries h
  pub placed : (i : ℕ) → IsTrue (is_cluster_offset h.cluster_bits (slice_index blocks i))

-- All blocks that exist are before this index, and one of them is just before it.
pub record IsBlocksEnd (blocks : List ℕ) (end : ℕ) : Type 0 where
  pub after : (i : ℕ) → end ≤ i → slice_index blocks i ≡ 0
  pub last : (i : ℕ) → i + 1 ≡ end → slice_index blocks i ≢ 0

-- The number of clusters of a file of `size` bytes that the first `blocks` refcount blocks cover.
abbrev pub counted_clusters : Fields → ℕ → ℕ → ℕ
counted_clusters h size blocks = min (div_ceil size (cluster_size h)) (blocks * counters_of_block h)

-- There is one cell for each cluster of a file of `size` bytes that the refcount blocks cover.
abbrev pub HasCells : ℕ → Fields → List ℕ → Tallies → Type 0
HasCells size h blocks names = (end : ℕ) × IsBlocksEnd blocks end × (length names.cells.items ≡ counted_clusters h size end)

-- `tables` and `blocks` are the offsets of the L2 tables and of the refcount blocks, and both top-level tables are valid.
pub record HoldsPlaces (f : Bytes) (h : Fields) (tables blocks : List ℕ) : Type 0 where
  pub in_order : tables ≡ tables_of f h
  pub are_blocks : IsBlocks f h blocks
  pub l1_sound : IsTrue (l1_table_sound f h)
  pub refcounts_sound : IsTrue (refcount_table_sound f h)

-- If the block exists, `j` is an index of its refcounts.
abbrev pub IsIn : Option Block → ℕ → Type 0
IsIn None j = ⊤
IsIn (Some block) j = j < length block.counters

-- `block` has the refcounts of the refcount table entry at `index`.
pub record HoldsCounters (f : Bytes) (h : Fields) (index : ℕ) (block : Option Block) : Type 0 where
  pub counts : (j : ℕ) → j < counters_of_block h → counter_in block j ≡ count f h (index * counters_of_block h + j)
  pub whole : (j : ℕ) → j < counters_of_block h → IsIn block j

-- The refcounts of the clusters before `c` are high enough, and `found` are the leaks among them.
pub record AreCompared (f : Bytes) (h : Fields) (found : List (ℕ × ℕ)) (c : ℕ) : Type 0 where
  pub enough : (d : ℕ) → d < c → IsFalse (is_under_counted f h d)
  pub are_leaks : found ≡ leaks_below f h c
