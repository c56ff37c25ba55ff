-- The smallest image: a disk of size 0 in three clusters, which are the header, the refcount table and one refcount block.
use Rattle.std.specs.Prelude.{◌≡◌, ℕ, ◌+◌, ◌*◌, ◌^◌, ◌<◌, ◌≤◌, true, IsFalse, Ok, None, Option, List, length, slice_index, slice_set}
use Rattle.qcow2_types.specs.Bytes.{Bytes, raw_entry, splice}
use Rattle.qcow2_types.specs.Counts.{counter, counters_of_block}
use Rattle.qcow2_types.specs.Header.{Fields, Header, cluster_size, entries_of_cluster, has_external_data, header_of}
use Rattle.qcow2_types.specs.HeaderBytes.{header_bytes, new_header}
use Rattle.qcow2_types.specs.Switched.{with_refcount_table}
use Rattle.qcow2_types.specs.TableBytes.{table_bytes}

-- The file is a new image of disk size 0 with this header. The refcount table is in cluster 1, and references the block in cluster 2 only.
-- In this block, clusters 0 to 2 have refcount 1, and the others 0.
pub record IsSmallestImage (f : Bytes) (H : Header) : Type 0 where
  pub loads : header_of true f ≡ Ok H
  pub size : H.fields.size ≡ 0
  pub l1_entries : H.fields.l1_entries ≡ 0
  pub l1_offset : H.fields.l1_offset ≡ 0
  pub refcount_table_offset : H.fields.refcount_table_offset ≡ cluster_size H.fields
  pub refcount_table_clusters : H.fields.refcount_table_clusters ≡ 1
  pub no_snapshots : H.fields.snapshots ≡ 0
  pub data_inside : IsFalse (has_external_data H.fields)
  pub first_block : raw_entry f (cluster_size H.fields) 0 ≡ 2 * cluster_size H.fields
  pub no_other_block : (i : ℕ) → 0 < i → i < entries_of_cluster H.fields → raw_entry f (cluster_size H.fields) i ≡ 0
  pub allocated : (c : ℕ) → c < 3 → counter f H.fields (2 * cluster_size H.fields) c ≡ 1
  pub free : (c : ℕ) → 3 ≤ c → c < counters_of_block H.fields → counter f H.fields (2 * cluster_size H.fields) c ≡ 0

-- the header of the smallest image: a new header without an external data file, whose refcount table is in cluster 1
abbrev pub smallest_header : ℕ → ℕ → Option (List ℕ) → Option (List ℕ) → Header
smallest_header bits order name format = with_refcount_table (new_header bits order name format None) (2 ^ bits) 1

-- the refcounts of its block: 1 for clusters 0 to 2, and 0 for the others
pub record AreFirstCounters (h : Fields) (counters : List ℕ) : Type 0 where
  pub long : length counters ≡ counters_of_block h
  pub allocated : (c : ℕ) → c < 3 → slice_index counters c ≡ 1
  pub free : (c : ℕ) → 3 ≤ c → slice_index counters c ≡ 0

-- the entries of its refcount table: only the first references a block, in cluster 2
pub record AreFirstEntries (h : Fields) (raw_entries : List ℕ) : Type 0 where
  pub long : length raw_entries ≡ entries_of_cluster h
  pub first : slice_index raw_entries 0 ≡ 2 * cluster_size h
  pub others : (i : ℕ) → 0 < i → slice_index raw_entries i ≡ 0

-- the refcounts after the one at index i was incremented
abbrev pub incremented : List ℕ → ℕ → List ℕ
incremented counters i = slice_set counters i (slice_index counters i + 1)

-- the file after the bytes of a block, the refcount table and the header were written, each to its cluster
abbrev pub with_parts : Bytes → Header → List ℕ → List ℕ → Bytes
with_parts f H block raw_entries =
    splice (splice (splice f (2 * cluster_size H.fields) block) (cluster_size H.fields) (table_bytes raw_entries)) 0 (header_bytes H)
