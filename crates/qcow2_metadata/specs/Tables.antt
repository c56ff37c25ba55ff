-- Tables of 64-bit entries for contracts: the L1 table, L2 tables and the refcount table, how they load, and how they grow.
use Rattle.std.specs.Prelude.{◌≡◌, ⊤, ℕ, ◌+◌, ◌-◌, ◌*◌, ◌%◌, ◌^◌, ◌<◌, ◌≤◌, Bool, false, not, ◌&&◌, ◌||◌, ◌==◌, if◌then◌else◌, List, length, map, slice_index, slice_set, ◌++◌, replicate, max, true, IsTrue, Option, Some, None, ◌/◌}
use Rattle.std.specs.List.{range_with_len}
use Rattle.qcow2_types.specs.Bytes.{Bytes, raw_entry}
use Rattle.qcow2_types.specs.TableBytes.{AreFit}
use Rattle.qcow2_types.specs.Header.{Fields, cluster_size, entries_of_cluster, layout_of}
use Rattle.imago_storage.specs.Calls.{Cause}
use Rattle.imago_storage.specs.declared.fault.Fault.{Fault}
use Rattle.imago_storage.specs.declared.fault.Fault.TheVariants.{Limit, DamagedTable, Memory}
use Rattle.qcow2_metadata.specs.Places.{IsPlaced, place_of}
use Rattle.qcow2_types.specs.Words.{Mapping, bits_at, has_bit, table_offset, is_copied, compressed_offset, compressed_end, Layout, mapping_of, is_damaged, l1_entry_valid, reftable_entry_valid}

-- The reserved bits of an L1, an L2 and a refcount table entry, unshifted.
abbrev pub l1_reserved : ℕ → ℕ
l1_reserved w = bits_at w 0 9 + bits_at w 56 7 * 2 ^ 56

abbrev pub l2_reserved : ℕ → ℕ
l2_reserved w = if has_bit w 62 then bits_at w 63 1 * 2 ^ 63 else bits_at w 1 8 * 2 + bits_at w 56 6 * 2 ^ 56

abbrev pub block_reserved : ℕ → ℕ
block_reserved w = bits_at w 0 9

-- An offset, where 0 means none.
abbrev pub offset_or_none : ℕ → Option ℕ
offset_or_none offset = if offset == 0 then None else Some offset

-- The host offset in a standard L2 entry, with or without an external data file.
abbrev pub data_offset : Bool → ℕ → Option ℕ
data_offset external w = if not (table_offset w == 0) || (external && is_copied w) then Some (table_offset w) else None

-- The host offset and the length of a compressed entry's data.
abbrev pub compressed_byte_range : ℕ → ℕ → Option (ℕ × ℕ)
compressed_byte_range cluster_bits w = if has_bit w 62 then Some
    (compressed_offset cluster_bits w, compressed_end cluster_bits w - compressed_offset cluster_bits w) else None

-- The raw entry of a guest cluster that reads as zeroes, with the preallocated cluster at this offset.
abbrev pub zero_raw_entry : ℕ → Bool → ℕ
zero_raw_entry offset copied = if copied then 2 ^ 63 + offset + 1 else offset + 1

-- An L2 entry without the COPIED flag.
abbrev pub raw_without_copied : ℕ → ℕ
raw_without_copied w = w % 2 ^ 63

-- An L2 entry as a copy of its table has it. The clusters are now shared, so the COPIED flag is cleared. With an
-- external data file it is kept: the clusters have no refcounts, and the flag may be all that says that the entry
-- references one.
abbrev pub shared_raw_entry : Layout → ℕ → ℕ
shared_raw_entry layout w = if layout.external_data then w else raw_without_copied w

-- The kinds of tables.
pub data Kind : Type 0 where
  l1_table_kind : Kind
  l2_table_kind : Kind
  refcount_table_kind : Kind

-- The raw entry is valid in a table of this kind.
abbrev pub raw_entry_valid : Kind → Layout → ℕ → Bool
raw_entry_valid l1_table_kind layout w = l1_entry_valid layout.cluster_bits w
raw_entry_valid l2_table_kind layout w = not (is_damaged (mapping_of layout w))
raw_entry_valid refcount_table_kind layout w = reftable_entry_valid layout.cluster_bits w

-- The maximum number of entries of a table of this kind.
abbrev pub max_entries : Kind → ℕ
max_entries l1_table_kind = 2 ^ 22
max_entries l2_table_kind = 2 ^ 18
max_entries refcount_table_kind = 2 ^ 20

-- The length is allowed: an L2 table fills one cluster, the others have any length up to the maximum.
abbrev pub IsLength : Kind → Layout → ℕ → Type 0
IsLength l2_table_kind layout n = n * 8 ≡ 2 ^ layout.cluster_bits
IsLength kind layout n = n ≤ max_entries kind

-- A table as contracts see it.
pub record TableValue : Type 0 where
  pub layout : Layout
  pub raw_entries : List ℕ
  -- the first cluster of the table in the file, if it has one
  pub cluster : Option ℕ
  -- the file may differ from the table
  pub modified : Bool

-- The meaning of the entry at an index of an L2 table.
abbrev pub mapping_in : TableValue → ℕ → Mapping
mapping_in table i = mapping_of table.layout (slice_index table.raw_entries i)

-- Each of these raw entries is valid in a table of this kind.
abbrev pub AreSound : Kind → Layout → List ℕ → Type 0
AreSound kind layout raw_entries = (i : ℕ) → i < length raw_entries → IsTrue (raw_entry_valid kind layout (slice_index raw_entries i))

-- The invariant of a table of this kind: each entry has 64 bits and is valid, and the length is allowed.
pub record IsTable (kind : Kind) (table : TableValue) : Type 0 where
  pub low : 9 ≤ table.layout.cluster_bits
  pub high : table.layout.cluster_bits ≤ 21
  pub long : IsLength kind table.layout (length table.raw_entries)
  pub sound : AreSound kind table.layout table.raw_entries
  pub fit : AreFit table.raw_entries

-- The `n` raw entries of a file from an offset on.
abbrev pub raw_entries_in : Bytes → ℕ → ℕ → List ℕ
raw_entries_in f place n = map (raw_entry f place) (range_with_len 0 n)

-- The table of `n` entries that starts at this cluster of a file.
abbrev pub table_in : Bytes → Fields → ℕ → ℕ → TableValue
table_in f h cluster n = record {
  layout = layout_of h;
  raw_entries = raw_entries_in f (cluster * cluster_size h) n;
  cluster = if n == 0 then None else Some cluster;
  modified = false;
}

-- The requested number of entries is allowed: an L2 table must fill one cluster.
abbrev pub IsAsked : Kind → Fields → ℕ → Type 0
IsAsked l2_table_kind h n = n ≡ entries_of_cluster h
IsAsked kind h n = ⊤

-- One of these raw entries is invalid in a table of this kind.
abbrev pub HasUnsound : Kind → Layout → List ℕ → Type 0
HasUnsound kind layout raw_entries = (i : ℕ) × (i < length raw_entries) × (raw_entry_valid kind layout (slice_index raw_entries i) ≡ false)

-- The fault of a failed load of these entries, with the storage's fault counts before and after.
abbrev pub WhyNotLoaded : Kind → Layout → List ℕ → ℕ → ℕ → Fault → Type 0
WhyNotLoaded kind layout raw_entries before after (Limit n) = (n ≡ length raw_entries) × (max_entries kind < n) × (after ≡ before)
WhyNotLoaded kind layout raw_entries before after DamagedTable = HasUnsound kind layout raw_entries × (after ≡ before)
WhyNotLoaded kind layout raw_entries before after fault = Cause before after fault

-- The table has an addressable cluster.
abbrev pub IsPlacedTable : TableValue → Type 0
IsPlacedTable table = IsPlaced table.layout.cluster_bits table.cluster

-- The host offset of the table, in bytes.
abbrev pub table_start : TableValue → ℕ
table_start table = place_of table.layout.cluster_bits table.cluster

-- The fault of a failed decoding of these entries.
abbrev pub WhyNotDecoded : Kind → Layout → List ℕ → Fault → Type 0
WhyNotDecoded kind layout raw_entries Memory = ⊤
WhyNotDecoded kind layout raw_entries DamagedTable = HasUnsound kind layout raw_entries
WhyNotDecoded kind layout raw_entries fault = ⊥

-- These raw entries, followed by zeroes, `n` in all.
abbrev pub padded : List ℕ → ℕ → List ℕ
padded raw_entries n = raw_entries ++ replicate (n - length raw_entries) 0

-- The L1 table, grown to have an entry at this index, in an image of this layout.
abbrev pub grown_l1 : Layout → TableValue → ℕ → TableValue
grown_l1 layout t at = record { layout = layout; raw_entries = padded t.raw_entries (max (length t.raw_entries) (at + 1)); cluster = None; modified = true }

-- The table with the raw entry `w` at an index, now dirty.
abbrev pub with_raw_entry : TableValue → ℕ → ℕ → TableValue
with_raw_entry table i w = record table { raw_entries = slice_set table.raw_entries i w; modified = true }

-- The table can be referenced: its cluster is addressable and isn't cluster 0.
pub record CanBeReferenced (cluster_bits : ℕ) (cluster : Option ℕ) : Type 0 where
  pub placed : IsPlaced cluster_bits cluster
  pub cluster_nonzero : 0 < place_of cluster_bits cluster

-- A refcount table of `n` entries is long enough. It fills its clusters of `raw_entries` entries each, and reaches past
-- the index `at`. The blocks of its entries from `at` on have `counters` refcounts each, enough for themselves and the
-- table's clusters.
pub record IsEnough (raw_entries counters at n : ℕ) : Type 0 where
  pub whole : n % raw_entries ≡ 0
  pub above : at < n
  pub room : n / raw_entries ≤ (n - at) * (counters - 1)

-- `n` is the least such length.
pub record IsGrownLength (raw_entries counters at n : ℕ) : Type 0 where
  pub enough : IsEnough raw_entries counters at n
  pub least : (m : ℕ) → IsEnough raw_entries counters at m → n ≤ m
