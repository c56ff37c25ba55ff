-- Relations between two versions of an image file that differ only in some bytes, or in a part of the structure (header, tables, refcount
-- blocks).
use Rattle.std.specs.Prelude.{◌≡◌, ◌≢◌, ℕ, ◌+◌, ◌*◌, ◌<◌, ◌≤◌, Bool, ◌&&◌, nat_lt, if◌then◌else◌, ◌⊎◌}
use Rattle.qcow2_types.specs.Bytes.{Bytes, raw_entry}
use Rattle.qcow2_types.specs.Words.{data_at}
use Rattle.qcow2_types.specs.Header.{Fields, cluster_size, refcount_table_entries}
use Rattle.qcow2_types.specs.Entries.{entry, l2_table}
use Rattle.qcow2_types.specs.Counts.{block_at}
use Rattle.qcow2_types.specs.References.{Weight}
use Rattle.qcow2_types.specs.Slots.{Live}

-- 1 if the range has one of the n bytes at this offset, otherwise 0
unfoldable pub touches : ℕ → ℕ → Weight
touches at n first length = if nat_lt 0 length && nat_lt first (at + n) && nat_lt at (first + length) then 1 else 0

-- f and g have the same bytes in this range.
abbrev pub Same : Bytes → Bytes → ℕ → ℕ → Type 0
Same f g first length = (k : ℕ) → k < length → g (first + k) ≡ f (first + k)

-- f and g have the same bytes outside the n bytes at this offset.
abbrev pub Outside : Bytes → Bytes → ℕ → ℕ → Type 0
Outside f g at n = (p : ℕ) → (p < at) ⊎ (at + n ≤ p) → g p ≡ f p

-- The part of an image that a change may touch. An L1 entry or a refcount table entry is a part of its own.
pub data Skipped : Type 0 where
  nothing : Skipped
  first_cluster : Skipped
  l1_word : (i : ℕ) → Skipped
  block_word : (i : ℕ) → Skipped
  block : (i : ℕ) → Skipped
  table : (i : ℕ) → Skipped

-- f and g have the same structure, except for the skipped part.
pub record SameStructureOutside (f g : Bytes) (h : Fields) (skip : Skipped) : Type 0 where
  pub start : skip ≢ first_cluster → Same f g 0 (cluster_size h)
  pub l1 : (i : ℕ) → i < h.l1_entries → skip ≢ l1_word i → raw_entry g h.l1_offset i ≡ raw_entry f h.l1_offset i
  pub blocks : (i : ℕ) → i < refcount_table_entries h → skip ≢ block_word i
      → raw_entry g h.refcount_table_offset i ≡ raw_entry f h.refcount_table_offset i
  pub counters : (i : ℕ) → i < refcount_table_entries h → block_at f h i ≢ 0 → skip ≢ block i → Same f g (block_at f h i) (cluster_size h)
  pub raw_entries : (i j : ℕ) → Live (l2_table f h) h i j → skip ≢ table i → raw_entry g (l2_table f h i) j ≡ raw_entry f (l2_table f h i) j

-- A guest cluster reads in x as in f: it has the same mapping, and the cluster that it references has the same bytes.
pub record ShowsAs (x f : Bytes) (h : Fields) (guest : ℕ) : Type 0 where
  pub mapping : entry x h guest ≡ entry f h guest
  pub bytes : (n : ℕ) (copied : Bool) → entry x h guest ≡ data_at n copied → Same f x (n * cluster_size h) (cluster_size h)
