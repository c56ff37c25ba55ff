-- Specifies how free clusters are written, and become refcount blocks or another refcount table.
use Rattle.std.specs.Prelude.{◌≡◌, ◌≢◌, true, false, ℕ, ◌+◌, ◌*◌, ◌/◌, ◌%◌, ◌<◌, ◌≤◌, ◌==◌, if◌then◌else◌, Bool, IsTrue, Some, length, slice_index}
use Rattle.std.specs.List.{AllByRecursion}
use Rattle.qcow2_types.specs.Bytes.{Bytes, raw_entry, sum_below}
use Rattle.qcow2_types.specs.Header.{cluster_size, entries_of_cluster, refcount_table_entries, layout_of}
use Rattle.qcow2_types.specs.Words.{block_offset, reftable_entry_valid}
use Rattle.qcow2_types.specs.Counts.{block_at, count, counter, counters_of_block}
use Rattle.qcow2_types.specs.Pending.{FreeEntry}
use Rattle.qcow2_alloc.specs.FreeList.{covers}
use Rattle.qcow2_metadata.specs.Blocks.{counters_in}
use Rattle.qcow2_types.specs.References.{meets}
use Rattle.qcow2_types.specs.Switched.{newly_referenced, with_reftable, with_refcount_table}
use Rattle.qcow2_metadata.specs.Tables.{TableValue, with_raw_entry}
use Rattle.qcow2_metadata.specs.Places.{IsAddressable}
use Rattle.qcow2_alloc.specs.GuestView.{Metadata, counted, referenced, referenced_at_all, waiting, one_at}

-- Each cluster has the same refcount and the same references, in the file and in memory.
pub record CountsTheSame (old new : Metadata) : Type 0 where
  pub file : (c : ℕ) → count new.file new.header.fields c ≡ count old.file old.header.fields c
  pub memory : (c : ℕ) → counted new c ≡ counted old c
  pub references : (c : ℕ) → referenced new c ≡ referenced old c
  pub names : (c : ℕ) → referenced_at_all new c ≡ referenced_at_all old c

-- Cluster d can become the missing block i. It has no references and no list entries, and the bytes of a block with all refcounts 0, except
-- that it may count itself once. If another block counts the cluster, its refcount is above 0. A block that is cached for it has these
-- refcounts.
pub record IsReadyBlock (m : Metadata) (i d : ℕ) : Type 0 where
  pub inside : i < refcount_table_entries m.header.fields
  pub empty : block_offset (slice_index m.table.raw_entries i) ≡ 0
  pub cluster_nonzero : d ≢ 0
  pub reach : IsAddressable m.header.fields.cluster_bits d
  pub not_referenced : referenced_at_all m d ≡ 0
  pub unlisted : waiting m d ≡ 0
  pub counters : (c : ℕ) → c / counters_of_block m.header.fields ≡ i
      → counter m.file m.header.fields (d * cluster_size m.header.fields) (c % counters_of_block m.header.fields) ≡ one_at d c
  pub counted : d / counters_of_block m.header.fields ≢ i → (1 ≤ count m.file m.header.fields d) × (1 ≤ counted m d)
  pub cached : AllByRecursion (λ e. e.0 ≡ d → e.1.value.counters ≡ counters_in m.file m.header.fields (d * cluster_size m.header.fields))
      m.cached.blocks

-- The image with this file, and with entry i of the refcount table in memory referencing cluster d. The table is dirty or not.
abbrev pub with_block : Metadata → ℕ → ℕ → Bool → Bytes → Metadata
with_block m i d modified file = record m {
  file = file;
  table = record (with_raw_entry m.table i (d * cluster_size m.header.fields)) { modified = modified };
}

-- Cluster d has become block i: it is referenced, and its bytes are the refcounts. No other refcount or reference changes.
pub record BlockLinked (old new : Metadata) (i d : ℕ) : Type 0 where
  pub here : block_at new.file new.header.fields i ≡ d * cluster_size old.header.fields
  pub blocks : (b : ℕ) → b ≢ i → block_at new.file new.header.fields b ≡ block_at old.file old.header.fields b
  pub own : (c : ℕ) → c / counters_of_block old.header.fields ≡ i → (counted old c ≡ 0) × (counted new c ≡ one_at d c)
      × (count new.file new.header.fields c ≡ one_at d c)
  pub others : (c : ℕ) → c / counters_of_block old.header.fields ≢ i → (counted new c ≡ counted old c)
      × (count new.file new.header.fields c ≡ count old.file old.header.fields c)
  pub references : (c : ℕ) → referenced new c ≡ referenced old c + one_at d c
  pub names : (c : ℕ) → referenced_at_all new c ≡ referenced_at_all old c + one_at d c

-- The number of times that cluster c is in a new refcount table of n clusters at cluster t, or in its new blocks. `formerly` is the number
-- for the old table.
abbrev pub newly : Metadata → ℕ → ℕ → ℕ → ℕ
newly m t n c = newly_referenced m.file m.header.fields (t * cluster_size m.header.fields) n (meets m.header.fields c)

abbrev pub formerly : Metadata → ℕ → ℕ
formerly m c = meets m.header.fields c m.header.fields.refcount_table_offset
    (m.header.fields.refcount_table_clusters * cluster_size m.header.fields)

-- The part of `newly` that an old block counts.
abbrev pub newly_counted : Metadata → ℕ → ℕ → ℕ → ℕ
newly_counted m t n c = if block_at m.file m.header.fields (c / counters_of_block m.header.fields) == 0 then 0 else newly m t n c

-- A table of n clusters is at cluster t of the file, and can become the refcount table.
--
-- It references the blocks that the old one does, and maybe new ones. It and the new blocks don't overlap, and are in clusters without
-- references and list entries. Each of these clusters has a refcount: in an old block, in the file and in memory, or in a new one, which
-- counts no other. Blocks that are cached for the new ones have the same refcounts.
pub record IsReadyTable (m : Metadata) (table : TableValue) (t n : ℕ) : Type 0 where
  pub layout : table.layout ≡ layout_of m.header.fields
  pub long : length table.raw_entries ≡ n * entries_of_cluster m.header.fields
  pub placed : table.cluster ≡ Some t
  pub written : (i : ℕ) → i < length table.raw_entries → raw_entry m.file (t * cluster_size m.header.fields) i ≡ slice_index table.raw_entries i
  pub sane : (i : ℕ) → i < length table.raw_entries → IsTrue (reftable_entry_valid m.header.fields.cluster_bits (slice_index table.raw_entries i))
  pub olds : (i : ℕ) → i < length m.table.raw_entries → block_offset (slice_index m.table.raw_entries i) ≢ 0 → (i < length table.raw_entries)
      × (block_offset (slice_index table.raw_entries i) ≡ block_offset (slice_index m.table.raw_entries i))
  pub once : (c : ℕ) → newly m t n c ≤ 1
  pub free : (c : ℕ) → 0 < newly m t n c → (referenced_at_all m c ≡ 0) × (waiting m c ≡ 0)
  pub own : (c : ℕ) → block_at m.file m.header.fields (c / counters_of_block m.header.fields) ≡ 0
      → count m.file (with_reftable m.header.fields (t * cluster_size m.header.fields) n) c ≡ newly m t n c
  pub others : (c : ℕ) → block_at m.file m.header.fields (c / counters_of_block m.header.fields) ≢ 0
      → (newly m t n c ≤ count m.file m.header.fields c) × (newly m t n c ≤ counted m c)
  pub cached : AllByRecursion (λ e. (b : ℕ) → block_at m.file m.header.fields b ≡ 0
      → block_at m.file (with_reftable m.header.fields (t * cluster_size m.header.fields) n) b
      ≡ e.0 * cluster_size m.header.fields → e.0 ≢ 0
      → e.1.value.counters ≡ counters_in m.file m.header.fields (e.0 * cluster_size m.header.fields)) m.cached.blocks

-- The image with this file, and with this table of n clusters at cluster t as its refcount table.
abbrev pub with_table : Metadata → TableValue → ℕ → ℕ → Bytes → Metadata
with_table m table t n file = record m {
  file = file;
  header = with_refcount_table m.header (t * cluster_size m.header.fields) n;
  table = table;
}

-- The table has become the refcount table: its clusters and the new blocks are referenced, and the old table isn't.
pub record TableSwitched (old new : Metadata) (t n : ℕ) : Type 0 where
  pub own : (c : ℕ) → block_at old.file old.header.fields (c / counters_of_block old.header.fields) ≡ 0 → (counted old c ≡ 0)
      × (counted new c ≡ newly old t n c) × (count new.file new.header.fields c ≡ newly old t n c)
  pub others : (c : ℕ) → block_at old.file old.header.fields (c / counters_of_block old.header.fields) ≢ 0 → (counted new c ≡ counted old c)
      × (count new.file new.header.fields c ≡ count old.file old.header.fields c)
  pub references : (c : ℕ) → referenced new c + formerly old c ≡ referenced old c + newly old t n c
  pub names : (c : ℕ) → referenced_at_all new c + formerly old c ≡ referenced_at_all old c + newly old t n c

-- `count` consecutive clusters of metadata.
abbrev pub run_of : ℕ → ℕ → FreeEntry
run_of first count = record { first = first; count = count; metadata = true }

-- The number of entries before one that reference new blocks, as `new` says.
abbrev pub rank : (ℕ → Bool) → ℕ → ℕ
rank new i = sum_below i (λ j. if new j then 1 else 0)

-- New blocks are at consecutive clusters from s on, by their indices, and after them this table of n clusters. None of these clusters had
-- references or list entries.
--
-- The table references each new block where the old one references none; otherwise it references the same block. Each cluster of the run
-- has a refcount: the new blocks count those that are theirs and no other, and old blocks count the rest, in the file and in memory. Blocks
-- that are cached for the new ones have the same refcounts.
pub record IsGrownTable (m : Metadata) (table : TableValue) (s : ℕ) (new : ℕ → Bool) (n : ℕ) : Type 0 where
  pub layout : table.layout ≡ layout_of m.header.fields
  pub long : length table.raw_entries ≡ n * entries_of_cluster m.header.fields
  pub placed : table.cluster ≡ Some (s + rank new (length table.raw_entries))
  pub written : (i : ℕ) → i < length table.raw_entries
      → raw_entry m.file ((s + rank new (length table.raw_entries)) * cluster_size m.header.fields) i ≡ slice_index table.raw_entries i
  pub sane : (i : ℕ) → i < length table.raw_entries → IsTrue (reftable_entry_valid m.header.fields.cluster_bits (slice_index table.raw_entries i))
  pub longer : length m.table.raw_entries ≤ length table.raw_entries
  pub inside : (i : ℕ) → new i ≡ true → i < length table.raw_entries
  pub cluster_nonzero : s ≢ 0
  pub news : (i : ℕ) → new i ≡ true → block_offset (slice_index table.raw_entries i) ≡ (s + rank new i) * cluster_size m.header.fields
  pub empty : (i : ℕ) → new i ≡ true → block_offset (slice_index m.table.raw_entries i) ≡ 0
  pub olds : (i : ℕ) → new i ≡ false → block_offset (slice_index table.raw_entries i) ≡ block_offset (slice_index m.table.raw_entries i)
  pub free : (c : ℕ) → 0 < covers c (run_of s (rank new (length table.raw_entries) + n)) → (referenced_at_all m c ≡ 0) × (waiting m c ≡ 0)
  pub counters : (i c : ℕ) → new i ≡ true → c / counters_of_block m.header.fields ≡ i
      → counter m.file m.header.fields ((s + rank new i) * cluster_size m.header.fields) (c % counters_of_block m.header.fields)
      ≡ covers c (run_of s (rank new (length table.raw_entries) + n))
  pub counted : (c : ℕ) → 0 < covers c (run_of s (rank new (length table.raw_entries) + n)) → new (c / counters_of_block m.header.fields) ≡ false
      → (1 ≤ count m.file m.header.fields c) × (1 ≤ counted m c)
  pub cached : AllByRecursion (λ e. (i : ℕ) → new i ≡ true → e.0 ≡ s + rank new i
      → e.1.value.counters ≡ counters_in m.file m.header.fields (e.0 * cluster_size m.header.fields)) m.cached.blocks
