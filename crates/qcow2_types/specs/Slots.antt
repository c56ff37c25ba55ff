-- The entries of all L2 tables, by L1 index i and L2 index j: which entries exist, their mappings, and sums over them.
use Rattle.std.specs.Prelude.{◌≢◌, ℕ, ◌/◌, ◌%◌, ◌<◌, ◌==◌, if◌then◌else◌, IsTrue, IsFalse}
use Rattle.qcow2_types.specs.Bytes.{Bytes, raw_entry, sum_below}
use Rattle.qcow2_types.specs.Words.{Mapping, unmapped, is_damaged, l1_entry_valid, reftable_entry_valid}
use Rattle.qcow2_types.specs.Header.{Fields, entries_of_cluster, refcount_table_entries}
use Rattle.qcow2_types.specs.Entries.{l2_table, l2_mapping}

-- the mapping of entry j of the L2 table that L1 entry i references
abbrev pub slot : Bytes → Fields → ℕ → ℕ → Mapping
slot f h i j = l2_mapping f h (l2_table f h i) j

-- entry j of L2 table i exists, where `table` gives the offsets of the L2 tables
pub record Live (table : ℕ → ℕ) (h : Fields) (i j : ℕ) : Type 0 where
  pub in_l1 : i < h.l1_entries
  pub is_there : table i ≢ 0
  pub in_table : j < entries_of_cluster h

-- the summand of a table; 0 without a table
abbrev pub or_none : ℕ → ℕ → ℕ
or_none table x = if table == 0 then 0 else x

-- the sum over all entries of the L2 tables that exist
unfoldable pub over_slots : (ℕ → ℕ) → Fields → (ℕ → ℕ → ℕ) → ℕ
over_slots table h of = sum_below h.l1_entries (λ i. or_none (table i) (sum_below (entries_of_cluster h) (λ j. of i j)))

-- the mapping of a guest cluster by its L2 entry only; equal to `entry` if no table is damaged
abbrev pub guest_slot : Bytes → Fields → ℕ → Mapping
guest_slot f h guest = if l2_table f h (guest / entries_of_cluster h) == 0 then unmapped else l2_mapping f h
    (l2_table f h (guest / entries_of_cluster h)) (guest % entries_of_cluster h)

-- Each L1 entry, each refcount table entry and each L2 entry is valid.
pub record ValidEntries (f : Bytes) (h : Fields) : Type 0 where
  pub l1 : (i : ℕ) → i < h.l1_entries → IsTrue (l1_entry_valid h.cluster_bits (raw_entry f h.l1_offset i))
  pub blocks : (i : ℕ) → i < refcount_table_entries h → IsTrue (reftable_entry_valid h.cluster_bits (raw_entry f h.refcount_table_offset i))
  pub slots : (i j : ℕ) → Live (l2_table f h) h i j → IsFalse (is_damaged (slot f h i j))
