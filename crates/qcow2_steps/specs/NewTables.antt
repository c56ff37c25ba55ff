-- Definitions for setting an L1 entry to a new L2 table. The new table replaces no table, or the table that it is a copy of.
use Rattle.std.specs.Prelude.{◌≡◌, ◌≢◌, ℕ, ◌+◌, ◌*◌, ◌/◌, ◌<◌, ◌≤◌, ◌^◌, ◌==◌, if◌then◌else◌, Bool, IsTrue, true, false}
use Rattle.std.specs.Int.{w64, to_be_bytes}
use Rattle.std.specs.List.{AllByRecursion}
use Rattle.qcow2_types.specs.Bytes.{Bytes, splice}
use Rattle.qcow2_types.specs.Counts.{count}
use Rattle.qcow2_types.specs.Entries.{l2_mapping, l2_table}
use Rattle.qcow2_types.specs.Header.{Fields, cluster_size, entries_of_cluster}
use Rattle.qcow2_types.specs.References.{meets, of_cluster}
use Rattle.qcow2_types.specs.Slots.{slot}
use Rattle.qcow2_types.specs.Words.{mapping_without_copied, Mapping, l1_entry_valid, table_offset, unmapped}
use Rattle.qcow2_metadata.specs.Tables.{raw_entries_in}
use Rattle.qcow2_alloc.specs.GuestView.{Metadata}
use Rattle.qcow2_steps.specs.Words.{IsReserved}

-- the mapping of entry j in L2 table i; unmapped without a table
abbrev pub slot_or_none : Bytes → Fields → ℕ → ℕ → Mapping
slot_or_none f h i j = if l2_table f h i == 0 then unmapped else slot f h i j

-- the mapping of a copied entry, with the COPIED flag or without it
abbrev pub copied_as : (marks : Bool) → Mapping → Mapping
copied_as true mapping = mapping
copied_as false mapping = mapping_without_copied mapping

-- the image after L1 entry i was written to the file
abbrev pub with_l1_entry : Metadata → ℕ → ℕ → Metadata
with_l1_entry m i w = record m { file = splice m.file (m.header.fields.l1_offset + 8 * i) (to_be_bytes w64 w) }

-- Cluster c contains an L2 table that is ready to replace table i. It is reserved, and its refcount is above 0 in the file, too. Its
-- mappings are those of table i, with the COPIED flags or without. Table i isn't dirty, and a table cached at c, if any, is equal to the
-- file's.
pub record IsReadyL2Table (m : Metadata) (marks : Bool) (i c : ℕ) : Type 0 where
  pub inside : i < m.header.fields.l1_entries
  pub cluster_nonzero : c ≢ 0
  pub reserved : IsReserved m c
  pub counts : 1 ≤ count m.file m.header.fields c
  pub raw_entries : (j : ℕ) → j < entries_of_cluster m.header.fields
      → l2_mapping m.file m.header.fields (c * cluster_size m.header.fields) j ≡ copied_as marks (slot_or_none m.file m.header.fields i j)
  pub settled : AllByRecursion
      (λ e. e.1.value.modified ≡ true → e.0 * cluster_size m.header.fields ≢ l2_table m.file m.header.fields i) m.cached.tables
  pub cached : AllByRecursion
      (λ e. e.0 ≡ c → e.1.value.raw_entries ≡ raw_entries_in m.file (c * cluster_size m.header.fields) (entries_of_cluster m.header.fields))
      m.cached.tables

-- the raw entry w is valid and references the table in cluster c
pub record NamesTable (h : Fields) (c w : ℕ) : Type 0 where
  pub fits : w < 2 ^ 64
  pub sane : IsTrue (l1_entry_valid h.cluster_bits w)
  pub names : table_offset w ≡ c * cluster_size h

-- the guest cluster has its entry in L2 table i
abbrev pub IsOfTable : Fields → ℕ → ℕ → Type 0
IsOfTable h i guest = guest / entries_of_cluster h ≡ i

-- the entry of the guest cluster loses its COPIED flag: the table is copied without the flags
abbrev pub LosesCopied : (marks : Bool) → Fields → ℕ → ℕ → Type 0
LosesCopied true h i guest = ⊥
LosesCopied false h i guest = IsOfTable h i guest

-- 1 if cluster d contains L2 table i, otherwise 0
abbrev pub old_table : Metadata → ℕ → ℕ → ℕ
old_table m i d = of_cluster m.header.fields (meets m.header.fields d) (l2_table m.file m.header.fields i)
