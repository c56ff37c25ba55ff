-- The values that contracts use for tables in memory: lists of entries, and L2 tables that keep only their bytes.
use Rattle.std.specs.Prelude.{ℕ, List, ◌/◌, ◌≤◌, length}
use Rattle.qcow2_metadata.specs.Tables.{Kind, TableValue, IsTable, l2_table_kind, raw_entries_in, AreSound, IsLength}
use Rattle.qcow2_metadata.specs.declared.entry_table.EntryTable.TheInside.{Inside}
use Rattle.qcow2_types.specs.Bytes.{bytes_of}
use Rattle.qcow2_types.specs.Words.{Layout}
use Rattle.qcow2_metadata.specs.declared.stored_table.StoredL2Table.TheInside.{Inside as InsideStored}

module _ {E : Type 0} (raw_entries : List E → List ℕ) where
  abbrev pub seen_table : Inside E → TableValue
  seen_table t = record { layout = t.layout; raw_entries = raw_entries t.content.items; cluster = t.cluster; modified = t.modified }

  abbrev pub IsWordTable : Kind → Inside E → Type 0
  IsWordTable kind t = IsTable kind (seen_table t)

-- An L2 table that keeps only its bytes, as contracts see it.
pub record StoredValue : Type 0 where
  pub layout : Layout
  pub raw_entries : List ℕ

abbrev pub seen_stored : InsideStored → StoredValue
seen_stored t = record { layout = t.layout; raw_entries = raw_entries_in (bytes_of t.bytes.items) 0 (length t.bytes.items / 8) }

pub record IsStored (t : InsideStored) : Type 0 where
  pub low : 9 ≤ t.layout.cluster_bits
  pub high : t.layout.cluster_bits ≤ 21
  pub long : IsLength l2_table_kind t.layout (length (seen_stored t).raw_entries)
  pub sound : AreSound l2_table_kind t.layout (seen_stored t).raw_entries
