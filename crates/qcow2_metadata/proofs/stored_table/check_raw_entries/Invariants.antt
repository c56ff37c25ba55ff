use Rattle.qcow2_types.specs.Bytes.{bytes_of}
use Rattle.qcow2_types.specs.Header.{layout_of}
use Rattle.qcow2_metadata.specs.Tables.{raw_entries_in, l2_table_kind, AreSound}
use Rattle.qcow2_metadata.proofs.stored_table.check_raw_entries.Given as goal

-- The entries before this index are valid.
abbrev pub invariant-loop-index : goal.invariant-loop-index
invariant-loop-index l = AreSound l2_table_kind (layout_of l.header.fields) (raw_entries_in (bytes_of l.bytes) 0 l.index)
