use Rattle.std.proofs.Common.{◌≡◌, map, take}
use Rattle.qcow2_metadata.specs.Tables.{shared_raw_entry}
use Rattle.qcow2_metadata.proofs.l2_table.L2Table.clone.Given as goal

-- The entries before this one are copied, without the COPIED flag.
abbrev pub invariant-loop-entry : goal.invariant-loop-entry
invariant-loop-entry l = l.content.items ≡ map (shared_raw_entry l.self.layout) (take l.entry-index l.entry-items)
