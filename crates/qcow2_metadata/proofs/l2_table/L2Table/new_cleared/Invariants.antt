use Rattle.std.proofs.Common.{◌≡◌}
use Rattle.std.specs.Prelude.{replicate}
use Rattle.qcow2_metadata.proofs.l2_table.L2Table.new_cleared.Given as goal

-- The entries before this one are 0.
abbrev pub invariant-loop-raw_entry : goal.invariant-loop-raw_entry
invariant-loop-raw_entry l = l.content.items ≡ replicate l._raw_entry 0
