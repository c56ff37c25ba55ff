use Rattle.std.proofs.Common.{◌≡◌, map}
use Rattle.std.specs.Prelude.{slice_index}
use Rattle.std.specs.List.{range_with_len}
use Rattle.qcow2_metadata.proofs.table.longer_content.Given as goal

-- The list has the entries before this index, with 0 past the table's end.
abbrev pub invariant-loop-index : goal.invariant-loop-index
invariant-loop-index g l = g.T.InternalEntry.TableEntry.raw_entries l.content.items ≡ map (λ i. slice_index (g.T.Table.value l.table).raw_entries i) (range_with_len 0 l.index)
