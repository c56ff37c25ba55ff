use Rattle.std.proofs.Common.{take}
use Rattle.qimg_core.specs.Entering.{AddsRawEntries}
use Rattle.qimg_core.proofs.check.tables.reference_entries.Given as goal

-- The references of the entries before this one are added.
abbrev pub invariant-loop-index : goal.invariant-loop-index
invariant-loop-index l = AddsRawEntries l.header.fields l.times l.fn.names l.names (take l.index l.table.raw_entries)
