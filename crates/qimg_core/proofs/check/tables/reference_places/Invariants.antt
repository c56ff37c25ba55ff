use Rattle.std.proofs.Common.{take}
use Rattle.qimg_core.specs.Entering.{AddsPlaces}
use Rattle.qimg_core.proofs.check.tables.reference_places.Given as goal

-- References to the clusters at the offsets before this one are added.
abbrev pub invariant-loop-i : goal.invariant-loop-i
invariant-loop-i l = AddsPlaces l.header.fields l.fn.names l.names (take l.i l.places)
