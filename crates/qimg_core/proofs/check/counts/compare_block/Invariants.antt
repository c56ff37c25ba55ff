-- The clusters before this one are compared, and the walk has reached this one.
use Rattle.std.proofs.Common.{◌+◌, ◌*◌}
use Rattle.qcow2_types.specs.Counts.{counters_of_block}
use Rattle.qcow2_metadata.specs.Loading.{file}
use Rattle.qimg_core.specs.CheckParts.{AreCompared}
use Rattle.qimg_core.specs.Searches.{IsAlong}
use Rattle.qimg_core.proofs.check.counts.compare_block.Given as goal

abbrev pub invariant-loop-place : goal.invariant-loop-place
invariant-loop-place g l =
    AreCompared (file (g.S.Storage.state l.fn.image)) l.header.fields l.leaks.items (l.index * counters_of_block l.header.fields + l.place)
    × IsAlong l.names.others (l.low + l.place) l.way
