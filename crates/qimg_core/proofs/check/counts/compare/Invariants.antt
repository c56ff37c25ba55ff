-- The clusters of the blocks before this one are compared.
use Rattle.std.proofs.Common.{◌≡◌, ◌*◌}
use Rattle.imago_storage.specs.Calls.{UnchangedButFaults}
use Rattle.qcow2_types.specs.Counts.{counters_of_block}
use Rattle.qcow2_metadata.specs.Loading.{file}
use Rattle.qimg_core.specs.CheckParts.{AreCompared}
use Rattle.qimg_core.proofs.check.counts.compare.Given as goal

abbrev pub invariant-loop-index : goal.invariant-loop-index
invariant-loop-index g l =
    UnchangedButFaults (g.S.Storage.state l.fn.image) (g.S.Storage.state l.image)
    × ((g.S.Storage.state l.image).faults ≡ (g.S.Storage.state l.fn.image).faults)
    × AreCompared (file (g.S.Storage.state l.fn.image)) l.header.fields l.leaks.items (l.index * counters_of_block l.header.fields)
