use Rattle.std.proofs.Common.{◌-◌, length}
use Rattle.qcow2_metadata.specs.Loading.{file}
use Rattle.qimg_core.specs.Plain.{table_value}
use Rattle.qimg_core.proofs.PlainReads.Pieces.{ShownSoFar}
use Rattle.qimg_core.proofs.plain.pieces.read_clusters.Given as goal

abbrev pub invariant-loop-done : goal.invariant-loop-done
invariant-loop-done g l = ShownSoFar (table_value (file (g.S.Storage.state l.fn.image)) l.table) (g.S.Storage.state l.fn.image) (g.S.Storage.state l.image) l.at l.done l.buf

abbrev pub decreases-loop-done : goal.decreases-loop-done
decreases-loop-done g l = length l.initial.buf - l.done
