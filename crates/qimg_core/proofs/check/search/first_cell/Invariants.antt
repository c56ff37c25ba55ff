use Rattle.std.specs.Prelude.{Some}
use Rattle.qimg_core.specs.Searches.{is_such, NoneWithin, IsAlong}
use Rattle.qimg_core.proofs.check.search.first_cell.Given as goal

-- No cluster before this one passes, and the walk has reached this one.
abbrev pub invariant-loop-cluster : goal.invariant-loop-cluster
invariant-loop-cluster l = NoneWithin (is_such l.question l.names) l.low (Some l.cluster) × IsAlong l.names.others l.cluster l.way
