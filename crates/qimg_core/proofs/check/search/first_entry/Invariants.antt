use Rattle.std.proofs.Common.{◌≡◌, ℕ}
use Rattle.std.specs.Prelude.{Some}
use Rattle.qimg_core.specs.Searches.{IsAlong}
use Rattle.qimg_core.proofs.Names.Searches.{IsAhead, left}
use Rattle.qimg_core.proofs.check.search.first_entry.Given as goal

-- No cluster before the next one passes, and the walk has reached the next one.
abbrev pub invariant-loop-way : goal.invariant-loop-way
invariant-loop-way l = IsAhead l.question l.names l.low l.way.next × ((n : ℕ) → l.way.next ≡ Some n → IsAlong l.names.others n l.way)

abbrev pub decreases-loop-way : goal.decreases-loop-way
decreases-loop-way l = left l.way.next
