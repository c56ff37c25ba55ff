use Rattle.std.proofs.Common.{◌-◌, ◌≡◌, ◌≤◌, List}
use Rattle.std.specs.Prelude.{⊤}
use Rattle.imago_storage.specs.Steps.{Call}
use Rattle.imago_access.specs.Layer.{Layer, KeepsLayerState}
use Rattle.imago_access.specs.RangeCalls.{GivesDiscarded, discard_by}
use Rattle.imago_access.specs.Room.{GivesUp, IsGivenUpTo}
use Rattle.imago_access.specs.Parts.{IsPartOf}
use Rattle.imago_access.specs.PartCalls.{IsFor}
use Rattle.imago_access.specs.Running.{DriverRangeChange}
use Rattle.imago_access.proofs.access.discarding.discard_all.Given as goal

abbrev pub invariant-loop-at : goal.invariant-loop-at
invariant-loop-at g l = let d = g.D.DriverModel in record {
  from : l.offset ≤ l.at;
  untouched : l.n ≡ 0 → l.driver ≡ l.fn.driver;
  like : KeepsLayerState (d.layer l.fn.driver) (d.layer l.driver);
  range_change : (below : List Layer) → DriverRangeChange d ⊤ (GivesDiscarded l.discarding below l.offset l.n) below l.fn.driver l.driver;
  room : d.well_formed l.fn.driver → GivesUp d l.offset l.n l.fn.driver l.driver;
  given : d.well_formed l.fn.driver → IsGivenUpTo (d.unallocated l.driver) (d.layer l.fn.driver).fixed.unit (d.layer l.fn.driver).size l.offset l.n l.at;
  began : (x : _) (call : Call) → d.began x call l.fn.driver → IsPartOf call l.offset l.n → IsFor (discard_by l.discarding) call → d.began x call l.driver;
}

-- proposed from the loop's first test
abbrev pub decreases-loop-at : goal.decreases-loop-at
decreases-loop-at g l = l.end - l.at
