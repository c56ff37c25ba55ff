use Rattle.std.proofs.Common.{◌-◌, ◌≤◌, List}
use Rattle.std.specs.Prelude.{⊤, replicate}
use Rattle.imago_storage.specs.Steps.{Call}
use Rattle.imago_access.specs.Layer.{Layer, KeepsLayerState}
use Rattle.imago_access.specs.Changes.{Wrote}
use Rattle.imago_access.specs.Room.{Takes}
use Rattle.imago_access.specs.Running.{DriverRangeChange}
use Rattle.imago_access.specs.Stops.{GivesBytes}
use Rattle.imago_access.proofs.access.zeroing.write_mapped_zeroes.Given as goal

abbrev pub invariant-loop-done : goal.invariant-loop-done
invariant-loop-done g l = let d = g.D.DriverModel in record {
  inside : l.done ≤ l.n;
  wrote : d.well_formed l.fn.driver → Wrote (d.layer l.fn.driver) (d.layer l.driver) l.guest (replicate l.done 0);
  like : KeepsLayerState (d.layer l.fn.driver) (d.layer l.driver);
  room : d.well_formed l.fn.driver → Takes d (λ _. ⊤) l.fn.driver l.driver;
  range_change : (below : List Layer) → DriverRangeChange d ⊤ (GivesBytes l.guest (replicate l.n 0)) below l.fn.driver l.driver;
  began : (x : _) (call : Call) → d.began x call l.fn.driver → d.began x call l.driver;
}

abbrev pub decreases-loop-done : goal.decreases-loop-done
decreases-loop-done g l = l.n - l.done
