use Rattle.std.proofs.Common.{length, ◌-◌, ◌≡◌, ◌<◌, ◌≤◌, ◌+◌, ◌∷◌, ℕ, slice_index}
use Rattle.std.specs.Prelude.{⊤}
use Rattle.imago_storage.specs.Disk.{byte}
use Rattle.imago_storage.specs.Steps.{Call}
use Rattle.imago_access.specs.Layer.{IsFree}
use Rattle.imago_access.specs.Chain.{at}
use Rattle.imago_access.specs.Parts.{IsPartOf}
use Rattle.imago_access.specs.Room.{IsApart, IsUncutAt, Takes}
use Rattle.imago_access.specs.Running.{IsIntact, RangeChange}
use Rattle.imago_access.specs.Stops.{GivesBytes}
use Rattle.imago_access.proofs.access.writing.write_all.Given as goal

abbrev pub invariant-loop-done : goal.invariant-loop-done
invariant-loop-done g l = record {
  inside : l.done ≤ length l.bytes;
  free : IsFree (g.D.DriverModel.layer l.driver);
  untouched : length l.bytes ≡ 0 → (l.driver ≡ l.fn.driver) × (l.below ≡ l.fn.below);
  shown : IsIntact g.D.DriverModel g.B.LayersBelowModel l.fn.driver l.fn.below → (i : ℕ) → i < l.done → at (g.D.DriverModel.layer l.driver ∷ g.B.LayersBelowModel.layers_below l.fn.below) (l.offset + i) ≡ byte (slice_index l.bytes i);
  uncut : IsIntact g.D.DriverModel g.B.LayersBelowModel l.fn.driver l.fn.below → IsUncutAt (g.D.DriverModel.layer l.fn.driver).fixed.unit (g.D.DriverModel.layer l.fn.driver).size l.offset (length l.bytes) (l.offset + l.done);
  room : IsIntact g.D.DriverModel g.B.LayersBelowModel l.fn.driver l.fn.below → Takes g.D.DriverModel (IsApart (g.D.DriverModel.layer l.fn.driver).fixed.unit l.offset (length l.bytes)) l.fn.driver l.driver;
  range_change : RangeChange g.D.DriverModel g.B.LayersBelowModel ⊤ (GivesBytes l.offset l.bytes) (l.fn.driver, l.fn.below) (l.driver, l.below);
  began : (d : g.row.D.Denot) (call : Call) → g.D.DriverModel.began d call l.fn.driver → IsPartOf call l.offset (length l.bytes) → g.D.DriverModel.began d call l.driver;
}

abbrev pub decreases-loop-done : goal.decreases-loop-done
decreases-loop-done g l = length l.bytes - l.done
