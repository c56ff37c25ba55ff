use Rattle.std.proofs.Common.{◌-◌, ◌≡◌, ◌≤◌, ◌+◌, ◌∷◌, ℕ}
use Rattle.std.specs.Prelude.{⊤}
use Rattle.imago_storage.specs.Disk.{byte}
use Rattle.imago_storage.specs.Steps.{Call, IsIn}
use Rattle.imago_access.specs.Layer.{IsFree}
use Rattle.imago_access.specs.Chain.{at}
use Rattle.imago_access.specs.Parts.{IsPartOf}
use Rattle.imago_access.specs.Room.{IsApart, IsUncutAt, Takes}
use Rattle.imago_access.specs.Running.{IsIntact, RangeChange}
use Rattle.imago_access.specs.Stops.{GivesZero}
use Rattle.imago_access.proofs.access.zeroing.write_zero_bytes.Given as goal

abbrev pub invariant-loop-done : goal.invariant-loop-done
invariant-loop-done g l = let d = g.D.DriverModel in let b = g.B.LayersBelowModel in record {
  inside : l.done ≤ l.n;
  free : IsFree (d.layer l.driver);
  shown : IsIntact d b l.fn.driver l.fn.below → (p : ℕ) → IsIn l.offset l.done p → at (d.layer l.driver ∷ b.layers_below l.fn.below) p ≡ byte 0;
  uncut : IsIntact d b l.fn.driver l.fn.below → IsUncutAt (d.layer l.fn.driver).fixed.unit (d.layer l.fn.driver).size l.offset l.n (l.offset + l.done);
  takes : IsIntact d b l.fn.driver l.fn.below → Takes d (IsApart (d.layer l.fn.driver).fixed.unit l.offset l.n) l.fn.driver l.driver;
  range_change : RangeChange d b ⊤ (GivesZero l.offset l.n) (l.fn.driver, l.fn.below) (l.driver, l.below);
  began : (x : _) (call : Call) → d.began x call l.fn.driver → IsPartOf call l.offset l.n → d.began x call l.driver;
}

abbrev pub decreases-loop-done : goal.decreases-loop-done
decreases-loop-done g l = l.n - l.done
