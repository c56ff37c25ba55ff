use Rattle.std.proofs.Common.{◌⊎◌, ◌-◌, ◌≡◌, ◌<◌, ◌≤◌, ◌+◌, ◌∷◌, ℕ}
use Rattle.std.specs.Prelude.{⊤}
use Rattle.imago_storage.specs.Disk.{byte}
use Rattle.imago_storage.specs.Steps.{Call}
use Rattle.imago_access.specs.Layer.{IsFree}
use Rattle.imago_access.specs.Chain.{at}
use Rattle.imago_storage.specs.Steps.{IsOut}
use Rattle.imago_access.specs.Parts.{IsPartOf}
use Rattle.imago_access.specs.Room.{IsApart, IsUncutAt, LeavesAllocation, IsGivenUpTo, IsUndeclined}
use Rattle.imago_access.specs.declared.access.zeroing.Zeroing.TheVariants as zeroing_is
use Rattle.imago_access.specs.RangeCalls.{IsZeroedBy, zero_by}
use Rattle.imago_access.specs.PartCalls.{IsFor}
use Rattle.imago_access.specs.Running.{IsIntact, RangeChange}
use Rattle.imago_access.specs.Stops.{GivesZero}
use Rattle.imago_access.proofs.access.zeroing.zero_all.Given as goal

abbrev pub invariant-loop-at : goal.invariant-loop-at
invariant-loop-at g l = let d = g.D.DriverModel in let b = g.B.LayersBelowModel in record {
  from : l.offset ≤ l.at;
  inside : l.at ≤ l.offset + l.n;
  free : IsFree (d.layer l.driver);
  untouched : l.n ≡ 0 → (l.driver ≡ l.fn.driver) × (l.below ≡ l.fn.below);
  shown : IsIntact d b l.fn.driver l.fn.below → (p : ℕ) → l.offset ≤ p → p < l.at → at (d.layer l.driver ∷ b.layers_below l.fn.below) p ≡ byte 0;
  uncut : IsIntact d b l.fn.driver l.fn.below → IsUncutAt (d.layer l.fn.driver).fixed.unit (d.layer l.fn.driver).size l.offset l.n l.at;
  room : IsIntact d b l.fn.driver l.fn.below → LeavesAllocation d (λ p. (l.zeroing ≡ zeroing_is.Keep) ⊎ IsOut l.offset l.n p) (IsApart (d.layer l.fn.driver).fixed.unit l.offset l.n) l.fn.driver l.driver;
  given : IsIntact d b l.fn.driver l.fn.below → (x : _) (call : Call) → d.began x call l.fn.driver → IsPartOf call l.offset l.n → IsFor (zero_by l.zeroing) call → IsUndeclined (d.own_cause x (b.layers_below l.fn.below) call) → IsGivenUpTo (IsZeroedBy l.zeroing (d.unallocated l.driver) (d.zeroed l.driver)) (d.layer l.fn.driver).fixed.unit (d.layer l.fn.driver).size l.offset l.n l.at;
  range_change : RangeChange d b ⊤ (GivesZero l.offset l.n) (l.fn.driver, l.fn.below) (l.driver, l.below);
  began : (x : _) (call : Call) → d.began x call l.fn.driver → IsPartOf call l.offset l.n → IsFor (zero_by l.zeroing) call → d.began x call l.driver;
}

-- proposed from the loop's first test
abbrev pub decreases-loop-at : goal.decreases-loop-at
decreases-loop-at g l = l.end - l.at
