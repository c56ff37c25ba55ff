use Rattle.std.proofs.Common.{◌-◌, ◌≡◌, ◌≤◌, Ok, false, map}
use Rattle.imago_access.specs.Layers.{chain}
use Rattle.imago_access.specs.Committing.{CopiesDown, MayCopyDown, TakesOwn}
use Rattle.imago_access.proofs.access.committing.copy_down.Given as goal

-- The runs before `done` are copied.
abbrev pub invariant-loop-done : goal.invariant-loop-done
invariant-loop-done g l = let d = g.D.DriverModel in record {
  inside : l.done ≤ l.size;
  copies : CopiesDown {T = Unit {0}} d (Ok tt) l.fn.driver l.driver l.fn.next l.next;
  taken : MayCopyDown d l.fn.driver l.fn.next → TakesOwn (d.layer l.fn.driver) l.done (map d.layer (chain l.next));
  begun : l.begun ≡ false → l.next ≡ l.fn.next;
}

abbrev pub decreases-loop-done : goal.decreases-loop-done
decreases-loop-done g l = l.size - l.done
