use Rattle.std.specs.Prelude.{◌≡◌, ◌⊎◌, ◌<◌, ◌*◌, ◌-◌, ◌≤◌, ℕ, Ok}
use Rattle.qimg_calls.specs.Flattening.{Copies}
use Rattle.qimg_calls.proofs.flattening.copy_all.Given as goal

-- The pieces up to `done` are copied.
abbrev pub invariant-loop-done : goal.invariant-loop-done
invariant-loop-done g l = record {
  inside : l.done ≤ l.size;
  more : (l.done ≡ 0) ⊎ (l.done < l.size);
  start : (index : ℕ) × (l.done ≡ index * 65536);
  copies : Copies g.S.DriverModel g.T.DriverModel 0 l.done (Ok tt) (l.fn.source, l.fn.target) (l.source, l.target);
}

abbrev pub decreases-loop-done : goal.decreases-loop-done
decreases-loop-done g l = l.size - l.done
