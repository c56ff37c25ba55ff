-- The pieces up to `done` are whole units, and are written.
use Rattle.std.proofs.Common.{◌≡◌, ◌-◌, ◌%◌, ◌≤◌, replicate}
use Rattle.imago_storage.specs.Through.{PaddedWrite}
use Rattle.imago_storage.proofs.zeroing.write_pieces.Given as goal

abbrev pub invariant-loop-done : goal.invariant-loop-done
invariant-loop-done g l =
    (l.done ≤ l.n)
    × (l.done % l.unit ≡ 0)
    × PaddedWrite l.unit (g.S.Storage.state l.fn.storage) (g.S.Storage.state l.storage) l.offset (replicate l.done 0)

abbrev pub decreases-loop-done : goal.decreases-loop-done
decreases-loop-done g l = l.n - l.done
