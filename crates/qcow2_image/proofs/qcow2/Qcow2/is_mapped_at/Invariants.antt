-- The range is mapped from `place` on up to this point, and only lookups were done.
use Rattle.std.proofs.Common.{◌+◌, ◌-◌, ◌<◌, ◌≤◌, ◌^◌, Ok}
use Rattle.qcow2_image.specs.Seen.{IsCacheCoherent, layer_of}
use Rattle.qcow2_image.specs.Steps.{KeepsImage}
use Rattle.qcow2_image.specs.Writing.{IsWritableAt}
use Rattle.qcow2_image.proofs.qcow2.Qcow2.is_mapped_at.Given as goal

abbrev pub invariant-loop-done : goal.invariant-loop-done
invariant-loop-done g l =
    (l.done ≤ l.length)
    × (0 < l.done → l.place + l.done ≤ 2 ^ 60)
    × KeepsImage {T = Unit} g.S.Storage l.fn.self (Ok tt) l.self
    × (IsCacheCoherent g.S.Storage l.fn.self.tables → IsWritableAt (layer_of g.S.Storage l.fn.self) l.guest l.place l.done)

abbrev pub decreases-loop-done : goal.decreases-loop-done
decreases-loop-done g l = l.length - l.done
