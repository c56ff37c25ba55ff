-- The guest clusters before this one are unmapped.
use Rattle.std.proofs.Common.{◌-◌, ◌≤◌, Ok}
use Rattle.qcow2_image.specs.Allocating.{Begins}
use Rattle.qcow2_image.specs.Resizing.{UnmapsTail}
use Rattle.qcow2_image.proofs.qcow2.Qcow2.unmap_tail.Given as goal

abbrev pub invariant-loop-next : goal.invariant-loop-next
invariant-loop-next g l = record {
  from : l.fn.first ≤ l.next;
  unmaps : UnmapsTail g.S.Storage l.fn.first l.next l.fn.self (Ok tt) l.self;
  begins : Begins {T = Unit} g.S.Storage l.fn.begun l.fn.self (Ok tt) l.begun l.self;
}

abbrev pub decreases-loop-next : goal.decreases-loop-next
decreases-loop-next g l = l.end - l.next
