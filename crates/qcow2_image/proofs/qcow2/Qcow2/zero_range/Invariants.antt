-- The guest clusters before this one are prepared.
use Rattle.std.proofs.Common.{◌-◌, ◌≤◌, Ok}
use Rattle.std.specs.Prelude.{max}
use Rattle.qcow2_image.specs.Allocating.{Begins}
use Rattle.qcow2_image.specs.Growing.{ZeroesRange}
use Rattle.qcow2_image.proofs.qcow2.Qcow2.zero_range.Given as goal

abbrev pub invariant-loop-next : goal.invariant-loop-next
invariant-loop-next g l = record {
  from : l.fn.first ≤ l.next;
  inside : l.next ≤ max l.fn.first l.fn.last;
  zeroes : ZeroesRange g.S.Storage l.fn.first l.next l.fn.self (Ok tt) l.self;
  begins : Begins {T = Unit} g.S.Storage l.fn.begun l.fn.self (Ok tt) l.begun l.self;
}

abbrev pub decreases-loop-next : goal.decreases-loop-next
decreases-loop-next g l = l.end - l.next
