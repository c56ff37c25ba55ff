-- The L2 tables of the guest clusters before this one aren't shared.
use Rattle.std.proofs.Common.{◌-◌, ◌≤◌, Ok}
use Rattle.qcow2_image.specs.Allocating.{Begins}
use Rattle.qcow2_image.specs.Resizing.{OwnsTables}
use Rattle.qcow2_image.proofs.qcow2.Qcow2.own_tables.Given as goal

abbrev pub invariant-loop-next : goal.invariant-loop-next
invariant-loop-next g l = record {
  from : l.fn.first ≤ l.next;
  owns : OwnsTables g.S.Storage l.fn.first l.fn.last l.fn.self (Ok tt) l.self;
  begins : Begins {T = Unit} g.S.Storage l.fn.begun l.fn.self (Ok tt) l.begun l.self;
}

abbrev pub decreases-loop-next : goal.decreases-loop-next
decreases-loop-next g l = l.end - l.next
