use Rattle.std.proofs.Common.{◌≡◌, length}
use Rattle.qcow2_alloc.proofs.allocation.drop_entries.Given as goal

abbrev pub invariant-loop-list : goal.invariant-loop-list
invariant-loop-list l = l.list.held ≡ l.fn.list.held

abbrev pub decreases-loop-list : goal.decreases-loop-list
decreases-loop-list l = length l.list.entries
