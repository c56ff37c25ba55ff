use Rattle.std.proofs.Common.{◌+◌, ◌≤◌, arith, sym, subst}
use Rattle.qcow2_types.specs.Header.{Header}
use Rattle.qcow2_alloc.specs.Crowding.{space, room_for}
use Rattle.qcow2_alloc.proofs.laws.what_is_freed_leaves_room.Goals as goal

pub returns : goal.returns
returns c = λ m m' n freed roomy. record {
  first = roomy.first;
  total = roomy.total;
  not_before_start = let lower = freed.lower in let behind = roomy.not_before_start in omega (arith, lower, behind);
  below = subst (λ (H : Header). roomy.first + roomy.total ≤ space H.fields) (sym freed.header) roomy.below;
  free = λ d from to. let none = roomy.free d from to in let fewer = freed.fewer d in omega (arith, none, fewer);
  enough = subst (λ (H : Header). room_for H.fields n ≤ roomy.total) (sym freed.header) roomy.enough;
}
