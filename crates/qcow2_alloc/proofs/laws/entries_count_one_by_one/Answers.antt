use Rattle.std.proofs.Common.{refl}
use Rattle.qcow2_alloc.proofs.Freeing.ClusterOccurrences.{listed_push, listed-remove, listed-shortened, covers-none, covers-one, covers-meets}
use Rattle.qcow2_alloc.proofs.laws.entries_count_one_by_one.Goals as goal

pub returns : goal.returns
returns c = record {
  empty = λ _. refl;
  pushed = listed_push;
  removed = listed-remove;
  shortened = listed-shortened;
  none = covers-none;
  one = covers-one;
  met = covers-meets;
}
