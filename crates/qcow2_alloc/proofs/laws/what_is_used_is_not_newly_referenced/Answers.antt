use Rattle.qcow2_alloc.proofs.Handing.ClustersHandedOut.{quiet-names-no-more, unnamed-used}
use Rattle.qcow2_alloc.proofs.laws.what_is_used_is_not_newly_referenced.Goals as goal

pub returns : goal.returns
returns c = record {
  names = λ m m' handed taken guest_unchanged d used none. quiet-names-no-more m m' handed taken guest_unchanged d (guest_unchanged.apart d used none);
  not_referenced = unnamed-used;
}
