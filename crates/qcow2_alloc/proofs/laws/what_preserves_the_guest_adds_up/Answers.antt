use Rattle.std.proofs.Common.{inl}
use Rattle.qcow2_alloc.specs.Going.{HadNoResourceError}
use Rattle.qcow2_alloc.proofs.GuestView.QuietSequences.{calmly-then, quietly-then, quietly-otherwise}
use Rattle.qcow2_alloc.proofs.laws.what_preserves_the_guest_adds_up.Goals as goal

pub returns : goal.returns
returns c = record {
  then = λ first second. quietly-then (HadNoResourceError first) (HadNoResourceError second);
  no_change_refused = λ first second h t h' t' s m s' m' s'' m'' whole. calmly-then _ (HadNoResourceError second) h t h' t' s m s' m' s'' m'' (inl whole);
  otherwise = λ result. quietly-otherwise (HadNoResourceError result);
}
