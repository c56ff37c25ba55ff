use Rattle.std.proofs.Common.{refl}
use Rattle.qimg_chain.proofs.run.calls.call_of.Goals as goal
use Rattle.qimg_chain.proofs.run.calls.call_of.Goals.{in-Read, in-Write, in-Zero, in-Discard, in-DiscardAny, in-DiscardBacking, in-Grow, in-Shrink, in-Flush, in-Save, in-Repair, in-Commit}

pub returns : goal.returns
returns c = elim c.match-line.branch [
  | in-Read w ↦ rw (w.in-Read.is, w.call-is) refl
  | in-Write w ↦ rw (w.in-Write.is, w.call-is) (w.into_vec.result, w.into_vec.ensures, refl)
  | in-Zero w ↦ rw (w.in-Zero.is, w.call-is) refl
  | in-Discard w ↦ rw (w.in-Discard.is, w.call-is) refl
  | in-DiscardAny w ↦ rw (w.in-DiscardAny.is, w.call-is) refl
  | in-DiscardBacking w ↦ rw (w.in-DiscardBacking.is, w.call-is) refl
  | in-Grow w ↦ rw (w.in-Grow.is, w.call-is) refl
  | in-Shrink w ↦ rw (w.in-Shrink.is, w.call-is) refl
  | in-Flush w ↦ rw (w.in-Flush.is, w.call-is) refl
  | in-Save w ↦ rw (w.in-Save.is, w.call-is) refl
  | in-Repair w ↦ rw (w.in-Repair.is, w.call-is) refl
  | in-Commit w ↦ rw (w.in-Commit.is, w.call-is) refl
]
