use Rattle.qcow2_steps.proofs.DataRuns.{beside-reserved, beside-sound, beside-words, stop-writes}
use Rattle.qcow2_steps.proofs.data.writing_beside_the_structure.Goals as goal

pub returns : goal.returns
returns g = record {
  sound = λ m c k at n x sound writes. beside-sound m sound c k at n x writes;
  raw_entries = λ m c k at n x sound writes. beside-words m sound c k at n x writes;
  reserved = λ m c k at n x sound writes. beside-reserved m x (beside-words m sound c k at n x writes);
  crash_images = stop-writes;
}
