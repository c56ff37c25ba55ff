use Rattle.qcow2_steps.proofs.SmallestImages.{smallest-consistent, smallest-leaks, smallest-unmapped}
use Rattle.qcow2_steps.proofs.smallest_image.the_smallest_image_is_consistent.Goals as goal

pub returns : goal.returns
returns g = record { consistent = smallest-consistent; leaks = smallest-leaks; entries = smallest-unmapped }
