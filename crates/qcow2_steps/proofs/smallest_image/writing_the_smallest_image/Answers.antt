use Rattle.qcow2_steps.proofs.NewImages.{smallest-written}
use Rattle.qcow2_steps.proofs.smallest_image.writing_the_smallest_image.Goals as goal

pub returns : goal.returns
returns g = smallest-written
