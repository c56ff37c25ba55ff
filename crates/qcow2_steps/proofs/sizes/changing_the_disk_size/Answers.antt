use Rattle.qcow2_steps.proofs.SizeSteps.{keeps-all}
use Rattle.qcow2_steps.proofs.sizes.changing_the_disk_size.Goals as goal

pub returns : goal.returns
returns g = keeps-all
