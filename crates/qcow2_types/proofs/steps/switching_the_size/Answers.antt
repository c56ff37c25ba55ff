use Rattle.qcow2_types.proofs.Switching.SizeSwitch.{size-switched}
use Rattle.qcow2_types.proofs.steps.switching_the_size.Goals as goal

pub returns : goal.returns
returns c = size-switched
