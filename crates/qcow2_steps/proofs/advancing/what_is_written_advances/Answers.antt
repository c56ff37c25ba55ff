use Rattle.qcow2_steps.proofs.Steps.{written-advances}
use Rattle.qcow2_steps.proofs.advancing.what_is_written_advances.Goals as goal

pub returns : goal.returns
returns g = written-advances
