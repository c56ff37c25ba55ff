use Rattle.qcow2_steps.proofs.Steps.{dropped-advances, named-advances}
use Rattle.qcow2_steps.proofs.advancing.what_is_set_advances.Goals as goal

pub returns : goal.returns
returns g = record { named = named-advances; dropped = dropped-advances }
