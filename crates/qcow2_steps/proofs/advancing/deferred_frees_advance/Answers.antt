use Rattle.qcow2_steps.proofs.Steps.{freed-advances, put-off-advances}
use Rattle.qcow2_steps.proofs.advancing.deferred_frees_advance.Goals as goal

pub returns : goal.returns
returns g = record { pushed = put-off-advances; dropped = freed-advances }
