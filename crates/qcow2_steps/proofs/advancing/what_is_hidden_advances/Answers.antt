use Rattle.qcow2_steps.proofs.InvisibleClusters.{hidden-advances, hidden-stops}
use Rattle.qcow2_steps.proofs.advancing.what_is_hidden_advances.Goals as goal

pub returns : goal.returns
returns g = record { hidden = hidden-advances; crash_images = hidden-stops }
