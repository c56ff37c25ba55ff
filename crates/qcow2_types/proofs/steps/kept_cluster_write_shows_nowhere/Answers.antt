use Rattle.qcow2_types.proofs.Changes.DataSteps.{kept-zero-written}
use Rattle.qcow2_types.proofs.steps.kept_cluster_write_shows_nowhere.Goals as goal

pub returns : goal.returns
returns c = kept-zero-written
