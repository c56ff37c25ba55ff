use Rattle.qcow2_types.proofs.Changes.DataSteps.{data-written}
use Rattle.qcow2_types.proofs.steps.data_write_stays_in_its_cluster.Goals as goal

pub returns : goal.returns
returns c = data-written
