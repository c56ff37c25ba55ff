use Rattle.qcow2_types.proofs.Changes.DataSteps.{run-written}
use Rattle.qcow2_types.proofs.steps.run_write_stays_in_its_clusters.Goals as goal

pub returns : goal.returns
returns c = run-written
