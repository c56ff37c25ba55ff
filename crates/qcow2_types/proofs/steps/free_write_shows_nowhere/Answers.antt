use Rattle.qcow2_types.proofs.Changes.DataSteps.{free-run-written}
use Rattle.qcow2_types.proofs.steps.free_write_shows_nowhere.Goals as goal

pub returns : goal.returns
returns c = free-run-written
