use Rattle.qcow2_types.proofs.Changes.SlotSteps.{cluster-mapped-spliced}
use Rattle.qcow2_types.proofs.steps.mapping_a_free_cluster.Goals as goal

pub returns : goal.returns
returns c = cluster-mapped-spliced
