use Rattle.qcow2_types.proofs.Changes.BlockWordSteps.{block-entered-spliced}
use Rattle.qcow2_types.proofs.steps.entering_a_block.Goals as goal

pub returns : goal.returns
returns c = block-entered-spliced
