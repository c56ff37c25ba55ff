use Rattle.qcow2_types.proofs.Changes.BlockSteps.{block-written, counter-set}
use Rattle.qcow2_types.proofs.steps.counter_write_keeps_other_counts.Goals as goal

pub returns : goal.returns
returns c = record { block = λ f h was b there g. block-written f h was b there g; counter = counter-set }
