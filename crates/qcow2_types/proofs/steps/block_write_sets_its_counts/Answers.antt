use Rattle.qcow2_types.proofs.Changes.BlockSteps.{block-counts, counters-written}
use Rattle.qcow2_types.proofs.steps.block_write_sets_its_counts.Goals as goal

pub returns : goal.returns
returns c = record { counts = block-counts; counters = counters-written }
