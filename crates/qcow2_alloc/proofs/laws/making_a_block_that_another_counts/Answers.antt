use Rattle.qcow2_alloc.proofs.Blocks.BlockCreation.{other-block-made}
use Rattle.qcow2_alloc.proofs.laws.making_a_block_that_another_counts.Goals as goal

pub returns : goal.returns
returns c = other-block-made
