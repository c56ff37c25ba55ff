use Rattle.qcow2_alloc.proofs.Blocks.BlockCreation.{own-block-made}
use Rattle.qcow2_alloc.proofs.laws.making_a_block_that_counts_itself.Goals as goal

pub returns : goal.returns
returns c = own-block-made
