use Rattle.qcow2_alloc.proofs.Blocks.BlockNames.{counted-block-quietly, own-block-quietly, names-block}
use Rattle.qcow2_alloc.proofs.laws.linking_a_block.Goals as goal

pub returns : goal.returns
returns c = record { counted = counted-block-quietly; own = own-block-quietly; names = names-block }
