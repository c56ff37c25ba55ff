use Rattle.qcow2_alloc.proofs.Memory.FreeClusterWrites.{block-quietly, block-counts}
use Rattle.qcow2_alloc.proofs.laws.writing_a_new_block.Goals as goal

pub returns : goal.returns
returns c = record { preserves_guest = block-quietly; counts = block-counts }
