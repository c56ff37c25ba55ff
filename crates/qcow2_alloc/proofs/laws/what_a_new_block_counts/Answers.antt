use Rattle.qcow2_alloc.proofs.Blocks.NewBlocks.{counter-read, zeroes-count, itself-counts, none-cached, one-cached}
use Rattle.qcow2_alloc.proofs.laws.what_a_new_block_counts.Goals as goal

pub returns : goal.returns
returns c = record { each = counter-read; zeroes = zeroes-count; itself = itself-counts; uncached = none-cached; cached = one-cached }
