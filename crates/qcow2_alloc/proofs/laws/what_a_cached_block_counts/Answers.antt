use Rattle.qcow2_alloc.proofs.Memory.CounterChanges.{cached-count}
use Rattle.qcow2_alloc.proofs.laws.what_a_cached_block_counts.Goals as goal

pub returns : goal.returns
returns c = cached-count
