use Rattle.qcow2_alloc.proofs.Memory.MemoryImage.{safe-memory}
use Rattle.qcow2_alloc.proofs.laws.what_is_in_memory_is_consistent.Goals as goal

pub returns : goal.returns
returns c = safe-memory
