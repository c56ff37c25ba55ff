use Rattle.qcow2_alloc.proofs.Memory.CounterChanges.{counter-lowered}
use Rattle.qcow2_alloc.proofs.laws.decrementing_a_counter.Goals as goal

pub returns : goal.returns
returns c = counter-lowered
