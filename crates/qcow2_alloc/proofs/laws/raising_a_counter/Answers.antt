use Rattle.qcow2_alloc.proofs.Memory.CounterChanges.{counter-raised}
use Rattle.qcow2_alloc.proofs.laws.raising_a_counter.Goals as goal

pub returns : goal.returns
returns c = counter-raised
