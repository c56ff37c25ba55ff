use Rattle.qcow2_alloc.proofs.GuestView.QuietCounters.{free-quiet}
use Rattle.qcow2_alloc.proofs.laws.freeing_a_cluster.Goals as goal

pub returns : goal.returns
returns c = free-quiet
