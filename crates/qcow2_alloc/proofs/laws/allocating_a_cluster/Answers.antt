use Rattle.qcow2_alloc.proofs.GuestView.QuietCounters.{hand-out-quiet}
use Rattle.qcow2_alloc.proofs.laws.allocating_a_cluster.Goals as goal

pub returns : goal.returns
returns c = hand-out-quiet
