use Rattle.qcow2_alloc.proofs.GuestView.QuietCounters.{give-back-quiet}
use Rattle.qcow2_alloc.proofs.laws.taking_back_a_cluster.Goals as goal

pub returns : goal.returns
returns c = give-back-quiet
