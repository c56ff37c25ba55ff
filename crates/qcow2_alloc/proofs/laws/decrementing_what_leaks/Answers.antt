use Rattle.qcow2_alloc.proofs.GuestView.QuietCounters.{leaked-quiet}
use Rattle.qcow2_alloc.proofs.laws.decrementing_what_leaks.Goals as goal

pub returns : goal.returns
returns c = leaked-quiet
