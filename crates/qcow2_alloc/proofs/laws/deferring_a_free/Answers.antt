use Rattle.qcow2_alloc.proofs.GuestView.QuietEntries.{push-quiet}
use Rattle.qcow2_alloc.proofs.laws.deferring_a_free.Goals as goal

pub returns : goal.returns
returns c = push-quiet
