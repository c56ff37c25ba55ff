use Rattle.qcow2_alloc.proofs.GuestView.QuietFlushes.{quiet-none, used-quiet, order-quiet, settled-quiet}
use Rattle.qcow2_alloc.proofs.laws.what_stays_leaves_the_guest_unchanged.Goals as goal

pub returns : goal.returns
returns c = record { none = quiet-none; used = used-quiet; order = order-quiet; settled = settled-quiet }
