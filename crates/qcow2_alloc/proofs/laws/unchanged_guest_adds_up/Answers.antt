use Rattle.qcow2_alloc.proofs.GuestView.QuietSequences.{quiet-then, used-then, quiet-otherwise, quiet-cancel}
use Rattle.qcow2_alloc.proofs.laws.unchanged_guest_adds_up.Goals as goal

pub returns : goal.returns
returns c = record { then = quiet-then; used = used-then; otherwise = quiet-otherwise; cancelled = quiet-cancel }
