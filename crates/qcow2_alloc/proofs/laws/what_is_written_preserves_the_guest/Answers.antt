use Rattle.qcow2_alloc.proofs.GuestView.SingleRequests.{put-whole}
use Rattle.qcow2_alloc.proofs.laws.what_is_written_preserves_the_guest.Goals as goal

pub returns : goal.returns
returns c = put-whole
