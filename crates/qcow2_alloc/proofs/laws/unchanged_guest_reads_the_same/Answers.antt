use Rattle.qcow2_alloc.proofs.GuestView.QuietSequences.{shows-then}
use Rattle.qcow2_alloc.proofs.laws.unchanged_guest_reads_the_same.Goals as goal

pub returns : goal.returns
returns c = shows-then
