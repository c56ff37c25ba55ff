use Rattle.qcow2_alloc.proofs.GuestView.ShownDisks.{left-shows, file-shows}
use Rattle.qcow2_alloc.proofs.laws.what_is_left_shows_the_same.Goals as goal

pub returns : goal.returns
returns c = record { left = left-shows; file = file-shows }
