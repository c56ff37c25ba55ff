use Rattle.qcow2_alloc.proofs.GuestView.QuietEntries.{safe-sound}
use Rattle.qcow2_alloc.proofs.laws.what_is_well_formed_is_sound.Goals as goal

pub returns : goal.returns
returns c = safe-sound
