use Rattle.qcow2_steps.proofs.QuietValues.{quiet-left}
use Rattle.qcow2_steps.proofs.Steps.{clean-advances, quiet-advances}
use Rattle.qcow2_steps.proofs.advancing.unchanged_guest_advances.Goals as goal

pub returns : goal.returns
returns g = record { preserves_guest = quiet-advances; clean = clean-advances; crash_images = quiet-left (λ p v. ⊥) }
