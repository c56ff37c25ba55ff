use Rattle.std.proofs.Common.{arith}
use Rattle.qcow2_image.proofs.laws.zeroing_and_discards_are_not_declined.Goals as goal

pub returns : goal.returns
returns g c = λ image below call well_formed newer. (
  λ why. why well_formed,
  λ why. let found = why well_formed in let old = found.0 in let version = newer found.1 in absurd (omega (arith, old, version)),
)
