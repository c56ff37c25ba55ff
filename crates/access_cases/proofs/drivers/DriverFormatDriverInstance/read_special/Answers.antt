use Rattle.std.proofs.Common.{refl}
use Rattle.access_cases.specs.declared.drivers.Driver.TheVariants.{Words}
use Rattle.access_cases.proofs.SeenAs.{unchanged_as}
use Rattle.access_cases.proofs.drivers.DriverFormatDriverInstance.read_special.Goals as goal

pub returns-in-Words-clause-unchanged : goal.returns-in-Words-clause-unchanged
returns-in-Words-clause-unchanged g c = rw (c.in-Words.is) (unchanged_as Words _ _ refl _ _ (λ x call begun. begun) c.read_special-in-Words.ensures.unchanged)
