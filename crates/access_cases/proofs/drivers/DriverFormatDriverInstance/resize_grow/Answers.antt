use Rattle.std.proofs.Common.{refl}
use Rattle.access_cases.specs.declared.drivers.Driver.TheVariants.{Words}
use Rattle.access_cases.proofs.SeenAs.{resizes_as, growth_refused_as}
use Rattle.access_cases.proofs.drivers.DriverFormatDriverInstance.resize_grow.Goals as goal

pub returns-in-Words-clause-resizes : goal.returns-in-Words-clause-resizes
returns-in-Words-clause-resizes g c = rw (c.in-Words.is) (resizes_as Words _ _ refl _ _ (λ x call begun. begun) _ _ _ c.resize_grow-in-Words.ensures.resizes)

pub returns-in-Words-clause-refused : goal.returns-in-Words-clause-refused
returns-in-Words-clause-refused g c = rw (c.in-Words.is) (growth_refused_as Words _ _ refl _ _ (λ x call begun. begun) g.B.LayersBelowModel _ _ _ _ _ (λ below. refl) c.resize_grow-in-Words.ensures.refused)
