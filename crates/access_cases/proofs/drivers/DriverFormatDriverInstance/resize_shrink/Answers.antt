use Rattle.std.proofs.Common.{refl}
use Rattle.access_cases.specs.declared.drivers.Driver.TheVariants.{Raw, Words}
use Rattle.access_cases.proofs.SeenAs.{shrink_refused_as, resizes_as}
use Rattle.access_cases.proofs.drivers.DriverFormatDriverInstance.resize_shrink.Goals as goal

pub returns-in-Raw-clause-refused : goal.returns-in-Raw-clause-refused
returns-in-Raw-clause-refused g c = rw (c.in-Raw.is) (shrink_refused_as Raw _ _ refl _ _ (λ x call begun. begun) _ _ (λ below call. refl) c.resize_shrink.ensures.refused)

pub returns-in-Words-clause-refused : goal.returns-in-Words-clause-refused
returns-in-Words-clause-refused g c = rw (c.in-Words.is) (shrink_refused_as Words _ _ refl _ _ (λ x call begun. begun) _ _ (λ below call. refl) c.resize_shrink-in-Words.ensures.refused)

pub returns-in-Words-clause-resizes : goal.returns-in-Words-clause-resizes
returns-in-Words-clause-resizes g c = rw (c.in-Words.is) (resizes_as Words _ _ refl _ _ (λ x call begun. begun) _ _ _ c.resize_shrink-in-Words.ensures.resizes)
