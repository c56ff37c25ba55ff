use Rattle.std.proofs.Common.{refl}
use Rattle.access_cases.specs.declared.drivers.Driver.TheVariants.{Raw, Words}
use Rattle.access_cases.proofs.SeenAs.{writes_as, write_refused_as, at_once_as}
use Rattle.access_cases.proofs.drivers.DriverFormatDriverInstance.write_mapped.Goals as goal

pub returns-in-Raw-clause-writes : goal.returns-in-Raw-clause-writes
returns-in-Raw-clause-writes g c = rw (c.in-Raw.is) (writes_as Raw _ _ refl _ _ (λ x call begun. begun) _ _ _ _ c.write_mapped.ensures.writes)

pub returns-in-Raw-clause-refused : goal.returns-in-Raw-clause-refused
returns-in-Raw-clause-refused g c = rw (c.in-Raw.is) (write_refused_as Raw _ _ refl _ _ (λ x call begun. begun) _ _ _ _ c.write_mapped.ensures.refused)

pub returns-in-Words-clause-writes : goal.returns-in-Words-clause-writes
returns-in-Words-clause-writes g c = rw (c.in-Words.is) (writes_as Words _ _ refl _ _ (λ x call begun. begun) _ _ _ _ c.write_mapped-in-Words.ensures.writes)

pub returns-in-Words-clause-refused : goal.returns-in-Words-clause-refused
returns-in-Words-clause-refused g c = rw (c.in-Words.is) (write_refused_as Words _ _ refl _ _ (λ x call begun. begun) _ _ _ _ c.write_mapped-in-Words.ensures.refused)

pub returns-in-Words-clause-early_outcome : goal.returns-in-Words-clause-early_outcome
returns-in-Words-clause-early_outcome g c = rw (c.in-Words.is) (at_once_as Words _ _ refl _ _ (λ x call begun. begun) _ _ _ c.write_mapped-in-Words.ensures.early_outcome)
