use Rattle.std.proofs.Common.{refl}
use Rattle.imago_access.specs.PartCalls.{discards_to_backing}
use Rattle.access_cases.specs.declared.drivers.Driver.TheVariants.{Raw, Words}
use Rattle.access_cases.proofs.SeenAs.{does_as, refused_as, at_once_as}
use Rattle.access_cases.proofs.OwnCauses.{raw_causes, words_causes}
use Rattle.access_cases.proofs.drivers.DriverFormatDriverInstance.discard_to_backing.Goals as goal

pub returns-in-Raw-clause-does : goal.returns-in-Raw-clause-does
returns-in-Raw-clause-does g c = rw (c.in-Raw.is) (does_as Raw _ _ refl _ _ (λ x call begun. begun) discards_to_backing _ _ _ c.discard_to_backing.ensures.does)

pub returns-in-Raw-clause-refused : goal.returns-in-Raw-clause-refused
returns-in-Raw-clause-refused g c = rw (c.in-Raw.is) (refused_as Raw _ _ refl _ _ (λ x call begun. begun) discards_to_backing _ _ _ (raw_causes c.in-Raw.raw) c.discard_to_backing.ensures.refused)

pub returns-in-Words-clause-does : goal.returns-in-Words-clause-does
returns-in-Words-clause-does g c = rw (c.in-Words.is) (does_as Words _ _ refl _ _ (λ x call begun. begun) discards_to_backing _ _ _ c.discard_to_backing-in-Words.ensures.does)

pub returns-in-Words-clause-refused : goal.returns-in-Words-clause-refused
returns-in-Words-clause-refused g c = rw (c.in-Words.is) (refused_as Words _ _ refl _ _ (λ x call begun. begun) discards_to_backing _ _ _ (words_causes c.in-Words.words) c.discard_to_backing-in-Words.ensures.refused)

pub returns-in-Words-clause-early_outcome : goal.returns-in-Words-clause-early_outcome
returns-in-Words-clause-early_outcome g c = rw (c.in-Words.is) (at_once_as Words _ _ refl _ _ (λ x call begun. begun) _ _ _ c.discard_to_backing-in-Words.ensures.early_outcome)
