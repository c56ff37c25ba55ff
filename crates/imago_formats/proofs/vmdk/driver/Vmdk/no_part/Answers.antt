use Rattle.std.proofs.Common.{refl}
use Rattle.imago_access.proofs.Answers.{handed_on}
use Rattle.imago_formats.proofs.Quiet.{does_nothing, does_refused, part_refused, at_once_none, at_once_some}
use Rattle.imago_formats.proofs.vmdk.driver.Vmdk.no_part.Goals as goal

pub returns-clause-does : goal.returns-clause-does
returns-clause-does g c = λ call. does_nothing _ call c.args.offset c.args.length c.args.self.now c.in_ok-check_change.ensures.ok.1 refl

pub returns-clause-early_outcome : goal.returns-clause-early_outcome
returns-clause-early_outcome g c = at_once_none _ c.args.offset c.args.length _ c.args.self.now c.in_ok-check_change.ensures.ok.0 c.in_ok-check_change.ensures.ok.1

pub returns-in_err-check_change-clause-does : goal.returns-in_err-check_change-clause-does
returns-in_err-check_change-clause-does g c = rw (handed_on _ _ c.from_residual.ensures.1) (λ call. does_refused _ call c.args.offset c.args.length c.in_err-check_change.field-0.0 c.args.self.now)

pub returns-in_err-check_change-clause-early_outcome : goal.returns-in_err-check_change-clause-early_outcome
returns-in_err-check_change-clause-early_outcome g c = rw (handed_on _ _ c.from_residual.ensures.1) (at_once_some _ c.args.offset c.args.length c.in_err-check_change.field-0.0 c.args.self.now refl c.in_err-check_change.ensures.err)

pub returns-in_err-check_change-clause-refused : goal.returns-in_err-check_change-clause-refused
returns-in_err-check_change-clause-refused g c = rw (handed_on _ _ c.from_residual.ensures.1) (λ call. part_refused _ call c.args.offset c.args.length c.in_err-check_change.field-0.0 c.args.self.now refl c.in_err-check_change.ensures.err)
