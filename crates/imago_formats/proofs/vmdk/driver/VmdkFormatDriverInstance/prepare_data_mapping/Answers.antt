use Rattle.std.proofs.Common.{refl, ap}
use Rattle.std.specs.Prelude.{⊤}
use Rattle.imago_access.specs.Files.{HadNoResourceError}
use Rattle.imago_access.specs.Changes.{asking}
use Rattle.imago_access.proofs.Looking.{looked_under_same}
use Rattle.imago_access.proofs.Answers.{handed_on}
use Rattle.imago_formats.proofs.Quiet.{prepares_none, prepares_refused, at_once_none, at_once_some}
use Rattle.imago_formats.proofs.vmdk.driver.VmdkFormatDriverInstance.prepare_data_mapping.Goals as goal

pub returns-clause-does : goal.returns-clause-does
returns-clause-does g c =
    prepares_none _ g.B.LayersBelowModel (asking c.args._offset c.args.length c.args._overwrite) c.existing.result c.args.self.now c.args._below.now
    c.in_ok-check_change.ensures.ok.1 (ap (λ m. m.length) c.existing.ensures) (ap (λ m. m.state) c.existing.ensures) refl refl (λ p. refl)

pub returns-clause-below : goal.returns-clause-below
returns-clause-below g c = looked_under_same g.B.LayersBelowModel ⊤ c.args._below.now

pub returns-clause-early_outcome : goal.returns-clause-early_outcome
returns-clause-early_outcome g c = at_once_none _ c.args._offset _ _ c.args.self.now c.in_ok-check_change.ensures.ok.0 c.in_ok-check_change.ensures.ok.1

pub returns-in_err-check_change-clause-does : goal.returns-in_err-check_change-clause-does
returns-in_err-check_change-clause-does g c =
    rw (handed_on _ _ c.from_residual.ensures.1) (prepares_refused _ g.B.LayersBelowModel (asking c.args._offset c.args.length c.args._overwrite) c.in_err-check_change.field-0.0 c.args.self.now c.args._below.now refl c.in_err-check_change.ensures.err)

pub returns-in_err-check_change-clause-below : goal.returns-in_err-check_change-clause-below
returns-in_err-check_change-clause-below g c = looked_under_same g.B.LayersBelowModel (HadNoResourceError c.from_residual.result) c.args._below.now

pub returns-in_err-check_change-clause-early_outcome : goal.returns-in_err-check_change-clause-early_outcome
returns-in_err-check_change-clause-early_outcome g c = rw (handed_on _ _ c.from_residual.ensures.1) (at_once_some _ c.args._offset _ c.in_err-check_change.field-0.0 c.args.self.now refl c.in_err-check_change.ensures.err)
