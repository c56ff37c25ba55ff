use Rattle.std.proofs.Common.{◌≡◌, ◌∷◌, map, subst}
use Rattle.std.specs.Prelude.{IfErr, None, OnOk, Option, Some}
use Rattle.imago_storage.specs.declared.fault.Fault.{Fault}
use Rattle.imago_access.specs.Chain.{unit_of_chain}
use Rattle.imago_access.specs.ChainCalls.{chain_refusal}
use Rattle.imago_access.specs.Layers.{chain, layers}
use Rattle.imago_access.specs.Refusals.{change_refusal}
use Rattle.imago_access.proofs.OnErrors.{nothing_on_err, told_on_err}
use Rattle.imago_access.proofs.Refusing.{unusable_cause, unusable_refusal, usable_refusal}
use Rattle.imago_access.proofs.access.FormatAccess.check_change.Goals as goal

pub returns-in_err-ready-clause-ok : goal.returns-in_err-ready-clause-ok
returns-in_err-ready-clause-ok g c = nothing_on_err _ _ _ c.from_residual.ensures.1

pub returns-in_err-ready-clause-err : goal.returns-in_err-ready-clause-err
returns-in_err-ready-clause-err g c = let d = g.D.DriverModel in let top = c.self.inside.driver in
    let fault = c.in_err-ready.field-0.0 in
    told_on_err _ _ _ c.from_residual.ensures.1
    (subst (λ a. chain_refusal d a c.args.offset c.args.length ≡ Some fault) c.self.view_is
    (unusable_refusal (d.layer top) (unit_of_chain (map d.layer (top ∷ layers c.self.inside.below))) c.args.offset c.args.length fault
    c.in_err-ready.ensures.err))

pub returns-in_err-ready-clause-not_resource_error : goal.returns-in_err-ready-clause-not_resource_error
returns-in_err-ready-clause-not_resource_error g c =
    told_on_err _ _ _ c.from_residual.ensures.1
    (unusable_cause (g.D.DriverModel.layer c.self.inside.driver) c.in_err-ready.field-0.0 c.in_err-ready.ensures.err).0

pub returns-in_err-ready-clause-failed : goal.returns-in_err-ready-clause-failed
returns-in_err-ready-clause-failed g c = λ olds news.
    told_on_err _ _ _ c.from_residual.ensures.1
    ((unusable_cause (g.D.DriverModel.layer c.self.inside.driver) c.in_err-ready.field-0.0 c.in_err-ready.ensures.err).1 olds news)

pub returns-clause-ok : goal.returns-clause-ok
returns-clause-ok g c = let d = g.D.DriverModel in let unit = unit_of_chain (map d.layer (chain c.args.self.now)) in
    subst (λ a. OnOk c.check_range.result (change_refusal unit (d.layer a.0) c.args.offset c.args.length ≡ None)) c.self.view_is
    (subst (λ (o : Option Fault). OnOk c.check_range.result (o ≡ None))
    (usable_refusal (d.layer c.self.inside.driver) unit c.args.offset c.args.length _ _ _ c.in_ok-ready.ensures.ok
    c.writable-writable.ensures c.unit.ensures.value c.size-size.ensures)
    c.check_range.ensures.ok)

pub returns-clause-err : goal.returns-clause-err
returns-clause-err g c = let d = g.D.DriverModel in let unit = unit_of_chain (map d.layer (chain c.args.self.now)) in
    subst (λ a. IfErr c.check_range.result (λ e. change_refusal unit (d.layer a.0) c.args.offset c.args.length ≡ Some e)) c.self.view_is
    (subst (λ (o : Option Fault). IfErr c.check_range.result (λ e. o ≡ Some e))
    (usable_refusal (d.layer c.self.inside.driver) unit c.args.offset c.args.length _ _ _ c.in_ok-ready.ensures.ok
    c.writable-writable.ensures c.unit.ensures.value c.size-size.ensures)
    c.check_range.ensures.err)
