use Rattle.std.proofs.Common.{◌≡◌, ◌∷◌, ◌++◌, refl, map, ap, sym, subst}
use Rattle.std.specs.Prelude.{is_some}
use Rattle.std.proofs.lemmas.Result.{IfErr-weaker, IfOk-weaker}
use Rattle.imago_storage.specs.Steps.{Stays, prepare}
use Rattle.imago_storage.proofs.Parts.{passed}
use Rattle.imago_access.specs.Layer.{IsFree}
use Rattle.imago_access.specs.Layers.{layers}
use Rattle.imago_access.specs.Chain.{disk_of}
use Rattle.imago_access.specs.Changes.{NotPrepared}
use Rattle.imago_access.specs.Files.{IsNotResourceError, HadNoResourceError, files_of}
use Rattle.imago_access.specs.Spending.{mapping_id_of}
use Rattle.imago_access.specs.Stops.{GivesNone}
use Rattle.imago_access.specs.declared.mapping.PreparedDataMapping.{PreparedDataMapping}
use Rattle.imago_access.proofs.Answers.{if_ok_with, if_err_with, both_if_ok, if_ok_under, whole_of_ok, whole_of_mild}
use Rattle.imago_access.proofs.ChangeCauses.{change_cause}
use Rattle.imago_access.proofs.Units.{overflows_chain}
use Rattle.imago_access.proofs.HoldingRuns.{ran_prepared}
use Rattle.imago_access.proofs.Running.{ran_same, ran_seen}
use Rattle.imago_access.proofs.MappingCalls.{not_prepared_stays, prepared_step, stateless_is, stateful_claims}
use Rattle.imago_access.proofs.Uncut.{own_part}
use Rattle.imago_access.proofs.Marking.{over_mild}
use Rattle.imago_access.specs.Going.{MarksFailedOver}
use Rattle.imago_access.proofs.access.FormatAccess.prepare_data_mapping.Goals as goal
use Rattle.imago_access.specs.Running.{below_ghosts}
use Rattle.imago_access.proofs.Looking.{seen_by}

pub returns-in_err-check_change-clause-range_change : goal.returns-in_err-check_change-clause-range_change
returns-in_err-check_change-clause-range_change g c = let d = g.D.DriverModel in
    ran_same d (below_ghosts d) (HadNoResourceError c.from_residual.result) GivesNone c.args.self.now.0 c.args.self.now.1

pub returns-clause-ok : goal.returns-clause-ok
returns-clause-ok g c = let d = g.D.DriverModel in
    let laws = g.met.D.FormatDriverInstance in
    let r = c.prepare_data_mapping in
    let old = c.self.inside.driver in
    let free : IsFree (d.layer old) = subst (λ (v : _). IsFree (d.layer v.0)) (sym c.self.view_is) c.requires.free in
    let under = map d.layer (layers c.self.inside.below) in
    let later = map d.layer (layers r.new.below) in
    rw (← c.self.view_is) (λ intact.
    let told = both_if_ok r.result _ _ (r.ensures.does.ok intact.is_well_formed intact.is_coherent) (both_if_ok r.result _ _ r.ensures.run (both_if_ok r.result _ _ r.ensures.mine (if_ok_under r.result (c.args.length ≡ 0) _ r.ensures.empty))) in
    if_ok_with r.result _ _ (λ m is h. prepared_step under later (d.layer old) (d.layer r.new.self) c.args.offset c.args.length c.args.overwrite m.storage m.offset m.length (mapping_id_of d.mapping_id m.state) (is_some m.state)
    (r.ensures.below.stays (whole_of_ok r.result m is) intact.is_coherent).0 (laws.free_loose old free) h.0 h.1.0.0.0 h.1.0.0.1 h.1.0.0.2
    (λ none. laws.free_loose r.new.self (h.1.1.0.1 (stateless_is m.state none))) (stateful_claims d.mapping_id m.state) (λ zero. ap (λ (m' : PreparedDataMapping g.row.D-State.Denot). is_some m'.state) (h.1.1.1 zero).0)) told)

pub returns-clause-writable_location : goal.returns-clause-writable_location
returns-clause-writable_location g c = let r = c.prepare_data_mapping in
    rw (← c.self.view_is) (λ intact. IfOk-weaker r.result _ _ (λ m made. made.writable_location) (r.ensures.does.ok intact.is_well_formed intact.is_coherent))

pub returns-clause-err : goal.returns-clause-err
returns-clause-err g c = let d = g.D.DriverModel in
    let r = c.prepare_data_mapping in
    let old = c.self.inside.driver in
    let under = map d.layer (layers c.self.inside.below) in
    let later = map d.layer (layers r.new.below) in
    rw (← c.self.view_is) (λ intact. if_err_with r.result (λ e. IsNotResourceError e → NotPrepared (d.layer old) (d.layer r.new.self)) (λ e. IsNotResourceError e → Stays (disk_of under (d.layer old)) (disk_of later (d.layer r.new.self)))
    (λ e is not not_resource_error. not_prepared_stays under later (d.layer old) (d.layer r.new.self) (r.ensures.below.stays (whole_of_mild r.result e is not_resource_error) intact.is_coherent).0 (not not_resource_error)) (r.ensures.does.err intact.is_well_formed intact.is_coherent))

pub returns-clause-range_change : goal.returns-clause-range_change
returns-clause-range_change g c = let d = g.D.DriverModel in
    let laws = g.met.D.FormatDriverInstance in
    let r = c.prepare_data_mapping in
    let old = c.self.inside.driver in
    let new = r.new.self in
    let free : IsFree (d.layer old) = subst (λ (v : _). IsFree (d.layer v.0)) (sym c.self.view_is) c.requires.free in
    rw (← c.self.view_is) (ran_seen layers d (below_ghosts d) (HadNoResourceError r.result) GivesNone old new c.self.inside.below r.new.below
    (ran_prepared d (seen_by layers (below_ghosts d)) r.result old new c.self.inside.below r.new.below c.args.offset c.args.length c.args.overwrite
    (laws.free_loose old free) r.ensures.size r.ensures.does.mutating_call r.ensures.below r.ensures.does.ok r.ensures.does.err r.ensures.does.crash_images))

pub returns-clause-cause : goal.returns-clause-cause
returns-clause-cause g c = let d = g.D.DriverModel in
    let laws = g.met.D.FormatDriverInstance in
    let r = c.prepare_data_mapping in
    let old = c.self.inside.driver in
    let under = layers c.self.inside.below in
    let call = prepare c.args.offset c.args.length c.args.overwrite in
    rw (← c.self.view_is) (λ intact. IfErr-weaker r.result _ _
    (λ e cause. change_cause (map d.layer under) (d.layer old) call (d.own_cause old (map d.layer under) call) (d.image old ∷ (d.extras old ++ files_of d under)) (d.image r.new.self ∷ (d.extras r.new.self ++ files_of d (layers r.new.below))) (λ some. some) (overflows_chain d.layer laws.aligned old under c.args.offset c.args.length) e cause)
    (r.ensures.does.refused.cause intact.is_well_formed intact.is_coherent old call (laws.begins old call) (own_part (d.layer old) call) refl))

pub returns-in_err-check_change-clause-marks_failed : goal.returns-in_err-check_change-clause-marks_failed
returns-in_err-check_change-clause-marks_failed g c = let d = g.D.DriverModel in let a = c.args.self.now.0 in let ds = c.args.self.now.1 in
    passed c.from_residual.result (MarksFailedOver d a a) c.in_err-check_change.field-0.0 c.from_residual.ensures.1 (over_mild d a a c.in_err-check_change.field-0.0 c.in_err-check_change.ensures.not_resource_error)
