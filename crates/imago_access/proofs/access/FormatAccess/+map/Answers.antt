use Rattle.std.proofs.Common.{rules, arith, ap, inl, inr, length, refl, sym, subst, ◌∙◌, ◌≡◌, ◌∷◌, map}
use Rattle.std.specs.Prelude.{⊤, ◌<◌, ◌^◌, Err, IfErr, IfOk, IsErrOf, IsOk, None, Some}
use Rattle.imago_access.specs.Going.{LookupCall, MarksSomeFailed}
use Rattle.imago_access.specs.Chain.{at, Each}
use Rattle.imago_access.specs.Layers.{chain, layers}
use Rattle.imago_access.specs.Files.{ImageCause, IsNotResourceError, HadNoResourceError, files_of, files, byte_in, Pairs}
use Rattle.imago_access.specs.Mappings.{AreExplicitZeroes, DeepNamesWritable, DeepReportsExplicitZero}
use Rattle.imago_access.specs.Mappings.{DeepReportsWritable, IsDeepBelow, IsDeepRun, ReportsExplicitZero}
use Rattle.imago_access.specs.Mappings.{ReportsWritable, IsRun, Names, DeepNames, IsOneOf, IsThere, stored_at, lower}
use Rattle.imago_storage.specs.declared.fault.Fault.{Fault}
use Rattle.imago_access.specs.ChainCalls.{ChainFails}
use Rattle.imago_access.specs.ChainLooks.{LookRefused, NamesLayer, NamesStorage, NamesTruly, NamesWritable, UnchangedIfIdle, WhereAllSee}
use Rattle.imago_access.specs.Refusals.{DeepLookCause, unusable_fault}
use Rattle.imago_access.specs.declared.mapping.Mapping.{Mapping}
use Rattle.imago_access.specs.declared.mapping.ShallowMapping.{ShallowMapping}
use Rattle.imago_access.proofs.Answers.{handed_on}
use Rattle.imago_access.proofs.OnErrors.{none_on_err, told_on_err}
use Rattle.imago_access.proofs.Looking.{all_looked_same, chain_same}
use Rattle.imago_access.proofs.ReadCauses.{indirect_free}
use Rattle.imago_access.proofs.LookedUp.{deep_step}
use Rattle.imago_access.proofs.Deeper.{indirect_unstated, names_lower, there_lower, unstated_below, writable_here, run_inside}
use Rattle.imago_access.proofs.Deeper.{indirect_run, indirect_writable, deep_look_top}
use Rattle.imago_access.proofs.Deeper.{deep_look_below, names_raw, names_special, names_zero}
use Rattle.imago_access.proofs.ImageCauses.{failed_left, failed_right}
use Rattle.imago_access.proofs.Marking.{marked_top}
use Rattle.imago_access.proofs.access.FormatAccess.+map.Goals as goal

pub map_part-returns-in_err-mapping-clause-lookup_call : goal.map_part-returns-in_err-mapping-clause-lookup_call
map_part-returns-in_err-mapping-clause-lookup_call g t c = let d = g.D.DriverModel in let ds = layers c.args.below.now in
    subst (λ r. Pairs (LookupCall d (HadNoResourceError r)) (c.args.driver.now ∷ ds) (c.get_mapping.new.self ∷ ds)) (sym (handed_on _ _ c.from_residual.ensures.1))
    (c.in_err-mapping.ensures.lookup_call, all_looked_same d (IsNotResourceError c.in_err-mapping.field-0.0) ds)

pub map_part-returns-in_err-mapping-clause-failed : goal.map_part-returns-in_err-mapping-clause-failed
map_part-returns-in_err-mapping-clause-failed g t c = rw (handed_on _ _ c.from_residual.ensures.1) (let d = g.D.DriverModel in
    let a0 = c.args.driver.now in let a1 = c.get_mapping.new.self in let others = files_of d (layers c.args.below.now) in
    failed_left (files d a0) (files d a1) others others c.in_err-mapping.field-0.0 c.in_err-mapping.ensures.failed)

pub map_part-returns-in_err-mapping-clause-marks_failed : goal.map_part-returns-in_err-mapping-clause-marks_failed
map_part-returns-in_err-mapping-clause-marks_failed g t c = rw (handed_on _ _ c.from_residual.ensures.1) (let d = g.D.DriverModel in
    let a0 = c.args.driver.now in let a1 = c.get_mapping.new.self in let ds = layers c.args.below.now in
    marked_top d a0 a1 ds ds c.in_err-mapping.field-0.0 (λ is. subst (ImageCause (files d a0) (files d a1)) is c.in_err-mapping.ensures.failed) c.in_err-mapping.ensures.marks_failed)

pub map_part-returns-in_err-mapping-clause-cause : goal.map_part-returns-in_err-mapping-clause-cause
map_part-returns-in_err-mapping-clause-cause g t c = rw (handed_on _ _ c.from_residual.ensures.1) (λ see. let d = g.D.DriverModel in deep_look_top (d.layer c.args.driver.now) (map d.layer (layers c.args.below.now)) c.args.offset c.args.max_length (files d c.args.driver.now) (files d c.get_mapping.new.self) (files_of d (layers c.args.below.now)) (files_of d (layers c.args.below.now)) c.in_err-mapping.field-0.0 (c.in_err-mapping.ensures.cause see.0))

pub map_part-returns-then-length-eq0-clause-lookup_call : goal.map_part-returns-then-length-eq0-clause-lookup_call
map_part-returns-then-length-eq0-clause-lookup_call g t c = let d = g.D.DriverModel in (c.in_ok-mapping.ensures.lookup_call, all_looked_same d ⊤ (layers c.args.below.now))

pub map_part-returns-in-Raw-clause-lookup_call : goal.map_part-returns-in-Raw-clause-lookup_call
map_part-returns-in-Raw-clause-lookup_call g t c = let d = g.D.DriverModel in (c.in_ok-mapping.ensures.lookup_call, all_looked_same d ⊤ (layers c.args.below.now))

pub map_part-returns-in-Zero-clause-lookup_call : goal.map_part-returns-in-Zero-clause-lookup_call
map_part-returns-in-Zero-clause-lookup_call g t c = let d = g.D.DriverModel in (c.in_ok-mapping.ensures.lookup_call, all_looked_same d ⊤ (layers c.args.below.now))

pub map_part-returns-in-Eof-clause-lookup_call : goal.map_part-returns-in-Eof-clause-lookup_call
map_part-returns-in-Eof-clause-lookup_call g t c = let d = g.D.DriverModel in (c.in_ok-mapping.ensures.lookup_call, all_looked_same d ⊤ (layers c.args.below.now))

pub map_part-returns-in-Special-clause-lookup_call : goal.map_part-returns-in-Special-clause-lookup_call
map_part-returns-in-Special-clause-lookup_call g t c = let d = g.D.DriverModel in (c.in_ok-mapping.ensures.lookup_call, all_looked_same d ⊤ (layers c.args.below.now))

pub map_part-returns-in_ok-mapping-in-Indirect-clause-run : goal.map_part-returns-in_ok-mapping-in-Indirect-clause-run
map_part-returns-in_ok-mapping-in-Indirect-clause-run g t c = let d = g.D.DriverModel in let run = indirect_run (d.layer c.args.driver.now) c.args.offset c.args.max_length c.in_ok-mapping.length c.in-Indirect.offset c.in-Indirect.writable c.in_ok-mapping.mapping c.in-Indirect.is c.in_ok-mapping.ensures.run in
    run_inside (d.layer c.args.driver.now).size c.args.offset c.args.max_length c.in_ok-mapping.length c.in_ok-mapping-in-Indirect.length c.in_ok-mapping-in-Indirect.mapping c.lowered.result c.in_ok-mapping-in-Indirect.ensures.run c.lowered.ensures.end run.0 run.2 run.1 run.3

pub map_part-returns-in_ok-mapping-in-Indirect-clause-names : goal.map_part-returns-in_ok-mapping-in-Indirect-clause-names
map_part-returns-in_ok-mapping-in-Indirect-clause-names g t c = λ few see. let d = g.D.DriverModel in let looks = c.in_ok-mapping.ensures.looks see.0 in
    let m = c.in_ok-mapping-in-Indirect.mapping in
    let n = c.in_ok-mapping.length in
    let run = indirect_run (d.layer c.args.driver.now) c.args.offset c.args.max_length n c.in-Indirect.offset c.in-Indirect.writable c.in_ok-mapping.mapping c.in-Indirect.is c.in_ok-mapping.ensures.run in
    let free = indirect_free (d.layer c.args.driver.now) (byte_in (files d c.get_mapping.new.self)) c.args.offset c.args.max_length c.in_ok-mapping.mapping n looks c.in-Indirect.offset c.in-Indirect.writable c.in-Indirect.is in
    let lowered : c.lowered.result ≡ lower c.in-Indirect.writable m = c.lowered.ensures.value (search (rules)) in
    subst (λ (x : Mapping). DeepNames (d.layer c.args.driver.now ∷ map d.layer (layers c.args.below.now)) (at (d.layer c.args.driver.now ∷ map d.layer (layers c.args.below.now))) (stored_at d (c.get_mapping.new.self ∷ layers c.map_below.new.below)) c.args.offset c.in_ok-mapping-in-Indirect.length x) (sym lowered)
    (names_lower d c.get_mapping.new.self (layers c.map_below.new.below) (d.layer c.args.driver.now) (map d.layer (layers c.args.below.now)) c.args.offset c.in_ok-mapping-in-Indirect.length n c.in-Indirect.writable free run.2
    (indirect_writable (d.layer c.args.driver.now) (byte_in (files d c.get_mapping.new.self)) c.args.offset n c.in-Indirect.offset c.in-Indirect.writable c.in_ok-mapping.mapping c.in-Indirect.is looks.names) m c.in_ok-mapping-in-Indirect.ensures.run (c.in_ok-mapping-in-Indirect.ensures.names (omega (arith, few)) see.1))

pub map_part-returns-in_ok-mapping-in-Indirect-clause-storage_exists : goal.map_part-returns-in_ok-mapping-in-Indirect-clause-storage_exists
map_part-returns-in_ok-mapping-in-Indirect-clause-storage_exists g t c = λ few. let d = g.D.DriverModel in
    let m = c.in_ok-mapping-in-Indirect.mapping in
    let lowered : c.lowered.result ≡ lower c.in-Indirect.writable m = c.lowered.ensures.value (search (rules)) in
    subst (IsThere d (c.args.driver.now ∷ layers c.args.below.now)) (sym lowered)
    (there_lower d c.args.driver.now (layers c.args.below.now) c.in-Indirect.writable m (c.in_ok-mapping-in-Indirect.ensures.storage_exists (omega (arith, few))))

pub map_part-returns-in_ok-mapping-in-Indirect-clause-explicit_zero : goal.map_part-returns-in_ok-mapping-in-Indirect-clause-explicit_zero
map_part-returns-in_ok-mapping-in-Indirect-clause-explicit_zero g t c = λ see.
    let explicit_zero = g.D.DriverModel.explicit_zero c.args.driver.now in
    let asked = c.in_ok-mapping.length in
    let n = c.in_ok-mapping-in-Indirect.length in
    let none = indirect_unstated explicit_zero c.args.offset asked c.in-Indirect.offset c.in-Indirect.writable c.in_ok-mapping.mapping c.in-Indirect.is (c.in_ok-mapping.ensures.explicit_zero see) in
    subst (AreExplicitZeroes explicit_zero c.args.offset n) (sym c.lowered.ensures.explicit) (unstated_below explicit_zero c.args.offset asked n c.in_ok-mapping-in-Indirect.mapping none c.in_ok-mapping-in-Indirect.ensures.run)

pub map_part-returns-in-Raw-clause-storage_exists : goal.map_part-returns-in-Raw-clause-storage_exists
map_part-returns-in-Raw-clause-storage_exists g t c = λ few. let d = g.D.DriverModel in subst (IsOneOf (length (files d c.args.driver.now))) c.in-Raw.is c.in_ok-mapping.ensures.storage_exists

pub map_part-returns-in-Raw-clause-writable : goal.map_part-returns-in-Raw-clause-writable
map_part-returns-in-Raw-clause-writable g t c = λ few see. let d = g.D.DriverModel in
    writable_here (d.layer c.args.driver.now) (map d.layer (layers c.args.below.now)) c.args.offset c.args.max_length c.in-Raw.storage c.in-Raw.place c.in-Raw.writable
    (subst (ReportsWritable (d.layer c.args.driver.now) c.args.offset c.args.max_length) c.in-Raw.is (c.in_ok-mapping.ensures.looks see.0).writable_location)

pub map_part-returns-in_err-mapping-in-Indirect-clause-failed : goal.map_part-returns-in_err-mapping-in-Indirect-clause-failed
map_part-returns-in_err-mapping-in-Indirect-clause-failed g t c = rw (handed_on _ _ c.from_residual-in_err-mapping-in-Indirect.ensures.1) (let d = g.D.DriverModel in
    let a0 = c.args.driver.now in let a1 = c.get_mapping.new.self in
    failed_right (files d a0) (files d a1) (files_of d (layers c.args.below.now)) (files_of d (layers c.map_below.new.below)) c.in_err-mapping-in-Indirect.field-0.0 c.in_ok-mapping.ensures.lookup_call.counts_not_fallen c.in_err-mapping-in-Indirect.ensures.failed)

pub map_part-returns-in_err-mapping-in-Indirect-clause-marks_failed : goal.map_part-returns-in_err-mapping-in-Indirect-clause-marks_failed
map_part-returns-in_err-mapping-in-Indirect-clause-marks_failed g t c = rw (handed_on _ _ c.from_residual-in_err-mapping-in-Indirect.ensures.1) (λ is. inr (c.in_err-mapping-in-Indirect.ensures.marks_failed is))

pub map_part-returns-in_err-mapping-in-Indirect-clause-cause : goal.map_part-returns-in_err-mapping-in-Indirect-clause-cause
map_part-returns-in_err-mapping-in-Indirect-clause-cause g t c = rw (handed_on _ _ c.from_residual-in_err-mapping-in-Indirect.ensures.1) (λ see. let d = g.D.DriverModel in let looks = c.in_ok-mapping.ensures.looks see.0 in
    let n = c.in_ok-mapping.length in
    let run = indirect_run (d.layer c.args.driver.now) c.args.offset c.args.max_length n c.in-Indirect.offset c.in-Indirect.writable c.in_ok-mapping.mapping c.in-Indirect.is c.in_ok-mapping.ensures.run in
    let free = indirect_free (d.layer c.args.driver.now) (byte_in (files d c.get_mapping.new.self)) c.args.offset c.args.max_length c.in_ok-mapping.mapping n looks c.in-Indirect.offset c.in-Indirect.writable c.in-Indirect.is in
    deep_look_below (d.layer c.args.driver.now) (map d.layer (layers c.args.below.now)) c.args.offset n c.args.max_length (files d c.args.driver.now) (files d c.get_mapping.new.self) (files_of d (layers c.args.below.now)) (files_of d (layers c.map_below.new.below)) c.in_err-mapping-in-Indirect.field-0.0 (c.in_err-mapping-in-Indirect.ensures.cause see.1) free run.2 run.1 c.in_ok-mapping.ensures.lookup_call.counts_not_fallen)

pub get_mapping-returns-clause-ok : goal.get_mapping-returns-clause-ok
get_mapping-returns-clause-ok g t c = let d = g.D.DriverModel in
    let below = layers c.self.inside.below in let after = layers c.map_part.new.below in let looked = c.map_part.ensures.lookup_call in
    rw (← c.self.view_is) (λ few see. deep_step (d.layer c.self.inside.driver) (map d.layer below) (stored_at d (c.map_part.new.driver ∷ after)) c.args.offset c.args.max_length (d.layer c.map_part.new.driver) (map d.layer after) c.map_part.result
    c.map_part.ensures.run (c.map_part.ensures.names few see)
    (λ whole. ((looked.0.stays whole see.0).0, chain_same d (HadNoResourceError c.map_part.result) below after whole see.1 looked.1)))

pub get_mapping-returns-clause-run : goal.get_mapping-returns-clause-run
get_mapping-returns-clause-run g t c = let d = g.D.DriverModel in subst
    (λ a. IfOk c.map_part.result (λ x. IsDeepRun (d.layer a.0).size c.args.offset c.args.max_length x.0 x.1)) c.self.view_is
    c.map_part.ensures.run

pub get_mapping-returns-clause-names : goal.get_mapping-returns-clause-names
get_mapping-returns-clause-names g t c = let d = g.D.DriverModel in subst
    (λ a. NamesTruly d c.args.offset c.map_part.result (chain a) (c.map_part.new.driver ∷ layers c.map_part.new.below)) c.self.view_is
    c.map_part.ensures.names

pub get_mapping-returns-clause-deep : goal.get_mapping-returns-clause-deep
get_mapping-returns-clause-deep g t c = let d = g.D.DriverModel in subst (λ a. NamesLayer c.map_part.result (chain a)) c.self.view_is
    c.map_part.ensures.deep

pub get_mapping-returns-clause-storage_exists : goal.get_mapping-returns-clause-storage_exists
get_mapping-returns-clause-storage_exists g t c = let d = g.D.DriverModel in subst (λ a. NamesStorage d c.map_part.result (chain a))
    c.self.view_is c.map_part.ensures.storage_exists

pub get_mapping-returns-clause-writable_location : goal.get_mapping-returns-clause-writable_location
get_mapping-returns-clause-writable_location g t c = let d = g.D.DriverModel in subst
    (λ a. d.coherent a.0 → IfOk c.map_part.result (λ x. DeepReportsWritable (d.layer a.0) c.args.offset c.args.max_length x.0))
    c.self.view_is c.map_part.ensures.writable_location

pub get_mapping-returns-clause-writable : goal.get_mapping-returns-clause-writable
get_mapping-returns-clause-writable g t c = let d = g.D.DriverModel in subst
    (λ a. NamesWritable d c.args.offset c.args.max_length c.map_part.result (chain a)) c.self.view_is c.map_part.ensures.writable

pub get_mapping-returns-clause-explicit_zero : goal.get_mapping-returns-clause-explicit_zero
get_mapping-returns-clause-explicit_zero g t c = let d = g.D.DriverModel in subst
    (λ a. d.coherent a.0 → IfOk c.map_part.result (DeepReportsExplicitZero (d.explicit_zero a.0) c.args.offset)) c.self.view_is
    c.map_part.ensures.explicit_zero

pub get_mapping-returns-clause-idle : goal.get_mapping-returns-clause-idle
get_mapping-returns-clause-idle g t c = let d = g.D.DriverModel in subst
    (λ a. c.args.max_length ≡ 0 → unusable_fault (d.layer a.0) ≡ None → IsOk c.map_part.result) c.self.view_is c.map_part.ensures.idle

pub get_mapping-returns-clause-unusable : goal.get_mapping-returns-clause-unusable
get_mapping-returns-clause-unusable g t c = let d = g.D.DriverModel in subst
    (λ a. (f : Fault) → unusable_fault (d.layer a.0) ≡ Some f → IsErrOf c.map_part.result f) c.self.view_is c.map_part.ensures.unusable

pub get_mapping-returns-clause-unchanged : goal.get_mapping-returns-clause-unchanged
get_mapping-returns-clause-unchanged g t c = let d = g.D.DriverModel in subst
    (λ a. UnchangedIfIdle d c.args.max_length a (c.map_part.new.driver, layers c.map_part.new.below)) c.self.view_is
    c.map_part.ensures.unchanged

pub get_mapping-returns-clause-lookup_call : goal.get_mapping-returns-clause-lookup_call
get_mapping-returns-clause-lookup_call g t c = let d = g.D.DriverModel in subst
    (λ a. Pairs (LookupCall d (HadNoResourceError c.map_part.result)) (chain a) (c.map_part.new.driver ∷ layers c.map_part.new.below))
    c.self.view_is c.map_part.ensures.lookup_call

pub get_mapping-returns-clause-failed : goal.get_mapping-returns-clause-failed
get_mapping-returns-clause-failed g t c = let d = g.D.DriverModel in subst
    (λ a. IfErr c.map_part.result (ChainFails d a (c.map_part.new.driver, layers c.map_part.new.below))) c.self.view_is
    c.map_part.ensures.failed

pub get_mapping-returns-clause-marks_failed : goal.get_mapping-returns-clause-marks_failed
get_mapping-returns-clause-marks_failed g t c = let d = g.D.DriverModel in subst
    (λ a. IfErr c.map_part.result (MarksSomeFailed d (chain a) (c.map_part.new.driver ∷ layers c.map_part.new.below))) c.self.view_is
    c.map_part.ensures.marks_failed

pub get_mapping-returns-clause-cause : goal.get_mapping-returns-clause-cause
get_mapping-returns-clause-cause g t c = let d = g.D.DriverModel in subst
    (λ a. LookRefused d c.args.offset c.args.max_length c.map_part.result (chain a) (c.map_part.new.driver ∷ layers c.map_part.new.below))
    c.self.view_is c.map_part.ensures.cause

pub map_below-returns-in_err-mapping-in-Some-clause-run : goal.map_below-returns-in_err-mapping-in-Some-clause-run
map_below-returns-in_err-mapping-in-Some-clause-run g t c = none_on_err _ _ _ c.from_residual.ensures.1

pub map_below-returns-in_err-mapping-in-Some-clause-names : goal.map_below-returns-in_err-mapping-in-Some-clause-names
map_below-returns-in_err-mapping-in-Some-clause-names g t c = λ few see. none_on_err _ _ _ c.from_residual.ensures.1

pub map_below-returns-in_err-mapping-in-Some-clause-deep : goal.map_below-returns-in_err-mapping-in-Some-clause-deep
map_below-returns-in_err-mapping-in-Some-clause-deep g t c = λ few. none_on_err _ _ _ c.from_residual.ensures.1

pub map_below-returns-in_err-mapping-in-Some-clause-storage_exists : goal.map_below-returns-in_err-mapping-in-Some-clause-storage_exists
map_below-returns-in_err-mapping-in-Some-clause-storage_exists g t c = λ few. none_on_err _ _ _ c.from_residual.ensures.1

pub map_below-returns-in_err-mapping-in-Some-clause-writable : goal.map_below-returns-in_err-mapping-in-Some-clause-writable
map_below-returns-in_err-mapping-in-Some-clause-writable g t c = λ few see. none_on_err _ _ _ c.from_residual.ensures.1

pub map_part-returns-in_err-mapping-clause-run : goal.map_part-returns-in_err-mapping-clause-run
map_part-returns-in_err-mapping-clause-run g t c = none_on_err _ _ _ c.from_residual.ensures.1

pub map_part-returns-in_err-mapping-clause-names : goal.map_part-returns-in_err-mapping-clause-names
map_part-returns-in_err-mapping-clause-names g t c = λ few see. none_on_err _ _ _ c.from_residual.ensures.1

pub map_part-returns-in_err-mapping-clause-deep : goal.map_part-returns-in_err-mapping-clause-deep
map_part-returns-in_err-mapping-clause-deep g t c = λ few. none_on_err _ _ _ c.from_residual.ensures.1

pub map_part-returns-in_err-mapping-clause-storage_exists : goal.map_part-returns-in_err-mapping-clause-storage_exists
map_part-returns-in_err-mapping-clause-storage_exists g t c = λ few. none_on_err _ _ _ c.from_residual.ensures.1

pub map_part-returns-in_err-mapping-clause-writable_location : goal.map_part-returns-in_err-mapping-clause-writable_location
map_part-returns-in_err-mapping-clause-writable_location g t c = λ see. none_on_err _ _ _ c.from_residual.ensures.1

pub map_part-returns-in_err-mapping-clause-writable : goal.map_part-returns-in_err-mapping-clause-writable
map_part-returns-in_err-mapping-clause-writable g t c = λ few see. none_on_err _ _ _ c.from_residual.ensures.1

pub map_part-returns-in_err-mapping-clause-explicit_zero : goal.map_part-returns-in_err-mapping-clause-explicit_zero
map_part-returns-in_err-mapping-clause-explicit_zero g t c = λ see. none_on_err _ _ _ c.from_residual.ensures.1

pub map_part-returns-in_err-mapping-in-Indirect-clause-run : goal.map_part-returns-in_err-mapping-in-Indirect-clause-run
map_part-returns-in_err-mapping-in-Indirect-clause-run g t c = none_on_err _ _ _ c.from_residual-in_err-mapping-in-Indirect.ensures.1

pub map_part-returns-in_err-mapping-in-Indirect-clause-names : goal.map_part-returns-in_err-mapping-in-Indirect-clause-names
map_part-returns-in_err-mapping-in-Indirect-clause-names g t c = λ few see. none_on_err _ _ _
    c.from_residual-in_err-mapping-in-Indirect.ensures.1

pub map_part-returns-in_err-mapping-in-Indirect-clause-deep : goal.map_part-returns-in_err-mapping-in-Indirect-clause-deep
map_part-returns-in_err-mapping-in-Indirect-clause-deep g t c = λ few. none_on_err _ _ _
    c.from_residual-in_err-mapping-in-Indirect.ensures.1

pub map_part-returns-in_err-mapping-in-Indirect-clause-storage_exists :
    goal.map_part-returns-in_err-mapping-in-Indirect-clause-storage_exists
map_part-returns-in_err-mapping-in-Indirect-clause-storage_exists g t c = λ few. none_on_err _ _ _
    c.from_residual-in_err-mapping-in-Indirect.ensures.1

pub map_part-returns-in_err-mapping-in-Indirect-clause-writable_location :
    goal.map_part-returns-in_err-mapping-in-Indirect-clause-writable_location
map_part-returns-in_err-mapping-in-Indirect-clause-writable_location g t c = λ see. none_on_err _ _ _
    c.from_residual-in_err-mapping-in-Indirect.ensures.1

pub map_part-returns-in_err-mapping-in-Indirect-clause-writable : goal.map_part-returns-in_err-mapping-in-Indirect-clause-writable
map_part-returns-in_err-mapping-in-Indirect-clause-writable g t c = λ few see. none_on_err _ _ _
    c.from_residual-in_err-mapping-in-Indirect.ensures.1

pub map_part-returns-in_err-mapping-in-Indirect-clause-explicit_zero : goal.map_part-returns-in_err-mapping-in-Indirect-clause-explicit_zero
map_part-returns-in_err-mapping-in-Indirect-clause-explicit_zero g t c = λ see. none_on_err _ _ _
    c.from_residual-in_err-mapping-in-Indirect.ensures.1

pub map_below-returns-else-is_eof-clause-names : goal.map_below-returns-else-is_eof-clause-names
map_below-returns-else-is_eof-clause-names g t c = let d = g.D.DriverModel in subst
    (λ b. WhereAllSee d (layers b) (DeepNames (map d.layer (layers b)) (at (map d.layer (layers b)))
    (stored_at d (chain c.get_mapping.new.self)) c.args.offset c.in_ok-mapping-in-Some.length c.in_ok-mapping-in-Some.mapping))
    (sym c.in-Some.is) (subst (λ a. WhereAllSee d (chain a)
    (DeepNames (map d.layer (chain a)) (at (map d.layer (chain a))) (stored_at d (chain c.get_mapping.new.self)) c.args.offset
    c.in_ok-mapping-in-Some.length c.in_ok-mapping-in-Some.mapping)) c.deref_mut.ensures.value c.in_ok-mapping-in-Some.ensures.names)

pub map_below-returns-else-is_eof-clause-deep : goal.map_below-returns-else-is_eof-clause-deep
map_below-returns-else-is_eof-clause-deep g t c = let d = g.D.DriverModel in subst
    (λ b. length (layers b) < 2 ^ 64 → IsDeepBelow (length (layers b)) c.in_ok-mapping-in-Some.mapping) (sym c.in-Some.is)
    (subst (λ a. length (chain a) < 2 ^ 64 → IsDeepBelow (length (chain a)) c.in_ok-mapping-in-Some.mapping) c.deref_mut.ensures.value
    c.in_ok-mapping-in-Some.ensures.deep)

pub map_below-returns-else-is_eof-clause-storage_exists : goal.map_below-returns-else-is_eof-clause-storage_exists
map_below-returns-else-is_eof-clause-storage_exists g t c = let d = g.D.DriverModel in subst
    (λ b. length (layers b) < 2 ^ 64 → IsThere d (layers b) c.in_ok-mapping-in-Some.mapping) (sym c.in-Some.is)
    (subst (λ a. length (chain a) < 2 ^ 64 → IsThere d (chain a) c.in_ok-mapping-in-Some.mapping) c.deref_mut.ensures.value
    c.in_ok-mapping-in-Some.ensures.storage_exists)

pub map_below-returns-else-is_eof-clause-writable : goal.map_below-returns-else-is_eof-clause-writable
map_below-returns-else-is_eof-clause-writable g t c = let d = g.D.DriverModel in subst
    (λ b. WhereAllSee d (layers b) (DeepNamesWritable (map d.layer (layers b)) c.args.offset c.args.max_length
    c.in_ok-mapping-in-Some.mapping)) (sym c.in-Some.is)
    (subst (λ a. WhereAllSee d (chain a) (DeepNamesWritable (map d.layer (chain a)) c.args.offset c.args.max_length
    c.in_ok-mapping-in-Some.mapping)) c.deref_mut.ensures.value c.in_ok-mapping-in-Some.ensures.writable)

pub map_below-returns-else-is_eof-clause-lookup_call : goal.map_below-returns-else-is_eof-clause-lookup_call
map_below-returns-else-is_eof-clause-lookup_call g t c = let d = g.D.DriverModel in subst
    (λ b. Pairs (LookupCall d ⊤) (layers b) (chain c.get_mapping.new.self)) (sym c.in-Some.is)
    (subst (λ a. Pairs (LookupCall d ⊤) (chain a) (chain c.get_mapping.new.self)) c.deref_mut.ensures.value
    c.in_ok-mapping-in-Some.ensures.lookup_call)

pub map_below-returns-then-is_eof-clause-lookup_call : goal.map_below-returns-then-is_eof-clause-lookup_call
map_below-returns-then-is_eof-clause-lookup_call g t c = let d = g.D.DriverModel in subst
    (λ b. Pairs (LookupCall d ⊤) (layers b) (chain c.get_mapping.new.self)) (sym c.in-Some.is)
    (subst (λ a. Pairs (LookupCall d ⊤) (chain a) (chain c.get_mapping.new.self)) c.deref_mut.ensures.value
    c.in_ok-mapping-in-Some.ensures.lookup_call)

pub map_below-returns-in_err-mapping-in-Some-clause-lookup_call : goal.map_below-returns-in_err-mapping-in-Some-clause-lookup_call
map_below-returns-in_err-mapping-in-Some-clause-lookup_call g t c = let d = g.D.DriverModel in subst
    (λ r. Pairs (LookupCall d (HadNoResourceError r)) (layers c.args.below.now) (chain c.get_mapping.new.self))
    (sym (handed_on _ _ c.from_residual.ensures.1))
    (subst (λ b. Pairs (LookupCall d (IsNotResourceError c.in_err-mapping-in-Some.field-0.0)) (layers b) (chain c.get_mapping.new.self))
    (sym c.in-Some.is) (subst (λ a. Pairs (LookupCall d (IsNotResourceError c.in_err-mapping-in-Some.field-0.0)) (chain a)
    (chain c.get_mapping.new.self)) c.deref_mut.ensures.value c.in_err-mapping-in-Some.ensures.lookup_call))

pub map_below-returns-in_err-mapping-in-Some-clause-failed : goal.map_below-returns-in_err-mapping-in-Some-clause-failed
map_below-returns-in_err-mapping-in-Some-clause-failed g t c = let d = g.D.DriverModel in told_on_err _ _ _ c.from_residual.ensures.1
    (subst (λ b. ImageCause (files_of d (layers b)) (files_of d (chain c.get_mapping.new.self)) c.in_err-mapping-in-Some.field-0.0)
    (sym c.in-Some.is) (subst (λ a. ImageCause (files_of d (chain a)) (files_of d (chain c.get_mapping.new.self))
    c.in_err-mapping-in-Some.field-0.0) c.deref_mut.ensures.value c.in_err-mapping-in-Some.ensures.failed))

pub map_below-returns-in_err-mapping-in-Some-clause-marks_failed : goal.map_below-returns-in_err-mapping-in-Some-clause-marks_failed
map_below-returns-in_err-mapping-in-Some-clause-marks_failed g t c = let d = g.D.DriverModel in told_on_err _ _ _
    c.from_residual.ensures.1 (subst (λ b. MarksSomeFailed d (layers b) (chain c.get_mapping.new.self) c.in_err-mapping-in-Some.field-0.0)
    (sym c.in-Some.is) (subst (λ a. MarksSomeFailed d (chain a) (chain c.get_mapping.new.self) c.in_err-mapping-in-Some.field-0.0)
    c.deref_mut.ensures.value c.in_err-mapping-in-Some.ensures.marks_failed))

pub map_below-returns-in_err-mapping-in-Some-clause-cause : goal.map_below-returns-in_err-mapping-in-Some-clause-cause
map_below-returns-in_err-mapping-in-Some-clause-cause g t c = λ see. let d = g.D.DriverModel in told_on_err _ _ _
    c.from_residual.ensures.1 (subst (λ b. Each d.coherent (layers b) → DeepLookCause (map d.layer (layers b))
    (at (map d.layer (layers b))) c.args.offset c.args.max_length (files_of d (layers b)) (files_of d (chain c.get_mapping.new.self))
    c.in_err-mapping-in-Some.field-0.0) (sym c.in-Some.is)
    (subst (λ a. Each d.coherent (chain a) → DeepLookCause (map d.layer (chain a)) (at (map d.layer (chain a))) c.args.offset
    c.args.max_length (files_of d (chain a)) (files_of d (chain c.get_mapping.new.self)) c.in_err-mapping-in-Some.field-0.0)
    c.deref_mut.ensures.value c.in_err-mapping-in-Some.ensures.cause) see)

pub map_part-returns-in_err-mapping-clause-idle : goal.map_part-returns-in_err-mapping-clause-idle
map_part-returns-in_err-mapping-clause-idle g t c = λ none fits. let is = c.in_err-mapping.ensures.early_outcome.idle none fits in absurd
    (cc is)

pub map_part-returns-in_err-mapping-clause-unusable : goal.map_part-returns-in_err-mapping-clause-unusable
map_part-returns-in_err-mapping-clause-unusable g t c = λ f barred. handed_on _ _ c.from_residual.ensures.1 ∙ ap Err
    (let is = c.in_err-mapping.ensures.early_outcome.refused f barred in cc is)

pub map_part-returns-in_err-mapping-clause-unchanged : goal.map_part-returns-in_err-mapping-clause-unchanged
map_part-returns-in_err-mapping-clause-unchanged g t c = λ why. (c.in_err-mapping.ensures.early_outcome.unchanged why, refl)

pub map_part-returns-then-length-eq0-clause-unusable : goal.map_part-returns-then-length-eq0-clause-unusable
map_part-returns-then-length-eq0-clause-unusable g t c = λ f barred. let is = c.in_ok-mapping.ensures.early_outcome.refused f barred in
    absurd (cc is)

pub map_part-returns-then-length-eq0-clause-unchanged : goal.map_part-returns-then-length-eq0-clause-unchanged
map_part-returns-then-length-eq0-clause-unchanged g t c = λ why. (c.in_ok-mapping.ensures.early_outcome.unchanged why, refl)

pub map_part-returns-then-length-eq0-clause-writable_location : goal.map_part-returns-then-length-eq0-clause-writable_location
map_part-returns-then-length-eq0-clause-writable_location g t c = λ see free some storage place at. let is
    = (c.in_ok-mapping.ensures.looks see).writable_location free some storage place at in absurd (cc (is, c.in-Indirect.is))

pub map_part-returns-then-length-eq0-clause-explicit_zero : goal.map_part-returns-then-length-eq0-clause-explicit_zero
map_part-returns-then-length-eq0-clause-explicit_zero g t c = λ see i lt. absurd (omega (arith, lt))

pub map_part-returns-in-Raw-clause-unusable : goal.map_part-returns-in-Raw-clause-unusable
map_part-returns-in-Raw-clause-unusable g t c = λ f barred. let is = c.in_ok-mapping.ensures.early_outcome.refused f barred in absurd
    (cc is)

pub map_part-returns-in-Raw-clause-unchanged : goal.map_part-returns-in-Raw-clause-unchanged
map_part-returns-in-Raw-clause-unchanged g t c = λ why. (c.in_ok-mapping.ensures.early_outcome.unchanged why, refl)

pub map_part-returns-in-Raw-clause-explicit_zero : goal.map_part-returns-in-Raw-clause-explicit_zero
map_part-returns-in-Raw-clause-explicit_zero g t c = λ see. subst
    (λ (m : ShallowMapping). ReportsExplicitZero (g.D.DriverModel.explicit_zero c.args.driver.now) c.args.offset
    (m, c.in_ok-mapping.length)) c.in-Raw.is (c.in_ok-mapping.ensures.explicit_zero see)

pub map_part-returns-in-Raw-clause-names : goal.map_part-returns-in-Raw-clause-names
map_part-returns-in-Raw-clause-names g t c = λ few see. let d = g.D.DriverModel in let layer = d.layer c.args.driver.now in
    let run = subst (λ (m : ShallowMapping). IsRun layer c.args.offset c.args.max_length m c.in_ok-mapping.length) c.in-Raw.is
    c.in_ok-mapping.ensures.run in
    names_raw d c.get_mapping.new.self (layers c.args.below.now) layer (map d.layer (layers c.args.below.now)) c.args.offset
    c.in_ok-mapping.length run.2 c.in-Raw.storage c.in-Raw.place c.in-Raw.writable
    (subst (Names layer (byte_in (files d c.get_mapping.new.self)) c.args.offset c.in_ok-mapping.length) c.in-Raw.is
    (c.in_ok-mapping.ensures.looks see.0).names)

pub map_part-returns-in-Raw-clause-run : goal.map_part-returns-in-Raw-clause-run
map_part-returns-in-Raw-clause-run g t c = subst
    (λ (m : ShallowMapping). IsRun (g.D.DriverModel.layer c.args.driver.now) c.args.offset c.args.max_length m c.in_ok-mapping.length)
    c.in-Raw.is c.in_ok-mapping.ensures.run

pub map_part-returns-in-Zero-clause-unusable : goal.map_part-returns-in-Zero-clause-unusable
map_part-returns-in-Zero-clause-unusable g t c = λ f barred. let is = c.in_ok-mapping.ensures.early_outcome.refused f barred in absurd
    (cc is)

pub map_part-returns-in-Zero-clause-unchanged : goal.map_part-returns-in-Zero-clause-unchanged
map_part-returns-in-Zero-clause-unchanged g t c = λ why. (c.in_ok-mapping.ensures.early_outcome.unchanged why, refl)

pub map_part-returns-in-Zero-clause-writable_location : goal.map_part-returns-in-Zero-clause-writable_location
map_part-returns-in-Zero-clause-writable_location g t c = λ see free some storage place at. let is
    = (c.in_ok-mapping.ensures.looks see).writable_location free some storage place at in absurd (cc (is, c.in-Zero.is))

pub map_part-returns-in-Zero-clause-explicit_zero : goal.map_part-returns-in-Zero-clause-explicit_zero
map_part-returns-in-Zero-clause-explicit_zero g t c = λ see. subst
    (λ (m : ShallowMapping). ReportsExplicitZero (g.D.DriverModel.explicit_zero c.args.driver.now) c.args.offset
    (m, c.in_ok-mapping.length)) c.in-Zero.is (c.in_ok-mapping.ensures.explicit_zero see)

pub map_part-returns-in-Zero-clause-names : goal.map_part-returns-in-Zero-clause-names
map_part-returns-in-Zero-clause-names g t c = λ few see. let d = g.D.DriverModel in let layer = d.layer c.args.driver.now in
    let run = subst (λ (m : ShallowMapping). IsRun layer c.args.offset c.args.max_length m c.in_ok-mapping.length) c.in-Zero.is
    c.in_ok-mapping.ensures.run in
    names_zero d c.get_mapping.new.self (layers c.args.below.now) layer (map d.layer (layers c.args.below.now)) c.args.offset
    c.in_ok-mapping.length run.2 c.in-Zero.explicit
    (subst (Names layer (byte_in (files d c.get_mapping.new.self)) c.args.offset c.in_ok-mapping.length) c.in-Zero.is
    (c.in_ok-mapping.ensures.looks see.0).names)

pub map_part-returns-in-Zero-clause-run : goal.map_part-returns-in-Zero-clause-run
map_part-returns-in-Zero-clause-run g t c = subst
    (λ (m : ShallowMapping). IsRun (g.D.DriverModel.layer c.args.driver.now) c.args.offset c.args.max_length m c.in_ok-mapping.length)
    c.in-Zero.is c.in_ok-mapping.ensures.run

pub map_part-returns-in-Special-clause-unusable : goal.map_part-returns-in-Special-clause-unusable
map_part-returns-in-Special-clause-unusable g t c = λ f barred. let is = c.in_ok-mapping.ensures.early_outcome.refused f barred in absurd
    (cc is)

pub map_part-returns-in-Special-clause-unchanged : goal.map_part-returns-in-Special-clause-unchanged
map_part-returns-in-Special-clause-unchanged g t c = λ why. (c.in_ok-mapping.ensures.early_outcome.unchanged why, refl)

pub map_part-returns-in-Special-clause-writable_location : goal.map_part-returns-in-Special-clause-writable_location
map_part-returns-in-Special-clause-writable_location g t c = λ see free some storage place at. let is
    = (c.in_ok-mapping.ensures.looks see).writable_location free some storage place at in absurd (cc (is, c.in-Special.is))

pub map_part-returns-in-Special-clause-explicit_zero : goal.map_part-returns-in-Special-clause-explicit_zero
map_part-returns-in-Special-clause-explicit_zero g t c = λ see. subst
    (λ (m : ShallowMapping). ReportsExplicitZero (g.D.DriverModel.explicit_zero c.args.driver.now) c.args.offset
    (m, c.in_ok-mapping.length)) c.in-Special.is (c.in_ok-mapping.ensures.explicit_zero see)

pub map_part-returns-in-Special-clause-names : goal.map_part-returns-in-Special-clause-names
map_part-returns-in-Special-clause-names g t c = λ few see. let d = g.D.DriverModel in let layer = d.layer c.args.driver.now in
    let run = subst (λ (m : ShallowMapping). IsRun layer c.args.offset c.args.max_length m c.in_ok-mapping.length) c.in-Special.is
    c.in_ok-mapping.ensures.run in
    names_special d c.get_mapping.new.self (layers c.args.below.now) layer (map d.layer (layers c.args.below.now)) c.args.offset
    c.in_ok-mapping.length run.2 c.in-Special.place
    (subst (Names layer (byte_in (files d c.get_mapping.new.self)) c.args.offset c.in_ok-mapping.length) c.in-Special.is
    (c.in_ok-mapping.ensures.looks see.0).names)

pub map_part-returns-in-Special-clause-run : goal.map_part-returns-in-Special-clause-run
map_part-returns-in-Special-clause-run g t c = subst
    (λ (m : ShallowMapping). IsRun (g.D.DriverModel.layer c.args.driver.now) c.args.offset c.args.max_length m c.in_ok-mapping.length)
    c.in-Special.is c.in_ok-mapping.ensures.run

pub map_part-returns-in-Eof-clause-unusable : goal.map_part-returns-in-Eof-clause-unusable
map_part-returns-in-Eof-clause-unusable g t c = λ f barred. let is = c.in_ok-mapping.ensures.early_outcome.refused f barred in absurd
    (cc is)

pub map_part-returns-in-Eof-clause-unchanged : goal.map_part-returns-in-Eof-clause-unchanged
map_part-returns-in-Eof-clause-unchanged g t c = λ why. (c.in_ok-mapping.ensures.early_outcome.unchanged why, refl)

pub map_part-returns-in-Eof-clause-writable_location : goal.map_part-returns-in-Eof-clause-writable_location
map_part-returns-in-Eof-clause-writable_location g t c = λ see free some storage place at. let is
    = (c.in_ok-mapping.ensures.looks see).writable_location free some storage place at in absurd (cc (is, c.in-Eof.is))

pub map_part-returns-in-Eof-clause-explicit_zero : goal.map_part-returns-in-Eof-clause-explicit_zero
map_part-returns-in-Eof-clause-explicit_zero g t c = λ see. subst
    (λ (m : ShallowMapping). ReportsExplicitZero (g.D.DriverModel.explicit_zero c.args.driver.now) c.args.offset
    (m, c.in_ok-mapping.length)) c.in-Eof.is (c.in_ok-mapping.ensures.explicit_zero see)

pub map_part-returns-then-length-eq0-clause-names : goal.map_part-returns-then-length-eq0-clause-names
map_part-returns-then-length-eq0-clause-names g t c = λ few
    see. (λ i lt. absurd (omega (arith, lt)), λ is. absurd (cc is), λ none. inl (λ i lt. absurd (omega (arith, lt))))
