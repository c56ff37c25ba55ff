use Rattle.std.proofs.Common.{rules, refl, arith, inr, subst, ◌∙◌, ◌∷◌, List, length, map, sym}
use Rattle.std.proofs.lemmas.Grind.{common_steps}
use Rattle.std.specs.Prelude.{⊤, IfErr, OnOk}
use Rattle.imago_storage.specs.Disk.{Shows}
use Rattle.imago_storage.specs.Through.{Overflows}
use Rattle.imago_access.specs.Chain.{at, Each, unit_of_chain}
use Rattle.imago_access.specs.Layers.{chain, layers}
use Rattle.imago_access.specs.Files.{ImageCause, IsNotResourceError, files_of, files, byte_in, Pairs, HadNoResourceError}
use Rattle.imago_access.specs.Going.{LookupCall, MarksSomeFailed}
use Rattle.imago_access.specs.ChainCalls.{ChainFails}
use Rattle.imago_access.specs.ChainLooks.{ReadRefused, ReadsRun}
use Rattle.imago_access.proofs.Answers.{handed_on}
use Rattle.imago_access.proofs.OnErrors.{none_on_err, nothing_on_err}
use Rattle.imago_access.proofs.Looking.{chain_later, looked_both, looked_weaker, all_looked_same, all_looked_both}
use Rattle.imago_access.proofs.Reading.{ends_below, pairs_length, rest_calm, rest_cause, run_shown, longer_overflows, named_calm}
use Rattle.imago_access.proofs.ReadCauses.{look_cause, read_cause_below, read_mapped_cause, indirect_free, indirect_inside, raw_reach, barred_there}
use Rattle.imago_access.proofs.Units.{unit_aligned, layer_aligned, calm_below, calm_top}
use Rattle.imago_access.proofs.ImageCauses.{failed_after, failed_left, failed_right, read_mapped_failed}
use Rattle.imago_access.proofs.Marking.{marked_top, marked_behind}
use Rattle.imago_access.proofs.access.FormatAccess.+read.Goals as goal

pub read_all-loop-done-init : goal.read_all-loop-done-init
read_all-loop-done-init g t c = let d = g.D.DriverModel in record {
  inside = omega arith;
  long = refl;
  deep = refl;
  shown = λ see i lt. absurd (omega (arith, lt));
  lookup_call = all_looked_same d ⊤ (chain c.args.self.now);
}

pub read_all-overflow_add-offset : goal.read_all-overflow_add-offset
read_all-overflow_add-offset g t c = let d = g.D.DriverModel in let end = ends_below (unit_of_chain (map d.layer (chain c.args.self.now))) c.args.offset (length c.args.buf.now) (unit_aligned d.layer g.met.D.FormatDriverInstance.aligned (chain c.args.self.now)).positive (omega (arith, c.loop-done-test.true, c.loop-done.auto.buf)) c.requires.fits in
    omega (arith, end, c.loop-done-test.true, c.loop-done.auto.buf)

pub read_all-read_run-requires : goal.read_all-read_run-requires
read_all-read_run-requires g t c κs within = let d = g.D.DriverModel in let no_change_refused = rest_calm d g.met.D.FormatDriverInstance.aligned (chain c.args.self.now) (chain c.loop-done.self) c.args.offset (length c.args.buf.now) c.loop-done.done c.loop-done.invariant.lookup_call (omega (arith, c.loop-done-test.true, c.loop-done.auto.buf)) c.requires.fits in
    search (rules)

pub read_all-loop-done-preserved : goal.read_all-loop-done-preserved
read_all-loop-done-preserved g t c = let d = g.D.DriverModel in let l = c.loop-done.invariant in
    let after = c.in_ok-done.ensures.lookup_call in
    let run = c.in_ok-done.ensures.run in
    record {
      inside = grind (arith, common_steps);
      long = grind (arith, common_steps);
      deep = pairs_length (LookupCall d ⊤) c.loop-done.self.1 c.read_run.new.self.1 after.1 ∙ l.deep;
      shown = λ see. run_shown d g.met.D.FormatDriverInstance.aligned (chain c.args.self.now) (chain c.loop-done.self) c.args.offset c.loop-done.done c.in_ok-done.field-0 _ c.read_run.new.buf l.lookup_call see c.in_ok-done.ensures.shown (λ i lt. grind (arith, common_steps)) (λ i lt. l.shown see i lt ∙ grind (arith, common_steps));
      lookup_call = all_looked_both d g.met.D.FormatDriverInstance.well_formed_is_coherent ⊤ (chain c.args.self.now) (chain c.loop-done.self) (chain c.read_run.new.self) l.lookup_call after;
    }

pub read_all-returns-in_err-done-clause-lookup_call : goal.read_all-returns-in_err-done-clause-lookup_call
read_all-returns-in_err-done-clause-lookup_call g t c = let d = g.D.DriverModel in
    subst (λ r. Pairs (LookupCall d (HadNoResourceError r)) (chain c.args.self.now) (chain c.read_run.new.self)) (sym (handed_on _ _ c.from_residual.ensures.1))
    (all_looked_both d g.met.D.FormatDriverInstance.well_formed_is_coherent (IsNotResourceError c.in_err-done.field-0.0) (chain c.args.self.now) (chain c.loop-done.self) (chain c.read_run.new.self) c.loop-done.invariant.lookup_call c.in_err-done.ensures.lookup_call)

pub read_all-returns-in_err-done-clause-failed : goal.read_all-returns-in_err-done-clause-failed
read_all-returns-in_err-done-clause-failed g t c = rw (handed_on _ _ c.from_residual.ensures.1) (let d = g.D.DriverModel in
    let others = λ (ds : List g.row.D.Denot). files_of d ds in
    failed_after (others (chain c.args.self.now)) (others (chain c.loop-done.self)) (others (chain c.read_run.new.self)) c.in_err-done.field-0.0 (chain_later d ⊤ (chain c.args.self.now) (chain c.loop-done.self) c.loop-done.invariant.lookup_call) c.in_err-done.ensures.failed)

pub read_all-returns-in_err-done-clause-marks_failed : goal.read_all-returns-in_err-done-clause-marks_failed
read_all-returns-in_err-done-clause-marks_failed g t c = rw (handed_on _ _ c.from_residual.ensures.1) (λ is. let d = g.D.DriverModel in
    marked_behind d ⊤ (chain c.args.self.now) (chain c.loop-done.self) (chain c.read_run.new.self) c.loop-done.invariant.lookup_call (c.in_err-done.ensures.marks_failed is))

pub read_all-returns-in_err-done-clause-cause : goal.read_all-returns-in_err-done-clause-cause
read_all-returns-in_err-done-clause-cause g t c = rw (handed_on _ _ c.from_residual.ensures.1) (λ see. let d = g.D.DriverModel in rest_cause d g.met.D.FormatDriverInstance.aligned (chain c.args.self.now) (chain c.loop-done.self) (chain c.read_run.new.self) c.args.offset (length c.args.buf.now) c.loop-done.done c.in_err-done.field-0.0 c.loop-done.invariant.lookup_call see (omega (arith, c.loop-done-test.true, c.loop-done.auto.buf)) (λ now. grind (arith, common_steps)))

pub read_all-returns-clause-lookup_call : goal.read_all-returns-clause-lookup_call
read_all-returns-clause-lookup_call g t c = let d = g.D.DriverModel in c.loop-done.invariant.lookup_call

pub read_part-returns-in_err-mapping-clause-lookup_call : goal.read_part-returns-in_err-mapping-clause-lookup_call
read_part-returns-in_err-mapping-clause-lookup_call g t c = let d = g.D.DriverModel in let ds = layers c.args.below.now in
    subst (λ r. Pairs (LookupCall d (HadNoResourceError r)) (c.args.driver.now ∷ ds) (c.get_mapping.new.self ∷ ds)) (sym (handed_on _ _ c.from_residual.ensures.1))
    (c.in_err-mapping.ensures.lookup_call, all_looked_same d (IsNotResourceError c.in_err-mapping.field-0.0) ds)

pub read_part-returns-in_err-mapping-clause-failed : goal.read_part-returns-in_err-mapping-clause-failed
read_part-returns-in_err-mapping-clause-failed g t c = rw (handed_on _ _ c.from_residual.ensures.1) (let d = g.D.DriverModel in
    let a0 = c.args.driver.now in let a1 = c.get_mapping.new.self in let others = files_of d (layers c.args.below.now) in
    failed_left (files d a0) (files d a1) others others c.in_err-mapping.field-0.0 c.in_err-mapping.ensures.failed)

pub read_part-returns-in_err-mapping-clause-marks_failed : goal.read_part-returns-in_err-mapping-clause-marks_failed
read_part-returns-in_err-mapping-clause-marks_failed g t c = rw (handed_on _ _ c.from_residual.ensures.1) (let d = g.D.DriverModel in
    let a0 = c.args.driver.now in let a1 = c.get_mapping.new.self in let ds = layers c.args.below.now in
    marked_top d a0 a1 ds ds c.in_err-mapping.field-0.0 (λ is. subst (ImageCause (files d a0) (files d a1)) is c.in_err-mapping.ensures.failed) c.in_err-mapping.ensures.marks_failed)

pub read_part-returns-in_err-mapping-clause-cause : goal.read_part-returns-in_err-mapping-clause-cause
read_part-returns-in_err-mapping-clause-cause g t c = rw (handed_on _ _ c.from_residual.ensures.1) (λ see. let d = g.D.DriverModel in look_cause (d.layer c.args.driver.now) (map d.layer (layers c.args.below.now)) (unit_of_chain (map d.layer (c.args.driver.now ∷ layers c.args.below.now))) c.args.offset (length c.args.buf.now) (files d c.args.driver.now) (files d c.get_mapping.new.self) (files_of d (layers c.args.below.now)) (files_of d (layers c.args.below.now)) c.in_err-mapping.field-0.0 (c.in_err-mapping.ensures.cause see.0))

pub read_part-returns-in_err-read_mapped-in-Raw-clause-lookup_call : goal.read_part-returns-in_err-read_mapped-in-Raw-clause-lookup_call
read_part-returns-in_err-read_mapped-in-Raw-clause-lookup_call g t c = let d = g.D.DriverModel in let ds = layers c.args.below.now in
    subst (λ r. Pairs (LookupCall d (HadNoResourceError r)) (c.args.driver.now ∷ ds) (c.read_mapped.new.self ∷ ds)) (sym (handed_on _ _ c.from_residual-in_err-read_mapped-in-Raw.ensures.1))
    (looked_both d g.met.D.FormatDriverInstance.well_formed_is_coherent (IsNotResourceError c.in_err-read_mapped-in-Raw.field-0.0) c.args.driver.now c.get_mapping.new.self c.read_mapped.new.self c.in_ok-mapping.ensures.lookup_call c.in_err-read_mapped-in-Raw.ensures.lookup_call, all_looked_same d (IsNotResourceError c.in_err-read_mapped-in-Raw.field-0.0) ds)

pub read_part-returns-in_err-read_mapped-in-Raw-clause-failed : goal.read_part-returns-in_err-read_mapped-in-Raw-clause-failed
read_part-returns-in_err-read_mapped-in-Raw-clause-failed g t c = rw (handed_on _ _ c.from_residual-in_err-read_mapped-in-Raw.ensures.1) (let d = g.D.DriverModel in
    let olds = files d c.args.driver.now in
    let mids = files d c.get_mapping.new.self in
    let news = files d c.read_mapped.new.self in
    let others = files_of d (layers c.args.below.now) in
    failed_left olds news others others c.in_err-read_mapped-in-Raw.field-0.0 (failed_after olds mids news c.in_err-read_mapped-in-Raw.field-0.0 c.in_ok-mapping.ensures.lookup_call.counts_not_fallen (read_mapped_failed (d.layer c.get_mapping.new.self) c.in-Raw.place _ mids news c.in_err-read_mapped-in-Raw.field-0.0 c.in_err-read_mapped-in-Raw.ensures.cause)))

pub read_part-returns-in_err-read_mapped-in-Raw-clause-marks_failed : goal.read_part-returns-in_err-read_mapped-in-Raw-clause-marks_failed
read_part-returns-in_err-read_mapped-in-Raw-clause-marks_failed g t c = rw (handed_on _ _ c.from_residual-in_err-read_mapped-in-Raw.ensures.1) (λ is. let d = g.D.DriverModel in
    let a0 = c.args.driver.now in let a1 = c.get_mapping.new.self in let a2 = c.read_mapped.new.self in let ds = layers c.args.below.now in
    let fault = c.in_err-read_mapped-in-Raw.field-0.0 in
    marked_behind d ⊤ (a0 ∷ ds) (a1 ∷ ds) (a2 ∷ ds) (c.in_ok-mapping.ensures.lookup_call, all_looked_same d ⊤ ds)
    (marked_top d a1 a2 ds ds fault (λ same. subst (ImageCause (files d a1) (files d a2)) same (read_mapped_failed (d.layer a1) c.in-Raw.place _ (files d a1) (files d a2) fault c.in_err-read_mapped-in-Raw.ensures.cause)) c.in_err-read_mapped-in-Raw.ensures.marks_failed is))

pub read_part-returns-in_err-read_mapped-in-Raw-clause-cause : goal.read_part-returns-in_err-read_mapped-in-Raw-clause-cause
read_part-returns-in_err-read_mapped-in-Raw-clause-cause g t c = rw (handed_on _ _ c.from_residual-in_err-read_mapped-in-Raw.ensures.1) (λ see. let d = g.D.DriverModel in let looks = c.in_ok-mapping.ensures.looks see.0 in
    let stays = c.in_ok-mapping.ensures.lookup_call.stays tt see.0 in
    let top = calm_top d.layer g.met.D.FormatDriverInstance.aligned c.args.driver.now (layers c.args.below.now) c.args.offset (length c.args.buf.now) c.requires.fits in
    read_mapped_cause (d.layer c.args.driver.now) (d.layer c.get_mapping.new.self) (map d.layer (layers c.args.below.now)) (at (map d.layer (c.args.driver.now ∷ layers c.args.below.now))) (unit_of_chain (map d.layer (c.args.driver.now ∷ layers c.args.below.now))) c.args.offset (length c.args.buf.now) c.in-Raw.place c.in_ok-mapping.length
    (files d c.args.driver.now) (files d c.get_mapping.new.self) (files d c.read_mapped.new.self) (files_of d (layers c.args.below.now)) (files_of d (layers c.args.below.now)) c.in_err-read_mapped-in-Raw.field-0.0 (grind (arith, common_steps)) stays.0 (named_calm (d.layer c.args.driver.now) (d.layer c.get_mapping.new.self) c.args.offset (length c.args.buf.now) c.in-Raw.place c.in_ok-mapping.length stays.0 (layer_aligned d.layer g.met.D.FormatDriverInstance.aligned c.args.driver.now).positive (grind (arith, common_steps)) (raw_reach (d.layer c.args.driver.now) (byte_in (files d c.get_mapping.new.self)) c.args.offset (length c.args.buf.now) c.in_ok-mapping.mapping c.in_ok-mapping.length looks c.in-Raw.storage c.in-Raw.place c.in-Raw.writable c.in-Raw.is) top) c.in_ok-mapping.ensures.lookup_call.counts_not_fallen)

pub read_part-read_below-requires : goal.read_part-read_below-requires
read_part-read_below-requires g t c κs within = let d = g.D.DriverModel in let n = c.in_ok-mapping.length in
    let no_change_refused : Overflows (unit_of_chain (map d.layer (layers c.args.below.now))) c.args.offset n → ⊥ = λ h. calm_below d.layer g.met.D.FormatDriverInstance.aligned c.args.driver.now (layers c.args.below.now) c.args.offset (length c.args.buf.now) c.requires.fits (longer_overflows (unit_of_chain (map d.layer (layers c.args.below.now))) c.args.offset n (length c.args.buf.now) (unit_aligned d.layer g.met.D.FormatDriverInstance.aligned (layers c.args.below.now)).positive (grind (arith, common_steps)) h) in
    search (rules)

pub read_part-returns-in_err-read_below-in-Indirect-clause-failed : goal.read_part-returns-in_err-read_below-in-Indirect-clause-failed
read_part-returns-in_err-read_below-in-Indirect-clause-failed g t c = rw (handed_on _ _ c.from_residual-in_err-read_below-in-Indirect.ensures.1) (let d = g.D.DriverModel in
    let a0 = c.args.driver.now in let a1 = c.get_mapping.new.self in
    failed_right (files d a0) (files d a1) (files_of d (layers c.args.below.now)) (files_of d (layers c.read_below.new.below)) c.in_err-read_below-in-Indirect.field-0.0 c.in_ok-mapping.ensures.lookup_call.counts_not_fallen c.in_err-read_below-in-Indirect.ensures.failed)

pub read_part-returns-in_err-read_below-in-Indirect-clause-marks_failed : goal.read_part-returns-in_err-read_below-in-Indirect-clause-marks_failed
read_part-returns-in_err-read_below-in-Indirect-clause-marks_failed g t c = rw (handed_on _ _ c.from_residual-in_err-read_below-in-Indirect.ensures.1) (λ is. inr (c.in_err-read_below-in-Indirect.ensures.marks_failed is))

pub read_part-returns-in_err-read_below-in-Indirect-clause-cause : goal.read_part-returns-in_err-read_below-in-Indirect-clause-cause
read_part-returns-in_err-read_below-in-Indirect-clause-cause g t c = rw (handed_on _ _ c.from_residual-in_err-read_below-in-Indirect.ensures.1) (λ see. let d = g.D.DriverModel in let looks = c.in_ok-mapping.ensures.looks see.0 in
    let n = c.in_ok-mapping.length in
    read_cause_below (d.layer c.args.driver.now) (map d.layer (layers c.args.below.now)) (unit_of_chain (map d.layer (c.args.driver.now ∷ layers c.args.below.now))) (unit_of_chain (map d.layer (layers c.args.below.now))) c.args.offset n (length c.args.buf.now)
    (files d c.args.driver.now) (files d c.get_mapping.new.self) (files_of d (layers c.args.below.now)) (files_of d (layers c.read_below.new.below)) c.in_err-read_below-in-Indirect.field-0.0 (grind (arith, common_steps)) (λ h. calm_below d.layer g.met.D.FormatDriverInstance.aligned c.args.driver.now (layers c.args.below.now) c.args.offset (length c.args.buf.now) c.requires.fits (longer_overflows (unit_of_chain (map d.layer (layers c.args.below.now))) c.args.offset n (length c.args.buf.now) (unit_aligned d.layer g.met.D.FormatDriverInstance.aligned (layers c.args.below.now)).positive (grind (arith, common_steps)) h)) (indirect_free (d.layer c.args.driver.now) (byte_in (files d c.get_mapping.new.self)) c.args.offset (length c.args.buf.now) c.in_ok-mapping.mapping n looks c.in-Indirect.offset c.in-Indirect.writable c.in-Indirect.is) (indirect_inside (d.layer c.args.driver.now) (byte_in (files d c.get_mapping.new.self)) c.args.offset (length c.args.buf.now) c.in_ok-mapping.mapping n looks c.in-Indirect.offset c.in-Indirect.writable c.in-Indirect.is c.in_ok-mapping.ensures.run) (grind (arith, common_steps)) c.in_ok-mapping.ensures.lookup_call.counts_not_fallen)

pub read_part-returns-in_ok-read_mapped-in-Raw-clause-lookup_call : goal.read_part-returns-in_ok-read_mapped-in-Raw-clause-lookup_call
read_part-returns-in_ok-read_mapped-in-Raw-clause-lookup_call g t c = let d = g.D.DriverModel in (looked_both d g.met.D.FormatDriverInstance.well_formed_is_coherent ⊤ c.args.driver.now c.get_mapping.new.self c.read_mapped.new.self c.in_ok-mapping.ensures.lookup_call (search (rules)), all_looked_same d ⊤ (layers c.args.below.now))

pub read_part-returns-in-Zero-clause-lookup_call : goal.read_part-returns-in-Zero-clause-lookup_call
read_part-returns-in-Zero-clause-lookup_call g t c = let d = g.D.DriverModel in (c.in_ok-mapping.ensures.lookup_call, all_looked_same d ⊤ (layers c.args.below.now))

pub read_part-returns-in-Eof-clause-lookup_call : goal.read_part-returns-in-Eof-clause-lookup_call
read_part-returns-in-Eof-clause-lookup_call g t c = let d = g.D.DriverModel in (c.in_ok-mapping.ensures.lookup_call, all_looked_same d ⊤ (layers c.args.below.now))

pub read_part-returns-in-Special-clause-lookup_call : goal.read_part-returns-in-Special-clause-lookup_call
read_part-returns-in-Special-clause-lookup_call g t c = let d = g.D.DriverModel in (looked_weaker d ⊤ ⊤ c.args.driver.now c.get_mapping.new.self (λ x. tt) c.in_ok-mapping.ensures.lookup_call, all_looked_same d ⊤ (layers c.args.below.now))

pub read_part-returns-in-Special-clause-cause : goal.read_part-returns-in-Special-clause-cause
read_part-returns-in-Special-clause-cause g t c = λ see. let d = g.D.DriverModel in barred_there (d.layer c.args.driver.now) (byte_in (files d c.get_mapping.new.self)) c.args.offset (length c.args.buf.now) c.in_ok-mapping.mapping c.in_ok-mapping.length (c.in_ok-mapping.ensures.looks see.0) (map d.layer (layers c.args.below.now)) c.in-Special.offset c.requires.nonempty c.in-Special.is c.in_ok-mapping.ensures.run

pub read_run-returns-clause-shown : goal.read_run-returns-clause-shown
read_run-returns-clause-shown g t c = let d = g.D.DriverModel in subst
    (λ a. ReadsRun d c.args.offset c.read_part.result c.read_part.new.buf (chain a)) c.self.view_is c.read_part.ensures.shown

pub read_run-returns-clause-lookup_call : goal.read_run-returns-clause-lookup_call
read_run-returns-clause-lookup_call g t c = let d = g.D.DriverModel in subst
    (λ a. Pairs (LookupCall d (HadNoResourceError c.read_part.result)) (chain a) (c.read_part.new.driver ∷ layers c.read_part.new.below))
    c.self.view_is c.read_part.ensures.lookup_call

pub read_run-returns-clause-failed : goal.read_run-returns-clause-failed
read_run-returns-clause-failed g t c = let d = g.D.DriverModel in subst
    (λ a. IfErr c.read_part.result (ChainFails d a (c.read_part.new.driver, layers c.read_part.new.below))) c.self.view_is
    c.read_part.ensures.failed

pub read_run-returns-clause-marks_failed : goal.read_run-returns-clause-marks_failed
read_run-returns-clause-marks_failed g t c = let d = g.D.DriverModel in subst
    (λ a. IfErr c.read_part.result (MarksSomeFailed d (chain a) (c.read_part.new.driver ∷ layers c.read_part.new.below))) c.self.view_is
    c.read_part.ensures.marks_failed

pub read_run-returns-clause-cause : goal.read_run-returns-clause-cause
read_run-returns-clause-cause g t c = let d = g.D.DriverModel in subst
    (λ a. ReadRefused d c.args.offset (length c.args.buf.now) c.read_part.result (chain a)
    (c.read_part.new.driver ∷ layers c.read_part.new.below)) c.self.view_is c.read_part.ensures.cause

pub read_below-returns-in-Some-clause-shown : goal.read_below-returns-in-Some-clause-shown
read_below-returns-in-Some-clause-shown g t c = let d = g.D.DriverModel in subst
    (λ b. Each d.coherent (layers b) → OnOk c.read_all.result (Shows (at (map d.layer (layers b))) c.args.offset c.read_all.new.buf))
    (sym c.in-Some.is) (subst (λ a. Each d.coherent (chain a) → OnOk c.read_all.result
    (Shows (at (map d.layer (chain a))) c.args.offset c.read_all.new.buf)) c.deref_mut.ensures.value c.read_all.ensures.shown)

pub read_below-returns-in-Some-clause-lookup_call : goal.read_below-returns-in-Some-clause-lookup_call
read_below-returns-in-Some-clause-lookup_call g t c = let d = g.D.DriverModel in subst
    (λ b. Pairs (LookupCall d (HadNoResourceError c.read_all.result)) (layers b) (chain c.read_all.new.self)) (sym c.in-Some.is)
    (subst (λ a. Pairs (LookupCall d (HadNoResourceError c.read_all.result)) (chain a) (chain c.read_all.new.self))
    c.deref_mut.ensures.value c.read_all.ensures.lookup_call)

pub read_below-returns-in-Some-clause-failed : goal.read_below-returns-in-Some-clause-failed
read_below-returns-in-Some-clause-failed g t c = let d = g.D.DriverModel in subst
    (λ b. IfErr c.read_all.result (ImageCause (files_of d (layers b)) (files_of d (chain c.read_all.new.self)))) (sym c.in-Some.is)
    (subst (λ a. IfErr c.read_all.result (ImageCause (files_of d (chain a)) (files_of d (chain c.read_all.new.self))))
    c.deref_mut.ensures.value c.read_all.ensures.failed)

pub read_below-returns-in-Some-clause-marks_failed : goal.read_below-returns-in-Some-clause-marks_failed
read_below-returns-in-Some-clause-marks_failed g t c = let d = g.D.DriverModel in subst
    (λ b. IfErr c.read_all.result (MarksSomeFailed d (layers b) (chain c.read_all.new.self))) (sym c.in-Some.is)
    (subst (λ a. IfErr c.read_all.result (MarksSomeFailed d (chain a) (chain c.read_all.new.self))) c.deref_mut.ensures.value
    c.read_all.ensures.marks_failed)

pub read_below-returns-in-Some-clause-cause : goal.read_below-returns-in-Some-clause-cause
read_below-returns-in-Some-clause-cause g t c = let d = g.D.DriverModel in subst
    (λ b. ReadRefused d c.args.offset (length c.args.buf.now) c.read_all.result (layers b) (chain c.read_all.new.self)) (sym c.in-Some.is)
    (subst (λ a. ReadRefused d c.args.offset (length c.args.buf.now) c.read_all.result (chain a) (chain c.read_all.new.self))
    c.deref_mut.ensures.value c.read_all.ensures.cause)

pub read_part-returns-in_err-mapping-clause-run : goal.read_part-returns-in_err-mapping-clause-run
read_part-returns-in_err-mapping-clause-run g t c = none_on_err _ _ _ c.from_residual.ensures.1

pub read_part-returns-in_err-mapping-clause-shown : goal.read_part-returns-in_err-mapping-clause-shown
read_part-returns-in_err-mapping-clause-shown g t c = λ see. none_on_err _ _ _ c.from_residual.ensures.1

pub read_part-returns-in_err-read_mapped-in-Raw-clause-run : goal.read_part-returns-in_err-read_mapped-in-Raw-clause-run
read_part-returns-in_err-read_mapped-in-Raw-clause-run g t c = none_on_err _ _ _ c.from_residual-in_err-read_mapped-in-Raw.ensures.1

pub read_part-returns-in_err-read_mapped-in-Raw-clause-shown : goal.read_part-returns-in_err-read_mapped-in-Raw-clause-shown
read_part-returns-in_err-read_mapped-in-Raw-clause-shown g t c = λ see. none_on_err _ _ _
    c.from_residual-in_err-read_mapped-in-Raw.ensures.1

pub read_part-returns-in_err-read_below-in-Indirect-clause-run : goal.read_part-returns-in_err-read_below-in-Indirect-clause-run
read_part-returns-in_err-read_below-in-Indirect-clause-run g t c = none_on_err _ _ _ c.from_residual-in_err-read_below-in-Indirect.ensures.1

pub read_part-returns-in_err-read_below-in-Indirect-clause-shown : goal.read_part-returns-in_err-read_below-in-Indirect-clause-shown
read_part-returns-in_err-read_below-in-Indirect-clause-shown g t c = λ see. none_on_err _ _ _
    c.from_residual-in_err-read_below-in-Indirect.ensures.1

pub read_all-returns-in_err-done-clause-shown : goal.read_all-returns-in_err-done-clause-shown
read_all-returns-in_err-done-clause-shown g t c = λ see. nothing_on_err _ _ _ c.from_residual.ensures.1
