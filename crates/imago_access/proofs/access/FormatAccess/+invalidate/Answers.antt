use Rattle.std.proofs.Common.{◌≡◌, [], ◌∷◌, ◌++◌, map, false, true, inl, inr, refl, subst, sym}
use Rattle.std.proofs.lemmas.Result.{IfErr-weaker}
use Rattle.std.specs.Prelude.{IsOk}
use Rattle.imago_access.specs.Layers.{layers}
use Rattle.imago_access.specs.Files.{UnchangedButMoreFaults, files_of, files, Pairs}
use Rattle.imago_access.specs.Refusals.{InvalidateCause}
use Rattle.imago_access.specs.ChainLooks.{EndsReloads}
use Rattle.imago_access.proofs.Answers.{handed_on}
use Rattle.imago_access.proofs.FilePairs.{pairs_append, kept_all_same}
use Rattle.imago_access.proofs.ReadCauses.{invalidate_top, invalidate_below}
use Rattle.imago_access.proofs.Untouched.{all_went_same}
use Rattle.imago_access.proofs.Marking.{ends_reload, marked_top}
use Rattle.imago_access.specs.Going.{MarksSomeFailed, ReloadingCall}
use Rattle.imago_access.proofs.access.FormatAccess.+invalidate.Goals as goal

pub invalidate_part-returns-clause-unchanged_but_faults : goal.invalidate_part-returns-clause-unchanged_but_faults
invalidate_part-returns-clause-unchanged_but_faults g t c = let d = g.D.DriverModel in
    pairs_append UnchangedButMoreFaults (files d c.args.driver.now) (files d c.invalidate_cache.new.self)
    (files_of d (layers c.args.below.now)) (files_of d (layers c.invalidate_layers_below.new.below)) c.in_ok-invalidate_cache.ensures.unchanged_but_faults c.invalidate_layers_below.ensures.unchanged_but_faults

pub invalidate_part-returns-clause-cause : goal.invalidate_part-returns-clause-cause
invalidate_part-returns-clause-cause g t c = let d = g.D.DriverModel in
    let olds = files d c.args.driver.now in
    let news = files d c.invalidate_cache.new.self in
    let us = files_of d (layers c.args.below.now) in
    let vs = files_of d (layers c.invalidate_layers_below.new.below) in
    let below = map d.layer (layers c.args.below.now) in
    IfErr-weaker c.invalidate_layers_below.result (InvalidateCause below us vs) (InvalidateCause (d.layer c.args.driver.now ∷ below) (olds ++ us) (news ++ vs)) (invalidate_below (d.layer c.args.driver.now) below olds news us vs c.in_ok-invalidate_cache.ensures.mutating_call.counts_not_fallen) c.invalidate_layers_below.ensures.cause

pub invalidate_part-returns-clause-downward : goal.invalidate_part-returns-clause-downward
invalidate_part-returns-clause-downward g t c = let d = g.D.DriverModel in
    let olds = layers c.args.below.now in let news = layers c.invalidate_layers_below.new.below in
    IfErr-weaker c.invalidate_layers_below.result (EndsReloads d olds news) (EndsReloads d (c.args.driver.now ∷ olds) (c.invalidate_cache.new.self ∷ news))
    (λ e ends. inr (c.in_ok-invalidate_cache.ensures.has_no_dirty_data, ends)) c.invalidate_layers_below.ensures.downward

pub invalidate_part-returns-in_err-invalidate_cache-clause-downward : goal.invalidate_part-returns-in_err-invalidate_cache-clause-downward
invalidate_part-returns-in_err-invalidate_cache-clause-downward g t c = rw (handed_on _ _ c.from_residual.ensures.1) (let d = g.D.DriverModel in let told = c.in_err-invalidate_cache in
    inl (
      ends_reload d c.args.driver.now c.invalidate_cache.new.self told.field-0.0 told.ensures.cause told.ensures.marks_failed told.ensures.failed
          (λ f barred. let is = told.ensures.early_outcome.refused f barred in cc is),
      refl,
    ))

pub invalidate_part-returns-clause-marks_failed : goal.invalidate_part-returns-clause-marks_failed
invalidate_part-returns-clause-marks_failed g t c = let d = g.D.DriverModel in
    let olds = layers c.args.below.now in let news = layers c.invalidate_layers_below.new.below in
    IfErr-weaker c.invalidate_layers_below.result (MarksSomeFailed d olds news) (MarksSomeFailed d (c.args.driver.now ∷ olds) (c.invalidate_cache.new.self ∷ news)) (λ e marked is. inr (marked is)) c.invalidate_layers_below.ensures.marks_failed

pub invalidate_part-returns-in_err-invalidate_cache-clause-marks_failed : goal.invalidate_part-returns-in_err-invalidate_cache-clause-marks_failed
invalidate_part-returns-in_err-invalidate_cache-clause-marks_failed g t c = rw (handed_on _ _ c.from_residual.ensures.1) (let d = g.D.DriverModel in
    let a0 = c.args.driver.now in let a1 = c.invalidate_cache.new.self in let ds = layers c.args.below.now in
    marked_top d a0 a1 ds ds c.in_err-invalidate_cache.field-0.0 (λ is. subst (InvalidateCause (d.layer a0 ∷ []) (files d a0) (files d a1)) is c.in_err-invalidate_cache.ensures.cause) c.in_err-invalidate_cache.ensures.marks_failed)

pub invalidate_part-returns-in_err-invalidate_cache-clause-unchanged_but_faults : goal.invalidate_part-returns-in_err-invalidate_cache-clause-unchanged_but_faults
invalidate_part-returns-in_err-invalidate_cache-clause-unchanged_but_faults g t c = let d = g.D.DriverModel in
    pairs_append UnchangedButMoreFaults (files d c.args.driver.now) (files d c.invalidate_cache.new.self)
    (files_of d (layers c.args.below.now)) (files_of d (layers c.args.below.now)) c.in_err-invalidate_cache.ensures.unchanged_but_faults (kept_all_same (files_of d (layers c.args.below.now)))

pub invalidate_part-returns-in_err-invalidate_cache-clause-mutating_call : goal.invalidate_part-returns-in_err-invalidate_cache-clause-mutating_call
invalidate_part-returns-in_err-invalidate_cache-clause-mutating_call g t c = let d = g.D.DriverModel in let ds = layers c.args.below.now in
    subst (λ r. Pairs (ReloadingCall d (IsOk r) (IsOk r)) (c.args.driver.now ∷ ds) (c.invalidate_cache.new.self ∷ ds)) (sym (handed_on _ _ c.from_residual.ensures.1))
    (c.in_err-invalidate_cache.ensures.mutating_call, all_went_same d (false ≡ true) ds)

pub invalidate_part-returns-in_err-invalidate_cache-clause-cause : goal.invalidate_part-returns-in_err-invalidate_cache-clause-cause
invalidate_part-returns-in_err-invalidate_cache-clause-cause g t c = rw (handed_on _ _ c.from_residual.ensures.1) (let d = g.D.DriverModel in
    let others = files_of d (layers c.args.below.now) in
    invalidate_top (d.layer c.args.driver.now) (map d.layer (layers c.args.below.now)) (files d c.args.driver.now) (files d c.invalidate_cache.new.self) others others c.in_err-invalidate_cache.field-0.0 c.in_err-invalidate_cache.ensures.cause)

pub invalidate_layers_below-returns-in-Some-clause-same : goal.invalidate_layers_below-returns-in-Some-clause-same
invalidate_layers_below-returns-in-Some-clause-same g t c = rw (c.in-Some.is, ← c.deref_mut.ensures.value) c.invalidate_cache.ensures.same

pub invalidate_layers_below-returns-in-Some-clause-coherent : goal.invalidate_layers_below-returns-in-Some-clause-coherent
invalidate_layers_below-returns-in-Some-clause-coherent g t c = rw (c.in-Some.is, ← c.deref_mut.ensures.value) c.invalidate_cache.ensures.coherent
