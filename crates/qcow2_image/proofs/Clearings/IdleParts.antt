-- Lemmas on zeroes and discards of a range that change nothing: the call fails early, or its range has no whole guest cluster.
use Rattle.std.proofs.Common.{◌≡◌, ℕ, ◌<◌, arith, refl, subst, inl, List, Some, Result, Ok, Err, rules}
use Rattle.std.specs.Prelude.{IfOk, IfErr}
use Rattle.imago_storage.specs.Steps.{IsIn}
use Rattle.imago_storage.specs.declared.fault.Fault.{Fault}
use Rattle.imago_access.specs.Changes.{PartRewrites, Rewrites}
use Rattle.imago_access.specs.Files.{ImageCause, IsNotResourceError, HadNoResourceError, files}
use Rattle.imago_access.specs.Going.{MarksFailed}
use Rattle.imago_access.specs.Layer.{Layer}
use Rattle.imago_access.specs.PartCalls.{Becomes, DoesPart, IsDone, LeavesPart, PartCall, PartGives, PartRefused, discards_to_any, discards_to_backing, discards_to_zero, ensures_zero}
use Rattle.imago_access.specs.Parts.{DeclinableCause}
use Rattle.imago_access.specs.Refusals.{own_refusal}
use Rattle.imago_access.specs.Room.{IsWholeUnit, Reaches}
use Rattle.imago_access.specs.declared.driver_model.DriverModel.{Ghosts as SeenGhosts}
use Rattle.imago_access.proofs.Running.{went_same}
use Rattle.qcow2_image.proofs.CallsWithoutChanges.{like-same, stops-same}

-- Whole clusters of an empty range.
none-whole : (unit size offset u : ℕ) → 0 < unit → IsWholeUnit unit size offset 0 u → ⊥
none-whole unit size offset u some whole =
    let start = whole.start in let disk = whole.on_disk in let end = whole.end in omega (arith, some, start, disk, end)

pub empty-reaches : (unit size offset n : ℕ) → 0 < unit → n ≡ 0 → Reaches unit size offset n offset 0
empty-reaches unit size offset n some none = record {
  none_before = λ u whole. whole.start;
  nonempty = λ u whole. absurd (none-whole unit size offset u some (subst (λ k. IsWholeUnit unit size offset k u) none whole));
  none_cut = λ u whole before. absurd (none-whole unit size offset u some (subst (λ k. IsWholeUnit unit size offset k u) none whole));
}

module _ {D St : Type 0} (g : SeenGhosts D St) where
  leaves-same : (call : PartCall) (offset n : ℕ) (d : D) → LeavesPart call g offset n d d
  leaves-same ensures_zero offset n d = record { stays_allocated = λ p l h. h; free = λ p s h. h; zeroes = λ p l s h. h }
  leaves-same discards_to_zero offset n d = record { stays_allocated = λ p l h. h; free = λ p s h. h; zeroes = λ p l s h. h }
  leaves-same discards_to_any offset n d = record { stays_allocated = λ p l h. h; free = λ p s h. h; zeroes = λ p l s h. h }
  leaves-same discards_to_backing offset n d = record { stays_allocated = λ p l h. h; free = λ p s h. h; zeroes = λ p l s h. h }

  -- The call changes nothing. Each byte of the part that it returns already is as the call leaves it.
  module _ (call : PartCall) (offset n : ℕ) (d : D) where
    abbrev IsSettled : ℕ × ℕ → Type 0
    IsSettled part = (p : ℕ) → IsIn part.0 part.1 p
        → Becomes call (g.layer d) p ((g.layer d).cell p) ((g.layer d).cell p) × IsDone call g d p

    rewrites-same : (r : Result (ℕ × ℕ) Fault) → IfOk r IsSettled → IfOk r (λ part. Rewrites (Becomes call (g.layer d)) (g.layer d) (g.layer d) part.0 part.1)
    rewrites-same (Ok part) settled = record { keeps_layer_state = like-same g d; range = λ p at. (settled p at).0; others = λ p out. refl }
    rewrites-same (Err e) settled = tt

    part-rewrites-same : (r : Result (ℕ × ℕ) Fault) → IfErr r (λ e. IsNotResourceError e → PartRewrites (Becomes call (g.layer d)) (g.layer d) (g.layer d) offset n)
    part-rewrites-same (Ok part) = tt
    part-rewrites-same (Err e) = λ not_resource_error. record { keeps_layer_state = like-same g d; range = λ p at. inl refl; others = λ p out. refl }

    given-same : (r : Result (ℕ × ℕ) Fault) → IfOk r IsSettled → IfOk r (λ part. (p : ℕ) → IsIn part.0 part.1 p → IsDone call g d p)
    given-same (Ok part) settled = λ p at. (settled p at).1
    given-same (Err e) settled = tt

    pub idle-does : (r : Result (ℕ × ℕ) Fault)
        → (g.well_formed d → IfOk r (λ part. Reaches (g.layer d).fixed.unit (g.layer d).size offset n part.0 part.1))
        → (g.well_formed d → IfOk r IsSettled) → DoesPart call g offset n r d d
    idle-does r reach settled = record {
      ok = λ well_formed. rewrites-same r (settled well_formed);
      err = λ well_formed. part-rewrites-same r;
      reach = reach;
      given = λ well_formed. given-same r (settled well_formed);
      room = λ well_formed whole. leaves-same call offset n d;
      keeps_layer_state = like-same g d;
      mutating_call = went_same g (HadNoResourceError r) (HadNoResourceError r) d;
      stays_begun = λ e whole begun part is_for ok. begun;
      crash_images = λ well_formed below told. stops-same g below (g.layer d).size (g.layer d).size (PartGives call below offset n) d;
    }

    -- A call with an early error changes nothing.
    pub refused-does : (e : Fault) → DoesPart call g offset n (Err e) d d
    refused-does e = idle-does (Err e) (λ well_formed. tt) (λ well_formed. tt)

    -- The errors of such a call.
    pub idle-refused : (part : ℕ × ℕ) → PartRefused call g offset n (Ok part) d d
    idle-refused part = record { failed = tt; marks_failed = tt; cause = λ well_formed below e whole begun of is_for. tt }

    own-failed : (e : Fault) → own_refusal (g.layer d) offset n ≡ Some e → ImageCause (files g d) (files g d) e
    own-failed e is = search rules

    own-marks : (e : Fault) → own_refusal (g.layer d) offset n ≡ Some e → MarksFailed g d d e
    own-marks e is = search rules

    own-cause : (below : List Layer) (causes : Fault → Type 0) (e : Fault) → own_refusal (g.layer d) offset n ≡ Some e
        → DeclinableCause below (g.layer d) offset n causes (files g d) (files g d) e
    own-cause below causes e is = search rules

    pub early-refused : (e : Fault) → own_refusal (g.layer d) offset n ≡ Some e → PartRefused call g offset n (Err e) d d
    early-refused e is = record {
      failed = own-failed e is;
      marks_failed = own-marks e is;
      cause = λ well_formed below f whole begun of is_for. own-cause below (g.own_cause f below whole) e is;
    }
