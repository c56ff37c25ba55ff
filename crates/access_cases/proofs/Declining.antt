-- Lemmas about an image that can't zero or discard by itself, and about its failed flag after an error that isn't a resource error.
use Rattle.std.proofs.Common.{◌≡◌, refl, sym, subst, inl, ℕ, ◌<◌, arith}
use Rattle.std.specs.Prelude.{Result, Ok, Err, IfOk}
use Rattle.imago_storage.specs.declared.fault.Fault.{Fault}
use Rattle.imago_storage.specs.declared.fault.Fault.TheVariants.{Memory, Storage}
use Rattle.imago_access.specs.declared.driver_model.DriverModel.{Ghosts}
use Rattle.imago_access.specs.Files.{IsNotResourceError}
use Rattle.imago_access.specs.Going.{MarksFailedOver}
use Rattle.imago_access.specs.PartCalls.{PartCall, ensures_zero, discards_to_zero, discards_to_any, discards_to_backing, PartGives, LeavesPart, DoesPart}
use Rattle.imago_access.specs.Stops.{Left}
use Rattle.imago_access.proofs.Running.{went_same}
use Rattle.imago_access.proofs.Stopping.{passes_none}

pub mild_marks_over : {D St : Type 0} (g : Ghosts D St) (old new : D) (e : Fault) → IsNotResourceError e → MarksFailedOver g old new e
mild_marks_over g old new Memory not_resource_error = absurd not_resource_error
mild_marks_over g old new Storage not_resource_error = absurd not_resource_error
mild_marks_over g old new _ not_resource_error = tt

module _ {D St : Type 0} (g : Ghosts D St) (call : PartCall) (offset n : ℕ) (d : D) where
  leaves_same : LeavesPart call g offset n d d
  leaves_same = from call where
    from : (one : PartCall) → LeavesPart one g offset n d d
    from ensures_zero = record { stays_allocated = λ p there is. is; free = λ p there is. is; zeroes = λ p there there' is. is }
    from discards_to_zero = record { stays_allocated = λ p there is. is; free = λ p there is. is; zeroes = λ p there there' is. is }
    from discards_to_any = record { stays_allocated = λ p there is. is; free = λ p there is. is; zeroes = λ p there there' is. is }
    from discards_to_backing = record { stays_allocated = λ p there is. is; free = λ p there is. is; zeroes = λ p there there' is. is }

  done_nothing : n ≡ 0 → 0 < (g.layer d).fixed.unit → DoesPart call g offset n (Ok (offset, 0)) d d
  done_nothing none positive = record {
    ok = λ well_formed. record {
      keeps_layer_state = record { fixed = refl; size = refl; unspent = refl; failed = λ f. f };
      range = λ p there. absurd (omega (arith, there.0, there.1));
      others = λ p out. refl;
    };
    err = λ well_formed. tt;
    reach = λ well_formed. record {
      none_before = λ u whole. whole.start;
      nonempty = λ u whole. absurd (omega (arith, none, positive, whole.start, whole.on_disk, whole.end));
      none_cut = λ u whole before. absurd (omega (arith, whole.start, before));
    };
    given = λ well_formed p there. absurd (omega (arith, there.0, there.1));
    room = λ well_formed no_change_refused. leaves_same;
    keeps_layer_state = record { fixed = refl; size = refl; unspent = refl; failed = λ f. f };
    mutating_call = went_same g _ _ d;
    stays_begun = λ x whole begun part kind no_change_refused. begun;
    crash_images = λ well_formed below told. passes_none (Left below (g.layer d) (g.image d).bytes g.sound (g.layer d).size (g.layer d).size (PartGives call below offset n)) (g.image d) (g.image d) refl (refl, refl, refl, refl);
  }

  refused_nothing : (e : Fault) → DoesPart call g offset n (Err e) d d
  refused_nothing e = record {
    ok = λ well_formed. tt;
    err = λ well_formed not_resource_error. record {
      keeps_layer_state = record { fixed = refl; size = refl; unspent = refl; failed = λ f. f };
      range = λ p there. inl refl;
      others = λ p out. refl;
    };
    reach = λ well_formed. tt;
    given = λ well_formed. tt;
    room = λ well_formed no_change_refused. leaves_same;
    keeps_layer_state = record { fixed = refl; size = refl; unspent = refl; failed = λ f. f };
    mutating_call = went_same g _ _ d;
    stays_begun = λ x whole begun part kind no_change_refused. begun;
    crash_images = λ well_formed below told. passes_none (Left below (g.layer d) (g.image d).bytes g.sound (g.layer d).size (g.layer d).size (PartGives call below offset n)) (g.image d) (g.image d) refl (refl, refl, refl, refl);
  }

  -- The call did an empty part of an empty range, or it failed.
  pub does_nothing : (result : Result (ℕ × ℕ) Fault) → 0 < (g.layer d).fixed.unit → IfOk result (λ r. (r ≡ (offset, 0)) × (n ≡ 0)) → DoesPart call g offset n result d d
  does_nothing (Ok r) positive is = subst (λ (part : ℕ × ℕ). DoesPart call g offset n (Ok part) d d) (sym is.0) (done_nothing is.1 positive)
  does_nothing (Err e) positive is = refused_nothing e
