-- A storage that is truncated and then extended.
use Rattle.std.proofs.Common.{inl, inr, ⊎_elim, ℕ, ◌≤◌, List, length, arith, sym, ◌∙◌, ap, subst}
use Rattle.std.specs.Prelude.{IsTrue, slice_index}
use Rattle.std.proofs.lemmas.List.{get_or_past}
use Rattle.imago_storage.specs.State.{StorageState, HasRisen, CrashImageIsBytes}
use Rattle.imago_storage.specs.Calls.{Resized, NotResized, UnlessUnsupported}
use Rattle.imago_storage.specs.Through.{EachCrashImage}
use Rattle.imago_storage.specs.declared.fault.Fault.{Fault}
use Rattle.imago_storage.specs.declared.fault.Fault.TheVariants.{Unsupported, Memory, Storage}
use Rattle.imago_storage.proofs.Composing.{tells_on, keeps_on, no_stops, one_stop, stops_both}
use Rattle.imago_formats.specs.Growing.{HasFirst, CutTo, GrownTo, NotLengthened, StorageResizeCause}

-- The file after a resize.
resized_stop : (old new : StorageState) (from to : ℕ) → from ≤ to → Resized old new to → EachCrashImage (HasFirst old.bytes from) old new
resized_stop old new from to longer resized =
    one_stop (HasFirst old.bytes from) old new resized.changed.mark
    (λ step tells keeps.
    subst (HasFirst old.bytes from) (sym (resized.changed.crash_image_is_bytes step (tells_on old new resized.changed.shape tells) (keeps_on old new resized.changed.shape keeps)))
    (record { long = omega (arith, resized.size, longer); same = λ k lt. resized.content keeps k (omega (arith, lt, longer)) }))

pub cut_by_resize : (old new : StorageState) (from : ℕ) → Resized old new from → CutTo old new from
cut_by_resize old new from resized = record {
  shape = resized.changed.shape;
  faults = resized.changed.faults;
  refusals = resized.changed.refusals;
  size = resized.size;
  prefix_unchanged = resized.content;
  crash_image_is_bytes = resized.changed.crash_image_is_bytes;
  crash_images = resized_stop old new from from (omega arith) resized;
}

-- A file with the first bytes of `mid` has the first bytes of `old`.
first_on : (old mid : StorageState) (from : ℕ) → CutTo old mid from → IsTrue old.shape.keeps → (f : List ℕ) → HasFirst mid.bytes from f → HasFirst old.bytes from f
first_on old mid from cut keeps f first = record { long = first.long; same = λ k lt. first.same k lt ∙ cut.prefix_unchanged keeps k lt }

both_stops : (old mid new : StorageState) (from : ℕ) → CutTo old mid from → EachCrashImage (HasFirst mid.bytes from) mid new → EachCrashImage (HasFirst old.bytes from) old new
both_stops old mid new from cut later =
    stops_both (HasFirst old.bytes from) (HasFirst mid.bytes from) (HasFirst old.bytes from) old mid new cut.shape cut.crash_image_is_bytes (λ keeps f first. first) (first_on old mid from cut) cut.crash_images later

pub grown_behind : (old mid new : StorageState) (from to : ℕ) → from ≤ to → CutTo old mid from → Resized mid new to → GrownTo old new from to
grown_behind old mid new from to longer cut resized = record {
  faults = resized.changed.faults ∙ cut.faults;
  refusals = resized.changed.refusals ∙ cut.refusals;
  size = resized.size;
  prefix_unchanged = λ keeps k lt. resized.content (keeps_on old mid cut.shape keeps) k (omega (arith, lt, longer)) ∙ cut.prefix_unchanged keeps k lt;
  filled = λ keeps k from_on lt. resized.content (keeps_on old mid cut.shape keeps) k lt ∙ get_or_past mid.bytes k 0 (omega (arith, cut.size, from_on));
  crash_image_is_bytes = λ same. resized.changed.crash_image_is_bytes (cut.crash_image_is_bytes same);
  crash_images = both_stops old mid new from cut (resized_stop mid new from to longer resized);
}

refused_resize : (old new : StorageState) (from : ℕ) → (fault : Fault) → StorageResizeCause old new fault → NotResized old new fault → NotLengthened old new from fault
refused_resize old new from fault cause refused = record {
  cause = cause;
  long = λ fits. omega (arith, ap (length {A = ℕ}) refused.bytes, fits);
  prefix_unchanged = λ keeps k lt. ap (λ (f : List ℕ). slice_index f k) refused.bytes;
  crash_image_is_bytes = inl refused.refused.refusals;
  crash_images = no_stops (HasFirst old.bytes from) old new refused.refused.crash_image refused.refused.past_crash_images;
}

-- The storage isn't resized.
pub not_cut : (old new : StorageState) (from : ℕ) → (fault : Fault) → UnlessUnsupported old new (NotResized old new) fault → NotLengthened old new from fault
not_cut old new from Unsupported same = record {
  cause = (ap (λ (s : StorageState). s.faults) same, ap (λ (s : StorageState). s.refusals) same);
  long = λ fits. omega (arith, ap (λ (s : StorageState). length s.bytes) same, fits);
  prefix_unchanged = λ keeps k lt. ap (λ (s : StorageState). slice_index s.bytes k) same;
  crash_image_is_bytes = inr (subst (λ (s : StorageState). CrashImageIsBytes old → CrashImageIsBytes s) (sym same) (λ step. step));
  crash_images = no_stops (HasFirst old.bytes from) old new (ap (λ (s : StorageState). s.crash_image) same) (ap (λ (s : StorageState). s.past_crash_images) same);
}
not_cut old new from Memory refused = refused_resize old new from Memory refused.refused.cause refused
not_cut old new from Storage refused = refused_resize old new from Storage refused.refused.cause refused
not_cut old new from _ refused = absurd refused.refused.cause

-- The cause of a failed extension after a truncation.
cause_behind : (old mid new : StorageState) (from : ℕ) → CutTo old mid from → (fault : Fault) → StorageResizeCause mid new fault → StorageResizeCause old new fault
cause_behind old mid new from cut Unsupported cause = (cause.0 ∙ cut.faults, cause.1 ∙ cut.refusals)
cause_behind old mid new from cut Memory cause = cause ∙ cut.faults
cause_behind old mid new from cut Storage cause = subst (λ (n : ℕ). HasRisen n new.faults) cut.faults cause
cause_behind old mid new from cut _ cause = absurd cause

pub not_grown_behind : (old mid new : StorageState) (from : ℕ) → CutTo old mid from → (fault : Fault) → UnlessUnsupported mid new (NotResized mid new) fault → NotLengthened old new from fault
not_grown_behind old mid new from cut fault refused =
    let later = not_cut mid new from fault refused in
    record {
      cause = cause_behind old mid new from cut fault later.cause;
      long = λ fits. later.long (omega (arith, cut.size));
      prefix_unchanged = λ keeps k lt. later.prefix_unchanged (keeps_on old mid cut.shape keeps) k lt ∙ cut.prefix_unchanged keeps k lt;
      crash_image_is_bytes = ⊎_elim (λ rose. inl (subst (λ (n : ℕ). HasRisen n new.refusals) cut.refusals rose)) (λ on. inr (λ same. on (cut.crash_image_is_bytes same))) later.crash_image_is_bytes;
      crash_images = both_stops old mid new from cut later.crash_images;
    }
