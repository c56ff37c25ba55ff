-- Lemmas about the repair of leaks: a repair that fails before anything is done, and a repair of an image that has no leaks.
use Rattle.std.proofs.Common.{◌≡◌, refl, sym, ◌∙◌, subst, ℕ, ◌<◌, List, [], arith}
use Rattle.std.specs.Prelude.{Bool, true, false, not, Option, Some, None, Err, Ok, Vec, is_some, if◌then◌else◌}
use Rattle.std.specs.Global.{Global}
use Rattle.imago_storage.specs.State.{StorageState}
use Rattle.imago_storage.specs.declared.fault.Fault.{Fault}
use Rattle.imago_storage.specs.declared.fault.Fault.TheVariants.{Failed, Memory, MissingData, ReadOnly, Storage, Unsupported}
use Rattle.imago_access.specs.declared.driver_model.DriverModel.{Ghosts}
use Rattle.imago_access.specs.Files.{ImageCause, files}
use Rattle.imago_access.specs.Layer.{Layer}
use Rattle.imago_access.specs.Refusals.{unusable_fault}
use Rattle.imago_access.specs.RunCalls.{DriverMarksFailed}
use Rattle.imago_access.specs.Stops.{GivesNone, IsCounted, IsWritten, KeepsCrashImages, Left}
use Rattle.imago_access.proofs.Running.{went_anew, went_same}
use Rattle.imago_access.proofs.Stopping.{passes_none}
use Rattle.imago_access.proofs.Untouched.{unchanged_same}
use Rattle.qimg_calls.specs.Repairing.{RepairsLeaksOf, RepairCause, has_refcounts, repair_refusal}
use Rattle.access_cases.specs.declared.clusters.Content.{Content}
use Rattle.access_cases.specs.declared.clusters.Content.TheVariants as variant
use Rattle.access_cases.specs.Clusters.{IsHeldIn, blank_of, meant_by, says}
use Rattle.access_cases.proofs.PreparedRuns.{file_means}

-- The early cause of a repair, if any: from the fault of an image that can't be used, and whether the image has refcounts and is writable.
abbrev refusal_of : Option Fault → Bool → Bool → Option Fault
refusal_of unusable counts writable = if is_some unusable then unusable else if not counts then Some Unsupported else if not writable then Some ReadOnly else None

-- An early cause is one of four errors.
is_early : (layer : Layer) (P : Fault → Type 0) (e : Fault) → P Failed → P MissingData → P Unsupported → P ReadOnly → repair_refusal layer ≡ Some e → P e
is_early layer P e failed missing unsupported read_only is = from layer.failed layer.fixed.missing (has_refcounts layer.fixed.format) layer.fixed.writable is where
  unusable : Bool → Bool → Option Fault
  unusable f m = if f then Some Failed else if m then Some MissingData else None

  from : (f m counts writable : Bool) → refusal_of (unusable f m) counts writable ≡ Some e → P e
  from true m counts writable is = subst P (cc is) failed
  from false true counts writable is = subst P (cc is) missing
  from false false false writable is = subst P (cc is) unsupported
  from false false true false is = subst P (cc is) read_only
  from false false true true is = absurd (cc is)

-- It is a cause of a well-formed image's errors, too.
early_cause : (layer : Layer) (olds news : List StorageState) (e : Fault) → repair_refusal layer ≡ Some e → RepairCause layer olds news e
early_cause layer olds news e is = from e is where
  from : (e : Fault) → repair_refusal layer ≡ Some e → RepairCause layer olds news e
  from Memory is = tt
  from Storage is = absurd (is_early layer (λ e. e ≡ Storage → ⊥) Storage (λ no. absurd (cc no)) (λ no. absurd (cc no)) (λ no. absurd (cc no)) (λ no. absurd (cc no)) is refl)
  from _ is = is

-- The early cause of an image that can't be used, of one without refcounts, and of a read-only one. Any other image has none.
pub unusable_refuses : (layer : Layer) (e : Fault) → unusable_fault layer ≡ Some e → repair_refusal layer ≡ Some e
unusable_refuses layer e is = from (unusable_fault layer) is where
  from : (unusable : Option Fault) → unusable ≡ Some e → refusal_of unusable (has_refcounts layer.fixed.format) layer.fixed.writable ≡ Some e
  from (Some x) is = is
  from None is = absurd (cc is)

pub format_refuses : (layer : Layer) → unusable_fault layer ≡ None → has_refcounts layer.fixed.format ≡ false → repair_refusal layer ≡ Some Unsupported
format_refuses layer usable counts = from (unusable_fault layer) (has_refcounts layer.fixed.format) usable counts where
  from : (unusable : Option Fault) (counts : Bool) → unusable ≡ None → counts ≡ false → refusal_of unusable counts layer.fixed.writable ≡ Some Unsupported
  from None false usable counts = refl
  from None true usable counts = absurd (cc counts)
  from (Some x) counts usable none = absurd (cc usable)

pub reading_refuses : (layer : Layer) → unusable_fault layer ≡ None → has_refcounts layer.fixed.format ≡ true → layer.fixed.writable ≡ false
    → repair_refusal layer ≡ Some ReadOnly
reading_refuses layer usable counts closed = from (unusable_fault layer) (has_refcounts layer.fixed.format) layer.fixed.writable usable counts closed where
  from : (unusable : Option Fault) (counts writable : Bool) → unusable ≡ None → counts ≡ true → writable ≡ false → refusal_of unusable counts writable ≡ Some ReadOnly
  from None true false usable counts closed = refl
  from None true true usable counts closed = absurd (cc closed)
  from None false writable usable counts closed = absurd (cc counts)
  from (Some x) counts writable usable has closed = absurd (cc usable)

pub none_refuses : (layer : Layer) → unusable_fault layer ≡ None → has_refcounts layer.fixed.format ≡ true → layer.fixed.writable ≡ true → repair_refusal layer ≡ None
none_refuses layer usable counts writes = from (unusable_fault layer) (has_refcounts layer.fixed.format) layer.fixed.writable usable counts writes where
  from : (unusable : Option Fault) (counts writable : Bool) → unusable ≡ None → counts ≡ true → writable ≡ true → refusal_of unusable counts writable ≡ None
  from None true true usable counts writes = refl
  from None true false usable counts writes = absurd (cc writes)
  from None false writable usable counts writes = absurd (cc counts)
  from (Some x) counts writable usable has writes = absurd (cc usable)

module _ {D St : Type 0} (g : Ghosts D St) (d : D) where
  stays : (below : List Layer) → KeepsCrashImages g below GivesNone d d
  stays below = passes_none (Left below (g.layer d) (g.image d).bytes g.sound (g.layer d).size (g.layer d).size GivesNone) (g.image d) (g.image d) refl (refl, refl, refl, refl)

  -- The repair fails before anything is done.
  pub repair_refused : (e : Fault) → repair_refusal (g.layer d) ≡ Some e → RepairsLeaksOf g d (Err e) d
  repair_refused e is = record {
    listed = λ well_formed. tt;
    repaired = λ well_formed ok. absurd (cc ok);
    written = λ well_formed ok. absurd (cc ok);
    counted = λ well_formed ok. absurd (cc ok);
    same = λ well_formed mild. refl;
    crash_images = λ well_formed below. stays below;
    flushes_first = λ well_formed ok. absurd (cc ok);
    early_outcome = record {
      refused = λ f told. let same : Some e ≡ Some f = sym is ∙ told in cc same;
      idle = λ none usable. absurd none;
      unchanged = λ once. unchanged_same g d;
    };
    keeps_layer_state = record { fixed = refl; size = refl; unspent = refl; failed = λ f. f };
    reloading_call = went_anew g _ _ d d (went_same g _ _ d);
    failed = is_early (g.layer d) (ImageCause (files g d) (files g d)) e tt tt tt tt is;
    marks_failed = is_early (g.layer d) (DriverMarksFailed g d d) e tt tt tt tt is;
    cause = λ well_formed. early_cause (g.layer d) (files g d) (files g d) e is;
  }

  -- The image has no leaks, and its file says what each byte is: the repair has nothing to do.
  pub repaired_nothing : (pairs : Vec (ℕ × ℕ) Global) → pairs.items ≡ [] → repair_refusal (g.layer d) ≡ None → ((c : ℕ) → g.excess_refcount d c ≡ 0)
      → (g.well_formed d → IsWritten g d) → (g.well_formed d → IsCounted g d) → RepairsLeaksOf g d (Ok pairs) d
  repaired_nothing pairs none allowed no_excess written counted = record {
    listed = λ well_formed. record {
      each = λ i c n is. absurd (cc (none, is));
      all = λ c some. absurd (omega (arith, some, no_excess c));
      rising = λ i c n e m is. absurd (cc (none, is));
    };
    repaired = λ well_formed ok. no_excess;
    written = λ well_formed ok. written well_formed;
    counted = λ well_formed ok. counted well_formed;
    same = λ well_formed mild. refl;
    crash_images = λ well_formed below. stays below;
    flushes_first = λ well_formed ok. record {
      mid = d;
      layer = refl;
      written = written well_formed;
      counted = counted well_formed;
      excess_refcount = λ c. refl;
      flush = stays;
      crash_images = stays;
    };
    early_outcome = record {
      refused = λ f is. absurd (cc (allowed, is));
      idle = λ none usable. absurd none;
      unchanged = λ once. unchanged_same g d;
    };
    keeps_layer_state = record { fixed = refl; size = refl; unspent = refl; failed = λ f. f };
    reloading_call = went_anew g _ _ d d (went_same g _ _ d);
    failed = tt;
    marks_failed = tt;
    cause = λ well_formed. tt;
  }

-- The file of a one-cluster image by itself says what each byte of the image is.
pub file_says : (content : Content) (size : ℕ) (backed : Bool) (f : List ℕ) (p : ℕ) → IsHeldIn size backed f content → p < size
    → meant_by content (blank_of backed) f p ≡ says content (blank_of backed) f p
file_says variant.Unmapped size backed f p fits inside = rw fits refl
file_says variant.Zeroed size backed f p fits inside = refl
file_says variant.Barred size backed f p fits inside = refl
file_says (variant.Prepared run) size backed f p fits inside = rw fits.0 refl
file_says variant.Mapped size backed f p fits inside = file_means (blank_of backed) f p (omega (arith, fits, inside))
