-- The effect of a write or a zeroing of the storage on the raw image over it.
use Rattle.std.proofs.Common.{◌≡◌, refl, inl, inr, ⊎_elim, ℕ, ◌+◌, ◌-◌, ◌<◌, ◌≤◌, List, length, arith, sym, ◌∙◌, ap, subst}
use Rattle.std.specs.Prelude.{Bool, true, false, eqb, Some, None, ◌&&◌, if◌then◌else◌, ltb, IsTrue, slice_index, replicate}
use Rattle.std.proofs.Math.Nat.{le_refl}
use Rattle.std.proofs.lemmas.List.{length-replicate, get_or-replicate}
use Rattle.std.proofs.lemmas.Bool.{cases_lt, lt-ltb}
use Rattle.imago_storage.specs.State.{StorageState}
use Rattle.imago_storage.specs.Disk.{byte}
use Rattle.imago_storage.specs.Steps.{IsIn, IsOut}
use Rattle.imago_storage.specs.Calls.{IsFaultless, OldOrNewBytes}
use Rattle.imago_storage.specs.Through.{WriteSucceeded, WriteFailed}
use Rattle.imago_storage.specs.declared.fault.Fault.{Fault}
use Rattle.imago_storage.specs.declared.fault.Fault.TheVariants.{ReadOnly}
use Rattle.imago_access.specs.Files.{IsNotResourceError}
use Rattle.imago_access.specs.Layer.{own}
use Rattle.imago_access.specs.Refusals.{range_refusal}
use Rattle.imago_access.specs.Parts.{IsMappedAt}
use Rattle.imago_access.specs.Changes.{Rewrites, PartRewrites, ToZero, Wrote}
use Rattle.imago_formats.specs.RawLayer.{raw_layer}
use Rattle.imago_formats.proofs.RawSteps.{raw_like, unwritten_same}
use borrow.Author.Tests.{ne_eqb}

-- A change of a range that isn't refused, and isn't empty, is of an image that was opened for writing.
pub allowed-writable : (w : Bool) (unit size at n : ℕ) → (n ≡ 0 → ⊥) → range_refusal w unit size at n ≡ None → IsTrue w
allowed-writable true unit size at n some allowed = refl
allowed-writable false unit size at n some allowed =
    let more : eqb n 0 ≡ false = ne_eqb n 0 some in
    let refused : range_refusal false unit size at n ≡ Some ReadOnly = rw more refl in
    absurd (cc (refused, allowed))

-- A range inside a writable disk is mapped at its own offset.
pub mapped-inside : (s : StorageState) (size : ℕ) (w : Bool) (guest place n : ℕ) → IsTrue w → guest + n ≤ size → guest ≡ place
    → IsMappedAt (raw_layer s size w) guest place n
mapped-inside s size w guest place n writing inside same =
    (0, λ i lt. rw (lt-ltb (guest + i) size (omega (arith, lt, inside)), writing, same) refl)

module _ (old new : StorageState) (at : ℕ) (bytes : List ℕ) (done : WriteSucceeded old new at bytes) where
  pub written-long : length old.bytes ≤ length new.bytes
  written-long = elim (cases_lt 0 (length bytes)) [
    | inl some ↦ omega (arith, done.size some)
    | inr none ↦ subst (λ (s : StorageState). length old.bytes ≤ length s.bytes) (sym (done.nothing (omega (arith, none)))) (le_refl _)
  ]

  pub written-faultless : IsFaultless old new
  written-faultless = (done.faults, done.refusals)

  -- A byte outside the range is unchanged.
  written-outside : IsTrue old.shape.keeps → (p : ℕ) → IsOut at (length bytes) p → own (byte (slice_index new.bytes p)) ≡ own
      (byte (slice_index old.bytes p))
  written-outside keeps p out = let content = done.content keeps in
      ap (λ (b : ℕ). own (byte b)) (⊎_elim (λ before. content.before p before) (λ after. content.after p after) out)

  pub wrote : (size : ℕ) (w : Bool) → IsTrue old.shape.keeps → Wrote (raw_layer old size w) (raw_layer new size w) at bytes
  wrote size w keeps = record {
    keeps_layer_state = raw_like old new size w done.shape;
    writable_location = refl;
    range = λ i lt.
        let there : at + i - at ≡ i = omega arith in (
          ap (λ (b : ℕ). own (byte b)) ((done.content keeps).inside (at + i) (omega arith) (omega (arith, lt)) ∙ ap
              (λ (k : ℕ). slice_index bytes k) there),
          refl,
        );
    others = λ p out. (written-outside keeps p out, refl);
  }

-- Zeroes.
module _ (old new : StorageState) (at n : ℕ) (done : WriteSucceeded old new at (replicate n 0)) where
  zeroed-long : length {A = ℕ} (replicate n 0) ≡ n
  zeroed-long = length-replicate n 0

  pub zeroed : (size : ℕ) (w : Bool) → IsTrue old.shape.keeps → Rewrites ToZero (raw_layer old size w) (raw_layer new size w) at n
  zeroed size w keeps = record {
    keeps_layer_state = raw_like old new size w done.shape;
    range = λ p within.
        ap (λ (b : ℕ). own (byte b))
        ((done.content keeps).inside p within.0 (omega (arith, within.1, zeroed-long)) ∙ get_or-replicate n (p - at) 0 0
        (omega (arith, within.0, within.1)));
    others = λ p out. written-outside old new at (replicate n 0) done keeps p (subst (λ (k : ℕ). IsOut at k p) (sym zeroed-long) out);
  }

-- A write that failed without a resource error.
module _ (old new : StorageState) (at : ℕ) (bytes : List ℕ) (fault : Fault) (refused : WriteFailed old new at bytes fault)
    (not_resource_error : IsNotResourceError fault) where
  pub refused-same : (size : ℕ) (w : Bool) → raw_layer new size w ≡ raw_layer old size w
  refused-same size w = ap (λ (s : StorageState). raw_layer s size w) (unwritten_same old new at bytes fault refused not_resource_error)

  pub refused-part : (size : ℕ) (w : Bool) (from n : ℕ) → PartRewrites ToZero (raw_layer old size w) (raw_layer new size w) from n
  refused-part size w from n =
      let same = unwritten_same old new at bytes fault refused not_resource_error in
      let cell = λ (p : ℕ). ap (λ (s : StorageState). own (byte (slice_index s.bytes p))) same in
      record {
        keeps_layer_state = raw_like old new size w (ap (λ (s : StorageState). s.shape) same);
        range = λ p within. inl (cell p);
        others = λ p out. cell p;
      }
