-- Lemmas on driver calls that change nothing: the image has failed, the range is empty, or the call is declined.
use Rattle.std.proofs.Common.{◌≡◌, ℕ, ◌+◌, ◌<◌, ◌≤◌, Bool, true, false, List, Result, Ok, Err, Option, Some, None, refl, sym, ◌∙◌, inl, inr, arith}
use Rattle.std.specs.Prelude.{⊤, ◌⊎◌, IsSome, eqb, zero, suc, length, max, IsFalse}
use Rattle.imago_storage.specs.Disk.{Value}
use Rattle.imago_storage.specs.declared.fault.Fault.{Fault}
use Rattle.imago_storage.specs.declared.fault.Fault.TheVariants.{Failed, Outdated, ReadOnly}
use Rattle.imago_access.specs.declared.driver_model.DriverModel.{Ghosts}
use Rattle.imago_access.specs.declared.driver_model.LayersBelowModel.{Ghosts as GhostsBelow}
use Rattle.imago_access.specs.declared.format.PreallocateMode.{PreallocateMode}
use Rattle.imago_access.specs.Layer.{Layer, IsFree, KeepsLayerState}
use Rattle.imago_access.specs.Changes.{Asked}
use Rattle.imago_access.specs.Files.{IsNotResourceError}
use Rattle.imago_access.specs.Going.{EarlyOutcome}
use Rattle.imago_access.specs.Parts.{IsMappedAt}
use Rattle.imago_access.specs.PreparingCalls.{Prepares, WritesMapped, WritingRefused}
use Rattle.imago_access.specs.Refusals.{unusable_fault, own_refusal}
use Rattle.imago_access.specs.ResizeCalls.{Grows, GrowthRefused, Resizes, ShrinkRefused, Shrinks}
use Rattle.imago_access.specs.Stops.{Left, KeepsCrashImagesTo, GivesBytes, GivesNone, GivesPast, GivesBelowPast}
use Rattle.imago_access.proofs.Room.{room_same}
use Rattle.imago_access.proofs.Running.{went_same}
use Rattle.imago_access.proofs.Stopping.{passes_none}
use Rattle.imago_access.proofs.Untouched.{unchanged_same}
use borrow.Author.Tests.{ne_eqb}

-- A layer that has failed refuses every call.
pub failed-barrier : (layer : Layer) → layer.failed ≡ true → unusable_fault layer ≡ Some Failed
failed-barrier layer failed = rw failed refl

pub failed-refusal : (layer : Layer) (offset n : ℕ) → layer.failed ≡ true → own_refusal layer offset n ≡ Some Failed
failed-refusal layer offset n failed = rw failed refl

-- A layer that hasn't failed, and has its storages, refuses neither by itself nor for an empty range.
pub runs-barrier : (layer : Layer) → layer.failed ≡ false → layer.fixed.missing ≡ false → unusable_fault layer ≡ None
runs-barrier layer runs there = rw (runs, there) refl

pub empty-refusal : (layer : Layer) (offset n : ℕ) → layer.failed ≡ false → layer.fixed.missing ≡ false → n ≡ 0
    → own_refusal layer offset n ≡ None
empty-refusal layer offset n runs there none = rw (runs, there, none) refl

pub failed-runs : (layer : Layer) → layer.failed ≡ true → unusable_fault layer ≡ None → ⊥
failed-runs layer failed runs = absurd (cc (runs, failed-barrier layer failed))

-- Conditions on a range that can't hold together.
pub not-inside : {a b : ℕ} → a < b → b ≤ a → ⊥
not-inside inside past = omega (arith, inside, past)

pub not-some : {n : ℕ} → 0 < n → n ≡ 0 → ⊥
not-some some none = omega (arith, some, none)

pub none-below : {i : ℕ} → i < 0 → ⊥
none-below low = omega (arith, low)

pub below-empty : {i n : ℕ} → i < n → n ≡ 0 → ⊥
below-empty low none = omega (arith, low, none)

pub above-none : (n : ℕ) → (n ≡ 0 → ⊥) → 0 < n
above-none zero some = absurd (some refl)
above-none (suc n) some = omega arith

pub told-empty : (n : ℕ) (told : Bool) → told ≡ eqb n 0 → told ≡ true → n ≡ 0
told-empty zero told is said = refl
told-empty (suc n) told is said = let other : eqb (suc n) 0 ≡ false = ne_eqb _ _ (omega arith) in absurd (cc (is, other, said))

pub told-some : (n : ℕ) (told : Bool) → told ≡ eqb n 0 → told ≡ false → n ≡ 0 → ⊥
told-some zero told is said none = let other : told ≡ true = is in absurd (cc (other, said))
told-some (suc n) told is said none = absurd (cc none)

pub empty-run : (offset size asked : ℕ) → offset < size → asked ≡ 0 → (offset < size) × (0 ≤ asked) × (offset + 0 ≤ size) × (0 < asked
    → 0 < 0)
empty-run offset size asked inside none = (inside, omega (arith), omega (arith, inside), λ some. absurd (not-some some none))

module _ {D St : Type 0} (g : Ghosts D St) where
  pub like-same : (d : D) → KeepsLayerState (g.layer d) (g.layer d)
  like-same d = record { fixed = refl; size = refl; unspent = refl; failed = λ f. f }

  pub stops-same : (below : List Layer) (least most : ℕ) (gives : ℕ → Value → Type 0) (d : D) → KeepsCrashImagesTo g below least most gives d d
  stops-same below least most gives d =
      passes_none (Left below (g.layer d) (g.image d).bytes g.sound least most gives) (g.image d) (g.image d) refl (refl, refl, refl, refl)

  -- The early outcome of a failed driver, and of a call with nothing to do.
  pub failed-early_outcome : {T : Type 0} (refusal : Option Fault) (nothing : Type 0) (d : D) → unusable_fault (g.layer d) ≡ Some Failed
      → refusal ≡ Some Failed
      → EarlyOutcome {T = T} g refusal nothing (Err Failed) d d
  failed-early_outcome refusal nothing d barred is = record {
    refused = λ f told. let same : Some Failed ≡ Some f = sym is ∙ told in cc same;
    idle = λ none runs. absurd (cc (runs, barred));
    unchanged = λ h. unchanged_same g d;
  }

  pub idle-early_outcome : {T : Type 0} (refusal : Option Fault) (nothing : Type 0) (v : T) (d : D) → refusal ≡ None
      → EarlyOutcome g refusal nothing (Ok v) d d
  idle-early_outcome refusal nothing v d is = record {
    refused = λ f told. absurd (cc (told, is));
    idle = λ none runs. refl;
    unchanged = λ h. unchanged_same g d;
  }

  pub refused-early_outcome : {T : Type 0} (refusal : Option Fault) (nothing : Type 0) (e : Fault) (d : D) → refusal ≡ Some e → (nothing → ⊥)
      → EarlyOutcome {T = T} g refusal nothing (Err e) d d
  refused-early_outcome refusal nothing e d is busy = record {
    refused = λ f told. let same : Some e ≡ Some f = sym is ∙ told in cc same;
    idle = λ none runs. absurd (busy none);
    unchanged = λ h. unchanged_same g d;
  }

  -- A call that has no early error and something to do has no early outcome.
  pub busy-early_outcome : {T : Type 0} (refusal : Option Fault) (nothing : Type 0) (r : Result T Fault) (old new : D) → refusal ≡ None
      → (nothing → ⊥)
      → EarlyOutcome g refusal nothing r old new
  busy-early_outcome refusal nothing r old new is busy = record {
    refused = λ f told. absurd (cc (told, is));
    idle = λ none runs. absurd (busy none);
    unchanged = λ h. elim h [ inl none ↦ absurd (busy none) | inr some ↦ absurd (cc (some, is)) ];
  }

  pub busy-neither : (refusal : Option Fault) (nothing : Type 0) → refusal ≡ None → (nothing → ⊥) → nothing ⊎ IsSome refusal → ⊥
  busy-neither refusal nothing is busy h = elim h [ inl none ↦ busy none | inr some ↦ absurd (cc (some, is)) ]

  -- The early outcome of a resize.
  pub resizes-failed : (first second : ℕ) (d : D) → IsFree (g.layer d) → unusable_fault (g.layer d) ≡ Some Failed
      → Resizes g first second (Err Failed) d d
  resizes-failed first second d free barred = record {
    nothing = λ le. tt;
    free = free;
    early_outcome = failed-early_outcome (unusable_fault (g.layer d)) (first ≤ second) d barred barred;
    read_only = λ runs lt closed. absurd (cc (runs, barred));
  }

  pub resizes-idle : (first second : ℕ) (d : D) → IsFree (g.layer d) → unusable_fault (g.layer d) ≡ None → first ≤ second
      → Resizes g first second (Ok tt) d d
  resizes-idle first second d free runs le = record {
    nothing = λ _. refl;
    free = free;
    early_outcome = idle-early_outcome (unusable_fault (g.layer d)) (first ≤ second) tt d runs;
    read_only = λ _ lt closed. absurd (omega (arith, le, lt));
  }

  pub resizes-declined : (first second : ℕ) (e : Fault) (d : D) → IsFree (g.layer d) → unusable_fault (g.layer d) ≡ None → second < first
      → (IsFalse (g.layer d).fixed.writable → e ≡ ReadOnly) → Resizes g first second (Err e) d d
  resizes-declined first second e d free runs lt why = record {
    nothing = λ le. tt;
    free = free;
    early_outcome = record {
      refused = λ f is. absurd (cc (runs, is));
      idle = λ le _. absurd (omega (arith, le, lt));
      unchanged = λ h. unchanged_same g d;
    };
    read_only = λ _ _ closed. (rw (why closed) refl, unchanged_same g d);
  }

  -- A shrink that has nothing to do, or fails.
  pub shrinks-idle : (size : ℕ) (d : D) → (g.layer d).size ≤ size → Shrinks g size (Ok tt) d d
  shrinks-idle size d high = record {
    ok = λ well_formed low. absurd (omega (arith, low, high));
    err = λ well_formed. tt;
    crash_images = λ well_formed below backed. stops-same below size (g.layer d).size (GivesBelowPast below size) d;
    mutating_call = went_same g ⊤ ⊤ d;
  }

  pub shrinks-refused : (size : ℕ) (e : Fault) (d : D) → Shrinks g size (Err e) d d
  shrinks-refused size e d = record {
    ok = λ well_formed low. tt;
    err = λ well_formed not_resource_error. record { keeps_layer_state = like-same d; data_unchanged = λ p low. refl };
    crash_images = λ well_formed below backed. stops-same below size (g.layer d).size (GivesBelowPast below size) d;
    mutating_call = went_same g (IsNotResourceError e) (IsNotResourceError e) d;
  }

  -- The errors of a shrink.
  pub shrink-failed : (size : ℕ) (d : D) → unusable_fault (g.layer d) ≡ Some Failed → ShrinkRefused g size (Err Failed) d d
  shrink-failed size d barred = record { failed = tt; marks_failed = tt; cause = λ well_formed below. inl barred }

  pub shrink-idle : (size : ℕ) (d : D) → ShrinkRefused g size (Ok tt) d d
  shrink-idle size d = record { failed = tt; marks_failed = tt; cause = λ well_formed below. tt }

  pub shrink-closed : (size : ℕ) (d : D) → size < (g.layer d).size → IsFalse (g.layer d).fixed.writable
      → ShrinkRefused g size (Err ReadOnly) d d
  shrink-closed size d lt closed = record { failed = tt; marks_failed = tt; cause = λ well_formed below. (lt, closed) }

  -- A write to a mapping that has nothing to do, or fails.
  pub writes-nothing : (guest place : ℕ) (bytes : List ℕ) (d : D) → length bytes ≡ 0 → WritesMapped g guest place bytes (Ok tt) d d
  writes-nothing guest place bytes d none = record {
    mapped = λ seen some. absurd (not-some some none);
    empty = λ _. refl;
    keeps_layer_state = like-same d;
    ok = λ well_formed. record {
      keeps_layer_state = like-same d;
      writable_location = refl;
      range = λ i low. absurd (below-empty low none);
      others = λ p out. (refl, refl);
    };
    err = λ well_formed. tt;
    room = λ well_formed whole. room_same g (λ _. ⊤) (λ _. ⊤) d;
    crash_images = λ well_formed below. stops-same below (g.layer d).size (g.layer d).size (GivesBytes guest bytes) d;
    mutating_call = went_same g ⊤ ⊤ d;
    stays_begun = λ e call begun. begun;
  }

  pub writes-refused : (guest place : ℕ) (bytes : List ℕ) (e : Fault) (d : D) → WritesMapped g guest place bytes (Err e) d d
  writes-refused guest place bytes e d = record {
    mapped = λ seen. tt;
    empty = λ _. refl;
    keeps_layer_state = like-same d;
    ok = λ well_formed. tt;
    err = λ well_formed not_resource_error. refl;
    room = λ well_formed whole. room_same g (λ _. ⊤) (λ _. ⊤) d;
    crash_images = λ well_formed below. stops-same below (g.layer d).size (g.layer d).size (GivesBytes guest bytes) d;
    mutating_call = went_same g (IsNotResourceError e) (IsNotResourceError e) d;
    stays_begun = λ e call begun. tt;
  }

  -- The errors of a write to a mapping.
  pub writing-failed : (guest place n : ℕ) (d : D) → unusable_fault (g.layer d) ≡ Some Failed → WritingRefused g guest place n (Err Failed) d d
  writing-failed guest place n d barred = record { failed = tt; marks_failed = tt; cause = λ well_formed. inl barred }

  pub writing-done : (guest place n : ℕ) (old new : D) → WritingRefused g guest place n (Ok tt) old new
  writing-done guest place n old new = record { failed = tt; marks_failed = tt; cause = λ well_formed. tt }

  pub writing-outdated : (guest place n : ℕ) (old new : D) → 0 < n → (g.well_formed old → IsMappedAt (g.layer old) guest place n → ⊥)
      → WritingRefused g guest place n (Err Outdated) old new
  writing-outdated guest place n old new some unmapped = record { failed = tt; marks_failed = tt; cause = λ well_formed. (some, unmapped well_formed) }

module _ {D St B : Type 0} (g : Ghosts D St) (u : GhostsBelow B) where
  -- A preparation by a driver that has failed.
  pub prepares-failed : (asked : Asked) (d : D) (b : B) → unusable_fault (g.layer d) ≡ Some Failed → Prepares g u asked (Err Failed) (d, b) (d, b)
  prepares-failed asked d b barred = record {
    ok = λ well_formed see. tt;
    err = λ well_formed see not_resource_error. record { keeps_layer_state = like-same g d; cell = refl; held = refl };
    uncut = λ well_formed see. tt;
    no_range_overflow = λ well_formed see. tt;
    room = λ well_formed see whole. room_same g (λ _. ⊤) (λ _. ⊤) d;
    crash_images = λ well_formed see. stops-same g (u.layers_below b) (g.layer d).size (g.layer d).size GivesNone d;
    mutating_call = went_same g ⊤ (⊤ × u.coherent_below b) d;
    stays_begun = λ e call begun part whole. begun;
    refused = record { failed = tt; marks_failed = tt; cause = λ well_formed see e call begun part over. inl barred };
  }

  -- A growth that has nothing to do, or fails.
  pub grows-idle : (size : ℕ) (mode : PreallocateMode) (d : D) (b : B) → size ≤ (g.layer d).size → Grows g u size mode (Ok tt) (d, b) (d, b)
  grows-idle size mode d b low = record {
    ok = λ well_formed see high. absurd (omega (arith, low, high));
    err = λ well_formed see. tt;
    crash_images = λ well_formed see. stops-same g (u.layers_below b) (g.layer d).size (max (g.layer d).size size) (GivesPast (g.layer d).size) d;
    mutating_call = went_same g ⊤ (⊤ × u.coherent_below b) d;
  }

  pub grows-refused : (size : ℕ) (mode : PreallocateMode) (e : Fault) (d : D) (b : B) → Grows g u size mode (Err e) (d, b) (d, b)
  grows-refused size mode e d b = record {
    ok = λ well_formed see high. tt;
    err = λ well_formed see not_resource_error. record { keeps_layer_state = like-same g d; data_unchanged = λ p low. refl };
    crash_images = λ well_formed see. stops-same g (u.layers_below b) (g.layer d).size (max (g.layer d).size size) (GivesPast (g.layer d).size) d;
    mutating_call = went_same g (IsNotResourceError e) (IsNotResourceError e × u.coherent_below b) d;
  }

  -- The errors of a growth.
  pub growth-failed : (size : ℕ) (mode : PreallocateMode) (d : D) (b : B) → unusable_fault (g.layer d) ≡ Some Failed
      → GrowthRefused g u size mode (Err Failed) (d, b) (d, b)
  growth-failed size mode d b barred = record { failed = tt; marks_failed = tt; cause = λ well_formed see. inl barred }

  pub growth-idle : (size : ℕ) (mode : PreallocateMode) (d : D) (b : B) → GrowthRefused g u size mode (Ok tt) (d, b) (d, b)
  growth-idle size mode d b = record { failed = tt; marks_failed = tt; cause = λ well_formed see. tt }
