-- The effect of a storage's calls on the raw image over it.
use Rattle.std.proofs.Common.{◌≡◌, ◌⊎◌, refl, inl, inr, ⊎_elim, ℕ, ◌+◌, ◌-◌, ◌<◌, ◌≤◌, List, [], ◌∷◌, length, arith, sym, ◌∙◌, ap, subst}
use Rattle.std.specs.Prelude.{⊤, Bool, false, ◌&&◌, Some, None, Result, Ok, Err, OnOk, IfOk, IfErr, IsTrue, EachIndex, slice_index, replicate, if◌then◌else◌, ltb}
use Rattle.std.proofs.Math.Nat.{le_refl}
use Rattle.std.proofs.lemmas.List.{length-replicate, get_or-replicate}
use Rattle.std.proofs.lemmas.Bool.{cases_lt, lt-ltb}
use Rattle.imago_storage.specs.State.{Shape, StorageState, HasRisen, CrashImageIsBytes, unit_of}
use Rattle.imago_storage.specs.Passing.{UnrefusedCrashImages}
use Rattle.imago_storage.specs.Disk.{Value, byte}
use Rattle.imago_storage.specs.Steps.{IsIn, IsOut}
use Rattle.imago_storage.specs.Calls.{OldOrNewBytes, Resized, IsFaultless}
use Rattle.imago_storage.specs.Through.{EachCrashImage, CrashImagesNoShorter, WriteSucceeded, WriteFailed, HasWholeUnits, GivenUp, NotGivenUp, discard_unit, whole_start, whole_size}
use Rattle.imago_storage.specs.declared.fault.Fault.{Fault}
use Rattle.imago_storage.specs.declared.fault.Fault.TheVariants.{RangeOverflow, Unsupported, Memory, Storage}
use Rattle.imago_storage.proofs.Composing.{tells_on, keeps_on, no_stops, one_stop, stops_and, stops_weaker}
use Rattle.imago_storage.proofs.Rounding.{le_round_up}
use Rattle.imago_storage.proofs.Wholes.{round_down-le}
use Rattle.imago_access.specs.Files.{IsNotResourceError}
use Rattle.imago_access.specs.Layer.{Layer, own, unmapped, loose, KeepsLayerState}
use Rattle.imago_access.specs.Chain.{at, IsBacked}
use Rattle.imago_access.specs.Changes.{Rewrites, PartRewrites, ToZero, ToAny, ToBelow}
use Rattle.imago_access.specs.Stops.{Left, GivesZero, GivesAny, GivesBelow, GivesBytes}
use Rattle.imago_access.proofs.Stopping.{left_weaker, passes_weaker}
use Rattle.imago_formats.specs.RawLayer.{raw_fixed, raw_layer}
use Rattle.imago_formats.specs.Growing.{HasFirst, NotLengthened}
use Rattle.imago_formats.specs.RawHome.{never}

-- A storage with the same fixed properties.
pub raw_like : (old new : StorageState) (size : ℕ) (w : Bool) → new.shape ≡ old.shape → KeepsLayerState (raw_layer old size w) (raw_layer new size w)
raw_like old new size w shape = record { fixed = ap (λ (s : Shape). raw_fixed s w) shape; size = refl; unspent = refl; failed = λ f. f }

-- The clause on the crash images of a raw image's storage. The disk's size is at least `least` and at most `most` during the call.
abbrev pub RawStops : List Layer → ℕ → Bool → (least most : ℕ) → (ℕ → Value → Type 0) → StorageState → StorageState → Type 0
RawStops below size w least most gives old new = UnrefusedCrashImages (Left below (raw_layer old size w) old.bytes (λ kind file. ⊤) least most gives) old new

-- A crash image is long enough, and each byte below the disk's size is old or given by the call.
pub raw_left : (below : List Layer) (old : StorageState) (size : ℕ) (w : Bool) (least most : ℕ) (gives : ℕ → Value → Type 0) (f : List ℕ) → size ≤ length old.bytes → least ≤ length f
    → ((p : ℕ) → p < size → p < length f → (slice_index f p ≡ slice_index old.bytes p) ⊎ gives p (byte (slice_index f p))) → Left below (raw_layer old size w) old.bytes (λ kind file. ⊤) least most gives f
raw_left below old size w least most gives f fits long each = record {
  is_sound = tt;
  backed = refl;
  size = long;
  no_longer = never;
  shows = λ p inside in_disk.
      let old_inside : p < length old.bytes = omega (arith, in_disk, fits) in
      ⊎_elim
      (λ same. inl (rw (lt-ltb p (length f) inside, lt-ltb p (length old.bytes) old_inside) (ap byte same)))
      (λ gave. inr (inr (rw (lt-ltb p (length f) inside) gave)))
      (each p in_disk inside);
}

-- Equal bytes in a storage with the same fixed properties.
pub raw_same : (old new : StorageState) (size : ℕ) (w : Bool) → new.shape ≡ old.shape → new.bytes ≡ old.bytes → raw_layer new size w ≡ raw_layer old size w
raw_same old new size w shape bytes = λ i. record {
  fixed = raw_fixed (shape i) w;
  size = size;
  failed = false;
  cell = λ p. own (byte (slice_index (bytes i) p));
  writable_location = λ p. if ltb p size && w then Some (0, p) else None;
  held = λ p. loose;
  unspent = None;
}

-- A fact that always holds also holds on success.
pub on_ok_always : {T : Type 0} (result : Result T Fault) (P : Type 0) → P → OnOk result P
on_ok_always (Ok x) P holds = holds
on_ok_always (Err fault) P holds = tt

-- No layer below is visible through a raw image. If `below` backs it, `below` is empty and reads as 0.
pub backed_zero : (below : List Layer) (s : StorageState) (size : ℕ) (w : Bool) → IsBacked below (raw_layer s size w) → (p : ℕ) → at below p ≡ byte 0
backed_zero [] s size w backed p = refl
backed_zero (next ∷ below) s size w backed p = let is : own (byte 0) ≡ unmapped = backed in absurd (cc is)

pub backed_stops : (below : List Layer) (old new : StorageState) (size : ℕ) (w : Bool) (at n : ℕ) → IsBacked below (raw_layer old size w)
    → RawStops below size w size size (GivesZero at n) old new → RawStops below size w size size (GivesBelow below at n) old new
backed_stops below old new size w at n backed =
    let l = raw_layer old size w in
    passes_weaker (Left below l old.bytes (λ kind file. ⊤) size size (GivesZero at n)) (Left below l old.bytes (λ kind file. ⊤) size size (GivesBelow below at n)) old new
    (left_weaker below (λ kind file. ⊤) l old.bytes size size (GivesZero at n) (GivesBelow below at n) (λ p v inside gave. inr (inr (gave.0, gave.1 ∙ sym (backed_zero below old size w backed p)))))

-- A write that fails without a resource error has changed nothing.
pub unwritten_same : (old new : StorageState) (at : ℕ) (bytes : List ℕ) (fault : Fault) → WriteFailed old new at bytes fault → IsNotResourceError fault → new ≡ old
unwritten_same old new at bytes RangeOverflow h not_resource_error = h.1
unwritten_same old new at bytes Memory h not_resource_error = absurd not_resource_error
unwritten_same old new at bytes Storage h not_resource_error = absurd not_resource_error
unwritten_same old new at bytes _ h not_resource_error = absurd h.cause

pub ungiven_same : (old new : StorageState) (at n : ℕ) (fault : Fault) → NotGivenUp old new at n fault → IsNotResourceError fault → new ≡ old
ungiven_same old new at n RangeOverflow h not_resource_error = h.1
ungiven_same old new at n Memory h not_resource_error = absurd not_resource_error
ungiven_same old new at n Storage h not_resource_error = absurd not_resource_error
ungiven_same old new at n _ h not_resource_error = absurd h.1.refused.cause

pub ungrown_faultless : (old new : StorageState) (from : ℕ) (fault : Fault) → NotLengthened old new from fault → IsNotResourceError fault → IsFaultless old new
ungrown_faultless old new from Unsupported h not_resource_error = h.cause
ungrown_faultless old new from Memory h not_resource_error = absurd not_resource_error
ungrown_faultless old new from Storage h not_resource_error = absurd not_resource_error
ungrown_faultless old new from _ h not_resource_error = absurd h.cause

pub same_faultless : (old new : StorageState) → new ≡ old → IsFaultless old new
same_faultless old new same = (ap (λ (s : StorageState). s.faults) same, ap (λ (s : StorageState). s.refusals) same)

-- The storage gets no shorter.
pub unwritten_long : (old new : StorageState) (at : ℕ) (bytes : List ℕ) (fault : Fault) → WriteFailed old new at bytes fault → length old.bytes ≤ length new.bytes
unwritten_long old new at bytes RangeOverflow h = rw h.1 (le_refl _)
unwritten_long old new at bytes _ h = h.no_shorter

pub ungiven_long : (old new : StorageState) (at n : ℕ) (fault : Fault) → NotGivenUp old new at n fault → length new.bytes ≡ length old.bytes
ungiven_long old new at n RangeOverflow h = ap (λ (s : StorageState). length s.bytes) h.1
ungiven_long old new at n _ h = h.1.size

-- A zeroing is a discard to the layer below.
pub zeroed_below : (result : Result (ℕ × ℕ) Fault) (old new : Layer) → IfOk result (λ r. Rewrites ToZero old new r.0 r.1) → IfOk result (λ r. Rewrites (ToBelow (own (byte 0))) old new r.0 r.1)
zeroed_below (Ok r) old new h = record { keeps_layer_state = h.keeps_layer_state; range = λ p within. inr (h.range p within); others = h.others }
zeroed_below (Err fault) old new h = tt

pub partly_below : (result : Result (ℕ × ℕ) Fault) (old new : Layer) (at n : ℕ) → IfErr result (λ e. IsNotResourceError e → PartRewrites ToZero old new at n)
    → IfErr result (λ e. IsNotResourceError e → PartRewrites (ToBelow (own (byte 0))) old new at n)
partly_below (Ok r) old new at n h = tt
partly_below (Err fault) old new at n h = λ not_resource_error.
    let part = h not_resource_error in
    record {
      keeps_layer_state = part.keeps_layer_state;
      range = λ p within. ⊎_elim (λ same. inl same) (λ zero. inr (inr zero)) (part.range p within);
      others = part.others;
    }

unwritten_step : (old new : StorageState) (at : ℕ) (bytes : List ℕ) (fault : Fault) → WriteFailed old new at bytes fault → (HasRisen old.refusals new.refusals → ⊥) → CrashImageIsBytes old → CrashImageIsBytes new
unwritten_step old new at bytes RangeOverflow h no_change_refused = subst (λ (s : StorageState). CrashImageIsBytes old → CrashImageIsBytes s) (sym h.1) (λ same. same)
unwritten_step old new at bytes _ h no_change_refused = ⊎_elim (λ rose. absurd (no_change_refused rose)) (λ on. on) h.crash_image_is_bytes

-- A write of a range, in every case.
module _ {T : Type 0} (result : Result T Fault) (old new : StorageState) (at : ℕ) (bytes : List ℕ) (ok : OnOk result (WriteSucceeded old new at bytes)) (err : IfErr result (WriteFailed old new at bytes)) where
  pub written_step : (HasRisen old.refusals new.refusals → ⊥) → CrashImageIsBytes old → CrashImageIsBytes new
  written_step = from result ok err where
    from : (r : Result T Fault) → OnOk r (WriteSucceeded old new at bytes) → IfErr r (WriteFailed old new at bytes) → (HasRisen old.refusals new.refusals → ⊥) → CrashImageIsBytes old → CrashImageIsBytes new
    from (Ok x) done refused = λ no_change_refused. done.crash_image_is_bytes
    from (Err fault) done refused = unwritten_step old new at bytes fault refused

  pub written_stops : (below : List Layer) (size : ℕ) (w : Bool) (gives : ℕ → Value → Type 0) → size ≤ length old.bytes → EachCrashImage (OldOrNewBytes old.bytes at bytes) old new → CrashImagesNoShorter old new
      → ((f : List ℕ) → OldOrNewBytes old.bytes at bytes f → (p : ℕ) → p < size → (slice_index f p ≡ slice_index old.bytes p) ⊎ gives p (byte (slice_index f p)))
      → RawStops below size w size size gives old new
  written_stops below size w gives fits stops long each no_change_refused = (
    written_step no_change_refused,
    stops_weaker (λ f. OldOrNewBytes old.bytes at bytes f × (length old.bytes ≤ length f)) (Left below (raw_layer old size w) old.bytes (λ kind file. ⊤) size size gives) old new
        (λ keeps f both. raw_left below old size w size size gives f fits (omega (arith, fits, both.1)) (λ p lt inside. each f both.0 p lt))
        (stops_and (OldOrNewBytes old.bytes at bytes) (λ f. length old.bytes ≤ length f) old new stops long),
  )

-- An offset is inside a range or outside it.
in_or_out : (at n p : ℕ) → IsOut at n p ⊎ IsIn at n p
in_or_out at n p = elim (cases_lt p at) [
  | inl lt ↦ inl (inl lt)
  | inr from ↦ elim (cases_lt p (at + n)) [ inl to ↦ inr (from, to) | inr past ↦ inl (inr past) ]
]

-- Bytes of a range.

-- A byte of a file that has old or new bytes in the range.
pub mixed_place : (old : List ℕ) (at : ℕ) (bytes f : List ℕ) → OldOrNewBytes old at bytes f → (p : ℕ) → (slice_index f p ≡ slice_index old p) ⊎ (IsIn at (length bytes) p × (slice_index f p ≡ slice_index bytes (p - at)))
mixed_place old at bytes f mixed p = elim (cases_lt p at) [
  | inl lt ↦ inl (mixed.before p lt)
  | inr from ↦ elim (cases_lt p (at + length bytes)) [
    | inl to ↦ ⊎_elim (λ same. inl same) (λ new. inr ((from, to), new)) (mixed.inside p from to)
    | inr past ↦ inl (mixed.after p past)
  ]
]

pub mixed_bytes : (old : List ℕ) (at : ℕ) (bytes f : List ℕ) → OldOrNewBytes old at bytes f → (p : ℕ) → (slice_index f p ≡ slice_index old p) ⊎ GivesBytes at bytes p (byte (slice_index f p))
mixed_bytes old at bytes f mixed p =
    ⊎_elim (λ same. inl same) (λ new. inr (p - at, omega (arith, new.0.0, new.0.1), omega (arith, new.0.0), ap byte new.1)) (mixed_place old at bytes f mixed p)

pub mixed_zeroes : (old : List ℕ) (at n : ℕ) (f : List ℕ) → OldOrNewBytes old at (replicate n 0) f → (p : ℕ) → (slice_index f p ≡ slice_index old p) ⊎ GivesZero at n p (byte (slice_index f p))
mixed_zeroes old at n f mixed p =
    let long : length {A = ℕ} (replicate n 0) ≡ n = length-replicate n 0 in
    ⊎_elim
    (λ same. inl same)
    (λ new.
    let within : IsIn at n p = (new.0.0, omega (arith, new.0.1, long)) in
    inr (within, ap byte (new.1 ∙ get_or-replicate n (p - at) 0 0 (omega (arith, within.0, within.1)))))
    (mixed_place old at (replicate n 0) f mixed p)

-- Resizes.

-- A file with the first bytes of the disk.
first_left : (below : List Layer) (old : StorageState) (size from most : ℕ) (w : Bool) (gives : ℕ → Value → Type 0) (f : List ℕ) → size ≤ length old.bytes → HasFirst old.bytes from f
    → ((p : ℕ) → from ≤ p → p < size → p < length f → gives p (byte (slice_index f p))) → Left below (raw_layer old size w) old.bytes (λ kind file. ⊤) from most gives f
first_left below old size from most w gives f fits first past =
    raw_left below old size w from most gives f fits first.long
    (λ p lt inside. elim (cases_lt p from) [ inl below_it ↦ inl (first.same p below_it) | inr behind ↦ inr (past p behind lt inside) ])

-- The crash images of a shrink.
pub shrunk_stops : (below : List Layer) (old new : StorageState) (size to : ℕ) (w : Bool) (gives : ℕ → Value → Type 0) → size ≤ length old.bytes → Resized old new to
    → RawStops below size w to size gives old new
shrunk_stops below old new size to w gives fits resized no_change_refused = (
  resized.changed.crash_image_is_bytes,
  one_stop (Left below (raw_layer old size w) old.bytes (λ kind file. ⊤) to size gives) old new resized.changed.mark
      (λ step tells keeps.
      subst (Left below (raw_layer old size w) old.bytes (λ kind file. ⊤) to size gives)
      (sym (resized.changed.crash_image_is_bytes step (tells_on old new resized.changed.shape tells) (keeps_on old new resized.changed.shape keeps)))
      (first_left below old size to size w gives new.bytes fits (record { long = omega (arith, resized.size); same = resized.content keeps }) (λ p from lt inside. absurd (omega (arith, from, inside, resized.size))))),
)

-- Discards.
module _ (old new : StorageState) (size : ℕ) (w : Bool) (at n : ℕ) (positive : 0 < unit_of old.shape) (bytes : EachIndex new.bytes (λ k. slice_index new.bytes k < 256)) where
  whole_inside : HasWholeUnits (discard_unit old) at n → (at ≤ whole_start old at) × (whole_start old at + whole_size old at n ≤ at + n)
  whole_inside has = (le_round_up (discard_unit old) at (omega (arith, positive)), omega (arith, has, round_down-le (discard_unit old) (at + n)))

  -- Bytes outside the range are unchanged.
  given_outside : IsTrue old.shape.keeps → GivenUp old new at n → (p : ℕ) → IsOut at n p → slice_index new.bytes p ≡ slice_index old.bytes p
  given_outside keeps given p out = ⊎_elim
      (λ same. ap (λ (s : StorageState). slice_index s.bytes p) same)
      (λ done.
      let inside = whole_inside done.0 in
      let stays = done.1.content keeps in
      ⊎_elim (λ before. stays.before p (omega (arith, before, inside.0))) (λ after. stays.after p (omega (arith, after, inside.1))) out)
      given

  given_long : GivenUp old new at n → length new.bytes ≡ length old.bytes
  given_long given = ⊎_elim (λ same. ap (λ (s : StorageState). length s.bytes) same) (λ done. done.1.size) given

  given_shape : GivenUp old new at n → new.shape ≡ old.shape
  given_shape given = ⊎_elim (λ same. ap (λ (s : StorageState). s.shape) same) (λ done. done.1.changed.shape) given

  pub given_any : size ≤ length old.bytes → at + n ≤ size → IsTrue old.shape.keeps → GivenUp old new at n → Rewrites ToAny (raw_layer old size w) (raw_layer new size w) at n
  given_any fits inside keeps given = record {
    keeps_layer_state = raw_like old new size w (given_shape given);
    range = λ p within. inr (byte (slice_index new.bytes p), (slice_index new.bytes p, bytes p (omega (arith, within.1, inside, fits, given_long given)), refl), refl);
    others = λ p out. ap (λ (b : ℕ). own (byte b)) (given_outside keeps given p out);
  }

  pub given_stops : (below : List Layer) → size ≤ length old.bytes → GivenUp old new at n → RawStops below size w size size (GivesAny at n) old new
  given_stops below fits given no_change_refused =
      let P : List ℕ → Type 0 = Left below (raw_layer old size w) old.bytes (λ kind file. ⊤) size size (GivesAny at n) in
      ⊎_elim
      (λ same. (subst (λ (s : StorageState). CrashImageIsBytes old → CrashImageIsBytes s) (sym same) (λ step. step), no_stops P old new (ap (λ (s : StorageState). s.crash_image) same) (ap (λ (s : StorageState). s.past_crash_images) same)))
      (λ done. (
        done.1.changed.crash_image_is_bytes,
        one_stop P old new done.1.changed.mark
            (λ step tells keeps.
            subst P (sym (done.1.changed.crash_image_is_bytes step (tells_on old new done.1.changed.shape tells) (keeps_on old new done.1.changed.shape keeps)))
            (raw_left below old size w size size (GivesAny at n) new.bytes fits (omega (arith, fits, done.1.size))
            (λ p lt inside. ⊎_elim
            (λ out. inl (given_outside keeps given p out))
            (λ within. inr (within, (slice_index new.bytes p, bytes p inside, refl)))
            (in_or_out at n p)))),
      ))
      given
