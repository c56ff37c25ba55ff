-- Lemmas for the crates above: consecutive calls, and a file as a function of its offsets.
use Rattle.std.proofs.Common.{◌≡◌, ◌⊎◌, refl, inl, inr, ⊎_elim, ℕ, ◌+◌, ◌-◌, ◌≤◌, List, [], ◌∷◌, ◌++◌, length, get_or, arith, sym, ◌∙◌, ap, subst, append_assoc, length-append}
use Rattle.std.specs.Prelude.{All, IsTrue, Result, Ok, Err, OnOk, IsErrOf, slice_index, if◌then◌else◌, ◌&&◌, nat_le, nat_lt}
use Rattle.std.proofs.lemmas.Bool.{cases_eq, cases_lt}
use Rattle.std.proofs.lemmas.Bool.Decides.{nat_tests}
use Rattle.std.proofs.lemmas.List.{append_cancel_right, get_or_append_left, get_or-append_right, ext_get_or}
use Rattle.std.proofs.lemmas.List.Elements.{All-nil, All-cons, All-append, All-weaker}
use Rattle.std.proofs.Math.Path.{fun_ext}
use Rattle.imago_storage.specs.State.{Shape, StorageState, HasRisen, CrashImageIsBytes}
use Rattle.imago_storage.specs.Calls.{Spliced, OldOrNewBytes, Cause, CountsFaults, UnchangedButFaults, CountsNotFallen, RequestsOne, UnlessUnsupported}
use Rattle.imago_storage.specs.Through.{EachCrashImage, CrashImagesNoShorter, PaddedWrite}
use Rattle.imago_storage.specs.MemStorage.{mem_state}
use Rattle.imago_storage.specs.declared.memory.MemStorage.{MemStorage}
use Rattle.imago_storage.specs.declared.fault.Fault.{Fault}
use Rattle.imago_storage.specs.declared.fault.Fault.TheVariants.{Unsupported, Memory, Storage}

-- The fixed properties are unchanged.

pub tells_on : (old new : StorageState) → new.shape ≡ old.shape → IsTrue old.shape.tells → IsTrue new.shape.tells
tells_on old new shape tells = subst (λ (s : Shape). IsTrue s.tells) (sym shape) tells

pub keeps_on : (old new : StorageState) → new.shape ≡ old.shape → IsTrue old.shape.keeps → IsTrue new.shape.keeps
keeps_on old new shape keeps = subst (λ (s : Shape). IsTrue s.keeps) (sym shape) keeps

-- A call that changes nothing, with an equal fault count, leaves an equal state.
pub kept_same : (old new : StorageState) → UnchangedButFaults old new → new.faults ≡ old.faults → new ≡ old
kept_same old new kept faults = λ i. record {
  shape = kept.shape i;
  bytes = kept.bytes i;
  faults = faults i;
  refusals = kept.refusals i;
  crash_image = kept.crash_image i;
  past_crash_images = kept.past_crash_images i;
}

-- Crash images.

-- A call without a request has no new crash images.
pub no_stops : (P : List ℕ → Type 0) (old new : StorageState) → new.crash_image ≡ old.crash_image → new.past_crash_images ≡ old.past_crash_images → EachCrashImage P old new
no_stops P old new stop past in_step tells keeps = record { files = []; told = cc; each = All-nil P }

-- A call with one request has one new crash image.
pub one_stop : (P : List ℕ → Type 0) (old new : StorageState) → (IsTrue old.shape.tells → new.past_crash_images ≡ old.crash_image ∷ old.past_crash_images) → (CrashImageIsBytes old → IsTrue old.shape.tells → IsTrue old.shape.keeps → P new.crash_image) → EachCrashImage P old new
one_stop P old new mark here in_step tells keeps = record {
  files = new.crash_image ∷ [];
  told = let m = mark tells in cc;
  each = All-cons P new.crash_image [] (here in_step tells keeps) (All-nil P);
}

pub stops_weaker : (P Q : List ℕ → Type 0) (a b : StorageState) → (IsTrue a.shape.keeps → (f : List ℕ) → P f → Q f) → EachCrashImage P a b → EachCrashImage Q a b
stops_weaker P Q a b weaker stops same tells keeps =
    let told = stops same tells keeps in
    record { files = told.files; told = told.told; each = All-weaker P Q (weaker keeps) told.files told.each }

pub stops_and : (P Q : List ℕ → Type 0) (a b : StorageState) → EachCrashImage P a b → EachCrashImage Q a b → EachCrashImage (λ f. P f × Q f) a b
stops_and P Q a b first second same tells keeps =
    let one = first same tells keeps in
    let two = second same tells keeps in
    let files : two.files ≡ one.files = append_cancel_right two.files one.files (a.crash_image ∷ a.past_crash_images) (sym two.told ∙ one.told) in
    record {
      files = one.files;
      told = one.told;
      each = λ k d lt. (one.each k d lt, subst (All Q) files two.each k d lt);
    }

-- The crash images of two consecutive calls.
pub stops_both : (P Q R : List ℕ → Type 0) (a b c : StorageState) → b.shape ≡ a.shape → (CrashImageIsBytes a → CrashImageIsBytes b)
    → (IsTrue a.shape.keeps → (f : List ℕ) → P f → R f) → (IsTrue a.shape.keeps → (f : List ℕ) → Q f → R f) → EachCrashImage P a b → EachCrashImage Q b c → EachCrashImage R a c
stops_both P Q R a b c shape in_step weaker weaker' first second same tells keeps =
    let one = first same tells keeps in
    let two = second (in_step same) (tells_on a b shape tells) (keeps_on a b shape keeps) in
    record {
      files = two.files ++ one.files;
      told = two.told ∙ ap (λ (l : List (List ℕ)). two.files ++ l) one.told ∙ sym (append_assoc two.files one.files (a.crash_image ∷ a.past_crash_images));
      each = All-append R two.files one.files (All-weaker Q R (weaker' keeps) two.files two.each) (All-weaker P R (weaker keeps) one.files one.each);
    }

-- A request that doesn't shorten the file.
pub long_stop : (old new : StorageState) → (IsTrue old.shape.tells → new.past_crash_images ≡ old.crash_image ∷ old.past_crash_images) → new.shape ≡ old.shape → (CrashImageIsBytes old → CrashImageIsBytes new) → length old.bytes ≤ length new.bytes → CrashImagesNoShorter old new
long_stop old new mark shape in_step longer =
    one_stop (λ f. length old.bytes ≤ length f) old new mark
    (λ same tells keeps. subst (λ (f : List ℕ). length old.bytes ≤ length f) (sym (in_step same (tells_on old new shape tells) (keeps_on old new shape keeps))) longer)

-- Crash images of two consecutive calls that don't shorten the file.
pub as_long_both : (a b c : StorageState) → b.shape ≡ a.shape → (CrashImageIsBytes a → CrashImageIsBytes b) → length a.bytes ≤ length b.bytes → CrashImagesNoShorter a b → CrashImagesNoShorter b c → CrashImagesNoShorter a c
as_long_both a b c shape in_step longer first second =
    stops_both (λ f. length a.bytes ≤ length f) (λ f. length b.bytes ≤ length f) (λ f. length a.bytes ≤ length f) a b c shape in_step (λ _ f long. long) (λ _ f long. omega (arith, longer, long)) first second

-- A successful write doesn't shorten the file.
pub through_longer : (unit : ℕ) (a b : StorageState) (at : ℕ) (xs : List ℕ) → PaddedWrite unit a b at xs → length a.bytes ≤ length b.bytes
through_longer unit a b at xs through = elim (cases_eq (length xs) 0) [
  | inl none ↦ let stays = ap (λ (s : StorageState). length s.bytes) (through.nothing none) in omega arith
  | inr some ↦ omega (arith, through.size (omega arith))
]

-- Counts.

pub later_same : (s : StorageState) → CountsNotFallen s s
later_same s = record { faults = omega arith; refusals = omega arith }

pub later_both : (a b c : StorageState) → CountsNotFallen a b → CountsNotFallen b c → CountsNotFallen a c
later_both a b c first second = record { faults = omega (arith, first.faults, second.faults); refusals = omega (arith, first.refusals, second.refusals) }

-- A count that has risen isn't lowered by later calls.
pub rose_before : (a b c : ℕ) → HasRisen a b → b ≤ c → HasRisen a c
rose_before a b c rose later = record { not_fallen = omega (arith, rose.not_fallen); rose = λ fits. omega (arith, rose.rose (omega arith)) }

-- A count that rises in the second of two calls has risen.
pub rose_behind : (a b c : ℕ) → a ≤ b → HasRisen b c → HasRisen a c
rose_behind a b c later rose = record {
  not_fallen = omega (arith, rose.not_fallen);
  rose = λ fits. omega (arith, rose.rose fits);
}

-- The fault count hasn't fallen, whichever error was returned.
pub cause_later : (before after : ℕ) (fault : Fault) → Cause before after fault → before ≤ after
cause_later before after Memory cause = omega (arith, cause)
cause_later before after Storage cause = cause.not_fallen
cause_later before after _ cause = absurd cause

-- Errors.

-- The call was unsupported and changed nothing, or it failed with another fault.
pub unless_cases : (old new : StorageState) (P : Fault → Type 0) (fault : Fault) → UnlessUnsupported old new P fault → ((fault ≡ Unsupported) × (new ≡ old)) ⊎ P fault
unless_cases old new P Unsupported h = inl (refl, h)
unless_cases old new P _ h = inr h

-- Splices.

-- The fault isn't `Unsupported`.
pub otherwise-refused : (old new : StorageState) (P : Fault → Type 0) (fault : Fault) → (fault ≡ Unsupported → ⊥) → UnlessUnsupported old new P fault → P fault
otherwise-refused old new P fault other refused = elim (unless_cases old new P fault refused) [
  | inl unsupported ↦ absurd (other unsupported.0)
  | inr holds ↦ holds
]

-- Two splices of the same bytes with the same length are equal.
pub spliced_same : (old : List ℕ) (at : ℕ) (bytes a b : List ℕ) → Spliced old at bytes a → Spliced old at bytes b → length a ≡ length b → a ≡ b
spliced_same old at bytes a b first second long =
    ext_get_or 0 a b long (λ k lt. elim (cases_lt k at) [
      | inl below ↦ first.before k below ∙ sym (second.before k below)
      | inr from ↦ elim (cases_lt k (at + length bytes)) [
        | inl to ↦ first.inside k from to ∙ sym (second.inside k from to)
        | inr past ↦ first.after k past ∙ sym (second.after k past)
      ]
    ])

module _ (at : ℕ) (xs ys : List ℕ) where
  long : length (xs ++ ys) ≡ length xs + length ys
  long = length-append xs ys

  pub spliced_both : (a b c : List ℕ) → Spliced a at xs b → Spliced b (at + length xs) ys c → Spliced a at (xs ++ ys) c
  spliced_both a b c first second = record {
    before = λ k lt. second.before k (omega arith) ∙ first.before k lt;
    inside = λ k from to. elim (cases_lt k (at + length xs)) [
      | inl lt ↦ second.before k lt ∙ first.inside k from lt ∙ sym (get_or_append_left xs ys 0 (k - at) (omega arith))
      | inr ge ↦ second.inside k ge (omega (arith, long)) ∙ ap (λ (j : ℕ). get_or ys j 0) (omega arith) ∙ sym (get_or-append_right xs ys (length xs) (k - at) 0 refl (omega arith))
    ];
    after = λ k from. second.after k (omega (arith, long)) ∙ first.after k (omega (arith, long));
  }

  -- The first part is spliced, the second has old or new bytes.
  pub mixed_behind : (a b c : List ℕ) → Spliced a at xs b → OldOrNewBytes b (at + length xs) ys c → OldOrNewBytes a at (xs ++ ys) c
  mixed_behind a b c first second = record {
    before = λ k lt. second.before k (omega arith) ∙ first.before k lt;
    inside = λ k from to. elim (cases_lt k (at + length xs)) [
      | inl lt ↦ inr (second.before k lt ∙ first.inside k from lt ∙ sym (get_or_append_left xs ys 0 (k - at) (omega arith)))
      | inr ge ↦
          let there : get_or ys (k - (at + length xs)) 0 ≡ get_or (xs ++ ys) (k - at) 0 =
          ap (λ (j : ℕ). get_or ys j 0) (omega arith) ∙ sym (get_or-append_right xs ys (length xs) (k - at) 0 refl (omega arith)) in
          ⊎_elim (λ old. inl (old ∙ first.after k ge)) (λ new. inr (new ∙ there)) (second.inside k ge (omega (arith, long)))
    ];
    after = λ k from. second.after k (omega (arith, long)) ∙ first.after k (omega (arith, long));
  }

  -- The range may be extended past the written bytes.
  pub mixed_longer : (a b : List ℕ) → OldOrNewBytes a at xs b → OldOrNewBytes a at (xs ++ ys) b
  mixed_longer a b first = record {
    before = first.before;
    inside = λ k from to. elim (cases_lt k (at + length xs)) [
      | inl lt ↦ ⊎_elim (λ old. inl old) (λ new. inr (new ∙ sym (get_or_append_left xs ys 0 (k - at) (omega arith)))) (first.inside k from lt)
      | inr ge ↦ inl (first.after k ge)
    ];
    after = λ k from. first.after k (omega (arith, long));
  }

-- All bytes of the range are new.
pub spliced-mixed : (a : List ℕ) (at : ℕ) (xs b : List ℕ) → Spliced a at xs b → OldOrNewBytes a at xs b
spliced-mixed a at xs b spliced = record {
  before = spliced.before;
  inside = λ k from to. inr (spliced.inside k from to);
  after = spliced.after;
}

-- All bytes of the range are old.
pub same-mixed : (a : List ℕ) (at : ℕ) (xs b : List ℕ) → b ≡ a → OldOrNewBytes a at xs b
same-mixed a at xs b same = record {
  before = λ k lt. ap (λ (l : List ℕ). get_or l k 0) same;
  inside = λ k from to. inl (ap (λ (l : List ℕ). get_or l k 0) same);
  after = λ k from. ap (λ (l : List ℕ). get_or l k 0) same;
}

-- The byte at `p` after a splice.
pub spliced_at : (old : List ℕ) (at : ℕ) (bytes new : List ℕ) → Spliced old at bytes new
    → (p : ℕ) → slice_index new p ≡ (if nat_le at p && nat_lt p (at + length bytes) then slice_index bytes (p - at) else slice_index old p)
spliced_at old at bytes new spliced p = elim (cases_lt p at) [
  | inl below ↦ let same = spliced.before p below in grind (arith, nat_tests)
  | inr from ↦ elim (cases_lt p (at + length bytes)) [
    | inl to ↦ let same = spliced.inside p from to in grind (arith, nat_tests)
    | inr past ↦ let same = spliced.after p past in grind (arith, nat_tests)
  ]
]

-- A storage in memory.

-- The storage counts no fault, so by `stays_without_faults` none of its calls returns `Storage`.
pub memory_faults : (m : MemStorage) → (mem_state m).faults ≡ 0
unfolding mem_state
memory_faults m = refl
