-- Two parts of a padded call, the second after the first.
use Rattle.std.proofs.Common.{◌≡◌, ◌⊎◌, inl, inr, ⊎_elim, ℕ, ◌+◌, ◌<◌, ◌≤◌, max, List, ◌∷◌, ◌++◌, length, arith, sym, ◌∙◌, ap, subst, length-append}
use Rattle.std.specs.Prelude.{Result, Ok, Err, OnOk, IfErr, IsErrAnd, MatchResult}
use Rattle.std.proofs.lemmas.Result.{on_ok_weaker, IfErr-weaker, err_from_is_err_and}
use Rattle.std.proofs.lemmas.List.Elements.{All-weaker}
use Rattle.std.proofs.lemmas.Bool.{cases_eq}
use Rattle.imago_storage.specs.State.{StorageState, HasRisen, unit_of}
use Rattle.imago_storage.specs.Calls.{OldOrNewBytes, Cause, UnchangedButFaults, CountsNotFallen}
use Rattle.imago_storage.specs.Through.{round_up, EachCrashImage, CrashImagesNoShorter, PaddedWrite, PaddedWriteFailed, PaddedWriteRefused, OneRequest, NoRequest, UnlessOverflow, NotRead}
use Rattle.imago_storage.specs.declared.fault.Fault.TheVariants.{RangeOverflow}
use Rattle.imago_storage.specs.declared.fault.Fault.{Fault}
use Rattle.imago_storage.proofs.Rounding.{round_up-le}
use Rattle.imago_storage.proofs.Composing.{tells_on, keeps_on, no_stops, stops_both, as_long_both, through_longer, later_same, cause_later, spliced_both, mixed_behind, mixed_longer}

module _ (unit : ℕ) (positive : 0 < unit) (a b c : StorageState) (at : ℕ) (xs ys : List ℕ) where
  both : length (xs ++ ys) ≡ length xs + length ys
  both = length-append xs ys

  size_both : PaddedWrite unit a b at xs → PaddedWrite unit b c (at + length xs) ys → 0 < length (xs ++ ys) → length c.bytes ≡ max (length a.bytes) (round_up unit (at + length (xs ++ ys)))
  size_both first second some =
      let long = both in
      let up = round_up-le unit (at + length xs) (at + length xs + length ys) positive (omega arith) in
      let end : at + length xs + length ys ≡ at + length (xs ++ ys) = omega arith in
      let same = ap (λ (n : ℕ). round_up unit n) end in
      elim (cases_eq (length ys) 0) [
        | inl none ↦
            let stays = ap (λ (s : StorageState). length s.bytes) (second.nothing none) in
            let last : round_up unit (at + length xs) ≡ round_up unit (at + length (xs ++ ys)) = ap (λ (n : ℕ). round_up unit n) (omega arith) in
            stays ∙ first.size (omega arith) ∙ ap (λ (n : ℕ). max (length a.bytes) n) last
        | inr some_ys ↦ elim (cases_eq (length xs) 0) [
          | inl none ↦
              let stays = ap (λ (s : StorageState). length s.bytes) (first.nothing none) in
              second.size (omega arith) ∙ omega (arith, stays, same)
          | inr some_xs ↦ second.size (omega arith) ∙ omega (arith, first.size (omega arith), up, same)
        ]
      ]

  pub through_both : PaddedWrite unit a b at xs → PaddedWrite unit b c (at + length xs) ys → PaddedWrite unit a c at (xs ++ ys)
  through_both first second =
      let long = both in
      record {
        shape = second.shape ∙ first.shape;
        faults = second.faults ∙ first.faults;
        refusals = second.refusals ∙ first.refusals;
        nothing = λ none. second.nothing (omega arith) ∙ first.nothing (omega arith);
        content = λ keeps. spliced_both at xs ys a.bytes b.bytes c.bytes (first.content keeps) (second.content (keeps_on a b first.shape keeps));
        size = size_both first second;
        crash_image_is_bytes = λ same. second.crash_image_is_bytes (first.crash_image_is_bytes same);
        crash_images = stops_both (OldOrNewBytes a.bytes at xs) (OldOrNewBytes b.bytes (at + length xs) ys) (OldOrNewBytes a.bytes at (xs ++ ys)) a b c first.shape first.crash_image_is_bytes
            (λ _ f mixed. mixed_longer at xs ys a.bytes f mixed) (λ keeps f mixed. mixed_behind at xs ys a.bytes b.bytes f (first.content keeps) mixed) first.crash_images second.crash_images;
        as_long = as_long_both a b c first.shape first.crash_image_is_bytes (through_longer unit a b at xs first) first.as_long second.as_long;
      }

  -- The second part failed.
  pub not_behind : (fault : Fault) → PaddedWrite unit a b at xs → PaddedWriteFailed unit b c (at + length xs) ys fault → PaddedWriteFailed unit a c at (xs ++ ys) fault
  not_behind fault first second =
      let long = both in
      let up = round_up-le unit (at + length xs) (at + length xs + length ys) positive (omega arith) in
      let end : at + length xs + length ys ≡ at + length (xs ++ ys) = omega arith in
      let same = ap (λ (n : ℕ). round_up unit n) end in
      let size : length b.bytes ≤ max (length a.bytes) (round_up unit (at + length xs)) = elim (cases_eq (length xs) 0) [
        | inl none ↦ let stays = ap (λ (s : StorageState). length s.bytes) (first.nothing none) in omega arith
        | inr some ↦ omega (arith, first.size (omega arith))
      ] in
      let longer : length a.bytes ≤ length b.bytes = elim (cases_eq (length xs) 0) [
        | inl none ↦ let stays = ap (λ (s : StorageState). length s.bytes) (first.nothing none) in omega arith
        | inr some ↦ omega (arith, first.size (omega arith))
      ] in
      record {
        shape = second.shape ∙ first.shape;
        cause = subst (λ (n : ℕ). Cause n c.faults fault) first.faults second.cause;
        content = λ keeps. mixed_behind at xs ys a.bytes b.bytes c.bytes (first.content keeps) (second.content (keeps_on a b first.shape keeps));
        no_shorter = omega (arith, second.no_shorter);
        no_longer = omega (arith, second.no_longer);
        refusals = subst (λ (n : ℕ). HasRisen n c.refusals) first.refusals second.refusals;
        crash_images = stops_both (OldOrNewBytes a.bytes at xs) (OldOrNewBytes b.bytes (at + length xs) ys) (OldOrNewBytes a.bytes at (xs ++ ys)) a b c first.shape first.crash_image_is_bytes
            (λ _ f mixed. mixed_longer at xs ys a.bytes f mixed) (λ keeps f mixed. mixed_behind at xs ys a.bytes b.bytes f (first.content keeps) mixed) first.crash_images second.crash_images;
        as_long = as_long_both a b c first.shape first.crash_image_is_bytes (through_longer unit a b at xs first) first.as_long second.as_long;
      }

  pub none_behind : (fault : Fault) → length xs ≡ 0 → OneRequest unit a b at xs → NoRequest unit b c (at + length xs) ys fault → NoRequest unit a c at (xs ++ ys) fault
  none_behind fault none first second =
      let stays = first.through.nothing none in
      let long = both in
      record {
        nonempty = omega (arith, second.nonempty);
        halted = not_behind fault first.through second.halted;
        crash_image = second.crash_image ∙ ap (λ (s : StorageState). s.crash_image) stays;
        past_crash_images = second.past_crash_images ∙ ap (λ (s : StorageState). s.past_crash_images) stays;
      }

module _ (unit : ℕ) (positive : 0 < unit) (a b : StorageState) (at : ℕ) (xs ys : List ℕ) (fault : Fault) where
  -- The first part failed, and the rest was never written.
  pub not_longer : PaddedWriteFailed unit a b at xs fault → PaddedWriteFailed unit a b at (xs ++ ys) fault
  not_longer first =
      let long = length-append xs ys in
      let up = round_up-le unit (at + length xs) (at + length (xs ++ ys)) positive (omega arith) in
      record {
        shape = first.shape;
        cause = first.cause;
        content = λ keeps. mixed_longer at xs ys a.bytes b.bytes (first.content keeps);
        no_shorter = first.no_shorter;
        no_longer = omega (arith, first.no_longer);
        refusals = first.refusals;
        crash_images = λ same tells keeps. let told = first.crash_images same tells keeps in
            record { files = told.files; told = told.told; each = All-weaker (OldOrNewBytes a.bytes at xs) (OldOrNewBytes a.bytes at (xs ++ ys)) (λ f mixed. mixed_longer at xs ys a.bytes f mixed) told.files told.each };
        as_long = first.as_long;
      }

-- Three parts.
module _ (unit : ℕ) (positive : 0 < unit) (a b c d : StorageState) (at : ℕ) (head mid tail : List ℕ) where
  third : (T : ℕ → Type 0) → T (at + length head + length mid) → T (at + length (head ++ mid))
  third T h = let e : at + length head + length mid ≡ at + length (head ++ mid) = omega (arith, length-append head mid) in subst T e h

  pub parts_through : OneRequest unit a b at head → OneRequest unit b c (at + length head) mid → OneRequest unit c d (at + length head + length mid) tail → PaddedWrite unit a d at (head ++ mid ++ tail)
  parts_through one two three =
      through_both unit positive a c d at (head ++ mid) tail (through_both unit positive a b c at head mid one.through two.through)
      (third (λ (n : ℕ). PaddedWrite unit c d n tail) three.through)

  pub parts_not : (fault : Fault) → OneRequest unit a b at head → OneRequest unit b c (at + length head) mid → NoRequest unit c d (at + length head + length mid) tail fault → PaddedWriteFailed unit a d at (head ++ mid ++ tail) fault
  parts_not fault one two three =
      not_behind unit positive a c d at (head ++ mid) tail fault (through_both unit positive a b c at head mid one.through two.through)
      (third (λ (n : ℕ). PaddedWriteFailed unit c d n tail fault) three.halted)

  pub mid_not : (fault : Fault) → OneRequest unit a b at head → NoRequest unit b c (at + length head) mid fault → PaddedWriteFailed unit a c at (head ++ mid ++ tail) fault
  mid_not fault one two =
      not_longer unit positive a c at (head ++ mid) tail fault (not_behind unit positive a b c at head mid fault one.through two.halted)

  pub head_not : (fault : Fault) → NoRequest unit a b at head fault → PaddedWriteFailed unit a b at (head ++ mid ++ tail) fault
  head_not fault one =
      not_longer unit positive a b at (head ++ mid) tail fault (not_longer unit positive a b at head mid fault one.halted)

-- The error that `?` returns.
pub passed : {T : Type 0} (result : Result T Fault) (Q : Fault → Type 0) (fault : Fault) → IsErrAnd result (λ e. e ≡ fault) → Q fault → IfErr result Q
passed result Q fault is_err holds = let p = err_from_is_err_and result is_err in subst (λ r. IfErr r Q) (sym p.1) (subst Q (sym p.2) holds)

-- The error after `map_err`.
pub mapped : {T E F : Type 0} (was : Result T E) (result : Result T F) (f : E → F) (P : T → Type 0) (Q : E → Type 0) (R : F → Type 0)
    → MatchResult was (λ x. result ≡ Ok x) (λ e. IsErrAnd result (λ y. y ≡ f e)) → ((e : E) → Q e → R (f e)) → MatchResult was P Q → MatchResult result P R
mapped (Ok x) result f P Q R is give holds = subst (λ r. MatchResult r P R) (sym is) holds
mapped (Err e) result f P Q R is give holds =
    let p = err_from_is_err_and result is in subst (λ r. MatchResult r P R) (sym p.1) (subst R (sym p.2) (give e holds))

-- Three parts, each with the unit of the storage's state after the part before it.
module _ (unit : ℕ) (positive : 0 < unit) (a b c d : StorageState) (same : unit ≡ unit_of a.shape) (at : ℕ) (head mid tail : List ℕ) where
  first-of : OneRequest (unit_of a.shape) a b at head → OneRequest unit a b at head
  first-of one = subst (λ (u : ℕ). OneRequest u a b at head) (sym same) one

  second-unit : OneRequest (unit_of a.shape) a b at head → unit_of b.shape ≡ unit
  second-unit one = ap unit_of one.through.shape ∙ sym same

  third-unit : OneRequest (unit_of a.shape) a b at head → OneRequest (unit_of b.shape) b c (at + length head) mid → unit_of c.shape ≡ unit
  third-unit one two = ap unit_of two.through.shape ∙ second-unit one

  second-of : OneRequest (unit_of a.shape) a b at head → OneRequest (unit_of b.shape) b c (at + length head) mid → OneRequest unit b c (at + length head) mid
  second-of one two = subst (λ (u : ℕ). OneRequest u b c (at + length head) mid) (second-unit one) two

  pub parts_ok : {T : Type 0} (result : Result T Fault) → OneRequest (unit_of a.shape) a b at head → OneRequest (unit_of b.shape) b c (at + length head) mid → OnOk result (OneRequest (unit_of c.shape) c d (at + length head + length mid) tail) → OnOk result (PaddedWrite unit a d at (head ++ mid ++ tail))
  parts_ok result one two three =
      on_ok_weaker result (λ third. parts_through unit positive a b c d at head mid tail (first-of one) (second-of one two) third)
      (subst (λ (u : ℕ). OnOk result (OneRequest u c d (at + length head + length mid) tail)) (third-unit one two) three)

  pub parts_err : {T : Type 0} (result : Result T Fault) → OneRequest (unit_of a.shape) a b at head → OneRequest (unit_of b.shape) b c (at + length head) mid → IfErr result (NoRequest (unit_of c.shape) c d (at + length head + length mid) tail) → IfErr result (PaddedWriteFailed unit a d at (head ++ mid ++ tail))
  parts_err result one two three =
      IfErr-weaker result (NoRequest unit c d (at + length head + length mid) tail) (PaddedWriteFailed unit a d at (head ++ mid ++ tail))
      (λ fault third. parts_not unit positive a b c d at head mid tail fault (first-of one) (second-of one two) third)
      (subst (λ (u : ℕ). IfErr result (NoRequest u c d (at + length head + length mid) tail)) (third-unit one two) three)

  pub mid_err : {T : Type 0} (result : Result T Fault) (fault : Fault) → IsErrAnd result (λ e. e ≡ fault) → OneRequest (unit_of a.shape) a b at head → NoRequest (unit_of b.shape) b c (at + length head) mid fault → IfErr result (PaddedWriteFailed unit a c at (head ++ mid ++ tail))
  mid_err result fault is_err one two =
      passed result (PaddedWriteFailed unit a c at (head ++ mid ++ tail)) fault is_err
      (mid_not unit positive a b c d at head mid tail fault (first-of one) (subst (λ (u : ℕ). NoRequest u b c (at + length head) mid fault) (second-unit one) two))

  pub head_err : {T : Type 0} (result : Result T Fault) (fault : Fault) → IsErrAnd result (λ e. e ≡ fault) → NoRequest (unit_of a.shape) a b at head fault → IfErr result (PaddedWriteFailed unit a b at (head ++ mid ++ tail))
  head_err result fault is_err one =
      passed result (PaddedWriteFailed unit a b at (head ++ mid ++ tail)) fault is_err
      (head_not unit positive a b c d at head mid tail fault (subst (λ (u : ℕ). NoRequest u a b at head fault) (sym same) one))

-- The crash images of a call, in every case.
refused_stops : (unit : ℕ) (a b : StorageState) (at : ℕ) (xs : List ℕ) (P : Type 0) (fault : Fault) → UnlessOverflow P a b (PaddedWriteRefused unit a b at xs) fault → EachCrashImage (OldOrNewBytes a.bytes at xs) a b
refused_stops unit a b at xs P RangeOverflow h = no_stops (OldOrNewBytes a.bytes at xs) a b (ap (λ (s : StorageState). s.crash_image) h.1) (ap (λ (s : StorageState). s.past_crash_images) h.1)
refused_stops unit a b at xs P _ h = h.crash_images

pub stops_of : {T : Type 0} (unit : ℕ) (a b : StorageState) (at : ℕ) (xs : List ℕ) (P : Type 0) (result : Result T Fault) → OnOk result (PaddedWrite unit a b at xs) → IfErr result (UnlessOverflow P a b (PaddedWriteRefused unit a b at xs)) → EachCrashImage (OldOrNewBytes a.bytes at xs) a b
stops_of unit a b at xs P (Ok x) ok err = ok.crash_images
stops_of unit a b at xs P (Err fault) ok err = refused_stops unit a b at xs P fault err

refused_long : (unit : ℕ) (a b : StorageState) (at : ℕ) (xs : List ℕ) (P : Type 0) (fault : Fault) → UnlessOverflow P a b (PaddedWriteRefused unit a b at xs) fault → CrashImagesNoShorter a b
refused_long unit a b at xs P RangeOverflow h = no_stops (λ f. length a.bytes ≤ length f) a b (ap (λ (s : StorageState). s.crash_image) h.1) (ap (λ (s : StorageState). s.past_crash_images) h.1)
refused_long unit a b at xs P _ h = h.as_long

pub as_long_of : {T : Type 0} (unit : ℕ) (a b : StorageState) (at : ℕ) (xs : List ℕ) (P : Type 0) (result : Result T Fault) → OnOk result (PaddedWrite unit a b at xs) → IfErr result (UnlessOverflow P a b (PaddedWriteRefused unit a b at xs)) → CrashImagesNoShorter a b
as_long_of unit a b at xs P (Ok x) ok err = ok.as_long
as_long_of unit a b at xs P (Err fault) ok err = refused_long unit a b at xs P fault err

-- The fixed properties and the counts after a call, in every case.
refused_shape : (unit : ℕ) (a b : StorageState) (at : ℕ) (xs : List ℕ) (P : Type 0) (fault : Fault) → UnlessOverflow P a b (PaddedWriteRefused unit a b at xs) fault → b.shape ≡ a.shape
refused_shape unit a b at xs P RangeOverflow h = ap (λ (s : StorageState). s.shape) h.1
refused_shape unit a b at xs P _ h = h.shape

pub shape_of : {T : Type 0} (unit : ℕ) (a b : StorageState) (at : ℕ) (xs : List ℕ) (P : Type 0) (result : Result T Fault) → OnOk result (PaddedWrite unit a b at xs) → IfErr result (UnlessOverflow P a b (PaddedWriteRefused unit a b at xs)) → b.shape ≡ a.shape
shape_of unit a b at xs P (Ok x) ok err = ok.shape
shape_of unit a b at xs P (Err fault) ok err = refused_shape unit a b at xs P fault err

refused_later : (unit : ℕ) (a b : StorageState) (at : ℕ) (xs : List ℕ) (P : Type 0) (fault : Fault) → UnlessOverflow P a b (PaddedWriteRefused unit a b at xs) fault → CountsNotFallen a b
refused_later unit a b at xs P RangeOverflow h = subst (λ (s : StorageState). CountsNotFallen a s) (sym h.1) (later_same a)
refused_later unit a b at xs P fault h = record { faults = cause_later a.faults b.faults fault h.cause; refusals = h.counts_not_fallen }

pub later_of : {T : Type 0} (unit : ℕ) (a b : StorageState) (at : ℕ) (xs : List ℕ) (P : Type 0) (result : Result T Fault) → OnOk result (PaddedWrite unit a b at xs) → IfErr result (UnlessOverflow P a b (PaddedWriteRefused unit a b at xs)) → CountsNotFallen a b
later_of unit a b at xs P (Ok x) ok err = record { faults = omega (arith, ok.faults); refusals = omega (arith, ok.refusals) }
later_of unit a b at xs P (Err fault) ok err = refused_later unit a b at xs P fault err

-- The fault count after a read, in every case.
not_read_later : (old new : StorageState) (at n : ℕ) (fault : Fault) → NotRead old new at n fault → old.faults ≤ new.faults
not_read_later old new at n RangeOverflow h = omega (arith, ap (λ (s : StorageState). s.faults) h.1)
not_read_later old new at n fault h = cause_later old.faults new.faults fault h

pub read_later : {T : Type 0} (old new : StorageState) (at n : ℕ) (result : Result T Fault) → UnchangedButFaults old new → OnOk result (new.faults ≡ old.faults) → IfErr result (NotRead old new at n) → CountsNotFallen old new
read_later old new at n (Ok x) kept ok err = record { faults = omega (arith, ok); refusals = omega (arith, kept.refusals) }
read_later old new at n (Err fault) kept ok err = record { faults = not_read_later old new at n fault err; refusals = omega (arith, kept.refusals) }
