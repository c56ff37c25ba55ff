-- Two parts of a padded call. The second part is written first.
use Rattle.std.proofs.Common.{◌≡◌, refl, inl, inr, ⊎_elim, ℕ, ◌+◌, ◌-◌, ◌<◌, ◌≤◌, max, List, ◌++◌, length, get_or, arith, sym, ◌∙◌, ap, subst, length-append}
use Rattle.std.proofs.lemmas.List.{get_or_append_left, get_or-append_right}
use Rattle.std.proofs.lemmas.List.Elements.{All-weaker}
use Rattle.std.proofs.lemmas.Bool.{cases_eq, cases_lt}
use Rattle.imago_storage.specs.State.{StorageState, HasRisen}
use Rattle.imago_storage.specs.Calls.{Spliced, OldOrNewBytes, Cause}
use Rattle.imago_storage.specs.Through.{round_up, PaddedWrite, PaddedWriteFailed}
use Rattle.imago_storage.specs.declared.fault.Fault.{Fault}
use Rattle.imago_storage.proofs.Rounding.{round_up-le}
use Rattle.imago_storage.proofs.Composing.{keeps_on, stops_both, as_long_both, through_longer}

module _ (at : ℕ) (xs ys : List ℕ) where
  long : length (xs ++ ys) ≡ length xs + length ys
  long = length-append xs ys

  -- A byte of the first part.
  left : (k : ℕ) → k < at + length xs → at ≤ k → get_or xs (k - at) 0 ≡ get_or (xs ++ ys) (k - at) 0
  left k lt from = sym (get_or_append_left xs ys 0 (k - at) (omega arith))

  -- A byte of the second part.
  right : (k : ℕ) → at + length xs ≤ k → get_or ys (k - (at + length xs)) 0 ≡ get_or (xs ++ ys) (k - at) 0
  right k ge = ap (λ (j : ℕ). get_or ys j 0) (let e : k - (at + length xs) ≡ k - at - length xs = omega arith in e) ∙ sym (get_or-append_right xs ys (length xs) (k - at) 0 refl (omega arith))

  pub spliced_front : (a b c : List ℕ) → Spliced a (at + length xs) ys b → Spliced b at xs c → Spliced a at (xs ++ ys) c
  spliced_front a b c first second = record {
    before = λ k lt. second.before k lt ∙ first.before k (omega arith);
    inside = λ k from to. elim (cases_lt k (at + length xs)) [
      | inl lt ↦ second.inside k from lt ∙ left k lt from
      | inr ge ↦ second.after k ge ∙ (first.inside k ge (omega (arith, long)) ∙ right k ge)
    ];
    after = λ k from. second.after k (omega (arith, long)) ∙ first.after k (omega (arith, long));
  }

  -- The second part is spliced, the first has old or new bytes.
  pub mixed_front : (a b c : List ℕ) → Spliced a (at + length xs) ys b → OldOrNewBytes b at xs c → OldOrNewBytes a at (xs ++ ys) c
  mixed_front a b c first second = record {
    before = λ k lt. second.before k lt ∙ first.before k (omega arith);
    inside = λ k from to. elim (cases_lt k (at + length xs)) [
      | inl lt ↦ ⊎_elim (λ old. inl (old ∙ first.before k lt)) (λ new. inr (new ∙ left k lt from)) (second.inside k from lt)
      | inr ge ↦ inr (second.after k ge ∙ (first.inside k ge (omega (arith, long)) ∙ right k ge))
    ];
    after = λ k from. second.after k (omega (arith, long)) ∙ first.after k (omega (arith, long));
  }

  -- The range may begin before the written bytes.
  pub mixed_before : (a b : List ℕ) → OldOrNewBytes a (at + length xs) ys b → OldOrNewBytes a at (xs ++ ys) b
  mixed_before a b first = record {
    before = λ k lt. first.before k (omega arith);
    inside = λ k from to. elim (cases_lt k (at + length xs)) [
      | inl lt ↦ inl (first.before k lt)
      | inr ge ↦ ⊎_elim (λ old. inl old) (λ new. inr (new ∙ right k ge)) (first.inside k ge (omega (arith, long)))
    ];
    after = λ k from. first.after k (omega (arith, long));
  }

module _ (unit : ℕ) (positive : 0 < unit) (a b c : StorageState) (at : ℕ) (xs ys : List ℕ) where
  both : length (xs ++ ys) ≡ length xs + length ys
  both = length-append xs ys

  -- The end of the first part is inside the padded range.
  inner : round_up unit (at + length xs) ≤ round_up unit (at + length (xs ++ ys))
  inner = round_up-le unit (at + length xs) (at + length (xs ++ ys)) positive (omega (arith, both))

  same-end : round_up unit (at + length xs + length ys) ≡ round_up unit (at + length (xs ++ ys))
  same-end = ap (round_up unit) (let e : at + length xs + length ys ≡ at + length (xs ++ ys) = omega (arith, both) in e)

  size_front : PaddedWrite unit a b (at + length xs) ys → PaddedWrite unit b c at xs → 0 < length (xs ++ ys) → length c.bytes ≡ max (length a.bytes) (round_up unit (at + length (xs ++ ys)))
  size_front first second some = elim (cases_eq (length xs) 0) [
    | inl none ↦
        let stays = ap (λ (s : StorageState). length s.bytes) (second.nothing none) in
        stays ∙ (first.size (omega (arith, both)) ∙ ap (λ (n : ℕ). max (length a.bytes) n) same-end)
    | inr some_xs ↦ elim (cases_eq (length ys) 0) [
      | inl none ↦
          let stays = ap (λ (s : StorageState). length s.bytes) (first.nothing none) in
          let last : round_up unit (at + length xs) ≡ round_up unit (at + length (xs ++ ys)) = ap (round_up unit) (let e : at + length xs ≡ at + length (xs ++ ys) = omega (arith, both) in e) in
          second.size (omega arith) ∙ omega (arith, stays, last)
      | inr some_ys ↦ second.size (omega arith) ∙ omega (arith, first.size (omega arith), inner, same-end)
    ]
  ]

  pub through_front : PaddedWrite unit a b (at + length xs) ys → PaddedWrite unit b c at xs → PaddedWrite unit a c at (xs ++ ys)
  through_front first second = record {
    shape = second.shape ∙ first.shape;
    faults = second.faults ∙ first.faults;
    refusals = second.refusals ∙ first.refusals;
    nothing = λ none. second.nothing (omega (arith, both)) ∙ first.nothing (omega (arith, both));
    content = λ keeps. spliced_front at xs ys a.bytes b.bytes c.bytes (first.content keeps) (second.content (keeps_on a b first.shape keeps));
    size = size_front first second;
    crash_image_is_bytes = λ same. second.crash_image_is_bytes (first.crash_image_is_bytes same);
    crash_images = stops_both (OldOrNewBytes a.bytes (at + length xs) ys) (OldOrNewBytes b.bytes at xs) (OldOrNewBytes a.bytes at (xs ++ ys)) a b c first.shape first.crash_image_is_bytes
        (λ _ f mixed. mixed_before at xs ys a.bytes f mixed) (λ keeps f mixed. mixed_front at xs ys a.bytes b.bytes f (first.content keeps) mixed) first.crash_images second.crash_images;
    as_long = as_long_both a b c first.shape first.crash_image_is_bytes (through_longer unit a b (at + length xs) ys first) first.as_long second.as_long;
  }

  -- The first part failed.
  pub not_front : (fault : Fault) → PaddedWrite unit a b (at + length xs) ys → PaddedWriteFailed unit b c at xs fault → PaddedWriteFailed unit a c at (xs ++ ys) fault
  not_front fault first second =
      let size : length b.bytes ≤ max (length a.bytes) (round_up unit (at + length xs + length ys)) = elim (cases_eq (length ys) 0) [
        | inl none ↦ let stays = ap (λ (s : StorageState). length s.bytes) (first.nothing none) in omega arith
        | inr some ↦ omega (arith, first.size (omega arith))
      ] in
      let longer : length a.bytes ≤ length b.bytes = elim (cases_eq (length ys) 0) [
        | inl none ↦ let stays = ap (λ (s : StorageState). length s.bytes) (first.nothing none) in omega arith
        | inr some ↦ omega (arith, first.size (omega arith))
      ] in
      record {
        shape = second.shape ∙ first.shape;
        cause = subst (λ (n : ℕ). Cause n c.faults fault) first.faults second.cause;
        content = λ keeps. mixed_front at xs ys a.bytes b.bytes c.bytes (first.content keeps) (second.content (keeps_on a b first.shape keeps));
        no_shorter = omega (arith, longer, second.no_shorter);
        no_longer = omega (arith, size, second.no_longer, inner, same-end);
        refusals = subst (λ (n : ℕ). HasRisen n c.refusals) first.refusals second.refusals;
        crash_images = stops_both (OldOrNewBytes a.bytes (at + length xs) ys) (OldOrNewBytes b.bytes at xs) (OldOrNewBytes a.bytes at (xs ++ ys)) a b c first.shape first.crash_image_is_bytes
            (λ _ f mixed. mixed_before at xs ys a.bytes f mixed) (λ keeps f mixed. mixed_front at xs ys a.bytes b.bytes f (first.content keeps) mixed) first.crash_images second.crash_images;
        as_long = as_long_both a b c first.shape first.crash_image_is_bytes longer first.as_long second.as_long;
      }

module _ (unit : ℕ) (a b : StorageState) (at : ℕ) (xs ys : List ℕ) (fault : Fault) where
  -- The second part failed, and the first was never written.
  pub not_before : PaddedWriteFailed unit a b (at + length xs) ys fault → PaddedWriteFailed unit a b at (xs ++ ys) fault
  not_before first =
      let end : round_up unit (at + length xs + length ys) ≡ round_up unit (at + length (xs ++ ys)) = ap (round_up unit) (let e : at + length xs + length ys ≡ at + length (xs ++ ys) = omega (arith, length-append xs ys) in e) in
      record {
        shape = first.shape;
        cause = first.cause;
        content = λ keeps. mixed_before at xs ys a.bytes b.bytes (first.content keeps);
        no_shorter = first.no_shorter;
        no_longer = omega (arith, first.no_longer, end);
        refusals = first.refusals;
        crash_images = λ same tells keeps. let told = first.crash_images same tells keeps in
            record { files = told.files; told = told.told; each = All-weaker (OldOrNewBytes a.bytes (at + length xs) ys) (OldOrNewBytes a.bytes at (xs ++ ys)) (λ f mixed. mixed_before at xs ys a.bytes f mixed) told.files told.each };
        as_long = first.as_long;
      }
