-- A write of whole units as a padded write of a part of them.
use Rattle.std.proofs.Common.{◌≡◌, refl, inl, inr, ⊎_elim, ℕ, ◌+◌, ◌-◌, ◌<◌, ◌≤◌, max, List, ◌++◌, length, get_or, arith, sym, ◌∙◌, ap, length-append}
use Rattle.std.proofs.lemmas.Bool.{cases_lt}
use Rattle.std.proofs.lemmas.List.{get_or_append_left, get_or-append_right}
use Rattle.imago_storage.specs.State.{StorageState}
use Rattle.imago_storage.specs.Calls.{Spliced, OldOrNewBytes}
use Rattle.imago_storage.specs.Through.{round_up, PaddedWrite, PaddedWriteFailed}
use Rattle.imago_storage.specs.Edges.{IsPaddedPart}
use Rattle.imago_storage.specs.declared.fault.Fault.{Fault}
use Rattle.imago_storage.proofs.Rounding.{round_up_whole}
use Rattle.imago_storage.proofs.Wholes.{round_up_is_whole}
use Rattle.imago_storage.proofs.Composing.{stops_weaker}

module _ (old : List ℕ) (at : ℕ) (bytes : List ℕ) (start : ℕ) (put : List ℕ) (pads : IsPaddedPart old at bytes start put) where
  pub spliced-narrow : (file : List ℕ) → Spliced old start put file → Spliced old at bytes file
  spliced-narrow file written = record {
    before = λ k lt. elim (cases_lt k start) [
      | inl below ↦ written.before k below
      | inr from ↦ written.inside k from (omega (arith, pads.high)) ∙ pads.before k from lt
    ];
    inside = λ k from to. written.inside k (omega (arith, pads.low)) (omega (arith, pads.high)) ∙ pads.inside k from to;
    after = λ k from. elim (cases_lt k (start + length put)) [
      | inl lt ↦ written.inside k (omega (arith, pads.low)) lt ∙ pads.after k from lt
      | inr past ↦ written.after k past
    ];
  }

  pub mixed-narrow : (file : List ℕ) → OldOrNewBytes old start put file → OldOrNewBytes old at bytes file
  mixed-narrow file written = record {
    before = λ k lt. elim (cases_lt k start) [
      | inl below ↦ written.before k below
      | inr from ↦ ⊎_elim (λ same. same) (λ new. new ∙ pads.before k from lt) (written.inside k from (omega (arith, pads.high)))
    ];
    inside = λ k from to. ⊎_elim (λ same. inl same) (λ new. inr (new ∙ pads.inside k from to)) (written.inside k (omega (arith, pads.low)) (omega (arith, pads.high)));
    after = λ k from. elim (cases_lt k (start + length put)) [
      | inl lt ↦ ⊎_elim (λ same. same) (λ new. new ∙ pads.after k from lt) (written.inside k (omega (arith, pads.low)) lt)
      | inr past ↦ written.after k past
    ];
  }

-- Derives a padded call from the whole units that it wrote.
module _ (unit : ℕ) (positive : 0 < unit) (a b : StorageState) (at : ℕ) (bytes : List ℕ) (start : ℕ) (put : List ℕ)
    (pads : IsPaddedPart a.bytes at bytes start put) (some : 0 < length bytes) (end : start + length put ≡ round_up unit (at + length bytes)) where
  end-same : round_up unit (start + length put) ≡ round_up unit (at + length bytes)
  end-same = ap (round_up unit) end ∙ round_up_whole unit (round_up unit (at + length bytes)) positive (round_up_is_whole unit (at + length bytes))

  pub through-narrow : PaddedWrite unit a b start put → PaddedWrite unit a b at bytes
  through-narrow through = record {
    shape = through.shape;
    faults = through.faults;
    refusals = through.refusals;
    nothing = λ none. absurd (omega (arith, some, none));
    content = λ keeps. spliced-narrow a.bytes at bytes start put pads b.bytes (through.content keeps);
    size = λ _. through.size (omega (arith, pads.low, pads.high, some)) ∙ ap (λ (n : ℕ). max (length a.bytes) n) end-same;
    crash_image_is_bytes = through.crash_image_is_bytes;
    crash_images = stops_weaker (OldOrNewBytes a.bytes start put) (OldOrNewBytes a.bytes at bytes) a b (λ _ f mixed. mixed-narrow a.bytes at bytes start put pads f mixed) through.crash_images;
    as_long = through.as_long;
  }

  pub halted-narrow : (fault : Fault) → PaddedWriteFailed unit a b start put fault → PaddedWriteFailed unit a b at bytes fault
  halted-narrow fault halted = record {
    shape = halted.shape;
    cause = halted.cause;
    refusals = halted.refusals;
    content = λ keeps. mixed-narrow a.bytes at bytes start put pads b.bytes (halted.content keeps);
    no_shorter = halted.no_shorter;
    no_longer = omega (arith, halted.no_longer, end-same);
    crash_images = stops_weaker (OldOrNewBytes a.bytes start put) (OldOrNewBytes a.bytes at bytes) a b (λ _ f mixed. mixed-narrow a.bytes at bytes start put pads f mixed) halted.crash_images;
    as_long = halted.as_long;
  }

-- A part without padding.
pub pads-self : (bytes : List ℕ) (at : ℕ) (xs : List ℕ) → IsPaddedPart bytes at xs at xs
pads-self bytes at xs = record {
  low = omega arith;
  high = omega arith;
  before = λ k from lt. absurd (omega arith);
  inside = λ k from to. refl;
  after = λ k from lt. absurd (omega arith);
}

module _ (bytes : List ℕ) (at : ℕ) (xs : List ℕ) (start : ℕ) (p ys q : List ℕ) (first : IsPaddedPart bytes at xs start p) where
  long : length (xs ++ ys) ≡ length xs + length ys
  long = length-append xs ys

  long-put : length (p ++ q) ≡ length p + length q
  long-put = length-append p q

  -- The bytes of the first part and those of the second.
  left : (k : ℕ) → start ≤ k → k < start + length p → get_or (p ++ q) (k - start) 0 ≡ get_or p (k - start) 0
  left k from lt = get_or_append_left p q 0 (k - start) (omega arith)

  right : (k : ℕ) → start + length p ≤ k → get_or (p ++ q) (k - start) 0 ≡ get_or q (k - (start + length p)) 0
  right k from = get_or-append_right p q (length p) (k - start) 0 refl (omega arith) ∙ ap (λ (j : ℕ). get_or q j 0) (let e : k - start - length p ≡ k - (start + length p) = omega arith in e)

  of-left : (k : ℕ) → at ≤ k → k < at + length xs → get_or xs (k - at) 0 ≡ get_or (xs ++ ys) (k - at) 0
  of-left k from lt = sym (get_or_append_left xs ys 0 (k - at) (omega arith))

  of-right : (k : ℕ) → at + length xs ≤ k → get_or ys (k - (at + length xs)) 0 ≡ get_or (xs ++ ys) (k - at) 0
  of-right k ge = ap (λ (j : ℕ). get_or ys j 0) (let e : k - (at + length xs) ≡ k - at - length xs = omega arith in e) ∙ sym (get_or-append_right xs ys (length xs) (k - at) 0 refl (omega arith))

  -- Two consecutive parts.
  pub pads-both : at + length xs ≡ start + length p → IsPaddedPart bytes (at + length xs) ys (start + length p) q → IsPaddedPart bytes at (xs ++ ys) start (p ++ q)
  pads-both joint second = record {
    low = first.low;
    high = omega (arith, long, long-put, second.high);
    before = λ k from lt. left k from (omega (arith, joint)) ∙ first.before k from lt;
    inside = λ k from to. elim (cases_lt k (at + length xs)) [
      | inl lt ↦ left k (omega (arith, first.low)) (omega (arith, joint)) ∙ (first.inside k from lt ∙ of-left k from lt)
      | inr ge ↦ right k (omega (arith, joint)) ∙ (second.inside k ge (omega (arith, long)) ∙ of-right k ge)
    ];
    after = λ k from lt. right k (omega (arith, joint, long)) ∙ second.after k (omega (arith, long)) (omega (arith, long-put));
  }

  -- The second part is empty.
  pub pads-alone : length ys ≡ 0 → length q ≡ 0 → IsPaddedPart bytes at (xs ++ ys) start (p ++ q)
  pads-alone none none-put = record {
    low = first.low;
    high = omega (arith, long, long-put, first.high, none);
    before = λ k from lt. left k from (omega (arith, first.high)) ∙ first.before k from lt;
    inside = λ k from to. left k (omega (arith, first.low)) (omega (arith, first.high, long, none)) ∙ (first.inside k from (omega (arith, long, none)) ∙ of-left k from (omega (arith, long, none)));
    after = λ k from lt. left k (omega (arith, first.low)) (omega (arith, long-put, none-put)) ∙ first.after k (omega (arith, long)) (omega (arith, long-put, none-put));
  }
