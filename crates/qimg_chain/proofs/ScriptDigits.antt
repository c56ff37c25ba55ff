-- Bytes as digits, pair by pair.
use Rattle.std.proofs.Common.{◌≡◌, ℕ, ◌+◌, ◌-◌, ◌*◌, ◌%◌, ◌<◌, ◌≤◌, ◌++◌, inl, inr, Bool, true, false, Option, Some, None, Ok, Err, List, length, drop, take, slice_index, slice_set, MatchOption, refl, sym, ap, ◌∙◌, arith}
use Rattle.std.specs.Prelude.{◌&&◌, nat_lt}
use Rattle.std.specs.Result.{result_ok}
use Rattle.std.proofs.lemmas.List.{drop-drop, drop_at, get_or-drop, get_or_append_left, length-append, length-drop}
use Rattle.std.proofs.lemmas.Bool.{cases_lt, and_parts, ltb-true, lt-ltb}
use Rattle.hex.specs.Hex.{decode_pairs, digit_or_error, hex_digit_value, pair_value, value_at}
use Rattle.hex.specs.declared.error.FromHexError.{FromHexError}
use Rattle.hex.specs.declared.error.FromHexError.TheVariants.{InvalidHexCharacter}
use Rattle.hex.proofs.Pairs.{decode_err, decode_step, prepend}

-- The pairs before this one are decoded.
abbrev pub AreDecoded : List ℕ → List ℕ → ℕ → Type 0
AreDecoded word out i = decode_pairs 0 word ≡ prepend (take i out) (decode_pairs (2 * i) (drop (2 * i) word))

-- The value that a digit is read as.
abbrev pub IsReadAs : ℕ → ℕ → Type 0
IsReadAs digit value = MatchOption (hex_digit_value digit) (16 ≤ value) (λ v. value ≡ v)

a-digit : (o : Option ℕ) (v : ℕ) → MatchOption o (16 ≤ v) (λ w. v ≡ w) → v < 16 → o ≡ Some v
a-digit (Some w) v is small = ap Some (sym is)
a-digit None v is small = absurd (omega (arith, is, small))

value-small : (c v : ℕ) → hex_digit_value c ≡ Some v → v < 16
value-small c v is = grind arith

no-digit : (c : ℕ) (o : Option ℕ) (v : ℕ) → hex_digit_value c ≡ o → MatchOption o (16 ≤ v) (λ w. v ≡ w) → 16 ≤ v → o ≡ None
no-digit c (Some w) v found is great = absurd (omega (arith, is, great, value-small c w found))
no-digit c None v found is great = refl

module _ (a b i high low : ℕ) (first : IsReadAs a high) (second : IsReadAs b low) where
  pair-read : high < 16 → low < 16 → pair_value a b i ≡ Ok (high % 16 * 16 + low % 16)
  pair-read small small-2 =
      let one : value_at a i ≡ Ok high = ap (digit_or_error a i) (a-digit (hex_digit_value a) high first small) in
      let two : value_at b (i + 1) ≡ Ok low = ap (digit_or_error b (i + 1)) (a-digit (hex_digit_value b) low second small-2) in
      let whole : high * 16 + low ≡ high % 16 * 16 + low % 16 = omega arith in
      rw (one, two) (ap Ok whole)

  high-refused : 16 ≤ high → pair_value a b i ≡ Err (InvalidHexCharacter a i)
  high-refused great =
      let one : value_at a i ≡ Err (InvalidHexCharacter a i) = ap (digit_or_error a i) (no-digit a (hex_digit_value a) high refl first great) in
      rw one refl

  low-refused : high < 16 → 16 ≤ low → pair_value a b i ≡ Err (InvalidHexCharacter b (i + 1))
  low-refused small great =
      let one : value_at a i ≡ Ok high = ap (digit_or_error a i) (a-digit (hex_digit_value a) high first small) in
      let two : value_at b (i + 1) ≡ Err (InvalidHexCharacter b (i + 1)) = ap (digit_or_error b (i + 1)) (no-digit b (hex_digit_value b) low refl second great) in
      rw (one, two) refl

-- One more pair.
module _ (word out : List ℕ) (i high low : ℕ) (all : Bool) (fits : 2 * i + 1 < length word) (room : i < length out) (first : IsReadAs (slice_index word (2 * i)) high) (second : IsReadAs (slice_index word (2 * i + 1)) low) where
  pub pair-decoded : all && nat_lt high 16 && nat_lt low 16 ≡ true → (all ≡ true → AreDecoded word out i) → AreDecoded word (slice_set out i (high % 16 * 16 + low % 16)) (i + 1)
  pair-decoded test before =
      let both = and_parts (all && nat_lt high 16) (nat_lt low 16) test in
      let two = and_parts all (nat_lt high 16) both.0 in
      decode_step word out i _ fits room (pair-read (slice_index word (2 * i)) (slice_index word (2 * i + 1)) (2 * i) high low first second (ltb-true high 16 two.1) (ltb-true low 16 both.1)) (before two.0)

  pub pair-refused : all && nat_lt high 16 && nat_lt low 16 ≡ false → (all ≡ true → AreDecoded word out i) → (all ≡ false → result_ok (decode_pairs 0 word) ≡ None) → result_ok (decode_pairs 0 word) ≡ None
  pair-refused test before other = by-all all refl
    where
      refused : (e : FromHexError) → all ≡ true → pair_value (slice_index word (2 * i)) (slice_index word (2 * i + 1)) (2 * i) ≡ Err e → result_ok (decode_pairs 0 word) ≡ None
      refused e is bad = ap result_ok (decode_err word out i e fits bad (before is))

      by-all : (b : Bool) → all ≡ b → result_ok (decode_pairs 0 word) ≡ None
      by-all false is = other is
      by-all true is = elim (cases_lt high 16) [
        | inr great ↦ refused (InvalidHexCharacter (slice_index word (2 * i)) (2 * i)) is (high-refused (slice_index word (2 * i)) (slice_index word (2 * i + 1)) (2 * i) high low first second great)
        | inl small ↦ elim (cases_lt low 16) [
          | inr great ↦ refused (InvalidHexCharacter (slice_index word (2 * i + 1)) (2 * i + 1)) is (low-refused (slice_index word (2 * i)) (slice_index word (2 * i + 1)) (2 * i) high low first second small great)
          | inl small-2 ↦ let yes : all && nat_lt high 16 && nat_lt low 16 ≡ true = rw (is, lt-ltb high 16 small, lt-ltb low 16 small-2) refl in cc
        ]
      ]

-- The next pair, before the digits that are left.
module _ (word rest pair after : List ℕ) (i : ℕ) (left : rest ≡ drop (2 * i) word) (cut : rest ≡ pair ++ after) (two : length pair ≡ 2) where
  pub pair-fits : 2 * i + 1 < length word
  pair-fits = let whole : 2 + length after ≡ length word - 2 * i = omega (arith, two, length-append pair after, ap length cut, ap length left, length-drop (2 * i) word) in omega (arith, whole)

  pub pair-rest : after ≡ drop (2 * (i + 1)) word
  pair-rest = sym (drop_at pair after 2 two) ∙ (ap (drop 2) (sym cut ∙ left) ∙ (drop-drop 2 (2 * i) word ∙ ap (λ n. drop n word) (let next : 2 * i + 2 ≡ 2 * (i + 1) = omega arith in next)))

  pub pair-digit : (k : ℕ) → k < 2 → slice_index pair k ≡ slice_index word (2 * i + k)
  pair-digit k lt = sym (get_or_append_left pair after 0 k (omega (arith, two))) ∙ (ap (λ l. slice_index l k) (sym cut ∙ left) ∙ get_or-drop (2 * i) word k 0)

-- No digits are left.
pub all-read : (word rest : List ℕ) (i : ℕ) → rest ≡ drop (2 * i) word → length rest < 2 → length word % 2 ≡ 0 → length word ≤ 2 * i
all-read word rest i left few even = omega (arith, few, even, ap length left, length-drop (2 * i) word)
