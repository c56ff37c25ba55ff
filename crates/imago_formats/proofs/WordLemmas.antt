-- Searches in a text, and the digits of a number.
use Rattle.std.proofs.Common.{zero, suc, ◌^◌, lit<, ◌≡◌, ℕ, ◌<◌, ◌≤◌, Bool, true, false, cond, List, [], ◌∷◌, length, Option, Some, None, Result, Ok, Err, refl, ap, ◌∙◌, arith, MatchResult, rules, ◌&&◌}
use Rattle.std.proofs.lemmas.List.Sums.{prefix_len-le-length}
use Rattle.std.specs.List.{position_or_len, list_all}
use Rattle.std.specs.Option.{unwrap_or}
use Rattle.std.specs.Char.{is_ascii_digit}
use Rattle.std.specs.Str.{IsAscii}
use Rattle.std.specs.Str.Parse.{ParsesUnsigned, digits_value}
use Rattle.std.proofs.lemmas.Str.Parse.{IsNumeralModel, numerals_by_value, parse_digits}
use Rattle.imago_storage.specs.declared.fault.Fault.TheVariants.{DamagedDescriptor}
use Rattle.imago_formats.specs.DescriptorWords.{decimal}
use lib.Dec.{ltb}
use borrow.Author.Tests.{ltb-true, ltb-false, lt-ltb}
use Rattle.std.proofs.lemmas.Bool.Decides.{nat_tests}
use Rattle.std.specs.Str.{IsUtf8, is_utf8}
use Rattle.std.proofs.lemmas.Str.{IsUtf8-from_ascii, IsUtf8-from_is_utf8, is_utf8-from_IsUtf8}

found_or : (n len : ℕ) (t : Bool) → ltb n len ≡ t → n ≤ len → unwrap_or (cond t (Some n) None) len ≡ n
found_or n len true e h = refl
found_or n len false e h = let g : len ≤ n = ltb-false n len e in omega arith

-- The position that was found, or else the length.
pub first_place : (p : ℕ → Bool) (xs : List ℕ) (r : Option ℕ) →
    r ≡ cond (ltb (position_or_len p xs) (length xs)) (Some (position_or_len p xs)) None → unwrap_or r (length xs) ≡ position_or_len p xs
first_place p xs r e = ap (λ v. unwrap_or v (length xs)) e ∙ found_or (position_or_len p xs) (length xs) _ refl (prefix_len-le-length _ xs)

own : IsNumeralModel (λ ds. list_all is_ascii_digit ds ≡ true) (digits_value 10)
own = numerals_by_value _ (search rules)

pub decimal_no : (ds : List ℕ) → list_all is_ascii_digit ds ≡ false → Err DamagedDescriptor ≡ decimal ds
decimal_no ds e = rw e refl

pub both : (a b : Bool) → (a && b) ≡ true → (a ≡ true) × (b ≡ true)
both true b e = (refl, e)
both false b e = absurd cc

digits_ascii : (ds : List ℕ) → list_all is_ascii_digit ds ≡ true → IsAscii ds
digits_ascii [] e i = lit< tt
digits_ascii (c ∷ cs) e zero = let d = both (is_ascii_digit c) (list_all is_ascii_digit cs) e in below d.0
  where
    below : is_ascii_digit c ≡ true → c < 128
    below h = grind (arith, nat_tests)
digits_ascii (c ∷ cs) e (suc i) = digits_ascii cs (both (is_ascii_digit c) (list_all is_ascii_digit cs) e).1 i

pub decimal_text : (ds : List ℕ) → list_all is_ascii_digit ds ≡ true → IsUtf8 ds
decimal_text ds e = IsUtf8-from_ascii ds (digits_ascii ds e)

taken : (a b c : Bool) (v : ℕ) → a ≡ true → b ≡ true → c ≡ true → Ok v ≡ cond (a && (b && c)) (Ok v) (Err DamagedDescriptor)
taken true true true v e f g = refl
taken true true false v e f g = absurd cc
taken true false c v e f g = absurd cc
taken false b c v e f g = absurd cc

lacking : (a b c : Bool) (v : ℕ) → (b ≡ true → c ≡ true → ⊥) → Err DamagedDescriptor ≡ cond (a && (b && c)) (Ok v) (Err DamagedDescriptor)
lacking true true true v none = absurd (none refl refl)
lacking true true false v none = refl
lacking true false c v none = refl
lacking false b c v none = refl

pub decimal_parsed : {E : Type 0} (ds : List ℕ) (r : Result ℕ E) → list_all is_ascii_digit ds ≡ true → ParsesUnsigned 64 10 ds r →
    MatchResult r (λ n. Ok n ≡ decimal ds) (λ _. Err DamagedDescriptor ≡ decimal ds)
decimal_parsed {E} ds (Ok n) e h =
    let o : ((0 < length ds) × (digits_value 10 ds < 2 ^ 64)) × (n ≡ digits_value 10 ds) = parse_digits own {E = E} 64 ds (Ok n) h e in
    ap (λ v. Ok v) o.1 ∙ taken (list_all is_ascii_digit ds) (ltb 0 (length ds)) (ltb (digits_value 10 ds) (2 ^ 64)) (digits_value 10 ds) e
    (lt-ltb _ _ o.0.0) (lt-ltb _ _ o.0.1)
decimal_parsed {E} ds (Err x) e h =
    let o : ((0 < length ds) × (digits_value 10 ds < 2 ^ 64)) → ⊥ = parse_digits own {E = E} 64 ds (Err x) h e in
    lacking (list_all is_ascii_digit ds) (ltb 0 (length ds)) (ltb (digits_value 10 ds) (2 ^ 64)) (digits_value 10 ds)
    (λ b c. o (ltb-true _ _ b, ltb-true _ _ c))

-- The result of the UTF-8 test.
pub not_text : (bs : List ℕ) → ¬ (IsUtf8 bs) → is_utf8 bs ≡ false
not_text bs n = decided (is_utf8 bs) refl
  where
    decided : (t : Bool) → is_utf8 bs ≡ t → is_utf8 bs ≡ false
    decided false e = e
    decided true e = absurd (n (IsUtf8-from_is_utf8 bs e))

pub is_text : (bs : List ℕ) → IsUtf8 bs → is_utf8 bs ≡ true
is_text bs u = is_utf8-from_IsUtf8 bs u
