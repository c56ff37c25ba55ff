-- The number that an argument writes.
use Rattle.std.proofs.Common.{zero, suc, ◌^◌, lit<, ◌≡◌, ℕ, ◌<◌, ◌≤◌, Bool, true, false, cond, List, [], ◌∷◌, length, Some, None, Result, Ok, Err, refl, ap, arith, MatchResult, rules, ◌&&◌}
use Rattle.std.specs.List.{list_all}
use Rattle.std.specs.Char.{is_ascii_digit}
use Rattle.std.specs.Str.{IsAscii, IsUtf8}
use Rattle.std.specs.Str.Parse.{ParsesUnsigned, digits_value}
use Rattle.std.proofs.lemmas.Str.Parse.{IsNumeralModel, numerals_by_value, parse_digits}
use Rattle.std.proofs.lemmas.Str.{IsUtf8-from_ascii}
use Rattle.std.proofs.lemmas.Bool.{and_parts}
use Rattle.std.proofs.lemmas.Bool.Decides.{nat_tests}
use Rattle.qimg_chain.specs.ScriptWords.{number_of}
use lib.Dec.{ltb, leb}
use borrow.Author.Tests.{ltb-true, lt-ltb, lt-leb, le-leb}

own : IsNumeralModel (λ ds. list_all is_ascii_digit ds ≡ true) (digits_value 10)
own = numerals_by_value _ (search rules)

digits_ascii : (word : List ℕ) → list_all is_ascii_digit word ≡ true → IsAscii word
digits_ascii [] e i = lit< tt
digits_ascii (c ∷ cs) e zero = below (and_parts (is_ascii_digit c) (list_all is_ascii_digit cs) e).0
  where
    below : is_ascii_digit c ≡ true → c < 128
    below h = grind (arith, nat_tests)
digits_ascii (c ∷ cs) e (suc i) = digits_ascii cs (and_parts (is_ascii_digit c) (list_all is_ascii_digit cs) e).1 i

-- Digits are valid UTF-8.
pub digits_text : (word : List ℕ) → list_all is_ascii_digit word ≡ true → IsUtf8 word
digits_text word e = IsUtf8-from_ascii word (digits_ascii word e)

pub not_digits : (word : List ℕ) → list_all is_ascii_digit word ≡ false → None ≡ number_of word
unfolding number_of
not_digits word e = rw e refl

lacking : (a b c d : Bool) (v : ℕ) → (b ≡ true → c ≡ true → d ≡ true → ⊥) → None ≡ cond (a && (b && (c && d))) (Some v) None
lacking true true true true v none = absurd (none refl refl refl)
lacking true true true false v none = refl
lacking true true false d v none = refl
lacking true false c d v none = refl
lacking false b c d v none = refl

pub too_many_digits : (word : List ℕ) → 20 < length word → None ≡ number_of word
unfolding number_of
too_many_digits word long =
    lacking (list_all is_ascii_digit word) (ltb 0 (length word)) (leb (length word) 20) (ltb (digits_value 10 word) (2 ^ 64))
    (digits_value 10 word)
    (λ b c d. absurd (let no : leb (length word) 20 ≡ false = lt-leb _ _ long in cc))

-- The result of parsing at most 20 digits.
pub number_parsed : {E : Type 0} (word : List ℕ) (r : Result ℕ E) → length word ≤ 20 → list_all is_ascii_digit word ≡ true →
    ParsesUnsigned 64 10 word r → MatchResult r (λ n. Some n ≡ number_of word) (λ _. None ≡ number_of word)
unfolding number_of
number_parsed {E} word (Ok n) few e h =
    let o : ((0 < length word) × (digits_value 10 word < 2 ^ 64)) × (n ≡ digits_value 10 word) =
    parse_digits own {E = E} 64 word (Ok n) h e in
    rw (e, lt-ltb _ _ o.0.0, le-leb _ _ few, lt-ltb _ _ o.0.1) (ap (λ v. Some v) o.1)
number_parsed {E} word (Err x) few e h =
    let o : ((0 < length word) × (digits_value 10 word < 2 ^ 64)) → ⊥ = parse_digits own {E = E} 64 word (Err x) h e in
    lacking (list_all is_ascii_digit word) (ltb 0 (length word)) (leb (length word) 20) (ltb (digits_value 10 word) (2 ^ 64))
    (digits_value 10 word)
    (λ b c d. o (ltb-true _ _ b, ltb-true _ _ d))
