-- Texts split at a byte, into their parts and lines.
use Rattle.std.proofs.Common.{◌≡◌, ℕ, ◌+◌, ◌<◌, Bool, true, false, List, [], ◌∷◌, length, take, drop, slice_index, refl, ap, ◌∙◌, arith}
use Rattle.std.specs.List.{position_or_len, slice_split, onto_first}
use Rattle.std.specs.Str.Lines.{lines, lines_of_parts, strip_carriage_return}
use Rattle.std.proofs.lemmas.List.Sums.{position_or_len_is}
use Rattle.std.proofs.lemmas.List.Splits.{slice_split-cons_no, slice_split_first, length-slice_split}
use Rattle.memchr.specs.Find.{NoneBefore, Nowhere, Passes, is_byte}
use lib.Dec.{eqb}

other_byte : (byte b : ℕ) → (is_byte byte b ≡ true → ⊥) → eqb b byte ≡ false
other_byte byte b other = decided (eqb b byte) refl
  where
    decided : (t : Bool) → eqb b byte ≡ t → t ≡ false
    decided true is = absurd (other is)
    decided false is = refl

-- The first occurrence of a byte is where a search finds it.
first_at : (byte : ℕ) (xs : List ℕ) (n : ℕ) → NoneBefore (Passes (is_byte byte) xs) 0 (length xs) n × Passes (is_byte byte) xs n → position_or_len (λ b. eqb b byte) xs ≡ n
first_at byte xs n found =
    position_or_len_is (λ b. eqb b byte) xs n 0 (let high = found.0.high in omega arith) (λ k lt. other_byte byte (slice_index xs k) (found.0.before k (omega arith) lt)) (λ lt. found.1)

-- A text is its first part and the parts of the rest.
pub cut_here : (byte : ℕ) (xs : List ℕ) (n : ℕ) → NoneBefore (Passes (is_byte byte) xs) 0 (length xs) n × Passes (is_byte byte) xs n
    → slice_split (λ b. eqb b byte) xs ≡ take n xs ∷ slice_split (λ b. eqb b byte) (drop (n + 1) xs)
cut_here byte xs n found =
    let first = first_at byte xs n found in
    rw (← first) (slice_split_first (λ b. eqb b byte) xs 0 (let high = found.0.high in omega (arith, first)))

one_part : (p : ℕ → Bool) (xs : List ℕ) → position_or_len p xs ≡ length xs → slice_split p xs ≡ xs ∷ []
one_part p [] e = refl
one_part p (b ∷ bs) e = at_first (p b) refl (one_part p bs)
  where
    at_first : (t : Bool) → p b ≡ t → (position_or_len p bs ≡ length bs → slice_split p bs ≡ bs ∷ []) → slice_split p (b ∷ bs) ≡ (b ∷ bs) ∷ []
    at_first true k more = let z : 0 ≡ length (b ∷ bs) = rw k at e in absurd (omega arith)
    at_first false k more = let z : 1 + position_or_len p bs ≡ length (b ∷ bs) = rw k at e in
        slice_split-cons_no p b bs k ∙ ap (onto_first b) (more (omega arith))

-- A text without the byte has one part.
pub uncut : (byte : ℕ) (xs : List ℕ) → Nowhere (Passes (is_byte byte) xs) 0 (length xs) → slice_split (λ b. eqb b byte) xs ≡ xs ∷ []
uncut byte xs none =
    one_part (λ b. eqb b byte) xs (position_or_len_is (λ b. eqb b byte) xs (length xs) 0 (omega arith) (λ k lt. other_byte byte (slice_index xs k) (none k (omega arith) lt)) (λ lt. absurd (omega arith)))

pub lines_go_on : (x : List ℕ) (ys : List (List ℕ)) → 0 < length ys → lines_of_parts (x ∷ ys) ≡ strip_carriage_return x ∷ lines_of_parts ys
lines_go_on x [] h = absurd (omega arith)
lines_go_on x (y ∷ ys) h = refl

-- A line before a line feed.
pub line_here : (text line rest : List ℕ) → slice_split (λ b. eqb b 10) text ≡ line ∷ slice_split (λ b. eqb b 10) rest →
    lines text ≡ strip_carriage_return line ∷ lines rest
line_here text line rest e =
    ap lines_of_parts e ∙ lines_go_on line (slice_split (λ b. eqb b 10) rest) (let k = length-slice_split (λ b. eqb b 10) rest in omega arith)
