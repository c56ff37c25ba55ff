-- The lines of a text, one by one.
use Rattle.std.proofs.Common.{◌&&◌, ◌^◌, Ok, ◌≡◌, ℕ, ◌+◌, ◌<◌, ◌≤◌, Bool, true, false, List, [], ◌∷◌, length, take, drop, get_or, refl, sym, ap, ◌∙◌, arith}
use Rattle.std.specs.List.{position_or_len, slice_split, onto_first}
use Rattle.std.specs.Str.Lines.{lines, lines_of_parts, strip_carriage_return}
use Rattle.std.proofs.lemmas.List.Splits.{slice_split-cons_no, slice_split_first, length-slice_split}
use Rattle.std.proofs.lemmas.Grind.{common_steps}
use Rattle.imago_formats.specs.declared.vmdk.descriptor.Extent.{Extent}
use Rattle.std.specs.Str.{is_utf8}
use Rattle.imago_formats.specs.Descriptor.{size_of, extents_of, is_signed, is_descriptor, read_from, sized}
use lib.Dec.{eqb}
use borrow.Author.Tests.{ne_eqb, lt-ltb, le-leb}

parts_go_on : (x : List ℕ) (ys : List (List ℕ)) → 0 < length ys → lines_of_parts (x ∷ ys) ≡ strip_carriage_return x ∷ lines_of_parts ys
parts_go_on x [] h = absurd (omega arith)
parts_go_on x (y ∷ ys) h = refl

-- A line that ends with a newline.
pub line_here : (text : List ℕ) (n : ℕ) → n ≡ position_or_len (λ b. eqb b 10) text → n < length text →
    lines text ≡ strip_carriage_return (take n text) ∷ lines (drop (n + 1) text)
line_here text n e h =
    let is_end : ℕ → Bool = λ b. eqb b 10 in
    let parts : slice_split is_end text ≡ take n text ∷ slice_split is_end (drop (n + 1) text) =
    rw e (slice_split_first is_end text 0 (rw (← e) h)) in
    ap lines_of_parts parts ∙ parts_go_on (take n text) (slice_split is_end (drop (n + 1) text))
    (let k = length-slice_split is_end (drop (n + 1) text) in omega arith)

one_part : (text : List ℕ) → position_or_len (λ b. eqb b 10) text ≡ length text → slice_split (λ b. eqb b 10) text ≡ text ∷ []
one_part [] e = refl
one_part (b ∷ bs) e = at_byte (eqb b 10) refl (one_part bs)
  where
    at_byte : (t : Bool) → eqb b 10 ≡ t → (position_or_len (λ x. eqb x 10) bs ≡ length bs → slice_split (λ x. eqb x 10) bs ≡ bs ∷ []) →
        slice_split (λ x. eqb x 10) (b ∷ bs) ≡ (b ∷ bs) ∷ []
    at_byte true k more = let z : 0 ≡ length (b ∷ bs) = rw k at e in absurd (omega arith)
    at_byte false k more = let z : 1 + position_or_len (λ x. eqb x 10) bs ≡ length (b ∷ bs) = rw k at e in
        slice_split-cons_no (λ x. eqb x 10) b bs k ∙ ap (onto_first b) (more (omega arith))

one_line : (text : List ℕ) → 0 < length text → lines_of_parts (text ∷ []) ≡ text ∷ []
one_line [] h = absurd (omega arith)
one_line (b ∷ bs) h = let some : eqb (length (b ∷ bs)) 0 ≡ false = ne_eqb _ _ (omega arith) in rw some refl

-- The last line, without a newline.
pub line_to_end : (text : List ℕ) (n : ℕ) → n ≡ position_or_len (λ b. eqb b 10) text → n ≡ length text → 0 < length text →
    lines text ≡ take n text ∷ lines (drop n text)
line_to_end text n e h k =
    let whole : take n text ≡ text = grind (arith, common_steps) in
    let none : drop n text ≡ [] = grind (arith, common_steps) in
    let all : lines text ≡ text ∷ [] = ap lines_of_parts (one_part text (sym e ∙ h)) ∙ one_line text k in
    rw (whole, none) all

pub first_to_end : (text : List ℕ) (n : ℕ) → n ≡ position_or_len (λ b. eqb b 10) text → n ≡ length text → take n text ≡ get_or (lines text) 0 []
first_to_end [] n e h = grind (arith, common_steps)
first_to_end (b ∷ bs) n e h = let l = line_to_end (b ∷ bs) n e h (omega arith) in sym (ap (λ xs. get_or xs 0 []) l)

pub rest_to_end : (text : List ℕ) (n : ℕ) → n ≡ position_or_len (λ b. eqb b 10) text → n ≡ length text → lines (drop n text) ≡ drop 1 (lines text)
rest_to_end [] n e h = let none : drop {A = ℕ} n [] ≡ [] = grind (arith, common_steps) in rw none refl
rest_to_end (b ∷ bs) n e h = let l = line_to_end (b ∷ bs) n e h (omega arith) in sym (ap (λ xs. drop 1 xs) l)

all_three : (a b c : Bool) → a ≡ true → b ≡ true → c ≡ true → (a && (b && c)) ≡ true
all_three true true true e f g = refl
all_three true true false e f g = g
all_three true false c e f g = f
all_three false b c e f g = e

-- A valid text, rule by rule.
pub accepted : (text : List ℕ) (xs : List (Extent (List ℕ))) → is_utf8 text ≡ true → length text ≤ 2 ^ 20 → is_signed text ≡ true →
    extents_of (drop 1 (lines text)) ≡ Ok xs → size_of xs < 2 ^ 63 → read_from text ≡ Ok xs
accepted text xs utf8 short signed read small =
    let good : is_descriptor text ≡ true = all_three (is_utf8 text) _ _ utf8 (le-leb _ _ short) signed in
    let fits : sized xs ≡ Ok xs = rw (lt-ltb _ _ small) refl in
    rw (good, read) fits
