-- The lines of a text, split after its first line feed.
use Rattle.std.proofs.Common.{◌≡◌, ◌≢◌, ◌⊎◌, inl, inr, All, ℕ, zero, suc, ◌+◌, ◌-◌, ◌<◌, ◌∙◌, Bool, true, false, List, [], ◌∷◌, ◌++◌, length, take, refl, ap, sym, arith}
use Rattle.std.specs.Prelude.{◌==◌}
use Rattle.std.specs.List.{slice_split, onto_first}
use Rattle.std.specs.Io.BufRead.{take_through, drop_through}
use Rattle.std.specs.Str.Lines.{lines, lines_of_parts, strip_carriage_return}
use Rattle.std.proofs.lemmas.List.Splits.{length-slice_split}
use borrow.Author.Tests.{eqb-true}
use Rattle.std.specs.Io.{IsEmptyOrEndsWith, StopsAt}
use Rattle.std.proofs.lemmas.Bool.{ne_eqb}
use Rattle.std.proofs.lemmas.List.{take_all, take_more}
use Rattle.qimg_chain.proofs.ScriptParting.{line_here, lines_go_on}

abbrev parts : List ℕ → List (List ℕ)
parts text = slice_split (λ b. b == 10) text

-- The text isn't split, or is split after its first part.
abbrev Cut : List ℕ → Type 0
Cut text = ((take_through 10 text ≡ text) × (drop_through 10 text ≡ []) × (parts text ≡ text ∷ []))
    ⊎ ((first : List ℕ) × (parts text ≡ first ∷ parts (drop_through 10 text)) × (parts (take_through 10 text) ≡ first ∷ [] ∷ []))

cut : (text : List ℕ) → Cut text
cut [] = inl (refl, refl, refl)
cut (b ∷ text) = at (b == 10) refl (cut text)
  where
    at : (t : Bool) → (b == 10) ≡ t → Cut text → Cut (b ∷ text)
    at true is rest = inr ([], rw (is) refl, rw (is) (rw (is) refl))
    at false is (inl whole) = inl (rw (is) (ap (λ xs. b ∷ xs) whole.0), rw (is) whole.1, rw (is) (ap (onto_first b) whole.2))
    at false is (inr part) = inr (b ∷ part.0, rw (is) (ap (onto_first b) part.1), rw (is) (rw (is) (ap (onto_first b) part.2)))

one-part : (text line : List ℕ) (more : List (List ℕ)) → lines_of_parts (text ∷ []) ≡ line ∷ more → lines_of_parts (text ∷ []) ≡ line ∷ []
one-part text line more is = at (length text == 0) refl is
  where
    at : (t : Bool) → (length text == 0) ≡ t → lines_of_parts (text ∷ []) ≡ line ∷ more → lines_of_parts (text ∷ []) ≡ line ∷ []
    at true empty e = absurd (cc (rw (empty) at e))
    at false some e = rw (some) (let same : text ≡ line = cc (rw (some) at e) in ap (λ x. x ∷ []) same)

-- The first line of a text, and the lines of the rest.
pub lines-step : (text line rest : List ℕ) → lines (take_through 10 text) ≡ line ∷ lines rest → lines text ≡ line ∷ lines (drop_through 10 text)
lines-step text line rest is = elim (cut text) [
  | inl whole ↦ rw (whole.1) (ap lines_of_parts whole.2 ∙ one-part text line (lines rest) (sym (ap lines_of_parts whole.2) ∙ (rw (whole.0) at is)))
  | inr part ↦
      let first : strip_carriage_return part.0 ≡ line = cc (sym (ap lines_of_parts part.2) ∙ is) in
      ap lines_of_parts part.1 ∙ lines_go_on part.0 (parts (drop_through 10 text)) (let k = length-slice_split (λ b. b == 10) (drop_through 10 text) in omega arith)
      ∙ ap (λ x. x ∷ lines (drop_through 10 text)) first
]

pub through-joined : (text : List ℕ) → take_through 10 text ++ drop_through 10 text ≡ text
through-joined [] = refl
through-joined (b ∷ text) = at (b == 10) refl (through-joined text)
  where
    at : (t : Bool) → (b == 10) ≡ t → take_through 10 text ++ drop_through 10 text ≡ text
        → take_through 10 (b ∷ text) ++ drop_through 10 (b ∷ text) ≡ b ∷ text
    at true is more = rw (is) refl
    at false is more = rw (is) (ap (λ xs. b ∷ xs) more)

-- A line that ends within the first `n` bytes of a text is a line of the text. The rest of these bytes follows it.
abbrev pub CutAlike : ℕ → List ℕ → Type 0
CutAlike n text = (take_through 10 (take n text) ≡ take_through 10 text)
    × (drop_through 10 (take n text) ≡ take (n - length (take_through 10 text)) (drop_through 10 text))

take-nil : (n : ℕ) → take {A = ℕ} n [] ≡ []
take-nil zero = refl
take-nil (suc n) = refl

pub line-within : (n : ℕ) (text : List ℕ) → length (take_through 10 (take n text)) < n → CutAlike n text
line-within zero text fewer = absurd (omega arith)
line-within (suc n) [] fewer = (refl, sym (take-nil (suc n - 0)))
line-within (suc n) (b ∷ text) fewer = at (b == 10) refl (line-within n text) fewer
  where
    at : (t : Bool) → (b == 10) ≡ t → (length (take_through 10 (take n text)) < n → CutAlike n text)
        → length (take_through 10 (take (suc n) (b ∷ text))) < suc n → CutAlike (suc n) (b ∷ text)
    at true is more less = rw (is) (refl, ap (λ k. take k text) (omega arith))
    at false is more less =
        let rest = more (let k = rw (is) at less in omega arith) in
        rw (is) (ap (λ xs. b ∷ xs) rest.0, rest.1 ∙ ap (λ k. take k (drop_through 10 text)) (omega arith))

pub through-none : (text : List ℕ) → lines (take_through 10 text) ≡ [] → text ≡ []
through-none text is = elim (cut text) [
  | inl whole ↦ at text (sym (ap lines_of_parts whole.2) ∙ (rw (whole.0) at is))
  | inr part ↦ absurd (cc (sym (ap lines_of_parts part.2) ∙ is))
]
  where
    at : (whole : List ℕ) → lines_of_parts (whole ∷ []) ≡ [] → whole ≡ []
    at [] e = refl
    at (b ∷ whole) e = some (length (b ∷ whole) == 0) refl
      where
        some : (t : Bool) → (length (b ∷ whole) == 0) ≡ t → b ∷ whole ≡ []
        some true is = absurd (omega (arith, eqb-true (length (b ∷ whole)) 0 is))
        some false is = cc (rw (is) at e)

-- The text before the only line feed of a line that ends with it.
split-front : (front : List ℕ) → All (λ b. b ≢ 10) front → parts (front ++ 10 ∷ []) ≡ front ∷ parts []
split-front [] none = refl
split-front (b ∷ front) none =
    let other : (b == 10) ≡ false = ne_eqb b 10 (none 0 0 (omega arith)) in
    rw (other) (ap (onto_first b) (split-front front (λ i d inside. none (suc i) d (omega (arith, inside)))))

-- A line with its end has just that line.
pub lone-line : (bytes : List ℕ) → 0 < length bytes → StopsAt bytes 10 → IsEmptyOrEndsWith bytes 10
    → lines bytes ≡ strip_carriage_return (take (length bytes - 1) bytes) ∷ lines []
lone-line bytes some stops ends =
    let front = take (length bytes - 1) bytes in
    let whole : front ++ 10 ∷ [] ≡ bytes = ap (λ b. front ++ b ∷ []) (sym (ends some))
    ∙ (sym (take_more bytes (length bytes - 1) 0 (omega (arith, some))) ∙ take_all (length bytes - 1 + 1) bytes (omega (arith, some))) in
    line_here bytes front [] (sym (ap parts whole) ∙ split-front front stops)
