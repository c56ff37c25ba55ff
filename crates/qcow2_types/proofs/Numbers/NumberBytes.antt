-- Big-endian numbers that follow one another in a list of bytes.
use Rattle.std.proofs.Common.{◌≡◌, ℕ, ◌+◌, ◌<◌, arith, ap, sym, ◌∙◌, List, ◌++◌, length, take, drop, get_or, inl, inr}
use Rattle.std.proofs.lemmas.Bool.{cases_lt}
use Rattle.std.proofs.lemmas.List.{get_or-take, get_or-drop, get_or_past, length-take, take_all}
use Rattle.std.proofs.Math.Seq.{take-add}

-- a list by its parts, if its last part is known
pub then : (part xs ys zs : List ℕ) → xs ≡ ys ++ part → ys ≡ zs → xs ≡ zs ++ part
then part xs ys zs last before = last ∙ ap (λ front. front ++ part) before

pub whole : (n : ℕ) (xs ys : List ℕ) → length xs ≡ n → take n xs ≡ ys → xs ≡ ys
whole n xs ys size front = sym (take_all n xs (omega arith)) ∙ front

-- the bound of a list's elements holds for a part of it
pub part-below : (xs part : List ℕ) (at n bound : ℕ) → 0 < bound → ((i : ℕ) → get_or xs i 0 < bound) → part ≡ take n (drop at xs) → (i : ℕ) → get_or part i 0 < bound
part-below xs part at n bound some below e i = rw e (elim (cases_lt i n) [
  | inl inside ↦ rw (get_or-take n (drop at xs) i 0 inside, get_or-drop at xs i 0) (below (at + i))
  | inr past ↦ rw (get_or_past (take n (drop at xs)) i 0 (rw (length-take n (drop at xs)) (omega arith))) some
])

-- the first at + n elements, if the n elements at `at` are known
pub taken-more : (xs part : List ℕ) (at n : ℕ) → part ≡ take n (drop at xs) → take (at + n) xs ≡ take at xs ++ part
taken-more xs part at n e = take-add at n xs ∙ ap (λ l. take at xs ++ l) (sym e)
