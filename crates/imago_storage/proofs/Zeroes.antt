-- Files and buffers of zeroes.
use Rattle.std.proofs.Common.{◌≡◌, refl, inl, inr, ℕ, zero, suc, ◌+◌, ◌-◌, ◌<◌, ◌≤◌, min, List, length, replicate, get_or, arith, ◌∙◌, ap, sym}
use Rattle.std.proofs.lemmas.Bool.{cases_lt}
use Rattle.std.proofs.lemmas.List.{length-replicate, get_or_past}
use Rattle.std.specs.List.{between}
use Rattle.std.proofs.lemmas.List.Edits.{length-between, get_or-between}
use Rattle.imago_storage.specs.Calls.{Spliced, SameOutside}

pub zero_at : (n k : ℕ) → get_or {A = ℕ} (replicate n 0) k 0 ≡ 0
zero_at zero k = refl
zero_at (suc n) zero = refl
zero_at (suc n) (suc k) = zero_at n k

pub length_of_zeroes : (n : ℕ) → length {A = ℕ} (replicate n 0) ≡ n
length_of_zeroes n = length-replicate {A = ℕ} n 0

-- The part of a range inside the file is zeroed.
module _ (old new : List ℕ) (at n m : ℕ) (spliced : Spliced old at (replicate m 0) new) (there : at + m ≡ min (at + n) (length old)) where
  pub cleared_outside : SameOutside old at n new
  cleared_outside = record { before = spliced.before; after = λ k from. spliced.after k (omega (arith, length_of_zeroes m)) }

  pub cleared_inside : (k : ℕ) → at ≤ k → k < at + n → get_or new k 0 ≡ 0
  cleared_inside k from to = elim (cases_lt k (at + m)) [
    | inl lt ↦ spliced.inside k from (omega (arith, length_of_zeroes m)) ∙ zero_at m (k - at)
    | inr past ↦ spliced.after k (omega (arith, length_of_zeroes m)) ∙ get_or_past old k 0 (omega arith)
  ]

minus_none : (k : ℕ) → k - 0 ≡ k
minus_none k = omega arith

-- A buffer of `n` bytes is filled with a part of `bytes`, and zeroes after it.
module _ (bytes buf part mid new : List ℕ) (at n from to rest : ℕ)
    (from_is : from ≡ min at (length bytes)) (to_is : to ≡ min (at + n) (length bytes)) (rest_is : rest ≡ n - (to - from))
    (part_is : part ≡ between from to bytes) (written : Spliced buf 0 part mid) (zeroed : Spliced mid (to - from) (replicate rest 0) new) where
  part_length : length part ≡ to - from
  part_length = ap length part_is ∙ length-between bytes from to (omega arith)

  in_part : (k : ℕ) → k < to - from → get_or part (k - 0) 0 ≡ get_or bytes (from + k) 0
  in_part k there = ap (λ i. get_or part i 0) (minus_none k) ∙ ap (λ xs. get_or xs k 0) part_is ∙ get_or-between bytes from to k 0 (omega arith)

  pub copied_out : (k : ℕ) → k < n → get_or new k 0 ≡ get_or bytes (at + k) 0
  copied_out k below = elim (cases_lt k (to - from)) [
    | inl there ↦ zeroed.before k there ∙ written.inside k (omega arith) (omega (arith, part_length)) ∙ in_part k there ∙ ap (λ i. get_or bytes (i + k) 0) (omega arith)
    | inr past ↦ zeroed.inside k past (omega (arith, length_of_zeroes rest)) ∙ zero_at rest (k - (to - from)) ∙ sym (get_or_past bytes (at + k) 0 (omega arith))
  ]
