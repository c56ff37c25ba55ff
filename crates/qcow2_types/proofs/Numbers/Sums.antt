-- Sums over the numbers below n.
use Rattle.std.proofs.Common.{add-one, ◌≡◌, ◌≢◌, ℕ, zero, suc, ◌+◌, ◌<◌, ◌≤◌, refl, arith, ap, inl, inr}
use Rattle.std.proofs.lemmas.Bool.{cases_eq}
use Rattle.qcow2_types.specs.Bytes.{sum_below}

-- the same terms give the same sum
pub sum-same : (n : ℕ) (f g : ℕ → ℕ) → ((i : ℕ) → i < n → f i ≡ g i) → sum_below n f ≡ sum_below n g
unfolding sum_below
sum-same zero f g same = refl
sum-same (suc n) f g same =
    let here : f n ≡ g n = same n (omega arith) in
    let below : sum_below n f ≡ sum_below n g = sum-same n f g (λ i lt. same i (omega arith)) in
    omega arith

-- sums are monotonic in the terms
pub sum-mono : (n : ℕ) (f g : ℕ → ℕ) → ((i : ℕ) → i < n → f i ≤ g i) → sum_below n f ≤ sum_below n g
unfolding sum_below
sum-mono zero f g least = omega arith
sum-mono (suc n) f g least =
    let here : f n ≤ g n = least n (omega arith) in
    let below : sum_below n f ≤ sum_below n g = sum-mono n f g (λ i lt. least i (omega arith)) in
    omega arith

-- if only one term differs, the sums differ by it
pub sum-change : (n k : ℕ) (f g : ℕ → ℕ) → k < n → ((i : ℕ) → i < n → i ≢ k → f i ≡ g i) → sum_below n f + g k ≡ sum_below n g + f k
unfolding sum_below
sum-change zero k f g lt same = absurd (omega arith)
sum-change (suc n) k f g lt same = elim (cases_eq n k) [
  | inl e ↦
      let here : n ≡ k = e in
      let below : sum_below n f ≡ sum_below n g = sum-same n f g (λ i less. same i (omega arith) (omega arith)) in
      let f-here : f n ≡ f k = ap f here in
      let g-here : g n ≡ g k = ap g here in
      omega arith
  | inr apart ↦
      let other : n ≢ k = apart in
      let here : f n ≡ g n = same n (omega arith) other in
      let below : sum_below n f + g k ≡ sum_below n g + f k = sum-change n k f g (omega arith) (λ i less. same i (omega arith)) in
      omega arith
]

-- a term is at most the sum
pub term-le-sum : (n k : ℕ) (f : ℕ → ℕ) → k < n → f k ≤ sum_below n f
unfolding sum_below
term-le-sum zero k f lt = absurd (omega arith)
term-le-sum (suc n) k f lt = elim (cases_eq n k) [
  | inl e ↦ let here : f n ≡ f k = ap f e in omega arith
  | inr apart ↦ let other : n ≢ k = apart in let below : f k ≤ sum_below n f = term-le-sum n k f (omega arith) in omega arith
]

pub sum-none : (f : ℕ → ℕ) → sum_below 0 f ≡ 0
unfolding sum_below
sum-none f = refl

pub sum-more : (i : ℕ) (f : ℕ → ℕ) → sum_below (i + 1) f ≡ f i + sum_below i f
unfolding sum_below
sum-more i f = rw add-one refl

pub sum-both : (n : ℕ) (f g : ℕ → ℕ) → sum_below n (λ i. f i + g i) ≡ sum_below n f + sum_below n g
unfolding sum_below
sum-both zero f g = refl
sum-both (suc n) f g = let below : sum_below n (λ i. f i + g i) ≡ sum_below n f + sum_below n g = sum-both n f g in omega arith
