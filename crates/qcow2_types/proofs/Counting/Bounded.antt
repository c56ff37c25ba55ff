-- A test of every cluster follows from a test of finitely many clusters, if nothing references the others.
use Rattle.std.proofs.Common.{◌≡◌, ℕ, ◌<◌, ◌≤◌, refl, arith, sym, inl, inr}
use Rattle.std.specs.Prelude.{Bool, true, false, nat_lt, not}
use Rattle.std.proofs.lemmas.Bool.{cases_lt, le-ltb}
use Rattle.std.proofs.lemmas.Bool.Decides.{Decides-below_and}
use Rattle.qcow2_types.specs.Bytes.{Bytes, all_below}
use Rattle.qcow2_types.specs.Header.{Fields}
use Rattle.qcow2_types.specs.References.{structure, contents, of_copied, meets, refs}
use Rattle.qcow2_types.specs.Consistency.{shares_structure, is_false_copied, is_under_counted, Nowhere, IsLeast}
use Rattle.qcow2_types.proofs.Counting.Named.{reaching, refs-beyond, structure-le-refs, copied-le-refs}

not-true : (b : Bool) → not b ≡ true → b ≡ false
not-true true h = sym h
not-true false h = refl

-- what `all_below` says of each number below n
pub all-below : (n : ℕ) (p : ℕ → Bool) → all_below n p ≡ true → (k : ℕ) → k < n → p k ≡ true
unfolding all_below
all-below n p h = (Decides-below_and p (λ k. p k ≡ true) (all_below' p) (λ k. (λ e. e, λ e. e)) refl (λ _. refl) n).0 h
  where
    all_below' : (ℕ → Bool) → ℕ → Bool
    all_below' q m = all_below m q

-- a test that is false below n, and false from n on
pub nowhere-from : (n : ℕ) (p : ℕ → Bool) → all_below n (λ c. not (p c)) ≡ true → ((c : ℕ) → n ≤ c → p c ≡ false) → Nowhere p
nowhere-from n p below beyond c = elim (cases_lt c n) [
  | inl lt ↦ not-true (p c) (all-below n (λ d. not (p d)) below c lt)
  | inr le ↦ beyond c le
]

module _ (f : Bytes) (h : Fields) (n : ℕ) (within : reaching f h n ≡ 0) where
  -- no cluster of the structure from n on is shared
  pub shared-beyond : (c : ℕ) → n ≤ c → shares_structure f h c ≡ false
  unfolding shares_structure
  shared-beyond c le =
      let none : refs f h c ≡ 0 = refs-beyond f h n within c le in
      let least : structure f h (meets h c) ≤ refs f h c = structure-le-refs f h c in
      let nothing : nat_lt 0 (structure f h (meets h c)) ≡ false = le-ltb _ _ (omega arith) in
      rw nothing refl

  -- no COPIED cluster from n on is shared
  pub copied-beyond : (c : ℕ) → n ≤ c → is_false_copied f h c ≡ false
  unfolding is_false_copied
  copied-beyond c le =
      let none : refs f h c ≡ 0 = refs-beyond f h n within c le in
      let least : contents f h (of_copied h (meets h c)) ≤ refs f h c = copied-le-refs f h c in
      let nothing : nat_lt 0 (contents f h (of_copied h (meets h c))) ≡ false = le-ltb _ _ (omega arith) in
      rw nothing refl

  -- the refcount of each cluster from n on covers its references
  pub under-beyond : (c : ℕ) → n ≤ c → is_under_counted f h c ≡ false
  unfolding is_under_counted
  under-beyond c le =
      let none : refs f h c ≡ 0 = refs-beyond f h n within c le in
      le-ltb _ _ (omega arith)

-- a test that is true at n, and false below n
pub least-at : (n : ℕ) (p : ℕ → Bool) → p n ≡ true → all_below n (λ c. not (p c)) ≡ true → IsLeast p n
least-at n p here below = (here, λ d lt. not-true (p d) (all-below n (λ c. not (p c)) below d lt))
