-- Sums over the entries of all L2 tables.
use Rattle.std.proofs.Common.{◌≡◌, ◌≢◌, ℕ, ◌+◌, ◌≤◌, refl, arith, ap, inl, inr}
use Rattle.std.specs.Prelude.{◌⊎◌}
use Rattle.std.proofs.lemmas.Bool.{cases_eq}
use Rattle.std.proofs.lemmas.Bool.Decides.{nat_tests}
use Rattle.qcow2_types.specs.Bytes.{Bytes, sum_below}
use Rattle.qcow2_types.specs.Words.{Mapping}
use Rattle.qcow2_types.specs.Header.{Fields, entries_of_cluster}
use Rattle.qcow2_types.specs.Entries.{l2_table}
use Rattle.qcow2_types.specs.References.{contents, of_table}
use Rattle.qcow2_types.proofs.Numbers.Sums.{sum-same, sum-mono, sum-change, term-le-sum}
use Rattle.qcow2_types.specs.Slots.{slot, or_none, over_slots, Live}

-- a sum over the mappings, as a sum over tables and entries
pub contents-slots : (f : Bytes) (h : Fields) (of : Mapping → ℕ) → contents f h of ≡ over_slots (l2_table f h) h (λ i j. of (slot f h i j))
unfolding over_slots contents of_table
contents-slots f h of = refl

pub or_none-there : (t x : ℕ) → t ≢ 0 → or_none t x ≡ x
or_none-there t x there = grind (arith, nat_tests)

module _ (table : ℕ → ℕ) (h : Fields) (p q : ℕ → ℕ → ℕ) where
  -- sums are monotonic in the terms
  pub slots-mono : ((i j : ℕ) → Live table h i j → p i j ≤ q i j) → over_slots table h p ≤ over_slots table h q
  unfolding over_slots
  slots-mono le = sum-mono _ _ _ (λ i lt. elim (cases_eq (table i) 0) [
    | inl e ↦ rw e (omega arith)
    | inr there ↦
        let row : sum_below (entries_of_cluster h) (p i) ≤ sum_below (entries_of_cluster h) (q i) = sum-mono _ _ _ (λ j less. le i j record { in_l1 = lt; is_there = there; in_table = less }) in
        rw (or_none-there (table i) (sum_below (entries_of_cluster h) (p i)) there, or_none-there (table i) (sum_below (entries_of_cluster h) (q i)) there) row
  ])

  -- the same terms give the same sum
  pub slots-same : ((i j : ℕ) → Live table h i j → p i j ≡ q i j) → over_slots table h p ≡ over_slots table h q
  unfolding over_slots
  slots-same same = sum-same _ _ _ (λ i lt. elim (cases_eq (table i) 0) [
    | inl e ↦ rw e refl
    | inr there ↦ ap (or_none (table i)) (sum-same _ _ _ (λ j less. same i j record { in_l1 = lt; is_there = there; in_table = less }))
  ])

  -- if only one term differs, the sums differ by it
  pub slots-change : (i j : ℕ) → Live table h i j → ((k m : ℕ) → Live table h k m → (k ≢ i) ⊎ (m ≢ j) → p k m ≡ q k m) → over_slots table h p + q i j ≡ over_slots table h q + p i j
  unfolding over_slots
  slots-change i j live same =
      let row : sum_below (entries_of_cluster h) (p i) + q i j ≡ sum_below (entries_of_cluster h) (q i) + p i j =
      sum-change _ j (p i) (q i) live.in_table (λ m less apart. same i m record { in_l1 = live.in_l1; is_there = live.is_there; in_table = less } (inr apart)) in
      let pt : or_none (table i) (sum_below (entries_of_cluster h) (p i)) ≡ sum_below (entries_of_cluster h) (p i) = or_none-there (table i) (sum_below (entries_of_cluster h) (p i)) live.is_there in
      let qt : or_none (table i) (sum_below (entries_of_cluster h) (q i)) ≡ sum_below (entries_of_cluster h) (q i) = or_none-there (table i) (sum_below (entries_of_cluster h) (q i)) live.is_there in
      let all : sum_below h.l1_entries (λ k. or_none (table k) (sum_below (entries_of_cluster h) (p k))) + or_none (table i) (sum_below (entries_of_cluster h) (q i))
      ≡ sum_below h.l1_entries (λ k. or_none (table k) (sum_below (entries_of_cluster h) (q k))) + or_none (table i) (sum_below (entries_of_cluster h) (p i)) =
      sum-change _ i (λ k. or_none (table k) (sum_below (entries_of_cluster h) (p k))) (λ k. or_none (table k) (sum_below (entries_of_cluster h) (q k))) live.in_l1
      (λ k lt apart. elim (cases_eq (table k) 0) [
        | inl e ↦ rw e refl
        | inr there ↦ ap (or_none (table k)) (sum-same _ _ _ (λ m less. same k m record { in_l1 = lt; is_there = there; in_table = less } (inl apart)))
      ]) in
      omega arith

-- one term is at most the sum
pub slot-le : (table : ℕ → ℕ) (h : Fields) (p : ℕ → ℕ → ℕ) (i j : ℕ) → Live table h i j → p i j ≤ over_slots table h p
unfolding over_slots
slot-le table h p i j live =
    let row : p i j ≤ sum_below (entries_of_cluster h) (p i) = term-le-sum _ j (p i) live.in_table in
    let pt : or_none (table i) (sum_below (entries_of_cluster h) (p i)) ≡ sum_below (entries_of_cluster h) (p i) = or_none-there (table i) (sum_below (entries_of_cluster h) (p i)) live.is_there in
    let all : or_none (table i) (sum_below (entries_of_cluster h) (p i)) ≤ sum_below h.l1_entries (λ k. or_none (table k) (sum_below (entries_of_cluster h) (p k))) =
    term-le-sum _ i (λ k. or_none (table k) (sum_below (entries_of_cluster h) (p k))) live.in_l1 in
    omega arith
