-- A write to a data cluster only changes its own guest cluster.
use Rattle.std.proofs.Common.{◌≡◌, ◌≢◌, ℕ, ◌+◌, ◌*◌, ◌/◌, ◌%◌, ◌<◌, ◌≤◌, refl, arith, ap, sym, subst, ◌∙◌, inl, inr}
use Rattle.std.specs.Prelude.{Bool, false, ◌==◌, nat_lt, if◌then◌else◌, ◌⊎◌, max, IsTrue}
use Rattle.std.proofs.lemmas.Bool.{cases_eq, cases_lt, le-ltb}
use Rattle.std.proofs.lemmas.Bool.Decides.{nat_tests}
use Rattle.std.proofs.lemmas.Nat.{mod_below}
use Rattle.qcow2_types.specs.Bytes.{Bytes, sum_below}
use Rattle.qcow2_types.specs.Words.{Mapping, data_at, unmapped}
use Rattle.qcow2_types.specs.Header.{Fields, cluster_size, entries_of_cluster}
use Rattle.qcow2_types.specs.Entries.{entry, l2_table}
use Rattle.qcow2_types.specs.References.{structure, of_mapping, meets}
use Rattle.qcow2_types.specs.Consistency.{tables_sound}
use Rattle.qcow2_types.proofs.Numbers.Sums.{term-le-sum}
use Rattle.qcow2_types.proofs.Changes.Frames.{touches-cluster, untouched}
use Rattle.qcow2_types.specs.Frames.{Same, Outside, touches, ShowsAs}
use Rattle.qcow2_types.proofs.Counting.Slots.{or_none-there, slot-le}
use Rattle.qcow2_types.specs.Slots.{Live, slot, over_slots, or_none, guest_slot}
use Rattle.qcow2_types.proofs.Counting.Parts.{sum-two}
use Rattle.qcow2_types.specs.Versions.{references_in_either, of_either}
use Rattle.qcow2_types.proofs.Showing.Values.{entry-slot}

-- two terms are at most the sum
pub slots-two : (t : ℕ → ℕ) (h : Fields) (p : ℕ → ℕ → ℕ) (i j k m : ℕ) → Live t h i j → Live t h k m → (k ≢ i) ⊎ (m ≢ j) → p i j + p k m ≤ over_slots t h p
unfolding over_slots
slots-two t h p i j k m live live' apart =
    let row : ℕ → ℕ = λ r. or_none (t r) (sum_below (entries_of_cluster h) (p r)) in
    let here : or_none (t i) (sum_below (entries_of_cluster h) (p i)) ≡ sum_below (entries_of_cluster h) (p i) = or_none-there (t i) (sum_below (entries_of_cluster h) (p i)) live.is_there in
    let there : or_none (t k) (sum_below (entries_of_cluster h) (p k)) ≡ sum_below (entries_of_cluster h) (p k) = or_none-there (t k) (sum_below (entries_of_cluster h) (p k)) live'.is_there in
    elim (cases_eq k i) [
      | inl e ↦
          let both : p i j + p i m ≤ sum_below (entries_of_cluster h) (p i) = sum-two _ j m (p i) live.in_table live'.in_table (other e apart) in
          let all : or_none (t i) (sum_below (entries_of_cluster h) (p i)) ≤ sum_below h.l1_entries (λ r. or_none (t r) (sum_below (entries_of_cluster h) (p r))) = term-le-sum _ i (λ r. or_none (t r) (sum_below (entries_of_cluster h) (p r))) live.in_l1 in
          let same : p k m ≡ p i m = ap (λ r. p r m) e in
          omega arith
      | inr rows ↦
          let a : p i j ≤ sum_below (entries_of_cluster h) (p i) = term-le-sum _ j (p i) live.in_table in
          let b : p k m ≤ sum_below (entries_of_cluster h) (p k) = term-le-sum _ m (p k) live'.in_table in
          let both : or_none (t i) (sum_below (entries_of_cluster h) (p i)) + or_none (t k) (sum_below (entries_of_cluster h) (p k)) ≤ sum_below h.l1_entries (λ r. or_none (t r) (sum_below (entries_of_cluster h) (p r))) =
          sum-two _ i k (λ r. or_none (t r) (sum_below (entries_of_cluster h) (p r))) live.in_l1 live'.in_l1 (λ e. rows (sym e)) in
          omega arith
    ]
  where
    other : k ≡ i → (k ≢ i) ⊎ (m ≢ j) → j ≢ m
    other e (inl bad) = absurd (bad e)
    other e (inr good) = λ e'. good (sym e')

-- A cluster that an entry references and that is referenced once: no table, block or other entry references it.
module _ (f g : Bytes) (h : Fields) (c i j : ℕ) (once : references_in_either f g h c ≤ 1) (live : Live (l2_table f h) h i j) (here : 1 ≤ of_either h (meets h c) (slot f h i j) (slot g h i j)) where
  pub alone-structure : structure f h (meets h c) ≡ 0
  unfolding references_in_either
  alone-structure =
      let le : of_either h (meets h c) (slot f h i j) (slot g h i j) ≤ over_slots (l2_table f h) h (λ k m. of_either h (meets h c) (slot f h k m) (slot g h k m)) =
      slot-le (l2_table f h) h (λ k m. of_either h (meets h c) (slot f h k m) (slot g h k m)) i j live in
      omega arith

  pub alone-slot : (k m : ℕ) → Live (l2_table f h) h k m → (k ≢ i) ⊎ (m ≢ j) → of_either h (meets h c) (slot f h k m) (slot g h k m) ≡ 0
  unfolding references_in_either
  alone-slot k m live' apart =
      let le : of_either h (meets h c) (slot f h i j) (slot g h i j) + of_either h (meets h c) (slot f h k m) (slot g h k m) ≤ over_slots (l2_table f h) h (λ r s. of_either h (meets h c) (slot f h r s) (slot g h r s)) =
      slots-two (l2_table f h) h (λ r s. of_either h (meets h c) (slot f h r s) (slot g h r s)) i j k m live live' apart in
      omega arith

-- other data clusters keep their bytes
pub data-apart : (f x : Bytes) (h : Fields) (c at n : ℕ) → Outside f x at n → c * cluster_size h ≤ at → at + n ≤ (c + 1) * cluster_size h → (m : Mapping) → of_mapping h (meets h c) m ≡ 0
    → (d : ℕ) (copied : Bool) → m ≡ data_at d copied → Same f x (d * cluster_size h) (cluster_size h)
data-apart f x h c at n out low high m none d copied e =
    let w : of_mapping h (meets h c) (data_at d copied) ≡ 0 = subst (λ y. of_mapping h (meets h c) y ≡ 0) e none in
    let le : touches at n (d * cluster_size h) (cluster_size h) ≤ meets h c (d * cluster_size h) (cluster_size h) = touches-cluster h c at n low high _ _ in
    untouched f x at n (d * cluster_size h) (cluster_size h) out (none-left _ _ le w)
  where
    none-left : (a b : ℕ) → a ≤ b → b ≡ 0 → a ≡ 0
    none-left a b le z = omega arith

-- Only the guest cluster of that entry reads differently.
pub data-write-elsewhere : (f g x : Bytes) (h : Fields) (c i j at n : ℕ) → references_in_either f g h c ≤ 1 → Live (l2_table f h) h i j → 1 ≤ of_either h (meets h c) (slot f h i j) (slot g h i j)
    → Outside f x at n → c * cluster_size h ≤ at → at + n ≤ (c + 1) * cluster_size h → IsTrue (tables_sound f h) → IsTrue (tables_sound x h) → 0 < entries_of_cluster h
    → (guest : ℕ) → (guest / entries_of_cluster h ≢ i) ⊎ (guest % entries_of_cluster h ≢ j) → ((k : ℕ) → guest_slot x h k ≡ guest_slot f h k) → ShowsAs x f h guest
data-write-elsewhere f g x h c i j at n once live here out low high sound sound' some guest apart slots = record {
  mapping = same;
  bytes = λ d copied e.
      go (cases_eq (l2_table f h (guest / entries_of_cluster h)) 0) (cases_lt (guest / entries_of_cluster h) h.l1_entries) d copied (sym (same ∙ entry-slot f h guest sound) ∙ e);
}
  where
    same : entry x h guest ≡ entry f h guest
    same = entry-slot x h guest sound' ∙ (slots guest ∙ sym (entry-slot f h guest sound))

    none-of : (a b : ℕ) → max a b ≡ 0 → a ≡ 0
    none-of a b e = omega arith

    go : (l2_table f h (guest / entries_of_cluster h) ≡ 0) ⊎ (l2_table f h (guest / entries_of_cluster h) ≢ 0) → (guest / entries_of_cluster h < h.l1_entries) ⊎ (h.l1_entries ≤ guest / entries_of_cluster h)
        → (d : ℕ) (copied : Bool) → guest_slot f h guest ≡ data_at d copied → Same f x (d * cluster_size h) (cluster_size h)
    go (inl e) _ d copied is = let bad : unmapped ≡ data_at d copied = rw e at is in absurd cc
    go (inr there) (inr past) d copied is = let test : nat_lt (guest / entries_of_cluster h) h.l1_entries ≡ false = le-ltb _ _ past in absurd (there (rw test refl))
    go (inr there) (inl lt) d copied is =
        let l : Live (l2_table f h) h (guest / entries_of_cluster h) (guest % entries_of_cluster h) = record { in_l1 = lt; is_there = there; in_table = mod_below guest (entries_of_cluster h) some } in
        let zero-here : of_either h (meets h c) (slot f h (guest / entries_of_cluster h) (guest % entries_of_cluster h)) (slot g h (guest / entries_of_cluster h) (guest % entries_of_cluster h)) ≡ 0 = alone-slot f g h c i j once live here _ _ l apart in
        data-apart f x h c at n out low high (slot f h (guest / entries_of_cluster h) (guest % entries_of_cluster h)) (none-of _ _ zero-here) d copied (slot-is there is)
      where
        slot-is : l2_table f h (guest / entries_of_cluster h) ≢ 0 → guest_slot f h guest ≡ data_at d copied → slot f h (guest / entries_of_cluster h) (guest % entries_of_cluster h) ≡ data_at d copied
        slot-is there' is' = drop-test (l2_table f h (guest / entries_of_cluster h)) _ _ there' is'
          where
            drop-test : (t : ℕ) (a b : Mapping) → t ≢ 0 → (if t == 0 then unmapped else a) ≡ b → a ≡ b
            drop-test t a b apart' e = elim (cases_eq t 0) [
              | inl z ↦ absurd (apart' z)
              | inr _ ↦ (sym (there-test t a apart') ∙ e)
            ]
              where
                there-test : (u : ℕ) (y : Mapping) → u ≢ 0 → (if u == 0 then unmapped else y) ≡ y
                there-test u y ne = grind (arith, nat_tests)
