-- The offset of a table, from the entry or header field that references it.
use Rattle.std.proofs.Common.{◌≡◌, ◌≢◌, ℕ, ◌-◌, ◌*◌, ◌/◌, ◌^◌, ◌≤◌, refl, arith, ap, ◌∙◌, inl, inr}
use Rattle.std.specs.Prelude.{Bool, true, false, cond, ◌&&◌, ◌==◌, nat_lt, IsTrue, Ok, Some, None}
use Rattle.std.proofs.lemmas.Bool.{cases_lt, le-ltb}
use Rattle.std.proofs.lemmas.Bool.Decides.{nat_tests}
use Rattle.qcow2_types.specs.Bytes.{Bytes, raw_entry}
use Rattle.qcow2_types.specs.Words.{is_cluster_offset, max_offset, l1_entry_valid, table_offset}
use Rattle.qcow2_types.specs.Header.{Fields, Header, header_of, Limited}
use Rattle.qcow2_types.specs.Entries.{l2_table, l1_table_sound}
use Rattle.qcow2_types.proofs.Counting.Bounded.{all-below}
use Rattle.qcow2_types.proofs.Fields.HeaderLimits.{header-limited}
use Rattle.qcow2_types.proofs.Changes.WriteBack.{place-whole, place-near}
use Rattle.qcow2_metadata.specs.Tables.{offset_or_none}

pub none-place : (offset : ℕ) → None ≡ offset_or_none offset → offset ≡ 0
none-place offset is = pick (offset == 0) refl is
  where
    pick : (b : Bool) → (offset == 0) ≡ b → None ≡ cond b None (Some offset) → offset ≡ 0
    pick true e is = grind (arith, nat_tests)
    pick false e is = absurd cc

pub some-place : (offset place : ℕ) → Some place ≡ offset_or_none offset → (place ≡ offset) × (offset ≢ 0)
some-place offset place is = pick (offset == 0) refl is
  where
    pick : (b : Bool) → (offset == 0) ≡ b → Some place ≡ cond b None (Some offset) → (place ≡ offset) × (offset ≢ 0)
    pick true e is = absurd cc
    pick false e is = (cc, λ none. grind (arith, nat_tests))

module _ (f : Bytes) (H : Header) (loads : header_of false f ≡ Ok H) where
  -- The L1 table is at an addressable cluster.
  pub l1-place : (cluster : ℕ) → cluster ≡ H.fields.l1_offset / 2 ^ H.fields.cluster_bits → (cluster * 2 ^ H.fields.cluster_bits ≡ H.fields.l1_offset) × (cluster * 2 ^ H.fields.cluster_bits ≤ max_offset)
  l1-place cluster is =
      let limited : Limited H.fields = header-limited false f H loads in
      let whole = place-whole H.fields.cluster_bits H.fields.l1_offset limited.l1_place in
      let near = place-near H.fields.cluster_bits H.fields.l1_offset limited.l1_place in
      let at : cluster * 2 ^ H.fields.cluster_bits ≡ H.fields.l1_offset = ap (λ c. c * 2 ^ H.fields.cluster_bits) is ∙ whole in
      (at, omega (arith, near))

-- An L2 table is at an addressable cluster.
pub l2-place : (f : Bytes) (h : Fields) (i : ℕ) → IsTrue (l1_table_sound f h) → l2_table f h i ≢ 0 → (l2_table f h i / 2 ^ h.cluster_bits * 2 ^ h.cluster_bits ≡ l2_table f h i) × (l2_table f h i ≤ max_offset)
unfolding l1_table_sound
l2-place f h i sound there = elim (cases_lt i h.l1_entries) [
  | inl lt ↦
      let inside : nat_lt i h.l1_entries ≡ true = grind (arith, nat_tests) in
      let same : l2_table f h i ≡ table_offset (raw_entry f h.l1_offset i) = ap (λ b. cond b (table_offset (raw_entry f h.l1_offset i)) 0) inside in
      let here : l1_entry_valid h.cluster_bits (raw_entry f h.l1_offset i) ≡ true = all-below h.l1_entries (λ k. l1_entry_valid h.cluster_bits (raw_entry f h.l1_offset k)) sound i lt in
      let begins : is_cluster_offset h.cluster_bits (l2_table f h i) ≡ true = ap (is_cluster_offset h.cluster_bits) same ∙ last _ _ here in
      (place-whole h.cluster_bits (l2_table f h i) begins, place-near h.cluster_bits (l2_table f h i) begins)
  | inr le ↦ let past : nat_lt i h.l1_entries ≡ false = le-ltb _ _ le in absurd (there (ap (λ b. cond b (table_offset (raw_entry f h.l1_offset i)) 0) past))
]
  where
    last : (a b : Bool) → (a && b) ≡ true → b ≡ true
    last true b e = e
    last false b e = absurd cc
