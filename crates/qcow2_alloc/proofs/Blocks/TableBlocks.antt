-- The blocks that the refcount table in memory references.
use Rattle.std.proofs.Common.{◌≡◌, ◌≢◌, ℕ, ◌*◌, ◌/◌, ◌^◌, ◌≤◌, refl, arith, ap, sym, subst, ◌∙◌, None, Some, inl, inr}
use Rattle.std.specs.Prelude.{slice_index, nat_lt, false}
use Rattle.std.proofs.lemmas.List.{get_or_past}
use Rattle.std.proofs.lemmas.Bool.{cases_eq, cases_lt, ne_eqb, le-ltb}
use Rattle.qcow2_types.specs.Bytes.{Bytes}
use Rattle.qcow2_types.specs.Header.{Header, cluster_size, refcount_table_entries}
use Rattle.qcow2_types.specs.Words.{Layout, block_offset, max_offset}
use Rattle.qcow2_types.specs.Counts.{block_at}
use Rattle.qcow2_types.specs.Consistency.{IsConsistent}
use Rattle.qcow2_types.proofs.Changes.BlockSteps.{block-place}
use Rattle.qcow2_types.proofs.Counting.Sound.{sound-words}
use Rattle.qcow2_types.proofs.Changes.WriteBack.{place-near, place-whole}
use Rattle.qcow2_metadata.specs.Places.{IsAddressable}
use Rattle.qcow2_metadata.specs.Tables.{TableValue}
use Rattle.qcow2_alloc.specs.Allocators.{referenced_block}
use Rattle.qcow2_alloc.specs.GuestView.{IsTableOf}

-- Entry `i` of the file's refcount table references the block at cluster `key`.
pub record IsNamed (f : Bytes) (H : Header) (i key : ℕ) : Type 0 where
  pub place : block_at f H.fields i ≡ key * cluster_size H.fields
  pub some : key ≢ 0
  pub reach : IsAddressable H.fields.cluster_bits key

module _ (f : Bytes) (H : Header) (table : TableValue) (i : ℕ) (is : IsTableOf f H.fields table) where
  -- The tables in memory and in the file reference the same blocks.
  pub named-block : (key : ℕ) → IsConsistent f H → referenced_block table i ≡ Some key → IsNamed f H i key
  named-block key was named = elim (cases_lt i (refcount_table_entries H.fields)) [
    | inl lt ↦
        let w = block_offset (slice_index table.raw_entries i) in
        let raw_entry : w ≡ block_at f H.fields i = is.names i lt in
        elim (cases_eq w 0) [
          | inl none ↦ absurd (let no : None ≡ Some key = sym (rw none refl) ∙ named in cc)
          | inr some ↦
              let there : Some (w / 2 ^ table.layout.cluster_bits) ≡ Some key = sym (rw (ne_eqb w 0 some) refl) ∙ named in
              let bits : table.layout.cluster_bits ≡ H.fields.cluster_bits = ap (λ (l : Layout). l.cluster_bits) is.layout in
              let key-is : w / 2 ^ table.layout.cluster_bits ≡ key = (let e = there in cc) in
              let placed = block-place f H.fields i (sound-words f H.fields was.readable.tables) lt in
              let whole = place-whole H.fields.cluster_bits (block_at f H.fields i) placed in
              let near : block_at f H.fields i ≤ max_offset = place-near H.fields.cluster_bits (block_at f H.fields i) placed in
              let at : block_at f H.fields i ≡ key * cluster_size H.fields =
              sym whole ∙ ap (λ n. n * 2 ^ H.fields.cluster_bits) (sym (sym key-is ∙ ap (λ n. n / 2 ^ table.layout.cluster_bits) raw_entry ∙ ap (λ b. block_at f H.fields i / 2 ^ b) bits)) in
              record { place = at; some = λ none. some (raw_entry ∙ at ∙ rw none (omega arith)); reach = subst (λ n. n ≤ max_offset) at near }
        ]
    | inr past ↦
        let long = is.long in
        absurd (let raw_entry : slice_index table.raw_entries i ≡ 0 = get_or_past table.raw_entries i 0 (omega (arith, long, past)) in let no : None ≡ Some key = sym (rw raw_entry refl) ∙ named in cc)
  ]

  pub unnamed-block : referenced_block table i ≡ None → block_at f H.fields i ≡ 0
  unnamed-block none = elim (cases_lt i (refcount_table_entries H.fields)) [
    | inr past ↦ let far : nat_lt i (refcount_table_entries H.fields) ≡ false = le-ltb _ _ past in rw far refl
    | inl lt ↦
        let w = block_offset (slice_index table.raw_entries i) in
        let raw_entry : w ≡ block_at f H.fields i = is.names i lt in
        elim (cases_eq w 0) [
          | inl empty ↦ sym raw_entry ∙ empty
          | inr some ↦ absurd (let no : Some (w / 2 ^ table.layout.cluster_bits) ≡ None = sym (rw (ne_eqb w 0 some) refl) ∙ none in cc)
        ]
  ]
