-- An L1 entry that referenced no table is set to reference a table of zeroes.
use Rattle.std.proofs.Common.{◌≡◌, ◌≢◌, ℕ, ◌+◌, ◌*◌, ◌/◌, ◌%◌, ◌^◌, ◌<◌, ◌≤◌, refl, arith, sym, subst, ◌∙◌, ap, inl, inr}
use Rattle.std.specs.Prelude.{IsTrue}
use Rattle.std.specs.Int.{w64, to_be_bytes}
use Rattle.std.proofs.lemmas.Bool.{cases_eq, cases_lt}
use Rattle.std.proofs.lemmas.Nat.{mod_below}
use Rattle.qcow2_types.specs.Bytes.{Bytes, raw_entry, splice}
use Rattle.qcow2_types.specs.Words.{Mapping, unmapped, is_damaged, mapping_of, l1_entry_valid, table_offset}
use Rattle.qcow2_types.specs.Header.{Header, cluster_size, entries_of_cluster, layout_of}
use Rattle.qcow2_types.specs.Entries.{l2_table, l2_mapping}
use Rattle.qcow2_types.specs.Counts.{count}
use Rattle.qcow2_types.specs.Slots.{slot, Live, guest_slot}
use Rattle.qcow2_types.specs.Frames.{Outside}
use Rattle.qcow2_types.specs.References.{Weight, structure, of_cluster, of_table, of_table_or_none, contents, of_mapping, of_copied, meets, refs}
use Rattle.qcow2_types.specs.Consistency.{IsConsistent}
use Rattle.qcow2_types.specs.Steps.{TableEntered, TableReplaced}
use Rattle.qcow2_types.proofs.Counting.Consistent.{some-words, meets-own, meets-other, consistent-shaped, structure-named-once, structure-unmapped, copied-named-once, named-counted}
use Rattle.qcow2_types.proofs.Changes.Frames.{splice-is-outside}
use Rattle.qcow2_types.proofs.Counting.Limit.{sum-zero}
use Rattle.qcow2_types.proofs.Showing.Shows.{guest-live, guest-slot-there, guest-slot-none, shows-outside}
use Rattle.qcow2_types.proofs.Numbers.Splices.{word-written}
use Rattle.qcow2_types.proofs.Changes.TableReplaces.{low, high, l1-weighs, table-replaced, table-swapped}
use Rattle.qcow2_types.proofs.Numbers.WordLemmas.{zero-word}

module _ (f g : Bytes) (H : Header) (was : IsConsistent f H) (i : ℕ) (lt : i < H.fields.l1_entries) (empty : l2_table f H.fields i ≡ 0) (out : Outside f g (H.fields.l1_offset + 8 * i) 8) (w : ℕ)
    (written : raw_entry g H.fields.l1_offset i ≡ w) (sane : IsTrue (l1_entry_valid H.fields.cluster_bits w)) (c t : ℕ) (names : table_offset w ≡ t) (there : t ≢ 0) (begins : t ≡ c * cluster_size H.fields)
    (not_referenced : refs f H.fields c ≡ 0) (counted : 1 ≤ count f H.fields c) (zeroes : (j : ℕ) → j < entries_of_cluster H.fields → raw_entry f t j ≡ 0) where
  -- the case of `table-replaced` without an old table
  entered-replaced : TableReplaced f g H i t
  entered-replaced = table-replaced f g H was i lt out w written sane c t names there begins not_referenced

  -- the entries of the new table are 0
  new-words : (j : ℕ) → j < entries_of_cluster H.fields → raw_entry g t j ≡ 0
  new-words j less = entered-replaced.raw_entries j less ∙ zeroes j less

  -- so its guest clusters are unmapped
  new-unmapped : (j : ℕ) → j < entries_of_cluster H.fields → l2_mapping f H.fields t j ≡ unmapped
  new-unmapped j less = ap (mapping_of (layout_of H.fields)) (zeroes j less) ∙ zero-word (layout_of H.fields)

  entered-empty : (j : ℕ) → j < entries_of_cluster H.fields → slot g H.fields i j ≡ unmapped
  entered-empty j less = ap (λ p. l2_mapping g H.fields p j) entered-replaced.here ∙ (ap (mapping_of (layout_of H.fields)) (new-words j less) ∙ zero-word (layout_of H.fields))

  -- every other entry has the same mapping
  entered-others : (k m : ℕ) → Live (l2_table f H.fields) H.fields k m → slot g H.fields k m ≡ slot f H.fields k m
  entered-others k m live = entered-replaced.others k m live (λ e. live.is_there (ap (l2_table f H.fields) e ∙ empty))

  -- the weight of the structure grows by the new table
  entered-structure : (v : Weight) → structure g H.fields v ≡ structure f H.fields v + v t (cluster_size H.fields)
  entered-structure v =
      let sum : structure g H.fields v + of_cluster H.fields v (l2_table f H.fields i) ≡ structure f H.fields v + v t (cluster_size H.fields) = entered-replaced.structure v in
      let old : of_cluster H.fields v (l2_table f H.fields i) ≡ 0 = rw empty refl in
      omega arith

  entered-contents : (of : Mapping → ℕ) → of unmapped ≡ 0 → contents g H.fields of ≡ contents f H.fields of
  unfolding of_table
  entered-contents of none =
      let sum : contents g H.fields of + of_table_or_none f H.fields of (l2_table f H.fields i) ≡ contents f H.fields of + of_table f H.fields of t = entered-replaced.contents of in
      let old : of_table_or_none f H.fields of (l2_table f H.fields i) ≡ 0 = rw empty refl in
      let new : of_table f H.fields of t ≡ 0 = sum-zero _ _ (λ j less. ap of (new-unmapped j less) ∙ none) in
      omega (arith, sum, old, new)

  entered-sum : (d : ℕ) → refs g H.fields d ≡ refs f H.fields d + meets H.fields d t (cluster_size H.fields)
  unfolding refs
  entered-sum d =
      let base : structure g H.fields (meets H.fields d) ≡ structure f H.fields (meets H.fields d) + meets H.fields d t (cluster_size H.fields) = entered-structure (meets H.fields d) in
      let rest : contents g H.fields (of_mapping H.fields (meets H.fields d)) ≡ contents f H.fields (of_mapping H.fields (meets H.fields d)) = entered-contents (of_mapping H.fields (meets H.fields d)) refl in
      omega arith

  -- the new table fills its cluster
  entered-meets : (d : ℕ) → meets H.fields d t (cluster_size H.fields) ≡ meets H.fields d (c * cluster_size H.fields) (cluster_size H.fields)
  entered-meets d = ap (λ p. meets H.fields d p (cluster_size H.fields)) begins

  -- Only the entry references the new table's cluster. The references of every other cluster are the same.
  entered-once : refs g H.fields c ≡ 1
  entered-once =
      let sum : refs g H.fields c ≡ refs f H.fields c + meets H.fields c t (cluster_size H.fields) = entered-sum c in
      let own : meets H.fields c t (cluster_size H.fields) ≡ 1 = entered-meets c ∙ meets-own H.fields c in
      omega arith

  entered-references : (d : ℕ) → d ≢ c → refs g H.fields d ≡ refs f H.fields d
  entered-references d apart =
      let sum : refs g H.fields d ≡ refs f H.fields d + meets H.fields d t (cluster_size H.fields) = entered-sum d in
      let none : meets H.fields d t (cluster_size H.fields) ≡ 0 = entered-meets d ∙ meets-other H.fields d c (λ e. apart (sym e)) in
      omega arith

  entered-consistent : IsConsistent g H
  entered-consistent =
      (table-swapped f g H was i lt out w written sane c t names there begins not_referenced (λ j less. ap is_damaged (new-unmapped j less)) covered alone).consistent
    where
      covered : (d : ℕ) → refs g H.fields d ≤ count f H.fields d
      covered d = elim (cases_eq d c) [
        | inl e ↦ subst (λ x. refs g H.fields x ≤ count f H.fields x) (sym e) (omega (arith, entered-once))
        | inr apart ↦
            let same : refs g H.fields d ≡ refs f H.fields d = entered-references d apart in
            let le : refs f H.fields d ≤ count f H.fields d = named-counted f H was d in
            omega arith
      ]

      alone : (d : ℕ) → 0 < structure g H.fields (meets H.fields d) + contents g H.fields (of_copied H.fields (meets H.fields d)) → refs g H.fields d ≤ 1
      alone d some = elim (cases_eq d c) [
        | inl e ↦ subst (λ x. refs g H.fields x ≤ 1) (sym e) (omega (arith, entered-once))
        | inr apart ↦
            let base : structure g H.fields (meets H.fields d) ≡ structure f H.fields (meets H.fields d) + meets H.fields d t (cluster_size H.fields) = entered-structure (meets H.fields d) in
            let none : meets H.fields d t (cluster_size H.fields) ≡ 0 = entered-meets d ∙ meets-other H.fields d c (λ e. apart (sym e)) in
            let rest : contents g H.fields (of_copied H.fields (meets H.fields d)) ≡ contents f H.fields (of_copied H.fields (meets H.fields d)) = entered-contents (of_copied H.fields (meets H.fields d)) refl in
            let same : refs g H.fields d ≡ refs f H.fields d = entered-references d apart in
            elim (cases_lt 0 (structure f H.fields (meets H.fields d))) [
              | inl more ↦ let once : refs f H.fields d ≡ 1 = structure-named-once f H was d more in omega arith
              | inr less ↦ let once : refs f H.fields d ≡ 1 = copied-named-once f H was d (omega arith) in omega arith
            ]
      ]

  -- the mapping of each guest cluster is the same
  entered-guest : 0 < entries_of_cluster H.fields → (guest : ℕ) → guest_slot g H.fields guest ≡ guest_slot f H.fields guest
  entered-guest raw_entries guest = elim (cases_eq (guest / entries_of_cluster H.fields) i) [
    | inl e ↦
        guest-slot-there g H.fields guest (λ z. there (sym (ap (l2_table g H.fields) e ∙ entered-replaced.here) ∙ z))
        ∙ (ap (λ r. slot g H.fields r (guest % entries_of_cluster H.fields)) e ∙ (entered-empty (guest % entries_of_cluster H.fields) (mod_below guest (entries_of_cluster H.fields) raw_entries) ∙ sym (guest-slot-none f H.fields guest (ap (l2_table f H.fields) e ∙ empty))))
    | inr apart ↦ elim (cases_eq (l2_table f H.fields (guest / entries_of_cluster H.fields)) 0) [
      | inl z ↦ guest-slot-none g H.fields guest (entered-replaced.tables (guest / entries_of_cluster H.fields) apart ∙ z) ∙ sym (guest-slot-none f H.fields guest z)
      | inr is ↦
          guest-slot-there g H.fields guest (λ z. is (sym (entered-replaced.tables (guest / entries_of_cluster H.fields) apart) ∙ z))
          ∙ (entered-others (guest / entries_of_cluster H.fields) (guest % entries_of_cluster H.fields) (guest-live f H.fields guest raw_entries is) ∙ sym (guest-slot-there f H.fields guest is))
    ]
  ]

  -- The image stays consistent, and each guest cluster reads as before.
  pub table-entered : TableEntered f g H i c t
  table-entered =
      let raw_entries : 0 < entries_of_cluster H.fields = some-words H.fields (consistent-shaped f H was) in
      let weighs = l1-weighs f g H was i lt out w written sane c t names there begins not_referenced in
      record {
        consistent = entered-consistent;
        same_structure_outside = entered-replaced.same_structure_outside;
        here = entered-replaced.here;
        tables = entered-replaced.tables;
        blocks = entered-replaced.blocks;
        zeroes = new-words;
        empty = entered-empty;
        others = entered-others;
        counts = entered-replaced.counts;
        named_once = entered-once;
        references = entered-references;
        shows = λ guest. shows-outside f g H.fields was.readable.tables entered-consistent.readable.tables raw_entries guest (entered-guest raw_entries guest) _ (H.fields.l1_offset + 8 * i) 8 out
            (low f g H was i lt out w written sane c t names there begins not_referenced) (high f g H was i lt out w written sane c t names there begins not_referenced) (structure-unmapped f H was _ weighs);
        free = entered-replaced.free;
        mapped = entered-replaced.mapped;
      }

-- The written bytes are those of the raw entry.
pub table-entered-spliced : (f : Bytes) (H : Header) → IsConsistent f H → (i : ℕ) → i < H.fields.l1_entries → l2_table f H.fields i ≡ 0 → (w : ℕ) → w < 2 ^ 64 → IsTrue (l1_entry_valid H.fields.cluster_bits w)
    → (c t : ℕ) → table_offset w ≡ t → t ≢ 0 → t ≡ c * cluster_size H.fields → refs f H.fields c ≡ 0 → 1 ≤ count f H.fields c → ((j : ℕ) → j < entries_of_cluster H.fields → raw_entry f t j ≡ 0)
    → TableEntered f (splice f (H.fields.l1_offset + 8 * i) (to_be_bytes w64 w)) H i c t
table-entered-spliced f H was i lt empty w fits sane c t names there begins not_referenced counted zeroes =
    table-entered f (splice f (H.fields.l1_offset + 8 * i) (to_be_bytes w64 w)) H was i lt empty (splice-is-outside f (H.fields.l1_offset + 8 * i) (to_be_bytes w64 w)) w (word-written f H.fields.l1_offset i w fits)
    sane c t names there begins not_referenced counted zeroes
