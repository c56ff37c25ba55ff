-- A refcount table entry that referenced no block is set to reference one.
use Rattle.std.proofs.Common.{◌≡◌, ◌≢◌, ℕ, ◌+◌, ◌*◌, ◌/◌, ◌%◌, ◌^◌, ◌<◌, ◌≤◌, refl, arith, sym, subst, ◌∙◌, ap, inl, inr}
use Rattle.std.specs.Prelude.{true, cond, ◌&&◌, ◌==◌, nat_lt, IsTrue}
use Rattle.std.specs.Int.{w64, to_be_bytes}
use Rattle.std.proofs.lemmas.Bool.{cases_eq, lt-ltb}
use Rattle.std.proofs.lemmas.Bool.Decides.{nat_tests}
use Rattle.std.proofs.lemmas.Nat.{mod_below}
use Rattle.std.proofs.Math.Nat.{div-mul-le_self, pow-le-pow_right}
use Rattle.qcow2_types.specs.Bytes.{Bytes, raw_entry, splice, sum_below}
use Rattle.qcow2_types.specs.Words.{Mapping, is_damaged, l1_entry_valid, reftable_entry_valid, is_cluster_offset, block_offset}
use Rattle.qcow2_types.specs.Header.{Header, Shaped, cluster_size, entries_of_cluster, refcount_table_entries}
use Rattle.qcow2_types.specs.Entries.{l2_table}
use Rattle.qcow2_types.specs.Counts.{block_at, count, counter, counters_of_block}
use Rattle.qcow2_types.specs.Slots.{slot, Live, ValidEntries}
use Rattle.qcow2_types.specs.Frames.{Outside, touches, SameStructureOutside, Skipped, block_word}
use Rattle.qcow2_types.specs.References.{Weight, structure, of_cluster, contents, of_mapping, of_copied, meets, refs}
use Rattle.qcow2_types.specs.Consistency.{IsConsistent}
use Rattle.qcow2_types.specs.Steps.{BlockEntered}
use Rattle.qcow2_types.proofs.Counting.Consistent.{header-kept, some-words, meets-own, meets-other, consistent-shaped, structure-named-once, structure-unmapped, copied-named-once, named-counted, consistent-from}
use Rattle.qcow2_types.proofs.Counting.Counters.{whole, counter-same, some-counters}
use Rattle.qcow2_types.proofs.Changes.BlockSteps.{count-there}
use Rattle.qcow2_types.proofs.Changes.DataSteps.{free-stays, data-stays}
use Rattle.qcow2_types.proofs.Changes.Frames.{refcount_table-part, untouched, splice-is-outside}
use Rattle.qcow2_types.proofs.Fields.HeaderLimits.{header-limited}
use Rattle.qcow2_types.proofs.Counting.Parts.{kept-block_word, touches-once, count-kept, l2_table-kept, block_at-kept, slot-kept}
use Rattle.qcow2_types.proofs.Showing.Shows.{shows-outside, table-inside, guest-live, guest-slot-there, guest-slot-none}
use Rattle.qcow2_types.specs.Slots.{guest_slot, over_slots, or_none}
use Rattle.qcow2_types.proofs.Counting.Slots.{contents-slots}
use Rattle.qcow2_types.proofs.Counting.Sound.{sound-words}
use Rattle.qcow2_types.proofs.Numbers.Splices.{word-written}
use Rattle.qcow2_types.proofs.Numbers.Sums.{sum-same, sum-change}
use Rattle.qcow2_types.proofs.Counting.TableSizes.{word-in-cluster}

module _ (f g : Bytes) (H : Header) (was : IsConsistent f H) (i : ℕ) (lt : i < refcount_table_entries H.fields) (empty : block_at f H.fields i ≡ 0) (out : Outside f g (H.fields.refcount_table_offset + 8 * i) 8) (w : ℕ)
    (written : raw_entry g H.fields.refcount_table_offset i ≡ w) (sane : IsTrue (reftable_entry_valid H.fields.cluster_bits w)) (c t : ℕ) (names : block_offset w ≡ t) (there : t ≢ 0) (begins : t ≡ c * cluster_size H.fields)
    (not_referenced : refs f H.fields c ≡ 0) (counted : c / counters_of_block H.fields ≢ i → 1 ≤ count f H.fields c) (counted_here : c / counters_of_block H.fields ≡ i → 1 ≤ counter f H.fields t (c % counters_of_block H.fields)) where
  -- the cluster of the entry starts at or before the entry, and ends at or after its end
  low : (H.fields.refcount_table_offset + 8 * i) / cluster_size H.fields * cluster_size H.fields ≤ H.fields.refcount_table_offset + 8 * i
  low = div-mul-le_self (H.fields.refcount_table_offset + 8 * i) (cluster_size H.fields)

  high : H.fields.refcount_table_offset + 8 * i + 8 ≤ ((H.fields.refcount_table_offset + 8 * i) / cluster_size H.fields + 1) * cluster_size H.fields
  high =
      let shaped : Shaped H.fields = consistent-shaped f H was in
      let size : 2 ^ 9 ≤ 2 ^ H.fields.cluster_bits = pow-le-pow_right (omega arith) shaped.low in
      let begin : is_cluster_offset H.fields.cluster_bits H.fields.refcount_table_offset ≡ true = (header-limited true f H was.readable.loads).refcount_place in
      let multiple : H.fields.refcount_table_offset % 2 ^ H.fields.cluster_bits ≡ 0 = grind (arith, nat_tests) in
      word-in-cluster H.fields.refcount_table_offset (cluster_size H.fields) (entries_of_cluster H.fields) i (omega arith) (whole H.fields.cluster_bits (omega arith)) multiple

  -- the length of the refcount table in bytes, by its entries
  table-bytes : H.fields.refcount_table_clusters * cluster_size H.fields ≡ refcount_table_entries H.fields * 8
  table-bytes =
      let shaped : Shaped H.fields = consistent-shaped f H was in
      let size : 2 ^ 9 ≤ 2 ^ H.fields.cluster_bits = pow-le-pow_right (omega arith) shaped.low in
      let raw_entries : entries_of_cluster H.fields * 8 ≡ cluster_size H.fields = whole H.fields.cluster_bits (omega arith) in
      let a : H.fields.refcount_table_clusters * (entries_of_cluster H.fields * 8) ≡ H.fields.refcount_table_clusters * cluster_size H.fields = ap (λ x. H.fields.refcount_table_clusters * x) raw_entries in
      omega arith

  -- the structure has weight in that cluster
  table-weighs : 1 ≤ structure f H.fields (meets H.fields ((H.fields.refcount_table_offset + 8 * i) / cluster_size H.fields))
  table-weighs =
      let bytes : H.fields.refcount_table_clusters * cluster_size H.fields ≡ refcount_table_entries H.fields * 8 = table-bytes in
      let part : meets H.fields ((H.fields.refcount_table_offset + 8 * i) / cluster_size H.fields) H.fields.refcount_table_offset (H.fields.refcount_table_clusters * cluster_size H.fields) ≤ structure f H.fields (meets H.fields ((H.fields.refcount_table_offset + 8 * i) / cluster_size H.fields)) =
      refcount_table-part f H.fields (meets H.fields ((H.fields.refcount_table_offset + 8 * i) / cluster_size H.fields)) in
      let begin : (H.fields.refcount_table_offset + 8 * i) / cluster_size H.fields * cluster_size H.fields ≤ H.fields.refcount_table_offset + 8 * i = low in
      let end : H.fields.refcount_table_offset + 8 * i + 8 ≤ ((H.fields.refcount_table_offset + 8 * i) / cluster_size H.fields + 1) * cluster_size H.fields = high in
      let some : 0 < H.fields.refcount_table_clusters * cluster_size H.fields = omega arith in
      let front : H.fields.refcount_table_offset < ((H.fields.refcount_table_offset + 8 * i) / cluster_size H.fields + 1) * cluster_size H.fields = omega arith in
      let back : (H.fields.refcount_table_offset + 8 * i) / cluster_size H.fields * cluster_size H.fields < H.fields.refcount_table_offset + H.fields.refcount_table_clusters * cluster_size H.fields = omega arith in
      let here : meets H.fields ((H.fields.refcount_table_offset + 8 * i) / cluster_size H.fields) H.fields.refcount_table_offset (H.fields.refcount_table_clusters * cluster_size H.fields) ≡ 1 = rw (lt-ltb _ _ some, lt-ltb _ _ front, lt-ltb _ _ back) refl in
      omega arith

  number : Skipped → ℕ
  number (block_word r) = r
  number _ = i + 1

  -- the rest of the structure is the same
  pub entered-kept : SameStructureOutside f g H.fields (block_word i)
  entered-kept = kept-block_word f g H.fields i out (touches-once f H.fields _ (H.fields.refcount_table_offset + 8 * i) 8 (was.structure_apart _) low high) lt

  pub entered-here : block_at g H.fields i ≡ t
  entered-here = let within : nat_lt i (refcount_table_entries H.fields) ≡ true = lt-ltb _ _ lt in rw within (ap block_offset written ∙ names)

  -- every other entry references the same block
  pub entered-blocks : (b : ℕ) → b ≢ i → block_at g H.fields b ≡ block_at f H.fields b
  unfolding number
  entered-blocks b apart = block_at-kept f g H.fields (block_word i) entered-kept b (λ e. apart (sym (ap number e)))

  pub entered-tables : (k : ℕ) → l2_table g H.fields k ≡ l2_table f H.fields k
  entered-tables k = l2_table-kept f g H.fields (block_word i) entered-kept k (λ e. cc)

  pub entered-slots : (k m : ℕ) → Live (l2_table f H.fields) H.fields k m → slot g H.fields k m ≡ slot f H.fields k m
  entered-slots k m live = slot-kept f g H.fields (block_word i) entered-kept k m live (λ e. cc) (λ e. cc)

  pub entered-counts : (d : ℕ) → d / counters_of_block H.fields ≢ i → count g H.fields d ≡ count f H.fields d
  unfolding number
  entered-counts d apart = count-kept f g H.fields (block_word i) entered-kept d (consistent-shaped f H was) (λ e. apart (sym (ap number e))) (λ e. cc)

  -- the new block doesn't overlap the entry
  apart-from-word : touches (H.fields.refcount_table_offset + 8 * i) 8 t (cluster_size H.fields) ≡ 0
  unfolding refs touches
  apart-from-word =
      let none : structure f H.fields (meets H.fields c) + contents f H.fields (of_mapping H.fields (meets H.fields c)) ≡ 0 = not_referenced in
      let bytes : H.fields.refcount_table_clusters * cluster_size H.fields ≡ refcount_table_entries H.fields * 8 = table-bytes in
      let part : meets H.fields c H.fields.refcount_table_offset (H.fields.refcount_table_clusters * cluster_size H.fields) ≤ structure f H.fields (meets H.fields c) = refcount_table-part f H.fields (meets H.fields c) in
      let off : meets H.fields c H.fields.refcount_table_offset (H.fields.refcount_table_clusters * cluster_size H.fields) ≡ 0 = omega arith in
      numbers H.fields.refcount_table_offset (refcount_table_entries H.fields) (cluster_size H.fields) (ap (λ n. meets H.fields c H.fields.refcount_table_offset n) (sym bytes) ∙ off) lt begins
    where
      numbers : (offset entries size : ℕ) → cond {A = ℕ} (nat_lt 0 (entries * 8) && nat_lt offset ((c + 1) * size) && nat_lt (c * size) (offset + entries * 8)) 1 0 ≡ 0 → i < entries → t ≡ c * size
          → cond {A = ℕ} (nat_lt 0 size && nat_lt t (offset + 8 * i + 8) && nat_lt (offset + 8 * i) (t + size)) 1 0 ≡ 0
      numbers offset entries size off less is = grind (arith, nat_tests)

  -- so its refcounts are the same in both files
  pub entered-new-counts : (d : ℕ) → d / counters_of_block H.fields ≡ i → count g H.fields d ≡ counter f H.fields t (d % counters_of_block H.fields)
  entered-new-counts d e =
      let at : block_at g H.fields (d / counters_of_block H.fields) ≡ t = ap (block_at g H.fields) e ∙ entered-here in
      let is : block_at g H.fields (d / counters_of_block H.fields) ≢ 0 = λ z. there (sym at ∙ z) in
      let some : 0 < counters_of_block H.fields = some-counters H.fields (consistent-shaped f H was) in
      count-there g H.fields d is
      ∙ (ap (λ p. counter g H.fields p (d % counters_of_block H.fields)) at
      ∙ counter-same f g H.fields t (untouched f g (H.fields.refcount_table_offset + 8 * i) 8 t (cluster_size H.fields) out apart-from-word) (d % counters_of_block H.fields) (mod_below d (counters_of_block H.fields) some))

  -- the weight of the structure grows by the new block
  entered-structure : (v : Weight) → structure g H.fields v ≡ structure f H.fields v + v t (cluster_size H.fields)
  unfolding structure
  entered-structure v =
      let tables : sum_below H.fields.l1_entries (λ k. of_cluster H.fields v (l2_table g H.fields k)) ≡ sum_below H.fields.l1_entries (λ k. of_cluster H.fields v (l2_table f H.fields k)) =
      sum-same _ _ _ (λ k less. ap (of_cluster H.fields v) (entered-tables k)) in
      let blocks : sum_below (refcount_table_entries H.fields) (λ k. of_cluster H.fields v (block_at g H.fields k)) + of_cluster H.fields v (block_at f H.fields i) ≡ sum_below (refcount_table_entries H.fields) (λ k. of_cluster H.fields v (block_at f H.fields k)) + of_cluster H.fields v (block_at g H.fields i) =
      sum-change _ i (λ k. of_cluster H.fields v (block_at g H.fields k)) (λ k. of_cluster H.fields v (block_at f H.fields k)) lt (λ k less apart. ap (of_cluster H.fields v) (entered-blocks k apart)) in
      let old : of_cluster H.fields v (block_at f H.fields i) ≡ 0 = rw empty refl in
      let new : of_cluster H.fields v (block_at g H.fields i) ≡ v t (cluster_size H.fields) = ap (of_cluster H.fields v) entered-here ∙ weighs t there (v t (cluster_size H.fields)) in
      omega arith
    where
      weighs : (p : ℕ) → p ≢ 0 → (x : ℕ) → cond (p == 0) 0 x ≡ x
      weighs p is x = grind (arith, nat_tests)

  entered-contents : (of : Mapping → ℕ) → contents g H.fields of ≡ contents f H.fields of
  unfolding over_slots
  entered-contents of = contents-slots g H.fields of ∙ (sum-same _ _ _ (λ k less. row k) ∙ sym (contents-slots f H.fields of))
    where
      row : (k : ℕ) → or_none (l2_table g H.fields k) (sum_below (entries_of_cluster H.fields) (λ j. of (slot g H.fields k j))) ≡ or_none (l2_table f H.fields k) (sum_below (entries_of_cluster H.fields) (λ j. of (slot f H.fields k j)))
      row k = elim (cases_eq (l2_table f H.fields k) 0) [
        | inl e ↦ rw (entered-tables k, e) refl
        | inr is ↦
            ap (λ p. or_none p (sum_below (entries_of_cluster H.fields) (λ j. of (slot g H.fields k j)))) (entered-tables k)
            ∙ ap (or_none (l2_table f H.fields k)) (sum-same _ _ _ (λ j less. ap of (entered-slots k j record { in_l1 = table-inside f H.fields k is; is_there = is; in_table = less })))
      ]

  entered-sum : (d : ℕ) → refs g H.fields d ≡ refs f H.fields d + meets H.fields d t (cluster_size H.fields)
  unfolding refs
  entered-sum d =
      let base : structure g H.fields (meets H.fields d) ≡ structure f H.fields (meets H.fields d) + meets H.fields d t (cluster_size H.fields) = entered-structure (meets H.fields d) in
      let rest : contents g H.fields (of_mapping H.fields (meets H.fields d)) ≡ contents f H.fields (of_mapping H.fields (meets H.fields d)) = entered-contents (of_mapping H.fields (meets H.fields d)) in
      omega arith

  -- the new block fills its cluster
  entered-meets : (d : ℕ) → meets H.fields d t (cluster_size H.fields) ≡ meets H.fields d (c * cluster_size H.fields) (cluster_size H.fields)
  entered-meets d = ap (λ p. meets H.fields d p (cluster_size H.fields)) begins

  -- Only the entry references the new block's cluster. The references of every other cluster are the same.
  pub entered-once : refs g H.fields c ≡ 1
  entered-once =
      let sum : refs g H.fields c ≡ refs f H.fields c + meets H.fields c t (cluster_size H.fields) = entered-sum c in
      let own : meets H.fields c t (cluster_size H.fields) ≡ 1 = entered-meets c ∙ meets-own H.fields c in
      omega arith

  pub entered-references : (d : ℕ) → d ≢ c → refs g H.fields d ≡ refs f H.fields d
  entered-references d apart =
      let sum : refs g H.fields d ≡ refs f H.fields d + meets H.fields d t (cluster_size H.fields) = entered-sum d in
      let none : meets H.fields d t (cluster_size H.fields) ≡ 0 = entered-meets d ∙ meets-other H.fields d c (λ e. apart (sym e)) in
      omega arith

  -- all entries stay valid
  entered-sound : ValidEntries g H.fields
  unfolding number
  entered-sound =
      let sound : ValidEntries f H.fields = sound-words f H.fields was.readable.tables in
      record {
        l1 = λ k less. ap (l1_entry_valid H.fields.cluster_bits) (entered-kept.l1 k less (λ e. cc)) ∙ sound.l1 k less;
        blocks = λ k less. elim (cases_eq k i) [
          | inl e ↦ ap (λ r. reftable_entry_valid H.fields.cluster_bits (raw_entry g H.fields.refcount_table_offset r)) e ∙ (ap (reftable_entry_valid H.fields.cluster_bits) written ∙ sane)
          | inr apart ↦ ap (reftable_entry_valid H.fields.cluster_bits) (entered-kept.blocks k less (λ e. apart (sym (ap number e)))) ∙ sound.blocks k less
        ];
        slots = λ k m live.
            let old : Live (l2_table f H.fields) H.fields k m = record { in_l1 = live.in_l1; is_there = (λ e. live.is_there (entered-tables k ∙ e)); in_table = live.in_table } in
            ap is_damaged (entered-slots k m old) ∙ sound.slots k m old;
      }

  -- the refcount of the new block's cluster is above 0, in the new block or in another one
  new-counted : 1 ≤ count g H.fields c
  new-counted = elim (cases_eq (c / counters_of_block H.fields) i) [
    | inl e ↦ subst (λ n. 1 ≤ n) (sym (entered-new-counts c e)) (counted_here e)
    | inr apart ↦ subst (λ n. 1 ≤ n) (sym (entered-counts c apart)) (counted apart)
  ]

  -- a cluster without a block had no references
  uncounted : (d : ℕ) → d / counters_of_block H.fields ≡ i → refs f H.fields d ≡ 0
  unfolding count
  uncounted d e =
      let none : block_at f H.fields (d / counters_of_block H.fields) ≡ 0 = ap (block_at f H.fields) e ∙ empty in
      let zero : count f H.fields d ≡ 0 = (rw none refl) in
      let le : refs f H.fields d ≤ count f H.fields d = named-counted f H was d in
      omega arith

  entered-consistent : IsConsistent g H
  entered-consistent = consistent-from g H (header-kept true f g H was.readable.loads (entered-kept.start (λ e. cc))) was.readable.no_snapshots was.readable.data_inside entered-sound alone single covered
    where
      alone : (d : ℕ) → 0 < structure g H.fields (meets H.fields d) → refs g H.fields d ≤ 1
      alone d some = elim (cases_eq d c) [
        | inl e ↦ subst (λ x. refs g H.fields x ≤ 1) (sym e) (omega (arith, entered-once))
        | inr apart ↦
            let base : structure g H.fields (meets H.fields d) ≡ structure f H.fields (meets H.fields d) + meets H.fields d t (cluster_size H.fields) = entered-structure (meets H.fields d) in
            let none : meets H.fields d t (cluster_size H.fields) ≡ 0 = entered-meets d ∙ meets-other H.fields d c (λ e. apart (sym e)) in
            let once : refs f H.fields d ≡ 1 = structure-named-once f H was d (omega arith) in
            let same : refs g H.fields d ≡ refs f H.fields d = entered-references d apart in
            omega arith
      ]

      single : (d : ℕ) → 0 < contents g H.fields (of_copied H.fields (meets H.fields d)) → refs g H.fields d ≤ 1
      single d some =
          let rest : contents g H.fields (of_copied H.fields (meets H.fields d)) ≡ contents f H.fields (of_copied H.fields (meets H.fields d)) = entered-contents (of_copied H.fields (meets H.fields d)) in
          let once : refs f H.fields d ≡ 1 = copied-named-once f H was d (omega arith) in
          elim (cases_eq d c) [
            | inl e ↦ subst (λ x. refs g H.fields x ≤ 1) (sym e) (omega (arith, entered-once))
            | inr apart ↦ let same : refs g H.fields d ≡ refs f H.fields d = entered-references d apart in omega arith
          ]

      covered : (d : ℕ) → refs g H.fields d ≤ count g H.fields d
      covered d = elim (cases_eq d c) [
        | inl e ↦ subst (λ x. refs g H.fields x ≤ count g H.fields x) (sym e) (omega (arith, entered-once, new-counted))
        | inr apart ↦
            let same : refs g H.fields d ≡ refs f H.fields d = entered-references d apart in
            elim (cases_eq (d / counters_of_block H.fields) i) [
              | inl here ↦ let none : refs f H.fields d ≡ 0 = uncounted d here in omega arith
              | inr off ↦
                  let same' : count g H.fields d ≡ count f H.fields d = entered-counts d off in
                  let le : refs f H.fields d ≤ count f H.fields d = named-counted f H was d in
                  omega arith
            ]
      ]

  -- the mapping of each guest cluster is the same
  entered-guest : 0 < entries_of_cluster H.fields → (guest : ℕ) → guest_slot g H.fields guest ≡ guest_slot f H.fields guest
  entered-guest raw_entries guest = elim (cases_eq (l2_table f H.fields (guest / entries_of_cluster H.fields)) 0) [
    | inl z ↦ guest-slot-none g H.fields guest (entered-tables (guest / entries_of_cluster H.fields) ∙ z) ∙ sym (guest-slot-none f H.fields guest z)
    | inr is ↦
        guest-slot-there g H.fields guest (λ z. is (sym (entered-tables (guest / entries_of_cluster H.fields)) ∙ z))
        ∙ (entered-slots (guest / entries_of_cluster H.fields) (guest % entries_of_cluster H.fields) (guest-live f H.fields guest raw_entries is) ∙ sym (guest-slot-there f H.fields guest is))
  ]

  -- The image stays consistent, and each guest cluster reads as before.
  pub block-entered : BlockEntered f g H i c t
  block-entered =
      let raw_entries : 0 < entries_of_cluster H.fields = some-words H.fields (consistent-shaped f H was) in
      record {
        consistent = entered-consistent;
        same_structure_outside = entered-kept;
        here = entered-here;
        blocks = entered-blocks;
        tables = entered-tables;
        slots = entered-slots;
        counts = entered-counts;
        new_counts = entered-new-counts;
        named_once = entered-once;
        structure = entered-structure;
        contents = entered-contents;
        references = entered-references;
        shows = λ guest. shows-outside f g H.fields was.readable.tables entered-consistent.readable.tables raw_entries guest (entered-guest raw_entries guest) _ (H.fields.refcount_table_offset + 8 * i) 8 out low high (structure-unmapped f H was _ table-weighs);
        free = free-stays f g H _ (H.fields.refcount_table_offset + 8 * i) 8 out low high table-weighs;
        mapped = data-stays f g H was _ (H.fields.refcount_table_offset + 8 * i) 8 out low high table-weighs;
      }

-- The written bytes are those of the raw entry.
pub block-entered-spliced : (f : Bytes) (H : Header) → IsConsistent f H → (i : ℕ) → i < refcount_table_entries H.fields → block_at f H.fields i ≡ 0 → (w : ℕ) → w < 2 ^ 64 → IsTrue (reftable_entry_valid H.fields.cluster_bits w)
    → (c t : ℕ) → block_offset w ≡ t → t ≢ 0 → t ≡ c * cluster_size H.fields → refs f H.fields c ≡ 0 → (c / counters_of_block H.fields ≢ i → 1 ≤ count f H.fields c)
    → (c / counters_of_block H.fields ≡ i → 1 ≤ counter f H.fields t (c % counters_of_block H.fields)) → BlockEntered f (splice f (H.fields.refcount_table_offset + 8 * i) (to_be_bytes w64 w)) H i c t
block-entered-spliced f H was i lt empty w fits sane c t names there begins not_referenced counted here =
    block-entered f (splice f (H.fields.refcount_table_offset + 8 * i) (to_be_bytes w64 w)) H was i lt empty (splice-is-outside f (H.fields.refcount_table_offset + 8 * i) (to_be_bytes w64 w)) w
    (word-written f H.fields.refcount_table_offset i w fits) sane c t names there begins not_referenced counted here
