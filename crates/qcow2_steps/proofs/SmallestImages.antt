-- The smallest image is consistent: its three clusters are referenced once, and have refcount 1. The other clusters have neither.
use Rattle.std.proofs.Common.{◌≡◌, ℕ, zero, suc, ◌+◌, ◌*◌, ◌/◌, ◌%◌, ◌^◌, ◌<◌, ◌≤◌, refl, arith, ap, sym, ◌∙◌, inl, inr, [], Some}
use Rattle.std.specs.Prelude.{true, false, nat_le, nat_lt, ◌==◌}
use Rattle.std.proofs.lemmas.Bool.{cases_eq, cases_lt, le-ltb}
use Rattle.std.proofs.lemmas.Bool.Decides.{nat_tests}
use Rattle.std.proofs.lemmas.Nat.{le-div, pow_pos}
use Rattle.std.proofs.Math.Nat.{div-eq_of_lt, mod-eq_of_lt, mod_self, pow-le-pow_right}
use Rattle.qcow2_types.specs.Bytes.{Bytes, raw_entry, sum_below}
use Rattle.qcow2_types.specs.Consistency.{IsConsistent, leaks, leaks_below}
use Rattle.qcow2_types.specs.Counts.{block_at, count, counter, counters_of_block}
use Rattle.qcow2_types.specs.Entries.{entry, l2_table}
use Rattle.qcow2_types.specs.Header.{Fields, Header, Shaped, cluster_size, entries_of_cluster, refcount_table_entries}
use Rattle.qcow2_types.specs.References.{Weight, contents, meets, of_cluster, of_copied, of_mapping, refs, structure}
use Rattle.qcow2_types.specs.Slots.{ValidEntries}
use Rattle.qcow2_types.specs.Words.{Mapping, block_offset, is_cluster_offset, max_offset, reftable_entry_valid, unmapped}
use Rattle.qcow2_types.proofs.Counting.Consistent.{consistent-from, meets-other, meets-own, some-words}
use Rattle.qcow2_types.proofs.Counting.Leaks.{count-no-block}
use Rattle.qcow2_types.proofs.Counting.Limit.{sum-zero}
use Rattle.qcow2_types.proofs.Fields.HeaderLimits.{fields-shaped}
use Rattle.qcow2_types.proofs.Numbers.Sums.{sum-change}
use Rattle.qcow2_types.proofs.Numbers.WordLemmas.{zero-place}
use Rattle.qcow2_types.proofs.Showing.Values.{entry-slot}
use Rattle.qcow2_metadata.proofs.TableSteps.{block_named, block_word_named}
use Rattle.qcow2_steps.specs.SmallestImage.{IsSmallestImage}

-- If no refcount is greater than the references, no cluster leaks.
none-leak : (f : Bytes) (h : Fields) → ((c : ℕ) → count f h c ≤ refs f h c) → (n : ℕ) → leaks_below f h n ≡ []
unfolding leaks_below
none-leak f h most zero = refl
none-leak f h most (suc n) =
    let test : nat_lt (refs f h n) (count f h n) ≡ false = le-ltb _ _ (most n) in
    rw (none-leak f h most n, test) refl

-- A block has the refcounts of at least 64 clusters.
pub counters-least : (h : Fields) → Shaped h → 64 ≤ counters_of_block h
counters-least h shaped =
    let few : 2 ^ h.refcount_order ≤ 2 ^ 6 = pow-le-pow_right (omega arith) shaped.order in
    let size : 2 ^ 9 ≤ 2 ^ h.cluster_bits = pow-le-pow_right (omega arith) shaped.low in
    le-div 64 (cluster_size h * 8) (2 ^ h.refcount_order) (pow_pos h.refcount_order) (omega arith)

-- the offset of cluster 1 is valid
pub second-place : (bits : ℕ) → bits ≤ 21 → is_cluster_offset bits (2 ^ bits) ≡ true
second-place bits high =
    let le : 2 ^ bits ≤ 2 ^ 21 = pow-le-pow_right (omega arith) high in
    let begin : 2 ^ bits % 2 ^ bits ≡ 0 = mod_self (2 ^ bits) in
    let near : nat_le (2 ^ bits) max_offset ≡ true = grind (arith, nat_tests) in
    rw (begin, near) refl

module _ (f : Bytes) (H : Header) (is : IsSmallestImage f H) where
  abbrev h : Fields
  h = H.fields

  abbrev s : ℕ
  s = cluster_size H.fields

  shaped : Shaped h
  shaped = fields-shaped true f H is.loads

  least : 512 ≤ s
  least = let le : 2 ^ 9 ≤ 2 ^ h.cluster_bits = pow-le-pow_right (omega arith) shaped.low in omega arith

  near : 2 * 2 ^ h.cluster_bits ≤ 0x00ff_ffff_ffff_fe00
  near = let le : 2 ^ h.cluster_bits ≤ 2 ^ 21 = pow-le-pow_right (omega arith) shaped.high in omega arith

  -- The refcount table has the entries of one cluster.
  table-long : refcount_table_entries h ≡ entries_of_cluster h
  table-long = rw is.refcount_table_clusters (omega arith)

  first-word : raw_entry f h.refcount_table_offset 0 ≡ 2 * s
  first-word = ap (λ p. raw_entry f p 0) is.refcount_table_offset ∙ is.first_block

  other-word : (i : ℕ) → 0 < i → i < refcount_table_entries h → raw_entry f h.refcount_table_offset i ≡ 0
  other-word i some lt = ap (λ p. raw_entry f p i) is.refcount_table_offset ∙ is.no_other_block i some (omega (arith, table-long, lt))

  -- Its first entry references the block in cluster 2, and the others reference none.
  first-at : block_at f h 0 ≡ 2 * s
  first-at =
      let inside : nat_lt 0 (refcount_table_entries h) ≡ true = let some = some-words h shaped in let long = table-long in grind (arith, nat_tests) in
      rw inside (ap block_offset first-word ∙ block_named h.cluster_bits 2 shaped.low near)

  other-at : (i : ℕ) → 0 < i → block_at f h i ≡ 0
  other-at i some = elim (cases_lt i (refcount_table_entries h)) [
    | inl lt ↦
        let inside : nat_lt i (refcount_table_entries h) ≡ true = grind (arith, nat_tests) in
        rw inside (ap block_offset (other-word i some lt))
    | inr le ↦ let past : nat_lt i (refcount_table_entries h) ≡ false = le-ltb _ _ le in rw past refl
  ]

  valid : ValidEntries f h
  valid = record {
    l1 = λ i lt. absurd (let none = is.l1_entries in omega (arith, none, lt));
    blocks = λ i lt. elim (cases_eq i 0) [
      | inl e ↦ ap (λ k. reftable_entry_valid h.cluster_bits (raw_entry f h.refcount_table_offset k)) e ∙ ap (reftable_entry_valid h.cluster_bits) first-word ∙ block_word_named h.cluster_bits (Some 2) shaped.low near
      | inr some ↦ ap (reftable_entry_valid h.cluster_bits) (other-word i (omega (arith, some)) lt) ∙ zero-place h.cluster_bits
    ];
    slots = λ i j live. absurd (let none = is.l1_entries in let lt = live.in_l1 in omega (arith, none, lt));
  }

  -- The structure has the three clusters, and an L1 table without bytes.
  blocks-weigh : (w : Weight) → sum_below (refcount_table_entries h) (λ i. of_cluster h w (block_at f h i)) ≡ w (2 * s) s
  blocks-weigh w =
      let some = some-words h shaped in
      let long = table-long in
      let e = sum-change (refcount_table_entries h) 0 (λ i. of_cluster h w (block_at f h i)) (λ _. 0) (omega (arith, some, long)) (λ i lt apart. ap (of_cluster h w) (other-at i (omega (arith, apart)))) in
      let none : sum_below (refcount_table_entries h) (λ _. 0) ≡ 0 = sum-zero (refcount_table_entries h) (λ _. 0) (λ i lt. refl) in
      let there : (2 * s == 0) ≡ false = let size = least in grind (arith, nat_tests) in
      let here : of_cluster h w (block_at f h 0) ≡ w (2 * s) s = ap (of_cluster h w) first-at ∙ rw there refl in
      omega (arith, e, none, here)

  structure-weighs : (w : Weight) → structure f h w ≡ w 0 s + w 0 0 + w s s + w (2 * s) s
  unfolding structure sum_below
  structure-weighs w = rw (blocks-weigh w, is.l1_entries, is.l1_offset, is.refcount_table_offset, is.refcount_table_clusters) (let one : 1 * s ≡ s = omega arith in rw one (omega arith))

  none-mapped : (of : Mapping → ℕ) → contents f h of ≡ 0
  unfolding contents sum_below
  none-mapped of = rw is.l1_entries refl

  named : (c : ℕ) → refs f h c ≡ meets h c (0 * s) s + meets h c (1 * s) s + meets h c (2 * s) s
  unfolding refs
  named c =
      let parts = structure-weighs (meets h c) in
      let none = none-mapped (of_mapping h (meets h c)) in
      let zero-at : 0 * s ≡ 0 = omega arith in
      let one-at : 1 * s ≡ s = omega arith in
      rw (zero-at, one-at) (omega (arith, parts, none))

  named-once : (c : ℕ) → c < 3 → refs f h c ≡ 1
  named-once zero lt = omega (arith, named 0, meets-own h 0, meets-other h 0 1 (omega arith), meets-other h 0 2 (omega arith))
  named-once (suc zero) lt = omega (arith, named 1, meets-own h 1, meets-other h 1 0 (omega arith), meets-other h 1 2 (omega arith))
  named-once (suc (suc zero)) lt = omega (arith, named 2, meets-own h 2, meets-other h 2 0 (omega arith), meets-other h 2 1 (omega arith))
  named-once (suc (suc (suc c))) lt = absurd (omega arith)

  not-named : (c : ℕ) → 3 ≤ c → refs f h c ≡ 0
  not-named c le = omega (arith, named c, meets-other h c 0 (omega arith), meets-other h c 1 (omega arith), meets-other h c 2 (omega arith))

  count-first : (c : ℕ) → c < counters_of_block h → count f h c ≡ counter f h (2 * s) c
  unfolding count
  count-first c lt =
      let row : c / counters_of_block h ≡ 0 = div-eq_of_lt lt in
      let column : c % counters_of_block h ≡ c = mod-eq_of_lt lt in
      let there : (2 * s == 0) ≡ false = let size = least in grind (arith, nat_tests) in
      rw (row, column, first-at, there) refl

  count-other : (c : ℕ) → counters_of_block h ≤ c → count f h c ≡ 0
  count-other c le =
      let long = counters-least h shaped in
      let row : 1 ≤ c / counters_of_block h = le-div 1 c (counters_of_block h) (omega (arith, long)) (omega (arith, le)) in
      count-no-block f h c (other-at (c / counters_of_block h) row)

  -- Each refcount is the number of references.
  exact : (c : ℕ) → count f h c ≡ refs f h c
  exact c =
      let long = counters-least h shaped in
      elim (cases_lt c 3) [
        | inl lt ↦ count-first c (omega (arith, long, lt)) ∙ is.allocated c lt ∙ sym (named-once c lt)
        | inr le ↦ elim (cases_lt c (counters_of_block h)) [
          | inl lt ↦ count-first c lt ∙ is.free c le lt ∙ sym (not-named c le)
          | inr past ↦ count-other c past ∙ sym (not-named c le)
        ]
      ]

  pub smallest-consistent : IsConsistent f H
  smallest-consistent = consistent-from f H is.loads is.no_snapshots is.data_inside valid
      (λ c some. elim (cases_lt c 3) [
        | inl lt ↦ omega (arith, named-once c lt)
        | inr le ↦ omega (arith, not-named c le)
      ])
      (λ c some. absurd (omega (arith, none-mapped (of_copied h (meets h c)), some)))
      (λ c. omega (arith, exact c))

  pub smallest-leaks : leaks f h ≡ []
  smallest-leaks = none-leak f h (λ c. omega (arith, exact c)) (refcount_table_entries h * counters_of_block h)

  -- There is no L2 table.
  no-table : (i : ℕ) → l2_table f h i ≡ 0
  no-table i =
      let none = is.l1_entries in
      let past : nat_lt i h.l1_entries ≡ false = le-ltb _ _ (omega (arith, none)) in
      rw past refl

  pub smallest-unmapped : (guest : ℕ) → entry f h guest ≡ unmapped
  smallest-unmapped guest = entry-slot f h guest smallest-consistent.readable.tables ∙ rw (no-table (guest / entries_of_cluster h)) refl
