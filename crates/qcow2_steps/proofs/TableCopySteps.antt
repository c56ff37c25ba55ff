-- In one file, an L1 entry is set to reference a table with the mappings of the old table, with the COPIED flags or without.
use Rattle.std.proofs.Common.{◌≡◌, ◌≢◌, ℕ, ◌+◌, ◌*◌, ◌/◌, ◌%◌, ◌^◌, ◌<◌, ◌≤◌, refl, arith, ap, sym, subst, ◌∙◌, Some, None, inl, inr}
use Rattle.std.specs.Prelude.{◌==◌, if◌then◌else◌, Bool, IsFalse, IsTrue, true, false}
use Rattle.std.specs.Int.{w64, to_be_bytes}
use Rattle.std.proofs.lemmas.Bool.{cases_eq, cases_lt}
use Rattle.std.proofs.lemmas.Bool.Decides.{nat_tests}
use Rattle.std.proofs.lemmas.Nat.{mod_below, pow_pos}
use Rattle.qcow2_types.specs.Bytes.{Bytes, splice, sum_below}
use Rattle.qcow2_types.specs.Consistency.{IsConsistent}
use Rattle.qcow2_types.specs.Counts.{count}
use Rattle.qcow2_types.specs.Entries.{entry, l2_mapping, l2_table}
use Rattle.qcow2_types.specs.Header.{Fields, Header, cluster_size, layout_of, entries_of_cluster}
use Rattle.qcow2_types.specs.References.{Weight, contents, meets, of_cluster, of_copied, of_mapping, of_table, of_table_or_none, refs, structure}
use Rattle.qcow2_types.specs.Slots.{slot}
use Rattle.qcow2_types.specs.Steps.{TableReplaced, TableSwapped}
use Rattle.qcow2_types.specs.Words.{mapping_without_copied, Mapping, data_at, zeroes, packed, unmapped, damaged, is_damaged, l1_entry_valid, mapping_of, table_offset}
use Rattle.qcow2_types.proofs.Counting.Consistent.{consistent-shaped, copied-named-once, meets-own, meets-other, named-counted, some-words, structure-named-once}
use Rattle.qcow2_types.proofs.Counting.Limit.{sum-zero}
use Rattle.qcow2_types.proofs.Counting.Named.{structure-le-refs}
use Rattle.qcow2_types.proofs.Counting.Sound.{sound-words}
use Rattle.qcow2_types.proofs.Numbers.Sums.{sum-mono, sum-same, term-le-sum}
use Rattle.qcow2_types.proofs.Changes.TableReplaces.{table-replaced-spliced, table-swapped-spliced}
use Rattle.qcow2_types.proofs.Showing.Values.{entry-slot}
use Rattle.qcow2_alloc.proofs.Memory.Patches.{place-there}
use Rattle.qcow2_steps.specs.NewTables.{copied_as, slot_or_none}

-- Without the COPIED flag a mapping has the same references, but no COPIED ones.
unmarked-weighs : (h : Fields) (w : Weight) (n : Mapping) → of_mapping h w (mapping_without_copied n) ≡ of_mapping h w n
unmarked-weighs h w (data_at d copied) = refl
unmarked-weighs h w (zeroes (Some d) copied) = refl
unmarked-weighs h w (zeroes None copied) = refl
unmarked-weighs h w (packed offset n) = refl
unmarked-weighs h w unmapped = refl
unmarked-weighs h w damaged = refl

unmarked-free : (h : Fields) (w : Weight) (n : Mapping) → of_copied h w (mapping_without_copied n) ≡ 0
unmarked-free h w (data_at d copied) = refl
unmarked-free h w (zeroes (Some d) copied) = refl
unmarked-free h w (zeroes None copied) = refl
unmarked-free h w (packed offset n) = refl
unmarked-free h w unmapped = refl
unmarked-free h w damaged = refl

unmarked-sane : (n : Mapping) → is_damaged (mapping_without_copied n) ≡ is_damaged n
unmarked-sane (data_at d copied) = refl
unmarked-sane (zeroes d copied) = refl
unmarked-sane (packed offset n) = refl
unmarked-sane unmapped = refl
unmarked-sane damaged = refl

unmarked-twice : (n : Mapping) → mapping_without_copied (mapping_without_copied n) ≡ mapping_without_copied n
unmarked-twice (data_at d copied) = refl
unmarked-twice (zeroes d copied) = refl
unmarked-twice (packed offset n) = refl
unmarked-twice unmapped = refl
unmarked-twice damaged = refl

-- So a copied mapping has the same references, and no more COPIED ones.
pub copied-weighs : (marks : Bool) (h : Fields) (w : Weight) (n : Mapping) → of_mapping h w (copied_as marks n) ≡ of_mapping h w n
copied-weighs true h w n = refl
copied-weighs false h w n = unmarked-weighs h w n

pub copied-marks : (marks : Bool) (h : Fields) (w : Weight) (n : Mapping) → of_copied h w (copied_as marks n) ≤ of_copied h w n
copied-marks true h w n = omega arith
copied-marks false h w n = let none = unmarked-free h w n in omega (arith, none)

copied-sane : (marks : Bool) (n : Mapping) → is_damaged (copied_as marks n) ≡ is_damaged n
copied-sane true n = refl
copied-sane false n = unmarked-sane n

copied-unmarked : (marks : Bool) (n : Mapping) → mapping_without_copied (copied_as marks n) ≡ mapping_without_copied n
copied-unmarked true n = refl
copied-unmarked false n = unmarked-twice n

-- The mapping of an entry, without a table and with one.
pub none-there : (f : Bytes) (h : Fields) (i j : ℕ) → l2_table f h i ≡ 0 → slot_or_none f h i j ≡ unmapped
none-there f h i j none = rw none refl

pub slot-there : (f : Bytes) (h : Fields) (i j : ℕ) → l2_table f h i ≢ 0 → slot_or_none f h i j ≡ slot f h i j
slot-there f h i j there = choose (l2_table f h i) unmapped (slot f h i j) there
  where
    choose : (t : ℕ) (a b : Mapping) → t ≢ 0 → (if t == 0 then a else b) ≡ b
    choose t a b there = grind (arith, nat_tests)

-- the summand of a table that exists
chosen : (p n : ℕ) → p ≢ 0 → (if p == 0 then 0 else n) ≡ n
chosen p n apart = grind (arith, nat_tests)

module _ (f : Bytes) (H : Header) (was : IsConsistent f H) (marks : Bool) (i c w : ℕ) (inside : i < H.fields.l1_entries) (fits : w < 2 ^ 64) (sane : IsTrue (l1_entry_valid H.fields.cluster_bits w))
    (names : table_offset w ≡ c * cluster_size H.fields) (some : c ≢ 0) (not_referenced : refs f H.fields c ≡ 0) (counted : 1 ≤ count f H.fields c)
    (copies : (j : ℕ) → j < entries_of_cluster H.fields → l2_mapping f H.fields (c * cluster_size H.fields) j ≡ copied_as marks (slot_or_none f H.fields i j)) where
  abbrev h : Fields
  h = H.fields

  abbrev t : ℕ
  t = c * cluster_size H.fields

  abbrev x : Bytes
  x = splice f (H.fields.l1_offset + 8 * i) (to_be_bytes w64 w)

  pub there : t ≢ 0
  there = place-there (cluster_size h) c (pow_pos h.cluster_bits) some

  pub replaced : TableReplaced f x H i t
  replaced = table-replaced-spliced f H was i inside w fits sane c t names there refl not_referenced

  -- The entries of the new table have the weight of those of the old one.
  as-before : (of : Mapping → ℕ) → ((n : Mapping) → of (copied_as marks n) ≡ of n) → of unmapped ≡ 0 → of_table f h of t ≡ of_table_or_none f h of (l2_table f h i)
  unfolding of_table
  as-before of same none = elim (cases_eq (l2_table f h i) 0) [
    | inl empty ↦
        let zero : sum_below (entries_of_cluster h) (λ j. of (l2_mapping f h t j)) ≡ 0 = sum-zero _ _ (λ j less. ap of (copies j less) ∙ same (slot_or_none f h i j) ∙ ap of (none-there f h i j empty) ∙ none) in
        rw empty zero
    | inr full ↦
        sum-same (entries_of_cluster h) (λ j. of (l2_mapping f h t j)) (λ j. of (slot f h i j)) (λ j less. ap of (copies j less) ∙ same (slot_or_none f h i j) ∙ ap of (slot-there f h i j full))
        ∙ sym (chosen (l2_table f h i) (sum_below (entries_of_cluster h) (λ j. of (slot f h i j))) full)
  ]

  -- The COPIED references don't increase.
  marks-before : (of : Mapping → ℕ) → ((n : Mapping) → of (copied_as marks n) ≤ of n) → of unmapped ≡ 0 → of_table f h of t ≤ of_table_or_none f h of (l2_table f h i)
  unfolding of_table
  marks-before of fewer none = elim (cases_eq (l2_table f h i) 0) [
    | inl empty ↦
        let zero : sum_below (entries_of_cluster h) (λ j. of (l2_mapping f h t j)) ≡ 0 = sum-zero _ _ (λ j less.
        let le : of (l2_mapping f h t j) ≤ of (slot_or_none f h i j) = subst (λ n. of n ≤ of (slot_or_none f h i j)) (sym (copies j less)) (fewer (slot_or_none f h i j)) in
        let nothing : of (slot_or_none f h i j) ≡ 0 = ap of (none-there f h i j empty) ∙ none in
        omega (arith, le, nothing)) in
        omega (arith, zero)
    | inr full ↦
        let le : sum_below (entries_of_cluster h) (λ j. of (l2_mapping f h t j)) ≤ sum_below (entries_of_cluster h) (λ j. of (slot f h i j)) = sum-mono (entries_of_cluster h) _ _ (λ j less.
        subst (λ n. of n ≤ of (slot f h i j)) (sym (copies j less)) (subst (λ n. of (copied_as marks n) ≤ of (slot f h i j)) (sym (slot-there f h i j full)) (fewer (slot f h i j)))) in
        subst (λ n. sum_below (entries_of_cluster h) (λ j. of (l2_mapping f h t j)) ≤ n) (sym (chosen (l2_table f h i) (sum_below (entries_of_cluster h) (λ j. of (slot f h i j))) full)) le
  ]

  -- References change only by the two tables themselves.
  pub references : (d : ℕ) → refs x h d + of_cluster h (meets h d) (l2_table f h i) ≡ refs f h d + meets h d t (cluster_size h)
  references d =
      let all = replaced.references d in
      let raw_entries = as-before (of_mapping h (meets h d)) (copied-weighs marks h (meets h d)) refl in
      omega (arith, all, raw_entries)

  fewer-copied : (d : ℕ) → contents x h (of_copied h (meets h d)) ≤ contents f h (of_copied h (meets h d))
  fewer-copied d =
      let all = replaced.contents (of_copied h (meets h d)) in
      let fewer = marks-before (of_copied h (meets h d)) (copied-marks marks h (meets h d)) refl in
      omega (arith, all, fewer)

  -- The old table isn't in the new table's cluster.
  old-apart : of_cluster h (meets h c) (l2_table f h i) ≡ 0
  unfolding structure
  old-apart =
      let le = term-le-sum h.l1_entries i (λ k. of_cluster h (meets h c) (l2_table f h k)) inside in
      let all = structure-le-refs f h c in
      omega (arith, le, all, not_referenced)

  once : refs x h c ≡ 1
  once = let all = references c in let own = meets-own h c in let apart = old-apart in omega (arith, all, own, apart, not_referenced)

  elsewhere : (d : ℕ) → d ≢ c → (refs x h d ≤ refs f h d) × (structure x h (meets h d) ≤ structure f h (meets h d))
  elsewhere d apart =
      let none = meets-other h d c (λ e. apart (sym e)) in
      let all = references d in
      let base = replaced.structure (meets h d) in
      (omega (arith, all, none), omega (arith, base, none))

  plain : (j : ℕ) → j < entries_of_cluster h → IsFalse (is_damaged (l2_mapping f h t j))
  plain j less = ap is_damaged (copies j less) ∙ copied-sane marks (slot_or_none f h i j) ∙ elim (cases_eq (l2_table f h i) 0) [
    | inl empty ↦ ap is_damaged (none-there f h i j empty)
    | inr full ↦ ap is_damaged (slot-there f h i j full) ∙ (sound-words f h was.readable.tables).slots i j (record { in_l1 = inside; is_there = full; in_table = less })
  ]

  covered : (d : ℕ) → refs x h d ≤ count f h d
  covered d = elim (cases_eq d c) [
    | inl same ↦ subst (λ k. refs x h k ≤ count f h k) (sym same) (let one = once in omega (arith, one, counted))
    | inr apart ↦ let fewer = (elsewhere d apart).0 in let le = named-counted f H was d in omega (arith, fewer, le)
  ]

  apart-still : (d : ℕ) → 0 < structure x h (meets h d) + contents x h (of_copied h (meets h d)) → refs x h d ≤ 1
  apart-still d more = elim (cases_eq d c) [
    | inl same ↦ subst (λ k. refs x h k ≤ 1) (sym same) (let one = once in omega (arith, one))
    | inr apart ↦
        let fewer = elsewhere d apart in
        let fewer-marks = fewer-copied d in
        elim (cases_lt 0 (structure f h (meets h d))) [
          | inl base ↦ let one = structure-named-once f H was d base in omega (arith, one, fewer.0)
          | inr none ↦ let one = copied-named-once f H was d (omega (arith, none, more, fewer.1, fewer-marks)) in omega (arith, one, fewer.0)
        ]
  ]

  pub swapped : TableSwapped f x H i t
  swapped = table-swapped-spliced f H was i inside w fits sane c t names there refl not_referenced plain covered apart-still

  -- A guest cluster of the table has the copied mapping; any other has the same mapping as before.
  pub entry-copied : (guest : ℕ) → guest / entries_of_cluster h ≡ i → entry x h guest ≡ copied_as marks (entry f h guest)
  entry-copied guest row =
      let less : guest % entries_of_cluster h < entries_of_cluster h = mod_below guest (entries_of_cluster h) (some-words h (consistent-shaped f H was)) in
      swapped.entries guest row
      ∙ copies (guest % entries_of_cluster h) less
      ∙ ap (λ k. copied_as marks (slot_or_none f h k (guest % entries_of_cluster h))) (sym row)
      ∙ ap (copied_as marks) (sym (entry-slot f h guest was.readable.tables))

  pub entry-elsewhere : (guest : ℕ) → guest / entries_of_cluster h ≢ i → entry x h guest ≡ entry f h guest
  entry-elsewhere guest apart = (swapped.elsewhere guest (inl apart)).mapping

  -- So the mapping of each guest cluster is the same, apart from the COPIED flag.
  pub entry-unmarked : (guest : ℕ) → mapping_without_copied (entry x h guest) ≡ mapping_without_copied (entry f h guest)
  entry-unmarked guest = elim (cases_eq (guest / entries_of_cluster h) i) [
    | inr apart ↦ ap mapping_without_copied (entry-elsewhere guest apart)
    | inl row ↦ ap mapping_without_copied (entry-copied guest row) ∙ copied-unmarked marks (entry f h guest)
  ]

  -- An entry of the new table has the copied mapping.
  pub slot-new : (j : ℕ) → j < entries_of_cluster h → slot x h i j ≡ copied_as marks (slot_or_none f h i j)
  slot-new j less = ap (λ p. l2_mapping x h p j) replaced.here ∙ ap (mapping_of (layout_of h)) (replaced.raw_entries j less) ∙ copies j less
