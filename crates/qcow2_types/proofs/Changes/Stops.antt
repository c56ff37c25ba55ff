-- The crash images of a write of one table or block.
use Rattle.std.proofs.Common.{◌≡◌, ◌≢◌, ℕ, ◌+◌, ◌*◌, ◌<◌, ◌≤◌, refl, arith, ap, sym, subst, ◌∙◌, List, length, inl, inr}
use Rattle.std.specs.Prelude.{false, nat_lt, ◌⊎◌, max, slice_index}
use Rattle.std.proofs.lemmas.Bool.{cases_eq, le-ltb}
use Rattle.std.proofs.lemmas.Bool.Decides.{nat_tests}
use Rattle.std.proofs.lemmas.Nat.{pow_pos}
use Rattle.std.proofs.Math.Nat.{le-max_left, le-max_right, max-le, div-mul-le_self}
use Rattle.qcow2_types.specs.Bytes.{Bytes, raw_entry, splice}
use Rattle.qcow2_types.specs.Words.{Mapping, mapping_of}
use Rattle.qcow2_types.specs.Header.{Fields, cluster_size, entries_of_cluster, layout_of, Shaped}
use Rattle.qcow2_types.specs.Entries.{l2_table}
use Rattle.qcow2_types.specs.Counts.{count}
use Rattle.qcow2_types.specs.References.{Weight, structure, contents, of_copied, meets, refs}
use Rattle.qcow2_types.specs.Consistency.{shares_structure, is_false_copied, is_under_counted}
use Rattle.qcow2_types.proofs.Counting.Named.{structure-le-refs, copied-le-refs}
use Rattle.qcow2_types.proofs.Numbers.Splices.{be-same, splice-inside}
use Rattle.qcow2_types.proofs.Changes.Frames.{splice-is-outside}
use Rattle.qcow2_types.specs.Frames.{touches, Skipped, table, SameStructureOutside}
use Rattle.qcow2_types.proofs.Counting.Slots.{contents-slots, slots-mono}
use Rattle.qcow2_types.specs.Slots.{slot, over_slots}
use Rattle.qcow2_types.proofs.Counting.Parts.{kept-table, l2_table-kept, block_at-kept, count-kept, slot-kept}
use Rattle.qcow2_types.proofs.Counting.Either.{refs-between, named-falls, structure-same, table-after-blocks, table-before-blocks, tables-same}
use Rattle.qcow2_types.specs.Versions.{SamePlaces, IsBetween, references_in_either, BlocksFirst, TablesFirst, copied, ReferencedOnce}

-- an entry is inside the cluster of its table
words-fit : (h : Fields) (j : ℕ) → j < entries_of_cluster h → 8 * j + 8 ≤ cluster_size h
words-fit h j lt = let whole : entries_of_cluster h * 8 ≤ cluster_size h = div-mul-le_self (cluster_size h) 8 in omega arith

-- One table is written with the bytes that g has at its offset.
module _ (f g : Bytes) (h : Fields) (i : ℕ) (bytes : List ℕ) (shaped : Shaped h) (lt : i < h.l1_entries) (there : l2_table f h i ≢ 0)
    (all : length bytes ≡ cluster_size h) (cached : (k : ℕ) → k < cluster_size h → slice_index bytes k ≡ g (l2_table f h i + k))
    (once : structure f h (touches (l2_table f h i) (length bytes)) ≤ 1) (places : SamePlaces f g h) where
  -- the rest of the structure is the same
  pub write-keeps : SameStructureOutside f (splice f (l2_table f h i) bytes) h (table i)
  write-keeps =
      let some : 0 < cluster_size h = pow_pos h.cluster_bits in
      kept-table f (splice f (l2_table f h i) bytes) h (l2_table f h i) (length bytes) (splice-is-outside f (l2_table f h i) bytes) (omega arith) once i lt there (omega arith) (omega arith)

  -- all tables and blocks keep their offsets
  write-places : SamePlaces f (splice f (l2_table f h i) bytes) h
  write-places = record {
    l1 = λ k. l2_table-kept f _ h (table i) write-keeps k (λ e. cc);
    blocks = λ k. block_at-kept f _ h (table i) write-keeps k (λ e. cc);
  }

  pub write-counts : (c : ℕ) → count (splice f (l2_table f h i) bytes) h c ≡ count f h c
  write-counts c = count-kept f _ h (table i) write-keeps c shaped (λ e. cc) (λ e. cc)

  -- the entries are those of g
  write-word : (j : ℕ) → j < entries_of_cluster h → raw_entry (splice f (l2_table f h i) bytes) (l2_table f h i) j ≡ raw_entry g (l2_table f h i) j
  unfolding raw_entry
  write-word j less =
      let fits : 8 * j + 8 ≤ cluster_size h = words-fit h j less in
      be-same _ g (l2_table f h i + 8 * j) (l2_table f h i + 8 * j) 8 (λ k below.
      let place : l2_table f h i + (8 * j + k) ≡ l2_table f h i + 8 * j + k = omega arith in
      let here : splice f (l2_table f h i) bytes (l2_table f h i + (8 * j + k)) ≡ slice_index bytes (8 * j + k) = splice-inside f (l2_table f h i) bytes (8 * j + k) (omega arith) in
      let there' : slice_index bytes (8 * j + k) ≡ g (l2_table f h i + (8 * j + k)) = cached (8 * j + k) (omega arith) in
      rw place at (here ∙ there'))

  -- and so are their mappings
  write-slot : (j : ℕ) → j < entries_of_cluster h → slot (splice f (l2_table f h i) bytes) h i j ≡ slot g h i j
  write-slot j less =
      ap (λ t. mapping_of (layout_of h) (raw_entry (splice f (l2_table f h i) bytes) t j)) (write-places.l1 i)
      ∙ (ap (mapping_of (layout_of h)) (write-word j less) ∙ sym (ap (λ t. mapping_of (layout_of h) (raw_entry g t j)) (places.l1 i)))

  -- the file is between the two versions
  pub write-between : IsBetween f (splice f (l2_table f h i) bytes) g h
  write-between = record {
    places = write-places;
    slots = λ k j live. elim (cases_eq k i) [
      | inl e ↦ inr (subst (λ m. slot (splice f (l2_table f h i) bytes) h m j ≡ slot g h m j) (sym e) (write-slot j live.in_table))
      | inr apart ↦ inl (slot-kept f _ h (table i) write-keeps k j live (λ e. cc) (λ e. apart (sym (ap number e))))
    ];
  }
    where
      number : Skipped → ℕ
      number (table m) = m
      number _ = i

  -- so the invariants of both dependencies are preserved
  pub write-after-blocks : BlocksFirst f g h → ((c : ℕ) → count g h c ≡ count f h c) → BlocksFirst (splice f (l2_table f h i) bytes) g h
  write-after-blocks well_formed clean = table-after-blocks f _ g h well_formed clean write-between write-counts

-- the COPIED references of an entry in one version are among those of both
one-copied : (h : Fields) (w : Weight) (m n x : Mapping) → (x ≡ m) ⊎ (x ≡ n) → of_copied h w x ≤ max (of_copied h w m) (of_copied h w n)
one-copied h w m n x (inl e) = rw e (le-max_left _ _)
one-copied h w m n x (inr e) = rw e (le-max_right _ _)

module _ (f x g : Bytes) (h : Fields) (between : IsBetween f x g h) where
  -- the COPIED references of a file between the versions are among those of both
  pub copied-between : (c : ℕ) → contents x h (of_copied h (meets h c)) ≤ copied f g h c
  unfolding copied
  copied-between c =
      let e : contents x h (of_copied h (meets h c)) ≡ over_slots (l2_table f h) h (λ i j. of_copied h (meets h c) (slot x h i j)) =
      contents-slots x h (of_copied h (meets h c)) ∙ tables-same (l2_table f h) (l2_table x h) h _ between.places.l1 in
      let le : over_slots (l2_table f h) h (λ i j. of_copied h (meets h c) (slot x h i j)) ≤ over_slots (l2_table f h) h (λ i j. max (of_copied h (meets h c) (slot f h i j)) (of_copied h (meets h c) (slot g h i j))) =
      slots-mono (l2_table f h) h _ _ (λ i j live. one-copied h (meets h c) (slot f h i j) (slot g h i j) (slot x h i j) (between.slots i j live)) in
      omega arith

  -- and they never increase
  pub copied-falls : (c : ℕ) → copied x g h c ≤ copied f g h c
  unfolding copied
  copied-falls c =
      let e : over_slots (l2_table x h) h (λ i j. max (of_copied h (meets h c) (slot x h i j)) (of_copied h (meets h c) (slot g h i j))) ≡ over_slots (l2_table f h) h (λ i j. max (of_copied h (meets h c) (slot x h i j)) (of_copied h (meets h c) (slot g h i j))) =
      tables-same (l2_table f h) (l2_table x h) h _ between.places.l1 in
      let le : over_slots (l2_table f h) h (λ i j. max (of_copied h (meets h c) (slot x h i j)) (of_copied h (meets h c) (slot g h i j))) ≤ over_slots (l2_table f h) h (λ i j. max (of_copied h (meets h c) (slot f h i j)) (of_copied h (meets h c) (slot g h i j))) =
      slots-mono (l2_table f h) h _ _ (λ i j live. max-le (one-copied h (meets h c) (slot f h i j) (slot g h i j) (slot x h i j) (between.slots i j live)) (le-max_right _ _)) in
      omega arith

  -- clusters that were referenced once still are
  pub apart-falls : ReferencedOnce f g h → ReferencedOnce x g h
  apart-falls apart c some =
      let base : structure x h (meets h c) ≡ structure f h (meets h c) = structure-same f x h between.places (meets h c) in
      let less : copied x g h c ≤ copied f g h c = copied-falls c in
      let n : references_in_either x g h c ≤ references_in_either f g h c = named-falls f x g h c between in
      let one : references_in_either f g h c ≤ 1 = apart c (omega arith) in
      omega arith

  -- in a crash image no cluster of the structure is shared
  pub stop-structure : ReferencedOnce f g h → (c : ℕ) → shares_structure x h c ≡ false
  unfolding shares_structure
  stop-structure apart c = elim (cases_eq (structure x h (meets h c)) 0) [
    | inl e ↦ let none : nat_lt 0 (structure x h (meets h c)) ≡ false = le-ltb _ _ (omega arith) in rw none refl
    | inr some ↦
        let base : structure x h (meets h c) ≡ structure f h (meets h c) = structure-same f x h between.places (meets h c) in
        let there : structure x h (meets h c) ≢ 0 = some in
        let one : references_in_either f g h c ≤ 1 = apart c (omega arith) in
        let r : refs x h c ≤ references_in_either f g h c = refs-between f x g h c between in
        let s : structure x h (meets h c) ≤ refs x h c = structure-le-refs x h c in
        let e : refs x h c ≡ 1 = omega arith in
        grind (arith, nat_tests)
  ]

  -- in a crash image no COPIED cluster is shared
  pub stop-copied : ReferencedOnce f g h → (c : ℕ) → is_false_copied x h c ≡ false
  unfolding is_false_copied
  stop-copied apart c = elim (cases_eq (contents x h (of_copied h (meets h c))) 0) [
    | inl e ↦ let none : nat_lt 0 (contents x h (of_copied h (meets h c))) ≡ false = le-ltb _ _ (omega arith) in rw none refl
    | inr some ↦
        let there : contents x h (of_copied h (meets h c)) ≢ 0 = some in
        let less : contents x h (of_copied h (meets h c)) ≤ copied f g h c = copied-between c in
        let one : references_in_either f g h c ≤ 1 = apart c (omega arith) in
        let r : refs x h c ≤ references_in_either f g h c = refs-between f x g h c between in
        let s : contents x h (of_copied h (meets h c)) ≤ refs x h c = copied-le-refs x h c in
        let e : refs x h c ≡ 1 = omega arith in
        grind (arith, nat_tests)
  ]

-- in a crash image the refcounts cover the references
pub stop-counted : (x g : Bytes) (h : Fields) → ((c : ℕ) → refs x h c ≤ count x h c) → (c : ℕ) → is_under_counted x h c ≡ false
unfolding is_under_counted
stop-counted x g h well_formed c = le-ltb _ _ (well_formed c)
