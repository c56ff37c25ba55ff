-- Lemmas on the entries of a file, by the L1 table in memory and an L2 table of the file.
use Rattle.std.proofs.Common.{◌≡◌, ◌≢◌, ℕ, ◌*◌, ◌/◌, ◌%◌, ◌^◌, ◌<◌, ◌≤◌, refl, arith, ap, sym, subst, ◌∙◌, true, false, Some, None, length, List, inl, inr}
use Rattle.std.specs.Prelude.{IsTrue, slice_index, ◌==◌, ◌&&◌, not}
use Rattle.std.proofs.lemmas.Bool.{cases_lt, lt-ltb, le-ltb, cases_Bool, and_parts}
use Rattle.std.proofs.lemmas.List.{get_or_past}
use Rattle.qcow2_types.specs.Bytes.{Bytes, raw_entry}
use Rattle.qcow2_types.specs.Header.{Fields, entries_of_cluster, cluster_size, layout_of}
use Rattle.qcow2_types.specs.Words.{Mapping, damaged, unmapped, mapping_of, is_damaged, is_cluster_offset, table_offset, l1_entry_valid, bits_at, max_offset}
use Rattle.qcow2_types.specs.Entries.{entry, entry_through, entry_of_table, l1_table_sound, l2_table, l2_table_sound, l2_mapping}
use Rattle.qcow2_types.proofs.Counting.Bounded.{all-below}
use Rattle.qcow2_types.proofs.Counting.Sound.{all-below-holds}
use Rattle.qcow2_types.proofs.Numbers.WordLemmas.{zero-place}
use Rattle.qcow2_types.proofs.Changes.WriteBack.{place-whole, place-near}
use Rattle.qcow2_metadata.specs.Tables.{TableValue, IsTable, HasUnsound, raw_entry_valid, l2_table_kind, raw_entries_in, mapping_in}
use Rattle.qcow2_metadata.specs.Places.{IsAddressable}
use Rattle.qcow2_metadata.proofs.TableFacts.{words_long, words_at}
use Rattle.qcow2_alloc.specs.Opening.{IsL1Of}
use Rattle.qcow2_image.specs.Looking.{place_of_table}
use Rattle.qcow2_image.specs.Seen.{IsTableAt}

module _ (f : Bytes) (h : Fields) (top : TableValue) (of : IsL1Of f h top) where
  pub top-long : length top.raw_entries ≡ h.l1_entries
  top-long = ap length of.raw_entries ∙ words_long f h.l1_offset h.l1_entries

  pub top-word : (i : ℕ) → i < h.l1_entries → slice_index top.raw_entries i ≡ raw_entry f h.l1_offset i
  top-word i inside = ap (λ (ws : List ℕ). slice_index ws i) of.raw_entries ∙ words_at f h.l1_offset h.l1_entries i inside

  -- The L1 table in memory gives the offsets of the L2 tables.
  pub place-in-file : (i : ℕ) → l2_table f h i ≡ table_offset (slice_index top.raw_entries i)
  place-in-file i = elim (cases_lt i h.l1_entries) [
    | inl inside ↦ rw (lt-ltb i h.l1_entries inside) (ap table_offset (sym (top-word i inside)))
    | inr behind ↦ rw (le-ltb i h.l1_entries behind) (ap table_offset (sym (get_or_past top.raw_entries i 0 (omega (arith, top-long, behind)))))
  ]

  -- So the mapping of a guest cluster is that of its entry.
  pub entry-in-file : (guest : ℕ) → entry f h guest ≡ entry_through f h (table_offset (slice_index top.raw_entries (guest / entries_of_cluster h))) (guest % entries_of_cluster h)
  unfolding entry
  entry-in-file guest = rw (of.sound, place-in-file (guest / entries_of_cluster h)) refl

  -- An L1 entry in memory references the start of an addressable cluster.
  sound-word : (i : ℕ) → IsTrue (is_cluster_offset h.cluster_bits (table_offset (slice_index top.raw_entries i)))
  unfolding l1_table_sound
  sound-word i = elim (cases_lt i h.l1_entries) [
    | inl inside ↦
        let w = raw_entry f h.l1_offset i in
        let here : l1_entry_valid h.cluster_bits w ≡ true = all-below h.l1_entries (λ k. l1_entry_valid h.cluster_bits (raw_entry f h.l1_offset k)) of.sound i inside in
        let parts = and_parts ((bits_at w 0 9 == 0) && (bits_at w 56 7 == 0)) (is_cluster_offset h.cluster_bits (table_offset w)) here in
        subst (λ (x : ℕ). IsTrue (is_cluster_offset h.cluster_bits (table_offset x))) (sym (top-word i inside)) parts.1
    | inr behind ↦ subst (λ (x : ℕ). IsTrue (is_cluster_offset h.cluster_bits (table_offset x))) (sym (get_or_past top.raw_entries i 0 (omega (arith, top-long, behind)))) (zero-place h.cluster_bits)
  ]

  module _ (guest : ℕ) where
    abbrev offset : ℕ
    offset = table_offset (slice_index top.raw_entries (guest / entries_of_cluster h))

    -- Without an L2 table a guest cluster is unallocated.
    pub entry-of-none : place_of_table top.raw_entries h.cluster_bits guest ≡ None → entry f h guest ≡ unmapped
    entry-of-none none = entry-in-file guest ∙ elim (cases_Bool (offset == 0)) [
      | inl zero ↦ rw zero refl
      | inr some ↦ let is : place_of_table top.raw_entries h.cluster_bits guest ≡ Some (offset / 2 ^ h.cluster_bits) = rw some refl in absurd (cc (sym none ∙ is))
    ]

    module _ (table : ℕ) (named : place_of_table top.raw_entries h.cluster_bits guest ≡ Some table) where
      pub some-offset : (offset == 0) ≡ false
      some-offset = elim (cases_Bool (offset == 0)) [
        | inl zero ↦ let is : place_of_table top.raw_entries h.cluster_bits guest ≡ None = rw zero refl in absurd (cc (sym is ∙ named))
        | inr some ↦ some
      ]

      cluster-named : offset / 2 ^ h.cluster_bits ≡ table
      cluster-named = let is : place_of_table top.raw_entries h.cluster_bits guest ≡ Some (offset / 2 ^ h.cluster_bits) = rw some-offset refl in cc (sym is ∙ named)

      pub place-named : offset ≡ table * cluster_size h
      place-named = sym (place-whole h.cluster_bits offset (sound-word (guest / entries_of_cluster h))) ∙ ap (λ c. c * 2 ^ h.cluster_bits) cluster-named

      -- The L1 table of the file references the same L2 table.
      pub table-named : IsTableAt f h (table * cluster_size h)
      table-named = record {
        row = guest / entries_of_cluster h;
        in_l1 = elim (cases_lt (guest / entries_of_cluster h) h.l1_entries) [
          | inl inside ↦ inside
          | inr behind ↦
              let none : l2_table f h (guest / entries_of_cluster h) ≡ 0 = rw (le-ltb (guest / entries_of_cluster h) h.l1_entries behind) refl in
              absurd (not-zero (sym (place-in-file (guest / entries_of_cluster h)) ∙ none))
        ];
        is_there = λ none. not-zero (sym (place-in-file (guest / entries_of_cluster h)) ∙ none);
        at = place-in-file (guest / entries_of_cluster h) ∙ place-named;
      } where
        not-zero : offset ≢ 0
        not-zero none = let is : (offset == 0) ≡ true = rw none refl in cc (sym some-offset ∙ is)

      pub named-in-reach : IsAddressable h.cluster_bits table
      named-in-reach = subst (λ x. x ≤ max_offset) place-named (place-near h.cluster_bits offset (sound-word (guest / entries_of_cluster h)))

      -- With an L2 table the mapping is that of the entry in the table.
      pub entry-of-named : entry f h guest ≡ entry_of_table f h (table * cluster_size h) (guest % entries_of_cluster h)
      entry-of-named = entry-in-file guest ∙ rw some-offset (ap (λ p. entry_of_table f h p (guest % entries_of_cluster h)) place-named)

pub word-of-file : (f : Bytes) (h : Fields) (t : TableValue) (place j : ℕ) → t.layout ≡ layout_of h → t.raw_entries ≡ raw_entries_in f place (entries_of_cluster h) → j < entries_of_cluster h → mapping_in t j ≡ l2_mapping f h place j
word-of-file f h t place j layout raw_entries inside =
    ap (λ l. mapping_of l (slice_index t.raw_entries j)) layout
    ∙ ap (λ (ws : List ℕ). mapping_of (layout_of h) (slice_index ws j)) raw_entries
    ∙ ap (mapping_of (layout_of h)) (words_at f place (entries_of_cluster h) j inside)

-- A table with only valid entries isn't damaged.
pub sound-table : (f : Bytes) (h : Fields) (t : TableValue) (place : ℕ) → IsTable l2_table_kind t → t.layout ≡ layout_of h → t.raw_entries ≡ raw_entries_in f place (entries_of_cluster h) → l2_table_sound f h place ≡ true
unfolding l2_table_sound
sound-table f h t place fits layout raw_entries = all-below-holds (entries_of_cluster h) (λ i. not (is_damaged (l2_mapping f h place i))) (λ k lt.
    let long : length t.raw_entries ≡ entries_of_cluster h = ap length raw_entries ∙ words_long f place (entries_of_cluster h) in
    subst (λ (m : Mapping). not (is_damaged m) ≡ true) (word-of-file f h t place k layout raw_entries lt) (fits.sound k (omega (arith, long, lt))))

-- A table with an invalid entry is damaged.
pub unsound-table : (f : Bytes) (h : Fields) (place : ℕ) → ((HasUnsound l2_table_kind (layout_of h) (raw_entries_in f place (entries_of_cluster h)) → ⊥) → ⊥) → l2_table_sound f h place ≡ false
unfolding l2_table_sound
unsound-table f h place some = elim (cases_Bool (l2_table_sound f h place)) [
  | inl sound ↦ absurd (some (λ unsound.
      let i = unsound.0 in
      let lt : i < entries_of_cluster h = omega (arith, unsound.1, words_long f place (entries_of_cluster h)) in
      let fine : not (is_damaged (l2_mapping f h place i)) ≡ true = all-below (entries_of_cluster h) (λ k. not (is_damaged (l2_mapping f h place k))) sound i lt in
      let not-fine : not (is_damaged (l2_mapping f h place i)) ≡ false = subst (λ (w : ℕ). raw_entry_valid l2_table_kind (layout_of h) w ≡ false) (words_at f place (entries_of_cluster h) i lt) unsound.2 in
      cc (sym fine ∙ not-fine)))
  | inr broken ↦ broken
]

-- If a table is the file's, a guest cluster has the mapping of its entry.
pub entry-of-file : (f : Bytes) (h : Fields) (top t : TableValue) (guest table : ℕ) → IsL1Of f h top → place_of_table top.raw_entries h.cluster_bits guest ≡ Some table
    → IsTable l2_table_kind t → t.layout ≡ layout_of h → t.raw_entries ≡ raw_entries_in f (table * cluster_size h) (entries_of_cluster h) → guest % entries_of_cluster h < entries_of_cluster h → mapping_in t (guest % entries_of_cluster h) ≡ entry f h guest
entry-of-file f h top t guest table of named fits layout raw_entries below =
    let through : entry_of_table f h (table * cluster_size h) (guest % entries_of_cluster h) ≡ l2_mapping f h (table * cluster_size h) (guest % entries_of_cluster h) = rw (sound-table f h t (table * cluster_size h) fits layout raw_entries) refl in
    word-of-file f h t (table * cluster_size h) (guest % entries_of_cluster h) layout raw_entries below ∙ sym (entry-of-named f h top of guest table named ∙ through)

-- If an entry of the table isn't valid, the guest cluster is damaged.
pub entry-of-unsound : (f : Bytes) (h : Fields) (top : TableValue) (guest table : ℕ) → IsL1Of f h top → place_of_table top.raw_entries h.cluster_bits guest ≡ Some table
    → ((HasUnsound l2_table_kind (layout_of h) (raw_entries_in f (table * cluster_size h) (entries_of_cluster h)) → ⊥) → ⊥) → entry f h guest ≡ damaged
entry-of-unsound f h top guest table of named some = entry-of-named f h top of guest table named ∙ rw (unsound-table f h (table * cluster_size h) some) refl

-- Two files with the same L1 entries have their L2 tables at the same offsets.
pub tables-same : (f f' : Bytes) (h h' : Fields) (top : TableValue) → IsL1Of f h top → IsL1Of f' h' top → (i : ℕ) → l2_table f' h' i ≡ l2_table f h i
tables-same f f' h h' top one two i = place-in-file f' h' top two i ∙ sym (place-in-file f h top one i)
