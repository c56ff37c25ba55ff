-- An L1 entry is set to reference a table that is ready for it: the image stays consistent, and each guest byte reads as before.
use Rattle.std.proofs.Common.{◌≡◌, ◌≢◌, ℕ, ◌+◌, ◌*◌, ◌/◌, ◌%◌, ◌<◌, ◌≤◌, refl, arith, ap, sym, subst, ◌∙◌, true, false, inl, inr}
use Rattle.std.specs.Prelude.{◌⊎◌, ◌==◌, Bool, if◌then◌else◌, max}
use Rattle.std.specs.Int.{w64, to_be_bytes}
use Rattle.std.proofs.lemmas.Bool.{cases_eq}
use Rattle.std.proofs.lemmas.Bool.Decides.{nat_tests}
use Rattle.std.proofs.lemmas.Nat.{mod_below, pow_pos}
use Rattle.qcow2_types.specs.Bytes.{Bytes, splice, sum_below, raw_entry}
use Rattle.qcow2_types.specs.Consistency.{IsConsistent}
use Rattle.qcow2_types.specs.Counts.{block_at, count}
use Rattle.qcow2_types.specs.Entries.{entry, l2_mapping, l2_table}
use Rattle.qcow2_types.specs.Frames.{Same}
use Rattle.qcow2_types.specs.Header.{Fields, cluster_size, layout_of, entries_of_cluster}
use Rattle.qcow2_types.specs.References.{meets, of_cluster, of_copied, of_mapping, refs, structure}
use Rattle.qcow2_types.specs.Slots.{Live, or_none, over_slots, slot}
use Rattle.qcow2_types.specs.Steps.{TableSwapped}
use Rattle.qcow2_types.specs.Words.{mapping_without_copied, Mapping, data_at, zeroes, packed, unmapped, damaged, mapping_of}
use Rattle.qcow2_types.specs.Versions.{SamePlaces, copied, references_in_either, of_either}
use Rattle.qcow2_types.proofs.Counting.Consistent.{meets-other, meets-own, named-counted}
use Rattle.qcow2_types.proofs.Counting.Either.{refs-cached, refs-file}
use Rattle.qcow2_types.proofs.Changes.Frames.{l1-part, splice-is-outside, word-same}
use Rattle.qcow2_types.proofs.Counting.Limit.{sum-zero}
use Rattle.qcow2_types.proofs.Counting.Parts.{l1_table, words-fit}
use Rattle.qcow2_types.proofs.Numbers.Sums.{sum-mono, sum-same, term-le-sum}
use Rattle.qcow2_types.proofs.Switching.Switches.{table-switched}
use Rattle.qcow2_metadata.specs.Blocks.{Block}
use Rattle.qcow2_metadata.specs.Tables.{TableValue, raw_entries_in}
use Rattle.qcow2_alloc.specs.GuestView.{Metadata, IsSound, counted, in_memory, referenced_at_all, one_at, referenced, waiting}
use Rattle.qcow2_alloc.specs.WellFormedness.{IsCachedBlock, IsCachedTable, WellFormed}
use Rattle.qcow2_alloc.proofs.Memory.MemoryWords.{slot-same}
use Rattle.qcow2_alloc.proofs.Memory.Patches.{all-both, all-weaker, place-there, places-differ}
use Rattle.qcow2_alloc.proofs.Memory.StructureWrites.{memory-beside, unmet-stays}
use Rattle.qcow2_alloc.proofs.Memory.FittingWords.{counters-same}
use Rattle.qcow2_alloc.proofs.Memory.KeptWords.{block-fits, ordered-still}
use Rattle.qcow2_alloc.proofs.Freeing.Lists.{map-same}
use Rattle.qcow2_alloc.proofs.GuestView.QuietEntries.{metadata-among}
use Rattle.qcow2_alloc.proofs.GuestView.QuietFlushes.{still-table}
use Rattle.qcow2_alloc.proofs.GuestView.ShownDisks.{in-cluster, memory-same, named-apart}
use Rattle.qcow2_steps.specs.Advancing.{Advances}
use Rattle.qcow2_steps.specs.NewTables.{IsOfTable, IsReadyL2Table, LosesCopied, NamesTable, copied_as, old_table, slot_or_none, with_l1_entry}
use Rattle.qcow2_steps.specs.Values.{file_value, memory_value, own_value_by}
use Rattle.qcow2_steps.proofs.TableCopySteps.{copied-marks, copied-weighs, entry-copied, entry-elsewhere, entry-unmarked, none-there, references, slot-new, slot-there, swapped}
use Rattle.qcow2_steps.proofs.Headers.{header-same}
use Rattle.qcow2_steps.proofs.QuietValues.{data-used}
use Rattle.qcow2_steps.proofs.Steps.{meets-one}
use Rattle.qcow2_steps.proofs.Values.{places-there, value-same, within}
use Rattle.qcow2_steps.proofs.WriteValues.{data-slot}

-- the summand of a table that exists
chosen : (p n : ℕ) → p ≢ 0 → (if p == 0 then 0 else n) ≡ n
chosen p n there = grind (arith, nat_tests)

twice : (n : ℕ) → max n n ≡ n
twice n = omega arith

-- The COPIED flag doesn't affect the value.
unmarked-value : (f : Bytes) (h : Fields) (p : ℕ) (n : Mapping) → own_value_by f h p (mapping_without_copied n) ≡ own_value_by f h p n
unmarked-value f h p (data_at d copied) = refl
unmarked-value f h p (zeroes d copied) = refl
unmarked-value f h p (packed offset n) = refl
unmarked-value f h p unmapped = refl
unmarked-value f h p damaged = refl

same-value : (f : Bytes) (h : Fields) (p : ℕ) (a b : Mapping) → mapping_without_copied a ≡ mapping_without_copied b → own_value_by f h p a ≡ own_value_by f h p b
same-value f h p a b same = sym (unmarked-value f h p a) ∙ ap (own_value_by f h p) same ∙ unmarked-value f h p b

module _ (m : Metadata) (marks : Bool) (i c w : ℕ) (sound : IsSound m) (ready : IsReadyL2Table m marks i c) (by : NamesTable m.header.fields c w) where
  abbrev f : Bytes
  f = m.file

  abbrev g : Bytes
  g = in_memory m

  abbrev h : Fields
  h = m.header.fields

  abbrev t : ℕ
  t = c * cluster_size m.header.fields

  abbrev later : Metadata
  later = with_l1_entry m i w

  abbrev x : Bytes
  x = splice m.file (m.header.fields.l1_offset + 8 * i) (to_be_bytes w64 w)

  abbrev y : Bytes
  y = splice (in_memory m) (m.header.fields.l1_offset + 8 * i) (to_be_bytes w64 w)

  places : SamePlaces f g h
  places = places-there m sound

  unnamed-file : refs f h c ≡ 0
  unnamed-file = let none = ready.reserved.not_referenced in let le = refs-file f g h c in omega (arith, none, le)

  unnamed-there : refs g h c ≡ 0
  unnamed-there = let none = ready.reserved.not_referenced in let le = refs-cached f g h c places in omega (arith, none, le)

  counted-there : 1 ≤ count g h c
  counted-there = let taken = ready.reserved.used.taken in omega (arith, taken)

  entry-fits : 8 * i + 8 ≤ h.l1_entries * 8
  entry-fits = let inside = ready.inside in omega (arith, inside)

  memory-is : in_memory later ≡ y
  memory-is = memory-beside m.file m.header sound.well_formed.consistent m.cached sound.well_formed.tables sound.well_formed.blocks l1_table tt refl h.l1_offset (h.l1_entries * 8) (λ v. refl)
      (h.l1_offset + 8 * i) (to_be_bytes w64 w) (omega arith) (omega arith) (omega (arith, entry-fits))

  -- Clusters without structure keep their bytes.
  kept-there : (d : ℕ) → structure f h (meets h d) ≡ 0 → Same f x (d * cluster_size h) (cluster_size h)
  kept-there d none =
      let part = l1-part f h (meets h d) in
      unmet-stays f x h d h.l1_offset (h.l1_entries * 8) (h.l1_offset + 8 * i) 8 (omega (arith, part, none)) (omega arith) (omega (arith, entry-fits)) (splice-is-outside f (h.l1_offset + 8 * i) (to_be_bytes w64 w))

  -- The old table isn't dirty: its mappings in memory are those of the file.
  old-same : (j : ℕ) → Live (l2_table f h) h i j → slot g h i j ≡ slot f h i j
  old-same j live = slot-same m.file m.header sound.well_formed.consistent m.cached sound.well_formed.tables sound.well_formed.blocks i j live ready.settled

  old-either : (j : ℕ) → j < entries_of_cluster h → slot_or_none g h i j ≡ slot_or_none f h i j
  old-either j less = elim (cases_eq (l2_table f h i) 0) [
    | inl empty ↦ none-there g h i j (places.l1 i ∙ empty) ∙ sym (none-there f h i j empty)
    | inr full ↦ slot-there g h i j (λ e. full (sym (places.l1 i) ∙ e)) ∙ old-same j (record { in_l1 = ready.inside; is_there = full; in_table = less }) ∙ sym (slot-there f h i j full)
  ]

  -- So are those of the new table.
  copies-there : (j : ℕ) → j < entries_of_cluster h → l2_mapping g h t j ≡ copied_as marks (slot_or_none g h i j)
  copies-there j less =
      ap (mapping_of (layout_of h)) (word-same f g t (cluster_size h) j (memory-same m.file m.header c ready.reserved.used.apart sound.well_formed.consistent m.cached m.order sound.well_formed) (words-fit h j less))
      ∙ ready.raw_entries j less ∙ ap (copied_as marks) (sym (old-either j less))

  in-file : TableSwapped f x m.header i t
  in-file = swapped f m.header sound.well_formed.consistent marks i c w ready.inside by.fits by.sane by.names ready.cluster_nonzero unnamed-file ready.counts ready.raw_entries

  over-there : TableSwapped g y m.header i t
  over-there = swapped g m.header (within m sound) marks i c w ready.inside by.fits by.sane by.names ready.cluster_nonzero unnamed-there counted-there copies-there

  file-references : (d : ℕ) → refs x h d + old_table m i d ≡ refs f h d + meets h d t (cluster_size h)
  file-references = references f m.header sound.well_formed.consistent marks i c w ready.inside by.fits by.sane by.names ready.cluster_nonzero unnamed-file ready.counts ready.raw_entries

  memory-references : (d : ℕ) → refs y h d + old_table m i d ≡ refs g h d + meets h d t (cluster_size h)
  memory-references d =
      let all = references g m.header (within m sound) marks i c w ready.inside by.fits by.sane by.names ready.cluster_nonzero unnamed-there counted-there copies-there d in
      let same : of_cluster h (meets h d) (l2_table g h i) ≡ of_cluster h (meets h d) (l2_table f h i) = ap (of_cluster h (meets h d)) (places.l1 i) in
      omega (arith, all, same)

  file-slot : (j : ℕ) → j < entries_of_cluster h → slot x h i j ≡ copied_as marks (slot_or_none f h i j)
  file-slot = slot-new f m.header sound.well_formed.consistent marks i c w ready.inside by.fits by.sane by.names ready.cluster_nonzero unnamed-file ready.counts ready.raw_entries

  memory-slot : (j : ℕ) → j < entries_of_cluster h → slot y h i j ≡ copied_as marks (slot_or_none f h i j)
  memory-slot j less =
      slot-new g m.header (within m sound) marks i c w ready.inside by.fits by.sane by.names ready.cluster_nonzero unnamed-there counted-there copies-there j less ∙ ap (copied_as marks) (old-either j less)

  -- The mappings of other tables are the same.
  other-file : (k j : ℕ) → Live (l2_table f h) h k j → k ≢ i → slot x h k j ≡ slot f h k j
  other-file k j live apart = in-file.replaced.others k j live apart

  other-memory : (k j : ℕ) → Live (l2_table f h) h k j → k ≢ i → slot y h k j ≡ slot g h k j
  other-memory k j live apart = over-there.replaced.others k j (record { in_l1 = live.in_l1; is_there = λ none. live.is_there (sym (places.l1 k) ∙ none); in_table = live.in_table }) apart

  full-there : l2_table x h i ≢ 0
  full-there none = place-there (cluster_size h) c (pow_pos h.cluster_bits) ready.cluster_nonzero (sym in-file.replaced.here ∙ none)

  -- The references by the entries of each table are the same.
  row-same : (d k : ℕ) → k < h.l1_entries → or_none (l2_table x h k) (sum_below (entries_of_cluster h) (λ j. of_either h (meets h d) (slot x h k j) (slot y h k j)))
      ≡ or_none (l2_table f h k) (sum_below (entries_of_cluster h) (λ j. of_either h (meets h d) (slot f h k j) (slot g h k j)))
  row-same d k inside = elim (cases_eq k i) [
    | inr apart ↦ elim (cases_eq (l2_table f h k) 0) [
      | inl empty ↦ rw (in-file.replaced.tables k apart, empty) refl
      | inr full ↦
          ap (λ z. or_none z (sum_below (entries_of_cluster h) (λ j. of_either h (meets h d) (slot x h k j) (slot y h k j)))) (in-file.replaced.tables k apart)
          ∙ ap (or_none (l2_table f h k)) (sum-same (entries_of_cluster h) _ _ (λ j less.
          let live : Live (l2_table f h) h k j = record { in_l1 = inside; is_there = full; in_table = less } in
          ap (λ n. of_either h (meets h d) n (slot y h k j)) (other-file k j live apart) ∙ ap (of_either h (meets h d) (slot f h k j)) (other-memory k j live apart)))
    ]
    | inl same ↦ subst (λ k. or_none (l2_table x h k) (sum_below (entries_of_cluster h) (λ j. of_either h (meets h d) (slot x h k j) (slot y h k j)))
        ≡ or_none (l2_table f h k) (sum_below (entries_of_cluster h) (λ j. of_either h (meets h d) (slot f h k j) (slot g h k j)))) (sym same) (own-row d)
  ]
    where
      new-weighs : (d j : ℕ) → j < entries_of_cluster h → of_either h (meets h d) (slot x h i j) (slot y h i j) ≡ of_mapping h (meets h d) (slot_or_none f h i j)
      new-weighs d j less =
          let one : of_mapping h (meets h d) (slot x h i j) ≡ of_mapping h (meets h d) (slot_or_none f h i j) = ap (of_mapping h (meets h d)) (file-slot j less) ∙ copied-weighs marks h (meets h d) (slot_or_none f h i j) in
          let two : of_mapping h (meets h d) (slot y h i j) ≡ of_mapping h (meets h d) (slot_or_none f h i j) = ap (of_mapping h (meets h d)) (memory-slot j less) ∙ copied-weighs marks h (meets h d) (slot_or_none f h i j) in
          ap (λ n. max n (of_mapping h (meets h d) (slot y h i j))) one ∙ ap (max (of_mapping h (meets h d) (slot_or_none f h i j))) two ∙ twice (of_mapping h (meets h d) (slot_or_none f h i j))

      there-is : (t n : ℕ) → t ≢ 0 → or_none t n ≡ n
      there-is t n apart = grind (arith, nat_tests)

      own-row : (d : ℕ) → or_none (l2_table x h i) (sum_below (entries_of_cluster h) (λ j. of_either h (meets h d) (slot x h i j) (slot y h i j)))
          ≡ or_none (l2_table f h i) (sum_below (entries_of_cluster h) (λ j. of_either h (meets h d) (slot f h i j) (slot g h i j)))
      own-row d = there-is (l2_table x h i) _ full-there ∙ elim (cases_eq (l2_table f h i) 0) [
        | inl empty ↦
            let zero : sum_below (entries_of_cluster h) (λ j. of_either h (meets h d) (slot x h i j) (slot y h i j)) ≡ 0 =
            sum-zero _ _ (λ j less. new-weighs d j less ∙ ap (of_mapping h (meets h d)) (none-there f h i j empty)) in
            zero ∙ rw empty refl
        | inr full ↦
            sum-same (entries_of_cluster h) _ _ (λ j less.
            let live : Live (l2_table f h) h i j = record { in_l1 = ready.inside; is_there = full; in_table = less } in
            let both : of_either h (meets h d) (slot f h i j) (slot g h i j) ≡ of_mapping h (meets h d) (slot f h i j) = ap (of_either h (meets h d) (slot f h i j)) (old-same j live) ∙ twice (of_mapping h (meets h d) (slot f h i j)) in
            new-weighs d j less ∙ ap (of_mapping h (meets h d)) (slot-there f h i j full) ∙ sym both)
            ∙ sym (there-is (l2_table f h i) _ full)
      ]

  -- All references together change only by the two tables themselves.
  names : (d : ℕ) → referenced_at_all later d + old_table m i d ≡ referenced_at_all m d + meets h d t (cluster_size h)
  names d =
      let all : references_in_either x y h d + of_cluster h (meets h d) (l2_table f h i) ≡ references_in_either f g h d + of_cluster h (meets h d) (l2_table x h i) =
      table-switched f g x y h i d (record { in_l1 = ready.inside; blocks = in-file.replaced.blocks; l1 = λ k less apart. in-file.replaced.tables k apart; rows = row-same d }) in
      let new : of_cluster h (meets h d) (l2_table x h i) ≡ meets h d t (cluster_size h) = ap (of_cluster h (meets h d)) in-file.replaced.here ∙ named-place t (place-there (cluster_size h) c (pow_pos h.cluster_bits) ready.cluster_nonzero) in
      let memory : referenced_at_all later d ≡ references_in_either x y h d = ap (λ (z : Bytes). references_in_either x z h d) memory-is in
      omega (arith, all, new, memory)
    where
      named-place : (p : ℕ) → p ≢ 0 → of_cluster h (meets h d) p ≡ meets h d p (cluster_size h)
      named-place p there = chosen p (meets h d p (cluster_size h)) there

  -- The COPIED references don't increase.
  fewer-copied : (d : ℕ) → copied x y h d ≤ copied f g h d
  unfolding copied over_slots
  fewer-copied d = sum-mono h.l1_entries _ _ (λ k inside. elim (cases_eq k i) [
    | inr apart ↦ elim (cases_eq (l2_table f h k) 0) [
      | inl empty ↦ rw (in-file.replaced.tables k apart, empty) (omega arith)
      | inr full ↦
          let same : or_none (l2_table x h k) (sum_below (entries_of_cluster h) (λ j. max (of_copied h (meets h d) (slot x h k j)) (of_copied h (meets h d) (slot y h k j))))
          ≡ or_none (l2_table f h k) (sum_below (entries_of_cluster h) (λ j. max (of_copied h (meets h d) (slot f h k j)) (of_copied h (meets h d) (slot g h k j)))) =
          ap (λ z. or_none z (sum_below (entries_of_cluster h) (λ j. max (of_copied h (meets h d) (slot x h k j)) (of_copied h (meets h d) (slot y h k j))))) (in-file.replaced.tables k apart)
          ∙ ap (or_none (l2_table f h k)) (sum-same (entries_of_cluster h) _ _ (λ j less.
          let live : Live (l2_table f h) h k j = record { in_l1 = inside; is_there = full; in_table = less } in
          ap (λ n. max (of_copied h (meets h d) n) (of_copied h (meets h d) (slot y h k j))) (other-file k j live apart) ∙ ap (λ n. max (of_copied h (meets h d) (slot f h k j)) (of_copied h (meets h d) n)) (other-memory k j live apart))) in
          omega (arith, same)
    ]
    | inl same ↦ subst (λ k. or_none (l2_table x h k) (sum_below (entries_of_cluster h) (λ j. max (of_copied h (meets h d) (slot x h k j)) (of_copied h (meets h d) (slot y h k j))))
        ≤ or_none (l2_table f h k) (sum_below (entries_of_cluster h) (λ j. max (of_copied h (meets h d) (slot f h k j)) (of_copied h (meets h d) (slot g h k j))))) (sym same) (own-marks d)
  ])
    where
      or-less : (t n : ℕ) → or_none t n ≤ n
      or-less t n = grind (arith, nat_tests)

      there-is : (t n : ℕ) → t ≢ 0 → n ≤ or_none t n
      there-is t n apart = grind (arith, nat_tests)

      new-marks : (d j : ℕ) → j < entries_of_cluster h → max (of_copied h (meets h d) (slot x h i j)) (of_copied h (meets h d) (slot y h i j)) ≤ of_copied h (meets h d) (slot_or_none f h i j)
      new-marks d j less =
          let one : of_copied h (meets h d) (slot x h i j) ≡ of_copied h (meets h d) (copied_as marks (slot_or_none f h i j)) = ap (of_copied h (meets h d)) (file-slot j less) in
          let two : of_copied h (meets h d) (slot y h i j) ≡ of_copied h (meets h d) (copied_as marks (slot_or_none f h i j)) = ap (of_copied h (meets h d)) (memory-slot j less) in
          let fewer = copied-marks marks h (meets h d) (slot_or_none f h i j) in
          omega (arith, one, two, fewer)

      own-marks : (d : ℕ) → or_none (l2_table x h i) (sum_below (entries_of_cluster h) (λ j. max (of_copied h (meets h d) (slot x h i j)) (of_copied h (meets h d) (slot y h i j))))
          ≤ or_none (l2_table f h i) (sum_below (entries_of_cluster h) (λ j. max (of_copied h (meets h d) (slot f h i j)) (of_copied h (meets h d) (slot g h i j))))
      own-marks d =
          let all = or-less (l2_table x h i) (sum_below (entries_of_cluster h) (λ j. max (of_copied h (meets h d) (slot x h i j)) (of_copied h (meets h d) (slot y h i j)))) in
          elim (cases_eq (l2_table f h i) 0) [
            | inl empty ↦
                let zero : sum_below (entries_of_cluster h) (λ j. max (of_copied h (meets h d) (slot x h i j)) (of_copied h (meets h d) (slot y h i j))) ≡ 0 =
                sum-zero _ _ (λ j less.
                let le = new-marks d j less in
                let none : of_copied h (meets h d) (slot_or_none f h i j) ≡ 0 = ap (of_copied h (meets h d)) (none-there f h i j empty) in
                omega (arith, le, none)) in
                omega (arith, all, zero)
            | inr full ↦
                let le : sum_below (entries_of_cluster h) (λ j. max (of_copied h (meets h d) (slot x h i j)) (of_copied h (meets h d) (slot y h i j)))
                ≤ sum_below (entries_of_cluster h) (λ j. max (of_copied h (meets h d) (slot f h i j)) (of_copied h (meets h d) (slot g h i j))) =
                sum-mono (entries_of_cluster h) _ _ (λ j less.
                let le = new-marks d j less in
                let old : of_copied h (meets h d) (slot_or_none f h i j) ≡ of_copied h (meets h d) (slot f h i j) = ap (of_copied h (meets h d)) (slot-there f h i j full) in
                omega (arith, le, old)) in
                let same = there-is (l2_table f h i) (sum_below (entries_of_cluster h) (λ j. max (of_copied h (meets h d) (slot f h i j)) (of_copied h (meets h d) (slot g h i j)))) full in
                omega (arith, all, le, same)
          ]

  base : (d : ℕ) → structure x h (meets h d) + old_table m i d ≡ structure f h (meets h d) + meets h d t (cluster_size h)
  base d = in-file.replaced.structure (meets h d)

  -- A cluster is either the new table's, or its references don't increase.
  which : (d : ℕ) → (meets h d t (cluster_size h) ≡ 0) ⊎ ((d ≡ c) × (meets h d t (cluster_size h) ≡ 1))
  which d = elim (cases_eq d c) [
    | inl same ↦ inr (same, subst (λ k. meets h k t (cluster_size h) ≡ 1) (sym same) (meets-own h c))
    | inr apart ↦ inl (meets-other h d c (λ e. apart (sym e)))
  ]

  unnamed-at : (d : ℕ) → d ≡ c → (referenced_at_all m d ≡ 0) × (waiting m d ≡ 0) × (1 ≤ count f h d) × (1 ≤ counted m d)
  unnamed-at d same = subst (λ k. (referenced_at_all m k ≡ 0) × (waiting m k ≡ 0) × (1 ≤ count f h k) × (1 ≤ counted m k)) (sym same) (ready.reserved.not_referenced, ready.reserved.waits, ready.counts, counted-there)

  pub counts-there : (d : ℕ) → counted later d ≡ counted m d
  counts-there d = ap (λ (z : Bytes). count z h d) memory-is ∙ over-there.replaced.counts d

  references-there : (d : ℕ) → referenced later d + old_table m i d ≡ referenced m d + meets h d t (cluster_size h)
  references-there d = let same : referenced later d ≡ refs y h d = ap (λ (z : Bytes). refs z h d) memory-is in let all = memory-references d in omega (arith, same, all)

  consistent-there : IsConsistent (in_memory later) m.header
  consistent-there = subst (λ (z : Bytes). IsConsistent z m.header) (sym memory-is) over-there.consistent

  -- The cached tables and blocks are still valid for the new file.
  same-cluster : (a b : ℕ) → a * cluster_size h ≡ b * cluster_size h → a ≡ b
  same-cluster a b same = elim (cases_eq a b) [
    | inl e ↦ e
    | inr apart ↦ absurd (places-differ (cluster_size h) a b (pow_pos h.cluster_bits) apart same)
  ]

  words-kept : (cluster : ℕ) → Same f x (cluster * cluster_size h) (cluster_size h) → raw_entries_in x (cluster * cluster_size h) (entries_of_cluster h) ≡ raw_entries_in f (cluster * cluster_size h) (entries_of_cluster h)
  words-kept cluster same = map-same (raw_entry x (cluster * cluster_size h)) (raw_entry f (cluster * cluster_size h)) (entries_of_cluster h)
      (λ j less. word-same f x (cluster * cluster_size h) (cluster_size h) j same (words-fit h j less))

  table-still : (cluster : ℕ) (v : TableValue) → (v.modified ≡ true → cluster * cluster_size h ≢ l2_table f h i) → (cluster ≡ c → v.raw_entries ≡ raw_entries_in f t (entries_of_cluster h)) → IsCachedTable f h cluster v → IsCachedTable x h cluster v
  table-still cluster v away fresh is = record {
    fits = is.fits;
    placed = is.placed;
    layout = is.layout;
    modified = λ on.
        let live = is.modified on in
        let other : live.0 ≢ i = λ same. away on (sym live.2 ∙ ap (l2_table f h) same) in
        (live.0, live.1, in-file.replaced.tables live.0 other ∙ live.2, live.3);
    clean = λ off live. elim (cases_eq live.0 i) [
      | inl new ↦
          let here : cluster ≡ c = same-cluster cluster c (sym live.2 ∙ ap (l2_table x h) new ∙ in-file.replaced.here) in
          fresh here ∙ sym (words-kept c (kept-there c ready.reserved.used.apart)) ∙ ap (λ k. raw_entries_in x (k * cluster_size h) (entries_of_cluster h)) (sym here)
      | inr old ↦
          let place : l2_table f h live.0 ≡ cluster * cluster_size h = sym (in-file.replaced.tables live.0 old) ∙ live.2 in
          let some : l2_table f h live.0 ≢ 0 = λ none. place-there (cluster_size h) cluster (pow_pos h.cluster_bits) live.3 (sym place ∙ none) in
          is.clean off (live.0, live.1, place, live.3)
          ∙ sym (map-same (raw_entry x (cluster * cluster_size h)) (raw_entry f (cluster * cluster_size h)) (entries_of_cluster h)
          (λ j less. subst (λ p. raw_entry x p j ≡ raw_entry f p j) place (in-file.replaced.same_structure_outside.raw_entries live.0 j (record { in_l1 = live.1; is_there = some; in_table = less }) (λ e. cc))))
    ];
  }

  block-still : (cluster : ℕ) (b : Block) → IsCachedBlock f h cluster b → IsCachedBlock x h cluster b
  block-still cluster b is = block-fits f x h h.refcount_table_offset h.refcount_table_clusters cluster b
      (λ live. (live.0, live.1, in-file.replaced.blocks live.0 ∙ live.2, live.3))
      (λ clean live.
      let place : block_at f h live.0 ≡ cluster * cluster_size h = sym (in-file.replaced.blocks live.0) ∙ live.2 in
      let some : block_at f h live.0 ≢ 0 = λ none. place-there (cluster_size h) cluster (pow_pos h.cluster_bits) live.3 (sym place ∙ none) in
      is.clean clean (live.0, live.1, place, live.3)
      ∙ sym (counters-same f x h (cluster * cluster_size h) (subst (λ p. Same f x p (cluster_size h)) place (in-file.replaced.same_structure_outside.counters live.0 live.1 some (λ e. cc)))))
      is

  fewer : (d : ℕ) → d ≢ c → referenced_at_all later d ≤ referenced_at_all m d
  fewer d apart = let none = meets-other h d c (λ e. apart (sym e)) in let all = names d in omega (arith, none, all)

  safe-still : WellFormed x m.header m.cached m.order
  safe-still = record {
    consistent = in-file.consistent;
    tables_apart = sound.well_formed.tables_apart;
    blocks_apart = sound.well_formed.blocks_apart;
    tables = all-weaker _ _ (λ e both. table-still e.0 e.1.value both.1.0 both.1.1 both.0) m.cached.tables (all-both _ _ m.cached.tables sound.well_formed.tables (all-both _ _ m.cached.tables ready.settled ready.cached));
    blocks = all-weaker _ _ (λ e is. block-still e.0 e.1.value is) m.cached.blocks sound.well_formed.blocks;
    apart = λ d some.
        let memory : copied x (in_memory later) h d ≡ copied x y h d = ap (λ (z : Bytes). copied x z h d) memory-is in
        let less = fewer-copied d in
        let all = names d in
        let stands = base d in
        elim (which d) [
          | inl none ↦ let one = sound.well_formed.apart d (omega (arith, memory, less, stands, none, some)) in omega (arith, all, none, one)
          | inr new ↦ let at = unnamed-at d new.0 in omega (arith, all, new.1, at.0)
        ];
    ordered = ordered-still f g x (in_memory later) h h
        (λ d le. let all = names d in let counts = counts-there d in elim (which d) [
          | inl none ↦ omega (arith, all, counts, none, le)
          | inr new ↦ let at = unnamed-at d new.0 in omega (arith, all, counts, new.1, at.0, at.3)
        ])
        (λ d le. let all = names d in let counts = in-file.replaced.counts d in elim (which d) [
          | inl none ↦ omega (arith, all, counts, none, le)
          | inr new ↦ let at = unnamed-at d new.0 in omega (arith, all, counts, new.1, at.0, at.2)
        ])
        (λ d. named-counted x m.header in-file.consistent d)
        (λ d le. let file = in-file.replaced.counts d in let cached = counts-there d in omega (arith, file, cached, le))
        m.order sound.well_formed.ordered;
    covered = λ d. named-counted (in_memory later) m.header consistent-there d;
  }

  pub table-sound : IsSound later
  table-sound = record {
    well_formed = safe-still;
    table = still-table f x h m.table in-file.replaced.blocks sound.table;
    covered = λ d.
        let was = sound.covered d in
        let all = references-there d in
        let counts = counts-there d in
        elim (which d) [
          | inl none ↦ omega (arith, was, all, counts, none)
          | inr new ↦ let at = unnamed-at d new.0 in let le = refs-cached f g h d places in omega (arith, all, counts, new.1, at.0, at.1, at.3, le)
        ];
    not_referenced = λ d some.
        let none = sound.not_referenced d some in
        let all = names d in
        elim (which d) [
          | inl away ↦ omega (arith, none, all, away)
          | inr new ↦ let le = metadata-among d m.pending in let at = unnamed-at d new.0 in absurd (omega (arith, le, some, at.1))
        ];
  }

  -- Each guest byte reads as before, in the file and in memory.
  byte-kept : (p d : ℕ) → structure f h (meets h d) ≡ 0 → x (d * cluster_size h + p % cluster_size h) ≡ f (d * cluster_size h + p % cluster_size h)
  byte-kept p d none = kept-there d none (p % cluster_size h) (mod_below p (cluster_size h) (pow_pos h.cluster_bits))

  pub file-shows-same : (p : ℕ) → file_value later p ≡ file_value m p
  file-shows-same p =
      let same = entry-unmarked f m.header sound.well_formed.consistent marks i c w ready.inside by.fits by.sane by.names ready.cluster_nonzero unnamed-file ready.counts ready.raw_entries (p / cluster_size h) in
      same-value x h p (entry x h (p / cluster_size h)) (entry f h (p / cluster_size h)) same
      ∙ value-same f x h p (entry f h (p / cluster_size h)) (λ d copied is. byte-kept p d (file-apart (p / cluster_size h) d copied is))
    where
      file-apart : (guest d : ℕ) (copied : Bool) → entry f h guest ≡ data_at d copied → structure f h (meets h d) ≡ 0
      file-apart guest d copied is =
          let there = data-slot f m.header sound.well_formed.consistent guest d copied is in
          let one = ap (of_mapping h (meets h d)) there.1 ∙ meets-own h d in
          named-apart f g h d (guest / entries_of_cluster h) (guest % entries_of_cluster h) (slot f h (guest / entries_of_cluster h) (guest % entries_of_cluster h)) sound.well_formed.apart there.0 (inl refl) (omega (arith, one))

  pub memory-shows-same : (p : ℕ) → memory_value later p ≡ memory_value m p
  memory-shows-same p =
      let same = entry-unmarked g m.header (within m sound) marks i c w ready.inside by.fits by.sane by.names ready.cluster_nonzero unnamed-there counted-there copies-there (p / cluster_size h) in
      ap (λ (z : Bytes). own_value_by x h p (entry z h (p / cluster_size h))) memory-is
      ∙ same-value x h p (entry y h (p / cluster_size h)) (entry g h (p / cluster_size h)) same
      ∙ value-same f x h p (entry g h (p / cluster_size h)) (λ d copied is. byte-kept p d (data-used m sound (p / cluster_size h) d copied is).apart)

  -- The mappings of the table are those that were copied, in the file and in memory. Those of other tables are the same.
  pub file-copied : (guest : ℕ) → IsOfTable h i guest → entry x h guest ≡ copied_as marks (entry f h guest)
  file-copied = entry-copied f m.header sound.well_formed.consistent marks i c w ready.inside by.fits by.sane by.names ready.cluster_nonzero unnamed-file ready.counts ready.raw_entries

  pub memory-copied : (guest : ℕ) → IsOfTable h i guest → entry (in_memory later) h guest ≡ copied_as marks (entry g h guest)
  memory-copied guest own =
      ap (λ (z : Bytes). entry z h guest) memory-is
      ∙ entry-copied g m.header (within m sound) marks i c w ready.inside by.fits by.sane by.names ready.cluster_nonzero unnamed-there counted-there copies-there guest own

  pub file-elsewhere : (guest : ℕ) → guest / entries_of_cluster h ≢ i → entry x h guest ≡ entry f h guest
  file-elsewhere = entry-elsewhere f m.header sound.well_formed.consistent marks i c w ready.inside by.fits by.sane by.names ready.cluster_nonzero unnamed-file ready.counts ready.raw_entries

  pub memory-elsewhere : (guest : ℕ) → guest / entries_of_cluster h ≢ i → entry (in_memory later) h guest ≡ entry g h guest
  memory-elsewhere guest apart =
      ap (λ (z : Bytes). entry z h guest) memory-is
      ∙ entry-elsewhere g m.header (within m sound) marks i c w ready.inside by.fits by.sane by.names ready.cluster_nonzero unnamed-there counted-there copies-there guest apart

  one-new : (d : ℕ) → meets h d t (cluster_size h) ≡ one_at c d
  one-new d = meets-one h c d

  set-or-same : (keeps : Bool) (guest : ℕ) → IsOfTable h i guest → entry (in_memory later) h guest ≡ copied_as keeps (entry g h guest)
      → (entry (in_memory later) h guest ≡ entry g h guest) ⊎ LosesCopied keeps h i guest
  set-or-same true guest own is = inl is
  set-or-same false guest own is = inr own

  pub table-advances : Advances (λ p v. ⊥) (λ q. ⊥) (LosesCopied marks h i) (old_table m i) (one_at c) m later
  table-advances = record {
    sound = table-sound;
    header = header-same m.header;
    file = record { consistent = in-file.consistent; header = header-same m.header; shows = λ p. inl (file-shows-same p) };
    memory = λ p. inl (memory-shows-same p);
    raw_entries = λ guest. elim (cases_eq (guest / entries_of_cluster h) i) [
      | inl own ↦ set-or-same marks guest own (memory-copied guest own)
      | inr apart ↦ inl (memory-elsewhere guest apart)
    ];
    used = λ d used none. record {
      apart = let all = base d in let new = one-new d in let was = used.apart in omega (arith, all, new, was, none);
      taken = let counts = counts-there d in let taken = used.taken in omega (arith, counts, taken);
    };
    waits = λ d used none. omega arith;
    names = λ d used none. let all = names d in let new = one-new d in omega (arith, all, new, none);
    used_bytes_unchanged = λ p used none. inr (in-cluster h f x p (kept-there (p / cluster_size h) used.apart));
    law = λ d. let counts = counts-there d in let all = references-there d in let new = one-new d in omega (arith, counts, all, new);
  }

  -- Nothing references the cluster of the old table any more.
  pub old-unnamed : (d : ℕ) → d ≢ 0 → l2_table f h i ≡ d * cluster_size h → referenced_at_all later d ≡ 0
  unfolding structure
  old-unnamed d some place =
      let own : old_table m i d ≡ 1 = ap (of_cluster h (meets h d)) place ∙ here d some in
      let le = term-le-sum h.l1_entries i (λ k. of_cluster h (meets h d) (l2_table f h k)) ready.inside in
      let one = sound.well_formed.apart d (omega (arith, le, own)) in
      let all = names d in
      elim (which d) [
        | inl none ↦ omega (arith, one, all, none, own)
        | inr new ↦ let at = unnamed-at d new.0 in omega (arith, all, new.1, at.0, own)
      ]
    where
      here : (d : ℕ) → d ≢ 0 → of_cluster h (meets h d) (d * cluster_size h) ≡ 1
      here d some = chosen (d * cluster_size h) (meets h d (d * cluster_size h) (cluster_size h)) (place-there (cluster_size h) d (pow_pos h.cluster_bits) some) ∙ meets-own h d
