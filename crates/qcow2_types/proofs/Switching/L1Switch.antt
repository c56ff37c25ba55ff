-- The header is switched to another L1 table. Its entries are those of the old table, followed by entries of 0.
use Rattle.std.proofs.Common.{◌≡◌, ◌≢◌, ℕ, ◌+◌, ◌*◌, ◌/◌, ◌%◌, ◌<◌, ◌≤◌, refl, arith, sym, subst, ◌∙◌, ap, inl, inr}
use Rattle.std.specs.Prelude.{true, false, ◌⊎◌, nat_lt, IsTrue, Ok}
use Rattle.std.proofs.lemmas.Bool.{cases_eq, cases_lt, lt-ltb, le-ltb}
use Rattle.std.proofs.lemmas.Bool.Decides.{nat_tests}
use Rattle.qcow2_types.specs.Bytes.{Bytes, raw_entry, sum_below}
use Rattle.qcow2_types.specs.Words.{Mapping, is_damaged, l1_entry_valid, reftable_entry_valid, table_offset, mapping_of}
use Rattle.qcow2_types.proofs.Showing.Values.{entry-slot}
use Rattle.qcow2_types.proofs.Showing.Shows.{guest-live, guest-slot-there, guest-slot-none}
use Rattle.qcow2_types.specs.Header.{Fields, Header, header_of, cluster_size, entries_of_cluster, refcount_table_entries, layout_of}
use Rattle.qcow2_types.specs.Entries.{l2_table, entry}
use Rattle.qcow2_types.specs.Counts.{block_at, count, counter}
use Rattle.qcow2_types.specs.Slots.{slot, Live, over_slots, or_none, guest_slot, ValidEntries}
use Rattle.qcow2_types.specs.Frames.{Outside, SameStructureOutside, first_cluster}
use Rattle.qcow2_types.specs.References.{Weight, structure, of_cluster, contents, of_mapping, of_copied, meets, refs}
use Rattle.qcow2_types.specs.Consistency.{IsConsistent}
use Rattle.qcow2_types.proofs.Counting.Consistent.{some-words, consistent-shaped, structure-named-once, copied-named-once, named-counted, consistent-from}
use Rattle.qcow2_types.proofs.Counting.Parts.{count-kept, block_at-kept}
use Rattle.qcow2_types.proofs.Counting.Slots.{contents-slots}
use Rattle.qcow2_types.proofs.Counting.Sound.{sound-words}
use Rattle.qcow2_types.proofs.Numbers.Splices.{be-same}
use Rattle.qcow2_types.proofs.Numbers.Sums.{sum-same}
use Rattle.qcow2_types.specs.Switched.{with_l1, with_l1_table, L1Switched}
use Rattle.qcow2_types.proofs.Switching.Switches.{sum-longer, cluster-long, first-named, start-kept, start-free, start-mapped, start-values}

module _ (f g : Bytes) (H : Header) (was : IsConsistent f H) (o more : ℕ) (loads : header_of true g ≡ Ok (with_l1_table H o (H.fields.l1_entries + more))) (out : Outside f g 0 64)
    (old_words : (i : ℕ) → i < H.fields.l1_entries → raw_entry f o i ≡ raw_entry f H.fields.l1_offset i) (new_words : (i : ℕ) → H.fields.l1_entries ≤ i → i < H.fields.l1_entries + more → raw_entry f o i ≡ 0)
    (free : (d : ℕ) → 0 < meets H.fields d o ((H.fields.l1_entries + more) * 8) → (refs f H.fields d ≡ 0) × (1 ≤ count f H.fields d)) where
  h : Fields
  h = H.fields

  n : ℕ
  n = H.fields.l1_entries + more

  abbrev new : Fields
  new = with_l1 H.fields o (H.fields.l1_entries + more)

  size : 512 ≤ cluster_size H.fields
  size = cluster-long f H was

  -- the structure outside the header is the same
  kept : SameStructureOutside f g H.fields first_cluster
  kept = start-kept f g H was out

  -- a new table with entries is after the first cluster
  behind : 0 < H.fields.l1_entries + more → cluster_size H.fields ≤ o
  behind some = elim (cases_lt o (cluster_size H.fields)) [
    | inr le ↦ le
    | inl lt ↦
        let s : 512 ≤ cluster_size H.fields = size in
        let met : meets H.fields 0 o ((H.fields.l1_entries + more) * 8) ≡ 1 = grind (arith, nat_tests) in
        let none : refs f H.fields 0 ≡ 0 = (free 0 (omega arith)).0 in
        let one : 1 ≤ refs f H.fields 0 = first-named f H was in
        absurd (omega arith)
  ]

  -- the new table has the same entries in both files
  words-there : (i : ℕ) → i < H.fields.l1_entries + more → raw_entry g o i ≡ raw_entry f o i
  unfolding raw_entry
  words-there i lt =
      let s : 512 ≤ cluster_size H.fields = size in
      let far : cluster_size H.fields ≤ o = behind (omega arith) in
      be-same g f (o + 8 * i) (o + 8 * i) 8 (λ k less. out (o + 8 * i + k) (inr (omega arith)))

  -- The L2 tables, the blocks, the L2 entries and the refcounts are the same.
  pub switched-tables : (i : ℕ) → l2_table g (with_l1 H.fields o (H.fields.l1_entries + more)) i ≡ l2_table f H.fields i
  switched-tables i = elim (cases_lt i H.fields.l1_entries) [
    | inl lt ↦
        let now : nat_lt i (H.fields.l1_entries + more) ≡ true = lt-ltb _ _ (omega arith) in
        let then : nat_lt i H.fields.l1_entries ≡ true = lt-ltb _ _ lt in
        let w : raw_entry g o i ≡ raw_entry f H.fields.l1_offset i = words-there i (omega arith) ∙ old_words i lt in
        rw (now, then) (ap table_offset w)
    | inr le ↦ elim (cases_lt i (H.fields.l1_entries + more)) [
      | inl lt ↦
          let now : nat_lt i (H.fields.l1_entries + more) ≡ true = lt-ltb _ _ lt in
          let then : nat_lt i H.fields.l1_entries ≡ false = le-ltb _ _ le in
          let w : raw_entry g o i ≡ 0 = words-there i lt ∙ new_words i le lt in
          rw (now, then) (ap table_offset w)
      | inr past ↦
          let now : nat_lt i (H.fields.l1_entries + more) ≡ false = le-ltb _ _ past in
          let then : nat_lt i H.fields.l1_entries ≡ false = le-ltb _ _ le in
          rw (now, then) refl
    ]
  ]

  pub switched-blocks : (i : ℕ) → block_at g (with_l1 H.fields o (H.fields.l1_entries + more)) i ≡ block_at f H.fields i
  switched-blocks i = block_at-kept f g H.fields first_cluster kept i (λ e. cc)

  pub switched-slots : (i j : ℕ) → Live (l2_table f H.fields) H.fields i j → slot g (with_l1 H.fields o (H.fields.l1_entries + more)) i j ≡ slot f H.fields i j
  switched-slots i j live = ap (λ t. mapping_of (layout_of H.fields) (raw_entry g t j)) (switched-tables i) ∙ ap (mapping_of (layout_of H.fields)) (kept.raw_entries i j live (λ e. cc))

  pub switched-counts : (d : ℕ) → count g (with_l1 H.fields o (H.fields.l1_entries + more)) d ≡ count f H.fields d
  unfolding count counter
  switched-counts d = count-kept f g H.fields first_cluster kept d (consistent-shaped f H was) (λ e. cc) (λ e. cc)

  -- past the end of the old table no L2 table is referenced
  none-past : (i : ℕ) → H.fields.l1_entries ≤ i → l2_table f H.fields i ≡ 0
  none-past i le = let past : nat_lt i H.fields.l1_entries ≡ false = le-ltb _ _ le in rw past refl

  none-past' : (i : ℕ) → H.fields.l1_entries ≤ i → l2_table g (with_l1 H.fields o (H.fields.l1_entries + more)) i ≡ 0
  none-past' i le = switched-tables i ∙ none-past i le

  -- the structure, with the old table replaced by the new one
  switched-structure : (v : Weight) → structure g (with_l1 H.fields o (H.fields.l1_entries + more)) v + v H.fields.l1_offset (H.fields.l1_entries * 8) ≡ structure f H.fields v + v o ((H.fields.l1_entries + more) * 8)
  unfolding structure
  switched-structure v =
      let blocks : sum_below (refcount_table_entries H.fields) (λ k. of_cluster H.fields v (block_at g (with_l1 H.fields o (H.fields.l1_entries + more)) k)) ≡ sum_below (refcount_table_entries H.fields) (λ k. of_cluster H.fields v (block_at f H.fields k)) =
      sum-same _ _ _ (λ k less. ap (of_cluster H.fields v) (switched-blocks k)) in
      let tables : sum_below (H.fields.l1_entries + more) (λ k. of_cluster H.fields v (l2_table g (with_l1 H.fields o (H.fields.l1_entries + more)) k)) ≡ sum_below H.fields.l1_entries (λ k. of_cluster H.fields v (l2_table f H.fields k)) =
      sum-longer H.fields.l1_entries more _ (λ i le. rw (none-past' i le) refl) ∙ sum-same _ _ _ (λ k less. ap (of_cluster H.fields v) (switched-tables k)) in
      omega arith

  switched-contents : (of : Mapping → ℕ) → contents g (with_l1 H.fields o (H.fields.l1_entries + more)) of ≡ contents f H.fields of
  unfolding over_slots
  switched-contents of =
      contents-slots g (with_l1 H.fields o (H.fields.l1_entries + more)) of
      ∙ (sum-longer H.fields.l1_entries more _ (λ i le. rw (none-past' i le) refl)
      ∙ (sum-same _ _ _ (λ k less. row k less) ∙ sym (contents-slots f H.fields of)))
    where
      row : (k : ℕ) → k < H.fields.l1_entries → or_none (l2_table g (with_l1 H.fields o (H.fields.l1_entries + more)) k) (sum_below (entries_of_cluster H.fields) (λ j. of (slot g (with_l1 H.fields o (H.fields.l1_entries + more)) k j)))
          ≡ or_none (l2_table f H.fields k) (sum_below (entries_of_cluster H.fields) (λ j. of (slot f H.fields k j)))
      row k less = elim (cases_eq (l2_table f H.fields k) 0) [
        | inl e ↦ rw (switched-tables k, e) refl
        | inr is ↦
            ap (λ p. or_none p (sum_below (entries_of_cluster H.fields) (λ j. of (slot g (with_l1 H.fields o (H.fields.l1_entries + more)) k j)))) (switched-tables k)
            ∙ ap (or_none (l2_table f H.fields k)) (sum-same _ _ _ (λ j few. ap of (switched-slots k j record { in_l1 = less; is_there = is; in_table = few })))
      ]

  -- The references: those of the new table are added, and those of the old one removed.
  pub switched-references : (d : ℕ) → refs g (with_l1 H.fields o (H.fields.l1_entries + more)) d + meets H.fields d H.fields.l1_offset (H.fields.l1_entries * 8) ≡ refs f H.fields d + meets H.fields d o ((H.fields.l1_entries + more) * 8)
  unfolding refs
  switched-references d =
      let base : structure g (with_l1 H.fields o (H.fields.l1_entries + more)) (meets H.fields d) + meets H.fields d H.fields.l1_offset (H.fields.l1_entries * 8) ≡ structure f H.fields (meets H.fields d) + meets H.fields d o ((H.fields.l1_entries + more) * 8) = switched-structure (meets H.fields d) in
      let rest : contents g (with_l1 H.fields o (H.fields.l1_entries + more)) (of_mapping H.fields (meets H.fields d)) ≡ contents f H.fields (of_mapping H.fields (meets H.fields d)) = switched-contents (of_mapping H.fields (meets H.fields d)) in
      omega arith

  -- a range meets a cluster at most once
  meets-most : (d first length : ℕ) → meets H.fields d first length ≤ 1
  meets-most d first length = grind (arith, nat_tests)

  -- all entries stay valid
  switched-sound : ValidEntries g (with_l1 H.fields o (H.fields.l1_entries + more))
  switched-sound =
      let sound : ValidEntries f H.fields = sound-words f H.fields was.readable.tables in
      record {
        l1 = λ i lt. elim (cases_lt i H.fields.l1_entries) [
          | inl less ↦ ap (l1_entry_valid H.fields.cluster_bits) (words-there i lt ∙ old_words i less) ∙ sound.l1 i less
          | inr le ↦ ap (l1_entry_valid H.fields.cluster_bits) (words-there i lt ∙ new_words i le lt) ∙ zero-sound
        ];
        blocks = λ i lt. subst (λ w. IsTrue (reftable_entry_valid H.fields.cluster_bits w)) (sym (kept.blocks i lt (λ e. cc))) (sound.blocks i lt);
        slots = λ i j live.
            let is : l2_table f H.fields i ≢ 0 = λ e. live.is_there (switched-tables i ∙ e) in
            let old : Live (l2_table f H.fields) H.fields i j = record { in_l1 = in-old i is; is_there = is; in_table = live.in_table } in
            ap is_damaged (switched-slots i j old) ∙ sound.slots i j old;
      }
    where
      in-old : (i : ℕ) → l2_table f H.fields i ≢ 0 → i < H.fields.l1_entries
      in-old i is = elim (cases_lt i H.fields.l1_entries) [ inl lt ↦ lt | inr le ↦ absurd (is (none-past i le)) ]

      zero-sound : l1_entry_valid H.fields.cluster_bits 0 ≡ true
      zero-sound = grind (arith, nat_tests)

  pub switched-consistent : IsConsistent g (with_l1_table H o (H.fields.l1_entries + more))
  switched-consistent = consistent-from g (with_l1_table H o (H.fields.l1_entries + more)) loads was.readable.no_snapshots was.readable.data_inside switched-sound alone single covered
    where
      once : (d : ℕ) → (0 < meets H.fields d o ((H.fields.l1_entries + more) * 8)) ⊎ (refs f H.fields d ≤ 1) → refs g (with_l1 H.fields o (H.fields.l1_entries + more)) d ≤ 1
      once d (inl met) =
          let sum : refs g (with_l1 H.fields o (H.fields.l1_entries + more)) d + meets H.fields d H.fields.l1_offset (H.fields.l1_entries * 8) ≡ refs f H.fields d + meets H.fields d o ((H.fields.l1_entries + more) * 8) = switched-references d in
          let none : refs f H.fields d ≡ 0 = (free d met).0 in
          let most : meets H.fields d o ((H.fields.l1_entries + more) * 8) ≤ 1 = meets-most d o ((H.fields.l1_entries + more) * 8) in
          omega arith
      once d (inr le) =
          let sum : refs g (with_l1 H.fields o (H.fields.l1_entries + more)) d + meets H.fields d H.fields.l1_offset (H.fields.l1_entries * 8) ≡ refs f H.fields d + meets H.fields d o ((H.fields.l1_entries + more) * 8) = switched-references d in
          elim (cases_eq (meets H.fields d o ((H.fields.l1_entries + more) * 8)) 0) [
            | inl none ↦ omega arith
            | inr some ↦
                let is : meets H.fields d o ((H.fields.l1_entries + more) * 8) ≢ 0 = some in
                let none : refs f H.fields d ≡ 0 = (free d (omega arith)).0 in
                let most : meets H.fields d o ((H.fields.l1_entries + more) * 8) ≤ 1 = meets-most d o ((H.fields.l1_entries + more) * 8) in
                omega arith
          ]

      alone : (d : ℕ) → 0 < structure g (with_l1 H.fields o (H.fields.l1_entries + more)) (meets H.fields d) → refs g (with_l1 H.fields o (H.fields.l1_entries + more)) d ≤ 1
      alone d some = elim (cases_eq (meets H.fields d o ((H.fields.l1_entries + more) * 8)) 0) [
        | inr met ↦ let is : meets H.fields d o ((H.fields.l1_entries + more) * 8) ≢ 0 = met in once d (inl (omega arith))
        | inl none ↦
            let base : structure g (with_l1 H.fields o (H.fields.l1_entries + more)) (meets H.fields d) + meets H.fields d H.fields.l1_offset (H.fields.l1_entries * 8) ≡ structure f H.fields (meets H.fields d) + meets H.fields d o ((H.fields.l1_entries + more) * 8) = switched-structure (meets H.fields d) in
            let one : refs f H.fields d ≡ 1 = structure-named-once f H was d (omega arith) in
            once d (inr (omega arith))
      ]

      single : (d : ℕ) → 0 < contents g (with_l1 H.fields o (H.fields.l1_entries + more)) (of_copied H.fields (meets H.fields d)) → refs g (with_l1 H.fields o (H.fields.l1_entries + more)) d ≤ 1
      single d some =
          let rest : contents g (with_l1 H.fields o (H.fields.l1_entries + more)) (of_copied H.fields (meets H.fields d)) ≡ contents f H.fields (of_copied H.fields (meets H.fields d)) = switched-contents (of_copied H.fields (meets H.fields d)) in
          let one : refs f H.fields d ≡ 1 = copied-named-once f H was d (omega arith) in
          once d (inr (omega arith))

      covered : (d : ℕ) → refs g (with_l1 H.fields o (H.fields.l1_entries + more)) d ≤ count g (with_l1 H.fields o (H.fields.l1_entries + more)) d
      covered d =
          let sum : refs g (with_l1 H.fields o (H.fields.l1_entries + more)) d + meets H.fields d H.fields.l1_offset (H.fields.l1_entries * 8) ≡ refs f H.fields d + meets H.fields d o ((H.fields.l1_entries + more) * 8) = switched-references d in
          let same : count g (with_l1 H.fields o (H.fields.l1_entries + more)) d ≡ count f H.fields d = switched-counts d in
          let le : refs f H.fields d ≤ count f H.fields d = named-counted f H was d in
          elim (cases_eq (meets H.fields d o ((H.fields.l1_entries + more) * 8)) 0) [
            | inl none ↦ omega arith
            | inr met ↦
                let is : meets H.fields d o ((H.fields.l1_entries + more) * 8) ≢ 0 = met in
                let there = free d (omega arith) in
                let none : refs f H.fields d ≡ 0 = there.0 in
                let some : 1 ≤ count f H.fields d = there.1 in
                let most : meets H.fields d o ((H.fields.l1_entries + more) * 8) ≤ 1 = meets-most d o ((H.fields.l1_entries + more) * 8) in
                omega arith
          ]

  -- The mapping of each guest cluster is the same.
  pub switched-entry : (guest : ℕ) → entry g (with_l1 H.fields o (H.fields.l1_entries + more)) guest ≡ entry f H.fields guest
  switched-entry guest =
      let raw_entries : 0 < entries_of_cluster H.fields = some-words H.fields (consistent-shaped f H was) in
      entry-slot g (with_l1 H.fields o (H.fields.l1_entries + more)) guest switched-consistent.readable.tables
      ∙ (same raw_entries ∙ sym (entry-slot f H.fields guest was.readable.tables))
    where
      same : 0 < entries_of_cluster H.fields → guest_slot g (with_l1 H.fields o (H.fields.l1_entries + more)) guest ≡ guest_slot f H.fields guest
      same raw_entries = elim (cases_eq (l2_table f H.fields (guest / entries_of_cluster H.fields)) 0) [
        | inl z ↦ guest-slot-none g (with_l1 H.fields o (H.fields.l1_entries + more)) guest (switched-tables (guest / entries_of_cluster H.fields) ∙ z) ∙ sym (guest-slot-none f H.fields guest z)
        | inr is ↦
            guest-slot-there g (with_l1 H.fields o (H.fields.l1_entries + more)) guest (λ z. is (sym (switched-tables (guest / entries_of_cluster H.fields)) ∙ z))
            ∙ (switched-slots (guest / entries_of_cluster H.fields) (guest % entries_of_cluster H.fields) (guest-live f H.fields guest raw_entries is) ∙ sym (guest-slot-there f H.fields guest is))
      ]

  pub l1-table-switched : L1Switched f g H o more
  l1-table-switched = record {
    consistent = switched-consistent;
    same_structure_outside = kept;
    raw_entries = words-there;
    tables = switched-tables;
    slots = switched-slots;
    blocks = switched-blocks;
    counts = switched-counts;
    structure = switched-structure;
    contents = switched-contents;
    references = switched-references;
    entries = switched-entry;
    shows = start-values f g H (with_l1 H.fields o (H.fields.l1_entries + more)) was out refl refl switched-entry;
    free = start-free f g H was out;
    mapped = start-mapped f g H was out;
  }
