-- A write of one L2 entry.
use Rattle.std.proofs.Common.{◌≡◌, ◌≢◌, ℕ, ◌+◌, ◌*◌, ◌/◌, ◌%◌, ◌^◌, ◌<◌, ◌≤◌, arith, sym, subst, ◌∙◌, ap, inl, inr}
use Rattle.std.specs.Prelude.{true, ◌⊎◌, IsFalse}
use Rattle.std.specs.Int.{w64, to_be_bytes}
use Rattle.std.proofs.lemmas.Bool.{cases_eq}
use Rattle.std.proofs.Math.Nat.{div-mul-le_self}
use Rattle.qcow2_types.specs.Bytes.{Bytes, raw_entry, splice}
use Rattle.qcow2_types.specs.Words.{Mapping, data_at, unmapped, is_damaged, mapping_of, l1_entry_valid, reftable_entry_valid}
use Rattle.qcow2_types.specs.Header.{Header, cluster_size, entries_of_cluster, layout_of}
use Rattle.qcow2_types.specs.Entries.{l2_table, l2_mapping}
use Rattle.qcow2_types.specs.Counts.{count}
use Rattle.qcow2_types.specs.Slots.{slot, Live, over_slots, guest_slot, ValidEntries}
use Rattle.qcow2_types.specs.Frames.{Outside, touches, SameStructureOutside, Skipped, table}
use Rattle.qcow2_types.specs.Versions.{SamePlaces, ChangesSlot}
use Rattle.qcow2_types.specs.References.{structure, contents, of_mapping, of_copied, meets, refs}
use Rattle.qcow2_types.specs.Consistency.{IsConsistent}
use Rattle.qcow2_types.specs.Steps.{SlotWritten, ClusterMapped}
use Rattle.qcow2_types.proofs.Counting.Consistent.{header-kept, some-words, meets-own, meets-other, consistent-shaped, structure-named-once, structure-unmapped, copied-named-once, named-counted, consistent-from}
use Rattle.qcow2_types.proofs.Changes.DataSteps.{free-stays, data-stays}
use Rattle.qcow2_types.proofs.Counting.Either.{structure-same, tables-same, refs-change, places-refl}
use Rattle.qcow2_types.proofs.Changes.Frames.{l2-part, splice-is-outside}
use Rattle.qcow2_types.proofs.Counting.Parts.{kept-table, touches-once, count-kept, l2_table-kept, block_at-kept, slot-kept, other-word}
use Rattle.qcow2_types.proofs.Showing.Shows.{table-inside, guest-live, guest-slot-there, guest-slot-none, shows-outside}
use Rattle.qcow2_types.proofs.Counting.Slots.{contents-slots, slots-change}
use Rattle.qcow2_types.proofs.Counting.Sound.{sound-words}
use Rattle.qcow2_types.proofs.Showing.Values.{entry-slot}
use Rattle.qcow2_types.proofs.Numbers.Splices.{word-written}
use Rattle.qcow2_types.proofs.Changes.WriteBack.{place-whole, table-place}

-- the cluster of an L2 table: it starts with the table, and the structure has weight in it
module _ (f : Bytes) (H : Header) (was : IsConsistent f H) (i : ℕ) (there : l2_table f H.fields i ≢ 0) where
  pub table-begin : l2_table f H.fields i / cluster_size H.fields * cluster_size H.fields ≡ l2_table f H.fields i
  table-begin = place-whole H.fields.cluster_bits (l2_table f H.fields i) (table-place f H.fields i (sound-words f H.fields was.readable.tables) (table-inside f H.fields i there))

  pub table-weighs : 1 ≤ structure f H.fields (meets H.fields (l2_table f H.fields i / cluster_size H.fields))
  table-weighs =
      let part : meets H.fields (l2_table f H.fields i / cluster_size H.fields) (l2_table f H.fields i) (cluster_size H.fields) ≤ structure f H.fields (meets H.fields (l2_table f H.fields i / cluster_size H.fields)) =
      l2-part f H.fields (meets H.fields (l2_table f H.fields i / cluster_size H.fields)) i (table-inside f H.fields i there) there in
      let own : meets H.fields (l2_table f H.fields i / cluster_size H.fields) (l2_table f H.fields i / cluster_size H.fields * cluster_size H.fields) (cluster_size H.fields) ≡ 1 =
      meets-own H.fields (l2_table f H.fields i / cluster_size H.fields) in
      let here : meets H.fields (l2_table f H.fields i / cluster_size H.fields) (l2_table f H.fields i) (cluster_size H.fields) ≡ 1 =
      ap (λ p. meets H.fields (l2_table f H.fields i / cluster_size H.fields) p (cluster_size H.fields)) (sym table-begin) ∙ own in
      omega arith

-- Files f and g that differ only in entry j of L2 table i.
module _ (f g : Bytes) (H : Header) (was : IsConsistent f H) (i j : ℕ) (live : Live (l2_table f H.fields) H.fields i j) (out : Outside f g (l2_table f H.fields i + 8 * j) 8) (w : ℕ)
    (written : raw_entry g (l2_table f H.fields i) j ≡ w) where
  -- the entry is inside the table
  word-inside : 8 * j + 8 ≤ cluster_size H.fields
  word-inside =
      let lt : j < entries_of_cluster H.fields = live.in_table in
      let whole : entries_of_cluster H.fields * 8 ≤ cluster_size H.fields = div-mul-le_self (cluster_size H.fields) 8 in
      omega arith

  -- the write touches one part of the structure
  slot-once : structure f H.fields (touches (l2_table f H.fields i + 8 * j) 8) ≤ 1
  slot-once =
      let begin : l2_table f H.fields i / cluster_size H.fields * cluster_size H.fields ≡ l2_table f H.fields i = table-begin f H was i live.is_there in
      touches-once f H.fields (l2_table f H.fields i / cluster_size H.fields) (l2_table f H.fields i + 8 * j) 8 (was.structure_apart _) (omega arith) (omega (arith, word-inside))

  -- the rest of the structure is the same
  pub slot-table-kept : SameStructureOutside f g H.fields (table i)
  slot-table-kept = kept-table f g H.fields (l2_table f H.fields i + 8 * j) 8 out (omega arith) slot-once i live.in_l1 live.is_there (omega arith) (omega (arith, word-inside))

  -- all tables and blocks keep their offsets
  pub slot-places : SamePlaces f g H.fields
  slot-places = record { l1 = λ k. l2_table-kept f g H.fields (table i) slot-table-kept k (λ e. cc); blocks = λ k. block_at-kept f g H.fields (table i) slot-table-kept k (λ e. cc) }

  pub slot-here : slot g H.fields i j ≡ mapping_of (layout_of H.fields) w
  slot-here = ap (λ t. l2_mapping g H.fields t j) (slot-places.l1 i) ∙ ap (mapping_of (layout_of H.fields)) written

  other-table : (k m : ℕ) → Live (l2_table f H.fields) H.fields k m → k ≢ i → slot g H.fields k m ≡ slot f H.fields k m
  other-table k m live' apart = slot-kept f g H.fields (table i) slot-table-kept k m live' (λ e. cc) (λ e. apart (sym (ap number e)))
    where
      number : Skipped → ℕ
      number (table r) = r
      number _ = i

  other-row : (m : ℕ) → m ≢ j → slot g H.fields i m ≡ slot f H.fields i m
  other-row m apart = ap (λ t. l2_mapping g H.fields t m) (slot-places.l1 i) ∙ ap (mapping_of (layout_of H.fields)) (other-word f g (l2_table f H.fields i) j m out (λ e. apart (sym e)))

  -- every other entry has the same mapping
  pub slot-others : (k m : ℕ) → Live (l2_table f H.fields) H.fields k m → (k ≢ i) ⊎ (m ≢ j) → slot g H.fields k m ≡ slot f H.fields k m
  slot-others k m live' (inl apart) = other-table k m live' apart
  slot-others k m live' (inr apart) = elim (cases_eq k i) [
    | inl e ↦ subst (λ r. slot g H.fields r m ≡ slot f H.fields r m) (sym e) (other-row m apart)
    | inr other ↦ other-table k m live' other
  ]

  pub slot-counts : (c : ℕ) → count g H.fields c ≡ count f H.fields c
  slot-counts c = count-kept f g H.fields (table i) slot-table-kept c (consistent-shaped f H was) (λ e. cc) (λ e. cc)

  slot-changes : ChangesSlot f f g H.fields i j
  slot-changes = record { live = live; others = slot-others }

  -- references change only by the old entry and the new entry
  pub slot-references : (c : ℕ) → refs g H.fields c + of_mapping H.fields (meets H.fields c) (slot f H.fields i j) ≡ refs f H.fields c + of_mapping H.fields (meets H.fields c) (mapping_of (layout_of H.fields) w)
  slot-references c =
      refs-change f f g H.fields i j c (places-refl f H.fields) slot-places slot-changes
      ∙ ap (λ m. refs f H.fields c + of_mapping H.fields (meets H.fields c) m) slot-here

  -- and so does each sum over the mappings
  pub slot-contents : (of : Mapping → ℕ) → contents g H.fields of + of (slot f H.fields i j) ≡ contents f H.fields of + of (mapping_of (layout_of H.fields) w)
  slot-contents of =
      let before : contents f H.fields of ≡ over_slots (l2_table f H.fields) H.fields (λ k m. of (slot f H.fields k m)) = contents-slots f H.fields of in
      let after : contents g H.fields of ≡ over_slots (l2_table f H.fields) H.fields (λ k m. of (slot g H.fields k m)) = contents-slots g H.fields of ∙ tables-same (l2_table f H.fields) (l2_table g H.fields) H.fields _ slot-places.l1 in
      let all : over_slots (l2_table f H.fields) H.fields (λ k m. of (slot g H.fields k m)) + of (slot f H.fields i j) ≡ over_slots (l2_table f H.fields) H.fields (λ k m. of (slot f H.fields k m)) + of (slot g H.fields i j) =
      slots-change (l2_table f H.fields) H.fields (λ k m. of (slot g H.fields k m)) (λ k m. of (slot f H.fields k m)) i j live (λ k m live' apart. ap of (slot-others k m live' apart)) in
      let new : of (slot g H.fields i j) ≡ of (mapping_of (layout_of H.fields) w) = ap of slot-here in
      omega arith

  -- all entries stay valid
  slot-sound : IsFalse (is_damaged (mapping_of (layout_of H.fields) w)) → ValidEntries g H.fields
  slot-sound sane =
      let sound : ValidEntries f H.fields = sound-words f H.fields was.readable.tables in
      record {
        l1 = λ k lt. ap (l1_entry_valid H.fields.cluster_bits) (slot-table-kept.l1 k lt (λ e. cc)) ∙ sound.l1 k lt;
        blocks = λ k lt. ap (reftable_entry_valid H.fields.cluster_bits) (slot-table-kept.blocks k lt (λ e. cc)) ∙ sound.blocks k lt;
        slots = λ k m live'.
            let old : Live (l2_table f H.fields) H.fields k m = record { in_l1 = live'.in_l1; is_there = (λ e. live'.is_there (slot-places.l1 k ∙ e)); in_table = live'.in_table } in
            elim (cases_eq k i) [
              | inl a ↦ elim (cases_eq m j) [
                | inl b ↦ ap is_damaged (ap (λ r. slot g H.fields r m) a ∙ (ap (λ r. slot g H.fields i r) b ∙ slot-here)) ∙ sane
                | inr apart ↦ ap is_damaged (slot-others k m old (inr apart)) ∙ sound.slots k m old
              ]
              | inr apart ↦ ap is_damaged (slot-others k m old (inl apart)) ∙ sound.slots k m old
            ];
      }

  -- The image stays consistent if, in g, refcounts cover the references, and clusters of the structure and COPIED clusters are referenced
  -- once.
  pub slot-written : IsFalse (is_damaged (mapping_of (layout_of H.fields) w))
      → ((c : ℕ) → refs g H.fields c ≤ count f H.fields c)
      → ((c : ℕ) → 0 < structure f H.fields (meets H.fields c) + contents g H.fields (of_copied H.fields (meets H.fields c)) → refs g H.fields c ≤ 1)
      → SlotWritten f g H i j (mapping_of (layout_of H.fields) w)
  slot-written sane counted apart =
      let begin : l2_table f H.fields i / cluster_size H.fields * cluster_size H.fields ≡ l2_table f H.fields i = table-begin f H was i live.is_there in
      let same : (c : ℕ) → structure g H.fields (meets H.fields c) ≡ structure f H.fields (meets H.fields c) = (λ c. structure-same f g H.fields slot-places (meets H.fields c)) in
      let after : IsConsistent g H = consistent-from g H (header-kept true f g H was.readable.loads (slot-table-kept.start (λ e. cc))) was.readable.no_snapshots was.readable.data_inside (slot-sound sane)
      (λ c some. let e : structure g H.fields (meets H.fields c) ≡ structure f H.fields (meets H.fields c) = same c in apart c (omega arith))
      (λ c some. apart c (omega arith))
      (λ c. let e : count g H.fields c ≡ count f H.fields c = slot-counts c in let le : refs g H.fields c ≤ count f H.fields c = counted c in omega arith) in
      let raw_entries : 0 < entries_of_cluster H.fields = some-words H.fields (consistent-shaped f H was) in
      record {
        consistent = after;
        same_structure_outside = slot-table-kept;
        places = slot-places;
        here = slot-here;
        row = λ m apart. other-word f g (l2_table f H.fields i) j m out (λ e. apart (sym e));
        others = slot-others;
        counts = slot-counts;
        entries = λ guest row column.
            entry-slot g H.fields guest after.readable.tables
            ∙ (guest-slot-there g H.fields guest (λ e. live.is_there (sym (slot-places.l1 i) ∙ (sym (ap (l2_table g H.fields) row) ∙ e)))
            ∙ (ap (λ k. slot g H.fields k (guest % entries_of_cluster H.fields)) row ∙ (ap (slot g H.fields i) column ∙ slot-here)));
        elsewhere = λ guest off.
            shows-outside f g H.fields was.readable.tables after.readable.tables raw_entries guest (guest-same raw_entries guest off) (l2_table f H.fields i / cluster_size H.fields) (l2_table f H.fields i + 8 * j) 8 out (omega arith) (omega (arith, word-inside))
            (structure-unmapped f H was _ (table-weighs f H was i live.is_there));
        free = free-stays f g H (l2_table f H.fields i / cluster_size H.fields) (l2_table f H.fields i + 8 * j) 8 out (omega arith) (omega (arith, word-inside)) (table-weighs f H was i live.is_there);
        mapped = data-stays f g H was (l2_table f H.fields i / cluster_size H.fields) (l2_table f H.fields i + 8 * j) 8 out (omega arith) (omega (arith, word-inside)) (table-weighs f H was i live.is_there);
      }
    where
      guest-same : 0 < entries_of_cluster H.fields → (guest : ℕ) → (guest / entries_of_cluster H.fields ≢ i) ⊎ (guest % entries_of_cluster H.fields ≢ j) → guest_slot g H.fields guest ≡ guest_slot f H.fields guest
      guest-same raw_entries guest off = elim (cases_eq (l2_table f H.fields (guest / entries_of_cluster H.fields)) 0) [
        | inl e ↦ guest-slot-none g H.fields guest (slot-places.l1 (guest / entries_of_cluster H.fields) ∙ e) ∙ sym (guest-slot-none f H.fields guest e)
        | inr there ↦
            guest-slot-there g H.fields guest (λ e. there (sym (slot-places.l1 (guest / entries_of_cluster H.fields)) ∙ e))
            ∙ (slot-others (guest / entries_of_cluster H.fields) (guest % entries_of_cluster H.fields) (guest-live f H.fields guest raw_entries there) off ∙ sym (guest-slot-there f H.fields guest there))
      ]

  -- Like `slot-written`, with the conditions in terms of f and of the old and new mappings.
  pub slot-rewritten : IsFalse (is_damaged (mapping_of (layout_of H.fields) w))
      → ((c : ℕ) → refs f H.fields c + of_mapping H.fields (meets H.fields c) (mapping_of (layout_of H.fields) w) ≤ count f H.fields c + of_mapping H.fields (meets H.fields c) (slot f H.fields i j))
      → ((c : ℕ) → 0 < structure f H.fields (meets H.fields c) + contents f H.fields (of_copied H.fields (meets H.fields c)) + of_copied H.fields (meets H.fields c) (mapping_of (layout_of H.fields) w)
      → refs f H.fields c + of_mapping H.fields (meets H.fields c) (mapping_of (layout_of H.fields) w) ≤ 1 + of_mapping H.fields (meets H.fields c) (slot f H.fields i j))
      → SlotWritten f g H i j (mapping_of (layout_of H.fields) w)
  slot-rewritten sane counted apart = slot-written sane
      (λ c.
      let sum : refs g H.fields c + of_mapping H.fields (meets H.fields c) (slot f H.fields i j) ≡ refs f H.fields c + of_mapping H.fields (meets H.fields c) (mapping_of (layout_of H.fields) w) = slot-references c in
      let le : refs f H.fields c + of_mapping H.fields (meets H.fields c) (mapping_of (layout_of H.fields) w) ≤ count f H.fields c + of_mapping H.fields (meets H.fields c) (slot f H.fields i j) = counted c in
      omega arith)
      (λ c some.
      let sum : refs g H.fields c + of_mapping H.fields (meets H.fields c) (slot f H.fields i j) ≡ refs f H.fields c + of_mapping H.fields (meets H.fields c) (mapping_of (layout_of H.fields) w) = slot-references c in
      let copies : contents g H.fields (of_copied H.fields (meets H.fields c)) + of_copied H.fields (meets H.fields c) (slot f H.fields i j) ≡ contents f H.fields (of_copied H.fields (meets H.fields c)) + of_copied H.fields (meets H.fields c) (mapping_of (layout_of H.fields) w) =
      slot-contents (of_copied H.fields (meets H.fields c)) in
      let le : refs f H.fields c + of_mapping H.fields (meets H.fields c) (mapping_of (layout_of H.fields) w) ≤ 1 + of_mapping H.fields (meets H.fields c) (slot f H.fields i j) = apart c (omega arith) in
      omega arith)

-- An unmapped entry is set to data in an allocated cluster c that nothing references, with the COPIED flag.
module _ (f g : Bytes) (H : Header) (was : IsConsistent f H) (i j : ℕ) (live : Live (l2_table f H.fields) H.fields i j) (out : Outside f g (l2_table f H.fields i + 8 * j) 8) (w : ℕ)
    (written : raw_entry g (l2_table f H.fields i) j ≡ w) (c : ℕ) (means : mapping_of (layout_of H.fields) w ≡ data_at c true) (old : slot f H.fields i j ≡ unmapped)
    (not_referenced : refs f H.fields c ≡ 0) (counted : 1 ≤ count f H.fields c) where
  -- the references grow by those of the new entry
  mapped-sum : (d : ℕ) → refs g H.fields d ≡ refs f H.fields d + meets H.fields d (c * cluster_size H.fields) (cluster_size H.fields)
  mapped-sum d =
      let sum : refs g H.fields d + of_mapping H.fields (meets H.fields d) (slot f H.fields i j) ≡ refs f H.fields d + of_mapping H.fields (meets H.fields d) (mapping_of (layout_of H.fields) w) = slot-references f g H was i j live out w written d in
      let none : of_mapping H.fields (meets H.fields d) (slot f H.fields i j) ≡ 0 = ap (of_mapping H.fields (meets H.fields d)) old in
      let new : of_mapping H.fields (meets H.fields d) (mapping_of (layout_of H.fields) w) ≡ meets H.fields d (c * cluster_size H.fields) (cluster_size H.fields) = ap (of_mapping H.fields (meets H.fields d)) means in
      omega arith

  -- and so do the COPIED references
  mapped-copied : (d : ℕ) → contents g H.fields (of_copied H.fields (meets H.fields d)) ≡ contents f H.fields (of_copied H.fields (meets H.fields d)) + meets H.fields d (c * cluster_size H.fields) (cluster_size H.fields)
  mapped-copied d =
      let sum : contents g H.fields (of_copied H.fields (meets H.fields d)) + of_copied H.fields (meets H.fields d) (slot f H.fields i j) ≡ contents f H.fields (of_copied H.fields (meets H.fields d)) + of_copied H.fields (meets H.fields d) (mapping_of (layout_of H.fields) w) =
      slot-contents f g H was i j live out w written (of_copied H.fields (meets H.fields d)) in
      let none : of_copied H.fields (meets H.fields d) (slot f H.fields i j) ≡ 0 = ap (of_copied H.fields (meets H.fields d)) old in
      let new : of_copied H.fields (meets H.fields d) (mapping_of (layout_of H.fields) w) ≡ meets H.fields d (c * cluster_size H.fields) (cluster_size H.fields) = ap (of_copied H.fields (meets H.fields d)) means in
      omega arith

  -- the cluster is referenced once
  pub mapped-once : refs g H.fields c ≡ 1
  mapped-once = let sum : refs g H.fields c ≡ refs f H.fields c + meets H.fields c (c * cluster_size H.fields) (cluster_size H.fields) = mapped-sum c in let own : meets H.fields c (c * cluster_size H.fields) (cluster_size H.fields) ≡ 1 = meets-own H.fields c in omega arith

  -- the references of every other cluster are the same
  pub mapped-references : (d : ℕ) → d ≢ c → refs g H.fields d ≡ refs f H.fields d
  mapped-references d apart =
      let sum : refs g H.fields d ≡ refs f H.fields d + meets H.fields d (c * cluster_size H.fields) (cluster_size H.fields) = mapped-sum d in
      let none : meets H.fields d (c * cluster_size H.fields) (cluster_size H.fields) ≡ 0 = meets-other H.fields d c (λ e. apart (sym e)) in
      omega arith

  mapped-slot : SlotWritten f g H i j (data_at c true)
  mapped-slot = subst (SlotWritten f g H i j) means (slot-written f g H was i j live out w written (ap is_damaged means) covered once)
    where
      covered : (d : ℕ) → refs g H.fields d ≤ count f H.fields d
      covered d = elim (cases_eq d c) [
        | inl e ↦ subst (λ x. refs g H.fields x ≤ count f H.fields x) (sym e) (omega (arith, mapped-once))
        | inr apart ↦ let same : refs g H.fields d ≡ refs f H.fields d = mapped-references d apart in let le : refs f H.fields d ≤ count f H.fields d = named-counted f H was d in omega arith
      ]

      once : (d : ℕ) → 0 < structure f H.fields (meets H.fields d) + contents g H.fields (of_copied H.fields (meets H.fields d)) → refs g H.fields d ≤ 1
      once d some = elim (cases_eq d c) [
        | inl e ↦ subst (λ x. refs g H.fields x ≤ 1) (sym e) (omega (arith, mapped-once))
        | inr apart ↦
            let same : refs g H.fields d ≡ refs f H.fields d = mapped-references d apart in
            let copies : contents g H.fields (of_copied H.fields (meets H.fields d)) ≡ contents f H.fields (of_copied H.fields (meets H.fields d)) + meets H.fields d (c * cluster_size H.fields) (cluster_size H.fields) = mapped-copied d in
            let none : meets H.fields d (c * cluster_size H.fields) (cluster_size H.fields) ≡ 0 = meets-other H.fields d c (λ e. apart (sym e)) in
            elim (cases_eq (structure f H.fields (meets H.fields d)) 0) [
              | inl z ↦ let single : refs f H.fields d ≡ 1 = copied-named-once f H was d (omega arith) in omega arith
              | inr there ↦ let there' : structure f H.fields (meets H.fields d) ≢ 0 = there in let single : refs f H.fields d ≡ 1 = structure-named-once f H was d (omega arith) in omega arith
            ]
      ]

  -- The image stays consistent, and only the entry references the cluster.
  pub cluster-mapped : ClusterMapped f g H i j c
  cluster-mapped = record { slot = mapped-slot; named_once = mapped-once; references = mapped-references }

-- The written bytes are those of the raw entry.
pub cluster-mapped-spliced : (f : Bytes) (H : Header) → IsConsistent f H → (i j : ℕ) → Live (l2_table f H.fields) H.fields i j → (w : ℕ) → w < 2 ^ 64 → (c : ℕ) → mapping_of (layout_of H.fields) w ≡ data_at c true
    → slot f H.fields i j ≡ unmapped → refs f H.fields c ≡ 0 → 1 ≤ count f H.fields c → ClusterMapped f (splice f (l2_table f H.fields i + 8 * j) (to_be_bytes w64 w)) H i j c
cluster-mapped-spliced f H was i j live w fits c means old not_referenced counted =
    cluster-mapped f (splice f (l2_table f H.fields i + 8 * j) (to_be_bytes w64 w)) H was i j live (splice-is-outside f (l2_table f H.fields i + 8 * j) (to_be_bytes w64 w)) w
    (word-written f (l2_table f H.fields i) j w fits) c means old not_referenced counted

-- Like the modules above, for the bytes of any valid raw entry.
module _ (f : Bytes) (H : Header) (was : IsConsistent f H) (i j : ℕ) (live : Live (l2_table f H.fields) H.fields i j) (w : ℕ) (fits : w < 2 ^ 64) where
  abbrev spliced : Bytes
  spliced = splice f (l2_table f H.fields i + 8 * j) (to_be_bytes w64 w)

  -- The image stays consistent with the new entry.
  pub slot-rewritten-spliced : IsFalse (is_damaged (mapping_of (layout_of H.fields) w))
      → ((c : ℕ) → refs f H.fields c + of_mapping H.fields (meets H.fields c) (mapping_of (layout_of H.fields) w) ≤ count f H.fields c + of_mapping H.fields (meets H.fields c) (slot f H.fields i j))
      → ((c : ℕ) → 0 < structure f H.fields (meets H.fields c) + contents f H.fields (of_copied H.fields (meets H.fields c)) + of_copied H.fields (meets H.fields c) (mapping_of (layout_of H.fields) w)
      → refs f H.fields c + of_mapping H.fields (meets H.fields c) (mapping_of (layout_of H.fields) w) ≤ 1 + of_mapping H.fields (meets H.fields c) (slot f H.fields i j))
      → SlotWritten f (splice f (l2_table f H.fields i + 8 * j) (to_be_bytes w64 w)) H i j (mapping_of (layout_of H.fields) w)
  slot-rewritten-spliced = slot-rewritten f spliced H was i j live (splice-is-outside f (l2_table f H.fields i + 8 * j) (to_be_bytes w64 w)) w (word-written f (l2_table f H.fields i) j w fits)

  -- references change only by the old entry and the new entry
  pub slot-references-spliced : (c : ℕ) → refs (splice f (l2_table f H.fields i + 8 * j) (to_be_bytes w64 w)) H.fields c + of_mapping H.fields (meets H.fields c) (slot f H.fields i j) ≡ refs f H.fields c + of_mapping H.fields (meets H.fields c) (mapping_of (layout_of H.fields) w)
  slot-references-spliced = slot-references f spliced H was i j live (splice-is-outside f (l2_table f H.fields i + 8 * j) (to_be_bytes w64 w)) w (word-written f (l2_table f H.fields i) j w fits)
