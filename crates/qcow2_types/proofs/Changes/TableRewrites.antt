-- A write to an L2 table, as a whole or in part.
use Rattle.std.proofs.Common.{◌≡◌, ◌≢◌, ℕ, ◌+◌, ◌*◌, ◌/◌, ◌%◌, ◌<◌, ◌≤◌, arith, sym, ◌∙◌, ap, refl, inl, inr, Ok}
use Rattle.std.specs.Prelude.{true, ◌⊎◌, IsFalse}
use Rattle.std.proofs.lemmas.Bool.{cases_eq, cases_lt}
use Rattle.std.proofs.lemmas.Bool.Decides.{nat_tests}
use Rattle.qcow2_types.specs.Bytes.{Bytes, raw_entry}
use Rattle.qcow2_types.specs.Words.{Mapping, is_damaged, mapping_of, l1_entry_valid, reftable_entry_valid}
use Rattle.qcow2_types.specs.Header.{Header, header_of, cluster_size, entries_of_cluster, layout_of}
use Rattle.qcow2_types.specs.Entries.{l2_table, l2_mapping}
use Rattle.qcow2_types.specs.Counts.{count}
use Rattle.qcow2_types.specs.Slots.{slot, Live, or_none, over_slots, guest_slot, ValidEntries}
use Rattle.qcow2_types.specs.Frames.{Outside, touches, SameStructureOutside, Skipped, table}
use Rattle.qcow2_types.specs.Versions.{SamePlaces}
use Rattle.qcow2_types.specs.References.{structure, contents, of_mapping, of_copied, meets, refs}
use Rattle.qcow2_types.specs.Consistency.{IsConsistent}
use Rattle.qcow2_types.specs.Steps.{TableWritten, TableRewritten, table_sum}
use Rattle.qcow2_types.proofs.Counting.Consistent.{header-kept, some-words, consistent-shaped, structure-unmapped, consistent-from}
use Rattle.qcow2_types.proofs.Changes.DataSteps.{free-stays, data-stays}
use Rattle.qcow2_types.proofs.Counting.Either.{structure-same, tables-same}
use Rattle.qcow2_types.proofs.Counting.Parts.{kept-table, touches-once, count-kept, l2_table-kept, block_at-kept, slot-kept}
use Rattle.qcow2_types.proofs.Showing.Shows.{table-inside, guest-live, guest-slot-there, guest-slot-none, shows-outside, values-kept}
use Rattle.qcow2_types.proofs.Counting.Slots.{contents-slots}
use Rattle.qcow2_types.proofs.Changes.SlotSteps.{table-begin, table-weighs}
use Rattle.qcow2_types.proofs.Counting.Sound.{sound-words}
use Rattle.qcow2_types.proofs.Numbers.Sums.{sum-same, sum-change}
use Rattle.qcow2_types.proofs.Switching.Switches.{cluster-long}
use Rattle.qcow2_types.proofs.Showing.Values.{entry-slot}

-- the summand of a table that exists
there-sum : (t x : ℕ) → t ≢ 0 → or_none t x ≡ x
there-sum t x is = grind (arith, nat_tests)

-- Files f and g that differ only in bytes of L2 table i.
module _ (f g : Bytes) (H : Header) (was : IsConsistent f H) (i : ℕ) (there : l2_table f H.fields i ≢ 0) (at n : ℕ) (out : Outside f g at n)
    (low : l2_table f H.fields i ≤ at) (high : at + n ≤ l2_table f H.fields i + cluster_size H.fields) where
  -- the write is inside the table's cluster
  begins : l2_table f H.fields i / cluster_size H.fields * cluster_size H.fields ≤ at
  begins = let begin : l2_table f H.fields i / cluster_size H.fields * cluster_size H.fields ≡ l2_table f H.fields i = table-begin f H was i there in omega (arith, begin, low)

  ends : at + n ≤ (l2_table f H.fields i / cluster_size H.fields + 1) * cluster_size H.fields
  ends = let begin : l2_table f H.fields i / cluster_size H.fields * cluster_size H.fields ≡ l2_table f H.fields i = table-begin f H was i there in omega (arith, begin, high)

  -- so it touches at most one part of the structure
  once : structure f H.fields (touches at n) ≤ 1
  once = touches-once f H.fields (l2_table f H.fields i / cluster_size H.fields) at n (was.structure_apart _) begins ends

  -- the rest of the structure is the same
  kept : SameStructureOutside f g H.fields (table i)
  kept = elim (cases_eq n 0) [
    | inr is ↦ let some : n ≢ 0 = is in kept-table f g H.fields at n out (omega arith) once i (table-inside f H.fields i there) there low high
    | inl none ↦
        -- a write of nothing changes nothing, so it doesn't change the bytes outside the table's first byte
        let e : n ≡ 0 = none in
        let size : 512 ≤ cluster_size H.fields = cluster-long f H was in
        let begin : l2_table f H.fields i / cluster_size H.fields * cluster_size H.fields ≡ l2_table f H.fields i = table-begin f H was i there in
        kept-table f g H.fields (l2_table f H.fields i) 1 (λ p off. elim (cases_lt p at) [ inl lt ↦ out p (inl lt) | inr le ↦ out p (inr (omega arith)) ]) (omega arith)
        (touches-once f H.fields (l2_table f H.fields i / cluster_size H.fields) (l2_table f H.fields i) 1 (was.structure_apart _) (omega arith) (omega arith)) i (table-inside f H.fields i there) there (omega arith) (omega arith)
  ]

  -- all tables and blocks keep their offsets
  places : SamePlaces f g H.fields
  places = record { l1 = λ k. l2_table-kept f g H.fields (table i) kept k (λ e. cc); blocks = λ k. block_at-kept f g H.fields (table i) kept k (λ e. cc) }

  -- the entries of other tables have the same mappings
  others : (k m : ℕ) → Live (l2_table f H.fields) H.fields k m → k ≢ i → slot g H.fields k m ≡ slot f H.fields k m
  others k m live apart = slot-kept f g H.fields (table i) kept k m live (λ e. cc) (λ e. apart (sym (ap number e)))
    where
      number : Skipped → ℕ
      number (table r) = r
      number _ = i

  counts : (c : ℕ) → count g H.fields c ≡ count f H.fields c
  counts c = count-kept f g H.fields (table i) kept c (consistent-shaped f H was) (λ e. cc) (λ e. cc)

  -- a sum over all mappings changes only by the mappings of the table
  sums : (of : Mapping → ℕ) → contents g H.fields of + table_sum f H.fields of i ≡ contents f H.fields of + table_sum g H.fields of i
  unfolding over_slots
  sums of =
      let before : contents f H.fields of ≡ over_slots (l2_table f H.fields) H.fields (λ k m. of (slot f H.fields k m)) = contents-slots f H.fields of in
      let after : contents g H.fields of ≡ over_slots (l2_table f H.fields) H.fields (λ k m. of (slot g H.fields k m)) = contents-slots g H.fields of ∙ tables-same (l2_table f H.fields) (l2_table g H.fields) H.fields _ places.l1 in
      let all : over_slots (l2_table f H.fields) H.fields (λ k m. of (slot g H.fields k m)) + old_row i ≡ over_slots (l2_table f H.fields) H.fields (λ k m. of (slot f H.fields k m)) + new_row i =
      sum-change H.fields.l1_entries i new_row old_row (table-inside f H.fields i there) (λ k lt apart. same k lt apart (cases_eq (l2_table f H.fields k) 0)) in
      let one : old_row i ≡ table_sum f H.fields of i = there-sum (l2_table f H.fields i) (table_sum f H.fields of i) there in
      let two : new_row i ≡ table_sum g H.fields of i = there-sum (l2_table f H.fields i) (table_sum g H.fields of i) there in
      omega arith
    where
      old_row : ℕ → ℕ
      old_row k = or_none (l2_table f H.fields k) (table_sum f H.fields of k)

      new_row : ℕ → ℕ
      new_row k = or_none (l2_table f H.fields k) (table_sum g H.fields of k)

      same : (k : ℕ) → k < H.fields.l1_entries → k ≢ i → (l2_table f H.fields k ≡ 0) ⊎ (l2_table f H.fields k ≢ 0) → new_row k ≡ old_row k
      same k lt apart (inl none) = rw none refl
      same k lt apart (inr is) = ap (or_none (l2_table f H.fields k)) (sum-same _ _ _ (λ m less. ap of (others k m record { in_l1 = lt; is_there = is; in_table = less } apart)))

  -- references change only by the entries of the table
  references : (c : ℕ) → refs g H.fields c + table_sum f H.fields (of_mapping H.fields (meets H.fields c)) i ≡ refs f H.fields c + table_sum g H.fields (of_mapping H.fields (meets H.fields c)) i
  unfolding refs
  references c =
      let base : structure g H.fields (meets H.fields c) ≡ structure f H.fields (meets H.fields c) = structure-same f g H.fields places (meets H.fields c) in
      let rest : contents g H.fields (of_mapping H.fields (meets H.fields c)) + table_sum f H.fields (of_mapping H.fields (meets H.fields c)) i ≡ contents f H.fields (of_mapping H.fields (meets H.fields c)) + table_sum g H.fields (of_mapping H.fields (meets H.fields c)) i =
      sums (of_mapping H.fields (meets H.fields c)) in
      omega arith

  loads : header_of true g ≡ Ok H
  loads = header-kept true f g H was.readable.loads (kept.start (λ e. cc))

  -- The state after the write.
  pub table-written : TableWritten f g H i
  table-written = record {
    header = loads;
    same_structure_outside = kept;
    places = places;
    others = others;
    counts = counts;
    structure = structure-same f g H.fields places;
    contents = sums;
    references = references;
    free = free-stays f g H (l2_table f H.fields i / cluster_size H.fields) at n out begins ends (table-weighs f H was i there);
    mapped = data-stays f g H was (l2_table f H.fields i / cluster_size H.fields) at n out begins ends (table-weighs f H was i there);
  }

  -- all entries stay valid if those of the table are
  sound : ((j : ℕ) → j < entries_of_cluster H.fields → IsFalse (is_damaged (mapping_of (layout_of H.fields) (raw_entry g (l2_table f H.fields i) j)))) → ValidEntries g H.fields
  sound sane =
      let old : ValidEntries f H.fields = sound-words f H.fields was.readable.tables in
      record {
        l1 = λ k lt. ap (l1_entry_valid H.fields.cluster_bits) (kept.l1 k lt (λ e. cc)) ∙ old.l1 k lt;
        blocks = λ k lt. ap (reftable_entry_valid H.fields.cluster_bits) (kept.blocks k lt (λ e. cc)) ∙ old.blocks k lt;
        slots = λ k m live. elim (cases_eq k i) [
          | inl e ↦ ap is_damaged (ap (λ r. slot g H.fields r m) e ∙ ap (λ t. l2_mapping g H.fields t m) (places.l1 i)) ∙ sane m live.in_table
          | inr apart ↦
              let live' : Live (l2_table f H.fields) H.fields k m = record { in_l1 = live.in_l1; is_there = (λ e. live.is_there (places.l1 k ∙ e)); in_table = live.in_table } in
              ap is_damaged (others k m live' apart) ∙ old.slots k m live'
        ];
      }

  -- The image stays consistent if the new entries are valid, refcounts cover the references, and clusters of the structure and COPIED
  -- clusters are referenced once.
  pub table-rewritten : ((j : ℕ) → j < entries_of_cluster H.fields → IsFalse (is_damaged (mapping_of (layout_of H.fields) (raw_entry g (l2_table f H.fields i) j))))
      → ((c : ℕ) → refs g H.fields c ≤ count f H.fields c)
      → ((c : ℕ) → 0 < structure f H.fields (meets H.fields c) + contents g H.fields (of_copied H.fields (meets H.fields c)) → refs g H.fields c ≤ 1)
      → TableRewritten f g H i
  table-rewritten sane counted apart =
      let same : (c : ℕ) → structure g H.fields (meets H.fields c) ≡ structure f H.fields (meets H.fields c) = (λ c. structure-same f g H.fields places (meets H.fields c)) in
      let after : IsConsistent g H = consistent-from g H loads was.readable.no_snapshots was.readable.data_inside (sound sane)
      (λ c more. let e : structure g H.fields (meets H.fields c) ≡ structure f H.fields (meets H.fields c) = same c in apart c (omega arith))
      (λ c more. apart c (omega arith))
      (λ c. let e : count g H.fields c ≡ count f H.fields c = counts c in let le : refs g H.fields c ≤ count f H.fields c = counted c in omega arith) in
      let raw_entries : 0 < entries_of_cluster H.fields = some-words H.fields (consistent-shaped f H was) in
      record {
        written = table-written;
        consistent = after;
        entries = λ guest row.
            entry-slot g H.fields guest after.readable.tables
            ∙ (guest-slot-there g H.fields guest (λ e. there (sym (places.l1 i) ∙ (sym (ap (l2_table g H.fields) row) ∙ e))) ∙ ap (λ k. slot g H.fields k (guest % entries_of_cluster H.fields)) row);
        values = values-kept f g H.fields was.readable.tables raw_entries (l2_table f H.fields i / cluster_size H.fields) at n out begins ends (structure-unmapped f H was _ (table-weighs f H was i there));
        elsewhere = λ guest off.
            shows-outside f g H.fields was.readable.tables after.readable.tables raw_entries guest (guest-same raw_entries guest off) (l2_table f H.fields i / cluster_size H.fields) at n out begins ends
            (structure-unmapped f H was _ (table-weighs f H was i there));
      }
    where
      guest-same : 0 < entries_of_cluster H.fields → (guest : ℕ) → (guest / entries_of_cluster H.fields ≢ i) ⊎ (slot g H.fields i (guest % entries_of_cluster H.fields) ≡ slot f H.fields i (guest % entries_of_cluster H.fields))
          → guest_slot g H.fields guest ≡ guest_slot f H.fields guest
      guest-same raw_entries guest off = elim (cases_eq (l2_table f H.fields (guest / entries_of_cluster H.fields)) 0) [
        | inl e ↦ guest-slot-none g H.fields guest (places.l1 (guest / entries_of_cluster H.fields) ∙ e) ∙ sym (guest-slot-none f H.fields guest e)
        | inr is ↦
            guest-slot-there g H.fields guest (λ e. is (sym (places.l1 (guest / entries_of_cluster H.fields)) ∙ e))
            ∙ (slot-same (guest-live f H.fields guest raw_entries is) off (cases_eq (guest / entries_of_cluster H.fields) i) ∙ sym (guest-slot-there f H.fields guest is))
      ]
        where
          slot-same : Live (l2_table f H.fields) H.fields (guest / entries_of_cluster H.fields) (guest % entries_of_cluster H.fields)
              → (guest / entries_of_cluster H.fields ≢ i) ⊎ (slot g H.fields i (guest % entries_of_cluster H.fields) ≡ slot f H.fields i (guest % entries_of_cluster H.fields))
              → (guest / entries_of_cluster H.fields ≡ i) ⊎ (guest / entries_of_cluster H.fields ≢ i)
              → slot g H.fields (guest / entries_of_cluster H.fields) (guest % entries_of_cluster H.fields) ≡ slot f H.fields (guest / entries_of_cluster H.fields) (guest % entries_of_cluster H.fields)
          slot-same live (inl apart) case = others (guest / entries_of_cluster H.fields) (guest % entries_of_cluster H.fields) live apart
          slot-same live (inr same) (inr apart) = others (guest / entries_of_cluster H.fields) (guest % entries_of_cluster H.fields) live apart
          slot-same live (inr same) (inl at) = ap (λ k. slot g H.fields k (guest % entries_of_cluster H.fields)) at ∙ (same ∙ sym (ap (λ k. slot f H.fields k (guest % entries_of_cluster H.fields)) at))
