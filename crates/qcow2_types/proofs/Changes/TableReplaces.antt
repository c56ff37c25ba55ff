-- An L1 entry is set to reference another L2 table.
use Rattle.std.proofs.Common.{◌≡◌, ◌≢◌, ℕ, ◌+◌, ◌*◌, ◌/◌, ◌%◌, ◌^◌, ◌<◌, ◌≤◌, refl, arith, sym, subst, ◌∙◌, ap, inl, inr, Ok}
use Rattle.std.specs.Prelude.{true, cond, ◌==◌, ◌⊎◌, nat_lt, IsTrue, IsFalse}
use Rattle.std.specs.Int.{w64, to_be_bytes}
use Rattle.std.proofs.lemmas.Bool.{cases_eq, lt-ltb}
use Rattle.std.proofs.lemmas.Bool.Decides.{nat_tests}
use Rattle.std.proofs.lemmas.Nat.{mod_below}
use Rattle.std.proofs.Math.Nat.{div-mul-le_self, pow-le-pow_right}
use Rattle.qcow2_types.specs.Bytes.{Bytes, raw_entry, splice, sum_below}
use Rattle.qcow2_types.specs.Words.{Mapping, is_damaged, mapping_of, l1_entry_valid, reftable_entry_valid, is_cluster_offset, table_offset}
use Rattle.qcow2_types.specs.Header.{Header, Shaped, header_of, cluster_size, entries_of_cluster, refcount_table_entries, layout_of}
use Rattle.qcow2_types.specs.Entries.{entry, l2_table, l2_mapping}
use Rattle.qcow2_types.specs.Counts.{block_at, count}
use Rattle.qcow2_types.specs.Slots.{slot, Live, over_slots, or_none, guest_slot, ValidEntries}
use Rattle.qcow2_types.specs.Frames.{Outside, Same, SameStructureOutside, Skipped, l1_word}
use Rattle.qcow2_types.specs.References.{Weight, structure, of_cluster, of_table, of_table_or_none, contents, of_mapping, of_copied, meets, refs}
use Rattle.qcow2_types.specs.Consistency.{IsConsistent}
use Rattle.qcow2_types.specs.Steps.{TableReplaced, TableSwapped}
use Rattle.qcow2_types.proofs.Counting.Consistent.{header-kept, some-words, consistent-shaped, structure-unmapped, consistent-from}
use Rattle.qcow2_types.proofs.Counting.Counters.{whole}
use Rattle.qcow2_types.proofs.Changes.DataSteps.{free-stays, data-stays}
use Rattle.qcow2_types.proofs.Changes.Frames.{l1-part, word-same, splice-is-outside}
use Rattle.qcow2_types.proofs.Fields.HeaderLimits.{header-limited}
use Rattle.qcow2_types.proofs.Counting.Parts.{kept-l1, touches-once, count-kept, l2_table-kept, block_at-kept, slot-kept, words-fit}
use Rattle.qcow2_types.proofs.Showing.Shows.{guest-live, guest-slot-there, guest-slot-none, shows-outside, values-kept}
use Rattle.qcow2_types.proofs.Counting.Slots.{contents-slots}
use Rattle.qcow2_types.proofs.Counting.Sound.{sound-words}
use Rattle.qcow2_types.proofs.Numbers.Splices.{word-written}
use Rattle.qcow2_types.proofs.Numbers.Sums.{sum-same, sum-change}
use Rattle.qcow2_types.proofs.Counting.TableSizes.{word-in-cluster}
use Rattle.qcow2_types.proofs.Showing.Values.{entry-slot}

-- the index of an L1 entry that is skipped, otherwise i
abbrev l1_number : ℕ → Skipped → ℕ
l1_number i (l1_word r) = r
l1_number i _ = i

-- Files f and g that differ only in L1 entry i. In g it references the table at t, whose cluster nothing referenced.
module _ (f g : Bytes) (H : Header) (was : IsConsistent f H) (i : ℕ) (lt : i < H.fields.l1_entries) (out : Outside f g (H.fields.l1_offset + 8 * i) 8) (w : ℕ)
    (written : raw_entry g H.fields.l1_offset i ≡ w) (sane : IsTrue (l1_entry_valid H.fields.cluster_bits w)) (c t : ℕ) (names : table_offset w ≡ t) (there : t ≢ 0) (begins : t ≡ c * cluster_size H.fields)
    (not_referenced : refs f H.fields c ≡ 0) where
  -- the cluster of the entry starts at or before the entry, and ends at or after its end
  pub low : (H.fields.l1_offset + 8 * i) / cluster_size H.fields * cluster_size H.fields ≤ H.fields.l1_offset + 8 * i
  low = div-mul-le_self (H.fields.l1_offset + 8 * i) (cluster_size H.fields)

  pub high : H.fields.l1_offset + 8 * i + 8 ≤ ((H.fields.l1_offset + 8 * i) / cluster_size H.fields + 1) * cluster_size H.fields
  high =
      let shaped : Shaped H.fields = consistent-shaped f H was in
      let size : 2 ^ 9 ≤ 2 ^ H.fields.cluster_bits = pow-le-pow_right (omega arith) shaped.low in
      let begin : is_cluster_offset H.fields.cluster_bits H.fields.l1_offset ≡ true = (header-limited true f H was.readable.loads).l1_place in
      let multiple : H.fields.l1_offset % 2 ^ H.fields.cluster_bits ≡ 0 = grind (arith, nat_tests) in
      word-in-cluster H.fields.l1_offset (cluster_size H.fields) (entries_of_cluster H.fields) i (omega arith) (whole H.fields.cluster_bits (omega arith)) multiple

  -- the structure has weight in that cluster
  pub l1-weighs : 1 ≤ structure f H.fields (meets H.fields ((H.fields.l1_offset + 8 * i) / cluster_size H.fields))
  l1-weighs =
      let part : meets H.fields ((H.fields.l1_offset + 8 * i) / cluster_size H.fields) H.fields.l1_offset (H.fields.l1_entries * 8) ≤ structure f H.fields (meets H.fields ((H.fields.l1_offset + 8 * i) / cluster_size H.fields)) =
      l1-part f H.fields (meets H.fields ((H.fields.l1_offset + 8 * i) / cluster_size H.fields)) in
      let begin : (H.fields.l1_offset + 8 * i) / cluster_size H.fields * cluster_size H.fields ≤ H.fields.l1_offset + 8 * i = low in
      let end : H.fields.l1_offset + 8 * i + 8 ≤ ((H.fields.l1_offset + 8 * i) / cluster_size H.fields + 1) * cluster_size H.fields = high in
      let some : 0 < H.fields.l1_entries * 8 = omega arith in
      let front : H.fields.l1_offset < ((H.fields.l1_offset + 8 * i) / cluster_size H.fields + 1) * cluster_size H.fields = omega arith in
      let back : (H.fields.l1_offset + 8 * i) / cluster_size H.fields * cluster_size H.fields < H.fields.l1_offset + H.fields.l1_entries * 8 = omega arith in
      let here : meets H.fields ((H.fields.l1_offset + 8 * i) / cluster_size H.fields) H.fields.l1_offset (H.fields.l1_entries * 8) ≡ 1 = rw (lt-ltb _ _ some, lt-ltb _ _ front, lt-ltb _ _ back) refl in
      omega arith

  -- the rest of the structure is the same
  kept : SameStructureOutside f g H.fields (l1_word i)
  kept = kept-l1 f g H.fields i out (touches-once f H.fields _ (H.fields.l1_offset + 8 * i) 8 (was.structure_apart _) low high) lt

  here : l2_table g H.fields i ≡ t
  here = let within : nat_lt i H.fields.l1_entries ≡ true = lt-ltb _ _ lt in rw within (ap table_offset written ∙ names)

  -- every other entry references the same table
  tables : (k : ℕ) → k ≢ i → l2_table g H.fields k ≡ l2_table f H.fields k
  tables k apart = l2_table-kept f g H.fields (l1_word i) kept k (λ e. apart (sym (ap (l1_number i) e)))

  blocks : (b : ℕ) → block_at g H.fields b ≡ block_at f H.fields b
  blocks b = block_at-kept f g H.fields (l1_word i) kept b (λ e. cc)

  counts : (d : ℕ) → count g H.fields d ≡ count f H.fields d
  counts d = count-kept f g H.fields (l1_word i) kept d (consistent-shaped f H was) (λ e. cc) (λ e. cc)

  -- clusters that nothing references keep their bytes
  free : (d : ℕ) → refs f H.fields d ≡ 0 → Same f g (d * cluster_size H.fields) (cluster_size H.fields)
  free = free-stays f g H _ (H.fields.l1_offset + 8 * i) 8 out low high l1-weighs

  -- so does the new table
  new-words : (j : ℕ) → j < entries_of_cluster H.fields → raw_entry g t j ≡ raw_entry f t j
  new-words j less = word-same f g t (cluster_size H.fields) j (subst (λ p. Same f g p (cluster_size H.fields)) (sym begins) (free c not_referenced)) (words-fit H.fields j less)

  -- the entries of other tables have the same mappings
  others : (k m : ℕ) → Live (l2_table f H.fields) H.fields k m → k ≢ i → slot g H.fields k m ≡ slot f H.fields k m
  others k m live apart = slot-kept f g H.fields (l1_word i) kept k m live (λ e. apart (sym (ap (l1_number i) e))) (λ e. cc)

  -- the weight of the structure, with the old table replaced by the new one
  weighs : (v : Weight) → structure g H.fields v + of_cluster H.fields v (l2_table f H.fields i) ≡ structure f H.fields v + v t (cluster_size H.fields)
  unfolding structure
  weighs v =
      let same : sum_below (refcount_table_entries H.fields) (λ k. of_cluster H.fields v (block_at g H.fields k)) ≡ sum_below (refcount_table_entries H.fields) (λ k. of_cluster H.fields v (block_at f H.fields k)) =
      sum-same _ _ _ (λ k less. ap (of_cluster H.fields v) (blocks k)) in
      let changed : sum_below H.fields.l1_entries (λ k. of_cluster H.fields v (l2_table g H.fields k)) + of_cluster H.fields v (l2_table f H.fields i) ≡ sum_below H.fields.l1_entries (λ k. of_cluster H.fields v (l2_table f H.fields k)) + of_cluster H.fields v (l2_table g H.fields i) =
      sum-change _ i (λ k. of_cluster H.fields v (l2_table g H.fields k)) (λ k. of_cluster H.fields v (l2_table f H.fields k)) lt (λ k less apart. ap (of_cluster H.fields v) (tables k apart)) in
      let new : of_cluster H.fields v (l2_table g H.fields i) ≡ v t (cluster_size H.fields) = ap (of_cluster H.fields v) here ∙ some-cluster t there (v t (cluster_size H.fields)) in
      omega arith
    where
      some-cluster : (p : ℕ) → p ≢ 0 → (x : ℕ) → cond (p == 0) 0 x ≡ x
      some-cluster p is x = grind (arith, nat_tests)

  -- the sums over the mappings, with those of the old table replaced
  sums : (of : Mapping → ℕ) → contents g H.fields of + of_table_or_none f H.fields of (l2_table f H.fields i) ≡ contents f H.fields of + of_table f H.fields of t
  unfolding over_slots of_table
  sums of =
      let before : contents f H.fields of ≡ sum_below H.fields.l1_entries old_row = contents-slots f H.fields of in
      let after : contents g H.fields of ≡ sum_below H.fields.l1_entries new_row = contents-slots g H.fields of in
      let all : sum_below H.fields.l1_entries new_row + old_row i ≡ sum_below H.fields.l1_entries old_row + new_row i =
      sum-change H.fields.l1_entries i new_row old_row lt (λ k less apart. same k less apart (cases_eq (l2_table f H.fields k) 0)) in
      let one : new_row i ≡ of_table f H.fields of t = ap (λ p. or_none p (sum_below (entries_of_cluster H.fields) (λ j. of (l2_mapping g H.fields p j)))) here ∙ (some-table t there _ ∙ sum-same _ _ _ (λ j less. ap (λ x. of (mapping x)) (new-words j less))) in
      omega arith
    where
      mapping : ℕ → Mapping
      mapping x = mapping_of (layout_of H.fields) x

      old_row : ℕ → ℕ
      old_row k = or_none (l2_table f H.fields k) (sum_below (entries_of_cluster H.fields) (λ j. of (slot f H.fields k j)))

      new_row : ℕ → ℕ
      new_row k = or_none (l2_table g H.fields k) (sum_below (entries_of_cluster H.fields) (λ j. of (slot g H.fields k j)))

      some-table : (p : ℕ) → p ≢ 0 → (x : ℕ) → or_none p x ≡ x
      some-table p is x = grind (arith, nat_tests)

      same : (k : ℕ) → k < H.fields.l1_entries → k ≢ i → (l2_table f H.fields k ≡ 0) ⊎ (l2_table f H.fields k ≢ 0) → new_row k ≡ old_row k
      same k less apart (inl e) = rw (tables k apart, e) refl
      same k less apart (inr is) =
          ap (λ p. or_none p (sum_below (entries_of_cluster H.fields) (λ j. of (slot g H.fields k j)))) (tables k apart)
          ∙ ap (or_none (l2_table f H.fields k)) (sum-same _ _ _ (λ j within. ap of (others k j record { in_l1 = less; is_there = is; in_table = within } apart)))

  references : (d : ℕ) → refs g H.fields d + (of_cluster H.fields (meets H.fields d) (l2_table f H.fields i) + of_table_or_none f H.fields (of_mapping H.fields (meets H.fields d)) (l2_table f H.fields i))
      ≡ refs f H.fields d + (meets H.fields d t (cluster_size H.fields) + of_table f H.fields (of_mapping H.fields (meets H.fields d)) t)
  unfolding refs
  references d =
      let base : structure g H.fields (meets H.fields d) + of_cluster H.fields (meets H.fields d) (l2_table f H.fields i) ≡ structure f H.fields (meets H.fields d) + meets H.fields d t (cluster_size H.fields) = weighs (meets H.fields d) in
      let rest : contents g H.fields (of_mapping H.fields (meets H.fields d)) + of_table_or_none f H.fields (of_mapping H.fields (meets H.fields d)) (l2_table f H.fields i) ≡ contents f H.fields (of_mapping H.fields (meets H.fields d)) + of_table f H.fields (of_mapping H.fields (meets H.fields d)) t =
      sums (of_mapping H.fields (meets H.fields d)) in
      omega arith

  loads : header_of true g ≡ Ok H
  loads = header-kept true f g H was.readable.loads (kept.start (λ e. cc))

  -- The state after the write.
  pub table-replaced : TableReplaced f g H i t
  table-replaced = record {
    header = loads;
    same_structure_outside = kept;
    here = here;
    tables = tables;
    blocks = blocks;
    raw_entries = new-words;
    others = others;
    counts = counts;
    structure = weighs;
    contents = sums;
    references = references;
    free = free;
    mapped = data-stays f g H was _ (H.fields.l1_offset + 8 * i) 8 out low high l1-weighs;
  }

  -- all entries stay valid if those of the new table are
  sound : ((j : ℕ) → j < entries_of_cluster H.fields → IsFalse (is_damaged (l2_mapping f H.fields t j))) → ValidEntries g H.fields
  sound plain =
      let old : ValidEntries f H.fields = sound-words f H.fields was.readable.tables in
      record {
        l1 = λ k less. elim (cases_eq k i) [
          | inl e ↦ ap (λ r. l1_entry_valid H.fields.cluster_bits (raw_entry g H.fields.l1_offset r)) e ∙ (ap (l1_entry_valid H.fields.cluster_bits) written ∙ sane)
          | inr apart ↦ ap (l1_entry_valid H.fields.cluster_bits) (kept.l1 k less (λ e. apart (sym (ap (l1_number i) e)))) ∙ old.l1 k less
        ];
        blocks = λ k less. ap (reftable_entry_valid H.fields.cluster_bits) (kept.blocks k less (λ e. cc)) ∙ old.blocks k less;
        slots = λ k m live. elim (cases_eq k i) [
          | inl e ↦ ap is_damaged (ap (λ r. slot g H.fields r m) e ∙ (ap (λ p. l2_mapping g H.fields p m) here ∙ ap (mapping_of (layout_of H.fields)) (new-words m live.in_table))) ∙ plain m live.in_table
          | inr apart ↦
              let live' : Live (l2_table f H.fields) H.fields k m = record { in_l1 = live.in_l1; is_there = (λ e. live.is_there (tables k apart ∙ e)); in_table = live.in_table } in
              ap is_damaged (others k m live' apart) ∙ old.slots k m live'
        ];
      }

  -- The image stays consistent if the new table's entries are valid, refcounts cover references, and clusters of the structure and COPIED
  -- clusters are referenced once.
  pub table-swapped : ((j : ℕ) → j < entries_of_cluster H.fields → IsFalse (is_damaged (l2_mapping f H.fields t j)))
      → ((d : ℕ) → refs g H.fields d ≤ count f H.fields d)
      → ((d : ℕ) → 0 < structure g H.fields (meets H.fields d) + contents g H.fields (of_copied H.fields (meets H.fields d)) → refs g H.fields d ≤ 1)
      → TableSwapped f g H i t
  table-swapped plain counted apart =
      let after : IsConsistent g H = consistent-from g H loads was.readable.no_snapshots was.readable.data_inside (sound plain)
      (λ d more. apart d (omega arith))
      (λ d more. apart d (omega arith))
      (λ d. let e : count g H.fields d ≡ count f H.fields d = counts d in let le : refs g H.fields d ≤ count f H.fields d = counted d in omega arith) in
      let raw_entries : 0 < entries_of_cluster H.fields = some-words H.fields (consistent-shaped f H was) in
      record {
        replaced = table-replaced;
        consistent = after;
        entries = λ guest row.
            let place : l2_table g H.fields (guest / entries_of_cluster H.fields) ≡ t = ap (l2_table g H.fields) row ∙ here in
            entry-slot g H.fields guest after.readable.tables
            ∙ (guest-slot-there g H.fields guest (λ e. there (sym place ∙ e))
            ∙ (ap (λ p. l2_mapping g H.fields p (guest % entries_of_cluster H.fields)) place ∙ ap (mapping_of (layout_of H.fields)) (new-words (guest % entries_of_cluster H.fields) (mod_below guest (entries_of_cluster H.fields) raw_entries))));
        values = values-kept f g H.fields was.readable.tables raw_entries _ (H.fields.l1_offset + 8 * i) 8 out low high (structure-unmapped f H was _ l1-weighs);
        elsewhere = λ guest off. shows-outside f g H.fields was.readable.tables after.readable.tables raw_entries guest (guest-same raw_entries guest off) _ (H.fields.l1_offset + 8 * i) 8 out low high (structure-unmapped f H was _ l1-weighs);
      }
    where
      guest-same : 0 < entries_of_cluster H.fields → (guest : ℕ) → (guest / entries_of_cluster H.fields ≢ i) ⊎ (l2_mapping f H.fields t (guest % entries_of_cluster H.fields) ≡ entry f H.fields guest)
          → guest_slot g H.fields guest ≡ guest_slot f H.fields guest
      guest-same raw_entries guest off = by off (cases_eq (guest / entries_of_cluster H.fields) i)
        where
          apart-same : guest / entries_of_cluster H.fields ≢ i → guest_slot g H.fields guest ≡ guest_slot f H.fields guest
          apart-same off = elim (cases_eq (l2_table f H.fields (guest / entries_of_cluster H.fields)) 0) [
            | inl e ↦ guest-slot-none g H.fields guest (tables (guest / entries_of_cluster H.fields) off ∙ e) ∙ sym (guest-slot-none f H.fields guest e)
            | inr is ↦
                guest-slot-there g H.fields guest (λ e. is (sym (tables (guest / entries_of_cluster H.fields) off) ∙ e))
                ∙ (others (guest / entries_of_cluster H.fields) (guest % entries_of_cluster H.fields) (guest-live f H.fields guest raw_entries is) off ∙ sym (guest-slot-there f H.fields guest is))
          ]

          by : (guest / entries_of_cluster H.fields ≢ i) ⊎ (l2_mapping f H.fields t (guest % entries_of_cluster H.fields) ≡ entry f H.fields guest)
              → (guest / entries_of_cluster H.fields ≡ i) ⊎ (guest / entries_of_cluster H.fields ≢ i) → guest_slot g H.fields guest ≡ guest_slot f H.fields guest
          by (inl apart) case = apart-same apart
          by (inr same) (inr apart) = apart-same apart
          by (inr same) (inl at) =
              let place : l2_table g H.fields (guest / entries_of_cluster H.fields) ≡ t = ap (l2_table g H.fields) at ∙ here in
              guest-slot-there g H.fields guest (λ e. there (sym place ∙ e))
              ∙ (ap (λ p. l2_mapping g H.fields p (guest % entries_of_cluster H.fields)) place
              ∙ (ap (mapping_of (layout_of H.fields)) (new-words (guest % entries_of_cluster H.fields) (mod_below guest (entries_of_cluster H.fields) raw_entries)) ∙ (same ∙ entry-slot f H.fields guest was.readable.tables)))

-- The written bytes are those of the raw entry.
module _ (f : Bytes) (H : Header) (was : IsConsistent f H) (i : ℕ) (lt : i < H.fields.l1_entries) (w : ℕ) (fits : w < 2 ^ 64) (sane : IsTrue (l1_entry_valid H.fields.cluster_bits w))
    (c t : ℕ) (names : table_offset w ≡ t) (there : t ≢ 0) (begins : t ≡ c * cluster_size H.fields) (not_referenced : refs f H.fields c ≡ 0) where
  abbrev spliced : Bytes
  spliced = splice f (H.fields.l1_offset + 8 * i) (to_be_bytes w64 w)

  pub table-replaced-spliced : TableReplaced f (splice f (H.fields.l1_offset + 8 * i) (to_be_bytes w64 w)) H i t
  table-replaced-spliced = table-replaced f spliced H was i lt (splice-is-outside f (H.fields.l1_offset + 8 * i) (to_be_bytes w64 w)) w (word-written f H.fields.l1_offset i w fits) sane c t names there begins not_referenced

  pub table-swapped-spliced : ((j : ℕ) → j < entries_of_cluster H.fields → IsFalse (is_damaged (l2_mapping f H.fields t j)))
      → ((d : ℕ) → refs (splice f (H.fields.l1_offset + 8 * i) (to_be_bytes w64 w)) H.fields d ≤ count f H.fields d)
      → ((d : ℕ) → 0 < structure (splice f (H.fields.l1_offset + 8 * i) (to_be_bytes w64 w)) H.fields (meets H.fields d) + contents (splice f (H.fields.l1_offset + 8 * i) (to_be_bytes w64 w)) H.fields (of_copied H.fields (meets H.fields d))
      → refs (splice f (H.fields.l1_offset + 8 * i) (to_be_bytes w64 w)) H.fields d ≤ 1)
      → TableSwapped f (splice f (H.fields.l1_offset + 8 * i) (to_be_bytes w64 w)) H i t
  table-swapped-spliced = table-swapped f spliced H was i lt (splice-is-outside f (H.fields.l1_offset + 8 * i) (to_be_bytes w64 w)) w (word-written f H.fields.l1_offset i w fits) sane c t names there begins not_referenced
