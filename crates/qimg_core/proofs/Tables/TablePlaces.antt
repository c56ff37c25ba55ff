-- The offsets of the L2 tables, collected entry by entry from the L1 table.
use Rattle.std.proofs.Common.{◌≡◌, ◌≢◌, ℕ, zero, suc, ◌+◌, ◌-◌, ◌*◌, ◌/◌, ◌^◌, ◌<◌, ◌≤◌, refl, arith, ap, sym, subst, ◌∙◌, List, [], ◌∷◌, ◌++◌, length, inl, inr}
use Rattle.std.specs.Prelude.{Bool, true, false, not, cond, ◌==◌, nat_lt, map, slice_index, Result, Ok, Err, IfOk}
use Rattle.std.specs.List.{filter, range_with_len}
use Rattle.std.proofs.lemmas.Bool.{cases_lt, le-ltb}
use Rattle.std.proofs.lemmas.Bool.Decides.{nat_tests}
use Rattle.std.proofs.lemmas.List.{append-nil, get_or_past}
use Rattle.std.proofs.lemmas.List.FromFn.{filter_of_map_range_with_len_more}
use Rattle.qcow2_types.specs.Bytes.{Bytes, bytes_of, raw_entry}
use Rattle.qcow2_types.specs.Words.{table_offset}
use Rattle.qcow2_types.specs.Header.{Fields, Header, header_of, cluster_size}
use Rattle.qcow2_types.specs.Entries.{l2_table}
use Rattle.qcow2_metadata.specs.Tables.{TableValue, raw_entries_in, table_in}
use Rattle.qcow2_metadata.proofs.TableFacts.{words_long, words_at}
use Rattle.imago_storage.specs.declared.fault.Fault.{Fault}
use Rattle.qimg_core.specs.CheckParts.{tables_of}
use Rattle.qimg_core.specs.Plain.{NamesTables}
use Rattle.qimg_core.proofs.Tables.Places.{l1-place}
use Rattle.qimg_core.proofs.Tables.FewerWords.{past-word}

-- The offsets that the first `n` L1 entries reference.
abbrev pub tables_to : Bytes → Fields → ℕ → List ℕ
tables_to f h n = filter (λ t. not (t == 0)) (map (l2_table f h) (range_with_len 0 n))

tables-step : (f : Bytes) (h : Fields) (n : ℕ) → tables_to f h (n + 1) ≡ tables_to f h n ++ cond (not (l2_table f h n == 0)) (l2_table f h n ∷ []) []
tables-step f h n = filter_of_map_range_with_len_more (λ t. not (t == 0)) (l2_table f h) 0 n n (omega arith)

-- The next entry references a table.
pub tables-more : (f : Bytes) (h : Fields) (n place : ℕ) → l2_table f h n ≡ place → place ≢ 0 → tables_to f h (n + 1) ≡ tables_to f h n ++ place ∷ []
tables-more f h n place is there = tables-step f h n ∙ ap (λ t. tables_to f h n ++ cond (not (t == 0)) (t ∷ []) []) is ∙ pick (place == 0) refl
  where
    pick : (b : Bool) → (place == 0) ≡ b → tables_to f h n ++ cond (not b) (place ∷ []) [] ≡ tables_to f h n ++ place ∷ []
    pick true e = absurd (there (grind (arith, nat_tests)))
    pick false e = refl

-- Like `tables-more`, for a list to which the offset is pushed.
pub tables-pushed : (f : Bytes) (h : Fields) (n place : ℕ) (before now : List ℕ) → before ≡ tables_to f h n → now ≡ before ++ place ∷ [] → l2_table f h n ≡ place → place ≢ 0 → now ≡ tables_to f h (n + 1)
tables-pushed f h n place before now is pushed names there = pushed ∙ (ap (λ items. items ++ place ∷ []) is ∙ sym (tables-more f h n place names there))

-- The next entry references nothing.
pub tables-skip : (f : Bytes) (h : Fields) (n : ℕ) → l2_table f h n ≡ 0 → tables_to f h (n + 1) ≡ tables_to f h n
tables-skip f h n none = tables-step f h n ∙ ap (λ t. tables_to f h n ++ cond (not (t == 0)) (t ∷ []) []) none ∙ append-nil (tables_to f h n)

-- The next `d` entries reference nothing.
tables-rest : (f : Bytes) (h : Fields) (n d : ℕ) → ((i : ℕ) → n ≤ i → i < n + d → l2_table f h i ≡ 0) → tables_to f h (n + d) ≡ tables_to f h n
tables-rest f h n zero none = ap (tables_to f h) (omega arith)
tables-rest f h n (suc d) none =
    let next : n + suc d ≡ n + d + 1 = omega arith in
    ap (tables_to f h) next ∙ tables-skip f h (n + d) (none (n + d) (omega arith) (omega arith)) ∙ tables-rest f h n d (λ i le lt. none i le (omega arith))

-- Entry `i` of the L1 table is the loaded one.
pub l2-loaded : (f : Bytes) (H : Header) → header_of false f ≡ Ok H → (cluster n i : ℕ) → cluster ≡ H.fields.l1_offset / 2 ^ H.fields.cluster_bits → n ≤ H.fields.l1_entries → i < n
    → l2_table f H.fields i ≡ table_offset (slice_index (raw_entries_in f (cluster * cluster_size H.fields) n) i)
l2-loaded f H loads cluster n i is few lt =
    let inside : nat_lt i H.fields.l1_entries ≡ true = grind (arith, nat_tests) in
    let same : slice_index (raw_entries_in f (cluster * cluster_size H.fields) n) i ≡ raw_entry f H.fields.l1_offset i = words_at f _ _ i lt ∙ ap (λ p. raw_entry f p i) (l1-place f H loads cluster is).0 in
    ap (λ b. cond b (table_offset (raw_entry f H.fields.l1_offset i)) 0) inside ∙ ap table_offset (sym same)

-- An entry past the end of the file references nothing.
l2-past : (bytes : List ℕ) (h : Fields) (i : ℕ) → i < h.l1_entries → length bytes ≤ h.l1_offset + 8 * i → l2_table (bytes_of bytes) h i ≡ 0
l2-past bytes h i lt past =
    let inside : nat_lt i h.l1_entries ≡ true = grind (arith, nat_tests) in
    ap (λ b. cond b (table_offset (raw_entry (bytes_of bytes) h.l1_offset i)) 0) inside ∙ ap table_offset (past-word bytes h.l1_offset i past)

-- Like `l2-past`, but also for an index past the entries of the table.
l2-none : (bytes : List ℕ) (h : Fields) (n i : ℕ) → n ≤ i → ((i : ℕ) → n ≤ i → i < h.l1_entries → length bytes ≤ h.l1_offset + 8 * i) → l2_table (bytes_of bytes) h i ≡ 0
l2-none bytes h n i ge past = elim (cases_lt i h.l1_entries) [
  | inl lt ↦ l2-past bytes h i lt (past i ge lt)
  | inr le ↦
      let outside : nat_lt i h.l1_entries ≡ false = le-ltb _ _ le in
      ap (λ b. cond b (table_offset (raw_entry (bytes_of bytes) h.l1_offset i)) 0) outside
]

-- If the other entries are past the end of the file, the first `n` entries give all L2 tables.
pub tables-all : (bytes : List ℕ) (h : Fields) (n : ℕ) (places : List ℕ) → n ≤ h.l1_entries → ((i : ℕ) → n ≤ i → i < h.l1_entries → length bytes ≤ h.l1_offset + 8 * i)
    → places ≡ tables_to (bytes_of bytes) h n → places ≡ tables_of (bytes_of bytes) h
unfolding tables_of
tables-all bytes h n places few past is =
    let whole : n + (h.l1_entries - n) ≡ h.l1_entries = omega arith in
    is ∙ sym (ap (tables_to (bytes_of bytes) h) (sym whole) ∙ tables-rest (bytes_of bytes) h n (h.l1_entries - n) (λ i le lt. l2-past bytes h i (omega arith) (past i le (omega arith))))

-- If the other entries are past the end of the file, the first `n` raw entries reference all L2 tables.
first-name : (bytes : List ℕ) (H : Header) → header_of false (bytes_of bytes) ≡ Ok H → (cluster n : ℕ) → cluster ≡ H.fields.l1_offset / 2 ^ H.fields.cluster_bits → n ≤ H.fields.l1_entries
    → ((i : ℕ) → n ≤ i → i < H.fields.l1_entries → length bytes ≤ H.fields.l1_offset + 8 * i) → NamesTables (bytes_of bytes) H.fields (raw_entries_in (bytes_of bytes) (cluster * cluster_size H.fields) n)
first-name bytes H loads cluster n is few past = record {
  each = λ i. elim (cases_lt i n) [
    | inl less ↦ l2-loaded (bytes_of bytes) H loads cluster n i is few less
    | inr ge ↦
        let missing : slice_index (raw_entries_in (bytes_of bytes) (cluster * cluster_size H.fields) n) i ≡ 0 = get_or_past (raw_entries_in (bytes_of bytes) (cluster * cluster_size H.fields) n) i 0 (omega (arith, words_long (bytes_of bytes) (cluster * cluster_size H.fields) n)) in
        l2-none bytes H.fields n i ge past ∙ ap table_offset (sym missing)
  ];
}

pub first-words : (result : Result TableValue Fault) (bytes : List ℕ) (H : Header) → header_of false (bytes_of bytes) ≡ Ok H → (cluster n : ℕ) → cluster ≡ H.fields.l1_offset / 2 ^ H.fields.cluster_bits → n ≤ H.fields.l1_entries
    → ((i : ℕ) → n ≤ i → i < H.fields.l1_entries → length bytes ≤ H.fields.l1_offset + 8 * i) → IfOk result (λ table. table ≡ table_in (bytes_of bytes) H.fields cluster n) → IfOk result (λ table. NamesTables (bytes_of bytes) H.fields table.raw_entries)
first-words (Err _) bytes H loads cluster n is few past found = tt
first-words (Ok table) bytes H loads cluster n is few past found = subst (λ t. NamesTables (bytes_of bytes) H.fields t.raw_entries) (sym found) (first-name bytes H loads cluster n is few past)
