-- Entries that were read are written as the same bytes, and written entries are read again.
use Rattle.std.proofs.Common.{◌≡◌, refl, ℕ, zero, suc, ◌+◌, ◌*◌, ◌<◌, ◌∙◌, ap, sym, arith, List, [], ◌∷◌, ◌++◌, length, inl, inr}
use Rattle.std.specs.Prelude.{slice_index}
use Rattle.std.specs.Int.{to_be_bytes, w64}
use Rattle.std.proofs.lemmas.Nat.{be_bytes_8}
use Rattle.std.proofs.lemmas.Grind.{flat_map-append, same_number_lists}
use Rattle.std.proofs.lemmas.List.{append-nil}
use Rattle.std.proofs.lemmas.Bool.{cases_lt}
use Rattle.qcow2_types.specs.Bytes.{Bytes, bytes_of, be, raw_entry, run, splice}
use Rattle.qcow2_types.proofs.Changes.Over.{table-over}
use Rattle.qcow2_types.proofs.Numbers.Splices.{be-same, be-of-bytes}
use Rattle.qcow2_metadata.specs.Tables.{raw_entries_in}
use Rattle.qcow2_types.specs.TableBytes.{AreFit, table_bytes}
use Rattle.qcow2_metadata.proofs.TableFacts.{words_long, words_at, words_more}
use Rattle.qcow2_metadata.proofs.TableSteps.{past_end}

-- The length of a run.
run_long : (f : Bytes) (i n : ℕ) → length (run f i n) ≡ n
unfolding run
run_long f i zero = refl
run_long f i (suc n) = ap suc (run_long f (i + 1) n)

run_at : (f : Bytes) (i n k : ℕ) → k < n → slice_index (run f i n) k ≡ f (i + k)
unfolding run
run_at f i zero k inside = absurd (omega (arith, inside))
run_at f i (suc n) zero inside = let same : i + 0 ≡ i = omega arith in ap f (sym same)
run_at f i (suc n) (suc k) inside = let same : i + 1 + k ≡ i + suc k = omega arith in run_at f (i + 1) n k (omega (arith, inside)) ∙ ap f same

run_more : (f : Bytes) (i m n : ℕ) → run f i (m + n) ≡ run f i m ++ run f (i + m) n
unfolding run
run_more f i zero n = let none : 0 + n ≡ n = omega arith in let same : i + 0 ≡ i = omega arith in ap (λ k. run f i k) none ∙ ap (λ j. run f j n) (sym same)
run_more f i (suc m) n =
    let next : suc m + n ≡ suc (m + n) = omega arith in
    let same : i + 1 + m ≡ i + suc m = omega arith in
    ap (λ k. run f i k) next ∙ ap (λ (l : List ℕ). f i ∷ l) (run_more f (i + 1) m n ∙ ap (λ j. run f (i + 1) m ++ run f j n) same)

-- One entry.
word_run : (f : Bytes) (p i : ℕ) → ((k : ℕ) → f k < 256) → to_be_bytes w64 (raw_entry f p i) ≡ run f (p + 8 * i) 8
unfolding raw_entry
word_run f p i fits =
    let part = run f (p + 8 * i) 8 in
    let same : be f (p + 8 * i) 8 ≡ be (bytes_of (run f (p + 8 * i) 8)) 0 8 = be-same f (bytes_of (run f (p + 8 * i) 8)) (p + 8 * i) 0 8 (λ k inside. let none : 0 + k ≡ k = omega arith in sym (ap (λ j. slice_index (run f (p + 8 * i) 8) j) none ∙ run_at f (p + 8 * i) 8 k inside)) in
    be_bytes_8 (run f (p + 8 * i) 8) (be f (p + 8 * i) 8) (run_long f (p + 8 * i) 8)
    (λ k. elim (cases_lt k 8) [
      | inl lt ↦ let at = run_at f (p + 8 * i) 8 k lt in let small = fits (p + 8 * i + k) in omega (arith, at, small)
      | inr ge ↦ let none = past_end (run f (p + 8 * i) 8) k (omega (arith, run_long f (p + 8 * i) 8, ge)) in omega (arith, none)
    ])
    (same ∙ be-of-bytes (run f (p + 8 * i) 8))

-- All entries of a table.
pub written_back : (f : Bytes) (p n : ℕ) → ((k : ℕ) → f k < 256) → table_bytes (raw_entries_in f p n) ≡ run f p (8 * n)
unfolding run
written_back f p zero fits = refl
written_back f p (suc n) fits =
    let next : suc n ≡ n + 1 = omega arith in
    let size : 8 * n + 8 ≡ 8 * suc n = omega arith in
    let before : table_bytes (raw_entries_in f p n) ≡ run f p (8 * n) = written_back f p n fits in
    let one : table_bytes (raw_entry f p n ∷ []) ≡ run f (p + 8 * n) 8 = append-nil (to_be_bytes w64 (raw_entry f p n)) ∙ word_run f p n fits in
    ap (λ k. table_bytes (raw_entries_in f p k)) next
    ∙ (ap table_bytes (words_more f p n)
    ∙ (flat_map-append (to_be_bytes w64) (raw_entries_in f p n) (raw_entry f p n ∷ [])
    ∙ ((cc (before, one)) ∙ (sym (run_more f p (8 * n) 8) ∙ ap (λ k. run f p k) size))))

pub read_back : (f : Bytes) (p : ℕ) (raw_entries : List ℕ) → AreFit raw_entries → raw_entries_in (splice f p (table_bytes raw_entries)) p (length raw_entries) ≡ raw_entries
read_back f p raw_entries fit =
    let g : Bytes = splice f p (table_bytes raw_entries) in
    same_number_lists (raw_entries_in (splice f p (table_bytes raw_entries)) p (length raw_entries)) raw_entries (words_long g p (length raw_entries))
    (λ k inside. let lt : k < length raw_entries = omega (arith, words_long g p (length raw_entries), inside) in words_at g p (length raw_entries) k lt ∙ table-over f p raw_entries k fit lt)
