-- Lists of entries, as the raw values that contracts see.
use Rattle.std.proofs.Common.{◌≡◌, ◌∙◌, ◌+◌, ◌-◌, ◌<◌, ◌≤◌, ap, arith, inl, inr, refl, subst, sym, ℕ, zero, suc, List, [], ◌∷◌, ◌++◌, length, map, take, drop}
use Rattle.std.specs.Prelude.{replicate, slice_index, slice_set}
use Rattle.std.proofs.lemmas.Bool.{cases_lt}
use Rattle.std.specs.Int.{to_be_bytes, w64}
use Rattle.std.proofs.lemmas.Grind.{flat_map-append, same_number_lists}
use Rattle.std.proofs.lemmas.List.{append-nil, drop-drop, drop-replicate, get_or-set_other, get_or-set_same, length-map, map-append, map-set, take-replicate, take_more}
use Rattle.qcow2_types.specs.Bytes.{Bytes, raw_entry}
use Rattle.qcow2_types.specs.TableBytes.{table_bytes}
use Rattle.qcow2_types.proofs.Numbers.NumberBytes.{taken-more}
use Rattle.qcow2_metadata.specs.Tables.{raw_entries_in}
use Rattle.qcow2_metadata.proofs.TableFacts.{words_at, words_long}

module _ {E : Type 0} (raw_entry : E → ℕ) (raw_entries : List E → List ℕ) (each : (es : List E) → raw_entries es ≡ map raw_entry es) where
  pub words_pushed : (es : List E) (e : E) → raw_entries (es ++ e ∷ []) ≡ raw_entries es ++ raw_entry e ∷ []
  words_pushed es e = each (es ++ e ∷ []) ∙ (map-append raw_entry es (e ∷ []) ∙ ap (λ (ws : List ℕ). ws ++ raw_entry e ∷ []) (sym (each es)))

  pub words-long : (es : List E) → length (raw_entries es) ≡ length es
  words-long es = ap length (each es) ∙ length-map es raw_entry

  pub words_set : (es : List E) (i : ℕ) (e : E) → raw_entries (slice_set es i e) ≡ slice_set (raw_entries es) i (raw_entry e)
  words_set es i e = each (slice_set es i e) ∙ (map-set raw_entry es i e ∙ ap (λ (ws : List ℕ). slice_set ws i (raw_entry e)) (sym (each es)))

  pub clear-words : (n : ℕ) (e : E) → raw_entry e ≡ 0 → raw_entries (replicate n e) ≡ replicate n 0
  clear-words n e none = each (replicate n e) ∙ map-same n
    where
      map-same : (n : ℕ) → map raw_entry (replicate n e) ≡ replicate n 0
      map-same zero = refl
      map-same (suc n) = rw (none) (ap (λ (ws : List ℕ). 0 ∷ ws) (map-same n))

-- The first `n` of these entries are those of the file.
abbrev pub ArePut : Bytes → List ℕ → ℕ → Type 0
ArePut f raw_entries n = (k : ℕ) → k < n → slice_index raw_entries k ≡ raw_entry f 0 k

-- One more is written.
pub put-more : (f : Bytes) (raw_entries : List ℕ) (i w : ℕ) → i < length raw_entries → ArePut f raw_entries i → w ≡ raw_entry f 0 i → ArePut f (slice_set raw_entries i w) (i + 1)
put-more f raw_entries i w inside put is k small = elim (cases_lt k i) [
  | inl before ↦ get_or-set_other raw_entries i k w 0 (λ same. omega (arith, before, same)) ∙ put k before
  | inr last ↦
      let same : i ≡ k = omega (arith, small, last) in
      subst (λ j. slice_index (slice_set raw_entries i w) j ≡ raw_entry f 0 j) same (get_or-set_same raw_entries i w 0 inside ∙ is)
]

-- One more is equal already.
pub put-same : (f : Bytes) (raw_entries : List ℕ) (i : ℕ) → ArePut f raw_entries i → slice_index raw_entries i ≡ raw_entry f 0 i → ArePut f raw_entries (i + 1)
put-same f raw_entries i put is k small = elim (cases_lt k i) [
  | inl before ↦ put k before
  | inr last ↦ subst (λ j. slice_index raw_entries j ≡ raw_entry f 0 j) (let same : i ≡ k = omega (arith, small, last) in same) is
]

-- The entries from index `n` on are 0.
abbrev pub AreClear : List ℕ → ℕ → Type 0
AreClear raw_entries n = (k : ℕ) → n ≤ k → slice_index raw_entries k ≡ 0

-- They are still 0 after one more is written.
pub clear-behind : (raw_entries : List ℕ) (i w : ℕ) → AreClear raw_entries i → AreClear (slice_set raw_entries i w) (i + 1)
clear-behind raw_entries i w clear k behind = get_or-set_other raw_entries i k w 0 (λ same. omega (arith, behind, same)) ∙ clear k (omega (arith, behind))

-- All entries are written.
pub put-whole : (f : Bytes) (raw_entries : List ℕ) (n : ℕ) → length raw_entries ≡ n → ArePut f raw_entries n → raw_entries ≡ raw_entries_in f 0 n
put-whole f raw_entries n long put = same_number_lists raw_entries (raw_entries_in f 0 n) (long ∙ sym (words_long f 0 n)) (λ k inside.
    let small : k < n = omega (arith, inside, long) in
    put k small ∙ sym (words_at f 0 n k small))

-- The bytes of one more entry.
pub bytes-more : (raw_entries : List ℕ) (i w : ℕ) → i < length raw_entries → w ≡ slice_index raw_entries i
    → table_bytes (take (i + 1) raw_entries) ≡ table_bytes (take i raw_entries) ++ to_be_bytes w64 w
bytes-more raw_entries i w inside is = rw (is) (ap table_bytes (take_more raw_entries i 0 inside)
    ∙ (flat_map-append (to_be_bytes w64) (take i raw_entries) (slice_index raw_entries i ∷ [])
    ∙ ap (λ bytes. table_bytes (take i raw_entries) ++ bytes) (append-nil (to_be_bytes w64 (slice_index raw_entries i)))))

-- The bytes from index `n` on are 0.
abbrev pub AreZeroes : List ℕ → ℕ → Type 0
AreZeroes bytes n = drop n bytes ≡ replicate (length bytes - n) 0

pub zeroes-behind : (bytes : List ℕ) (n m : ℕ) → AreZeroes bytes n → AreZeroes bytes (n + m)
zeroes-behind bytes n m zeroes = sym (drop-drop m n bytes) ∙ (ap (drop m) zeroes ∙ (drop-replicate m (length bytes - n) 0 ∙ ap (λ k. replicate k 0) (omega arith)))

-- The bytes of an entry 0 are there already.
pub zero-there : (bytes : List ℕ) (n : ℕ) → AreZeroes bytes n → n + 8 ≤ length bytes → take (n + 8) bytes ≡ take n bytes ++ to_be_bytes w64 0
zero-there bytes n zeroes room = taken-more bytes (to_be_bytes w64 0) n 8 (sym (ap (take 8) zeroes ∙ take-replicate 8 (length bytes - n) 0 (omega arith)))
