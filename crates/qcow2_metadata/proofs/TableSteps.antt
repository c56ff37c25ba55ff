-- Tables with one changed entry, or with added entries.
use Rattle.std.proofs.Common.{◌≡◌, refl, ℕ, zero, suc, ◌+◌, ◌-◌, ◌*◌, ◌/◌, ◌%◌, ◌^◌, ◌<◌, ◌≤◌, ◌∙◌, ap, sym, subst, arith, List, [], ◌∷◌, ◌++◌, length, map, inl, inr, lit<}
use Rattle.std.specs.Prelude.{Bool, true, IsTrue, Option, Some, None, slice_index, slice_set, replicate, nat_le}
use Rattle.std.specs.List.{range_with_len}
use Rattle.std.proofs.Math.ListN.{get_or-append}
use Rattle.std.proofs.lemmas.Bool.{cases_eq, cases_lt}
use Rattle.std.proofs.lemmas.Bool.Decides.{nat_tests}
use Rattle.std.proofs.lemmas.Grind.{same_number_lists}
use Rattle.std.proofs.lemmas.List.{get_or-set_same, get_or-set_other, length-set, length-append, length-replicate, get_or-append_right, length-map, get_or-map}
use Rattle.std.proofs.lemmas.List.FromFn.{length-map-range_with_len, get_or-map-range_with_len, map-range_with_len_more}
use Rattle.std.proofs.lemmas.Nat.{pow-add}
use Rattle.std.proofs.Math.Nat.{mul-mod_left}
use Rattle.qcow2_types.specs.Words.{Layout, is_cluster_offset, max_offset, reftable_entry_valid, block_offset, l1_entry_valid, table_offset}
use Rattle.qcow2_types.proofs.Numbers.WordLemmas.{zero-word, zero-l1-word, fresh-l1-word}
use Rattle.qcow2_metadata.specs.Places.{IsPlaced, place_of}
use Rattle.qcow2_metadata.specs.Tables.{Kind, l1_table_kind, l2_table_kind, refcount_table_kind, IsTable, IsLength, AreSound, raw_entry_valid, padded}
use Rattle.qcow2_types.specs.TableBytes.{AreFit}

-- Each raw entry has the property.
abbrev pub EachWord : (ℕ → Type 0) → List ℕ → Type 0
EachWord P raw_entries = (i : ℕ) → i < length raw_entries → P (slice_index raw_entries i)

pub each_set : (P : ℕ → Type 0) (raw_entries : List ℕ) (i w : ℕ) → EachWord P raw_entries → P w → EachWord P (slice_set raw_entries i w)
each_set P raw_entries i w old new k inside =
    let there : k < length raw_entries = omega (arith, length-set raw_entries i w, inside) in
    elim (cases_eq k i) [
      | inl e ↦
          let same : slice_index (slice_set raw_entries i w) k ≡ w = ap (λ j. slice_index (slice_set raw_entries i w) j) e ∙ get_or-set_same raw_entries i w 0 (subst (λ j. j < length raw_entries) e there) in
          subst P (sym same) new
      | inr ne ↦ subst P (sym (get_or-set_other raw_entries i k w 0 ne)) (old k there)
    ]

-- One entry is changed.
pub entered : (kind : Kind) (layout : Layout) (raw_entries : List ℕ) (i w : ℕ) (a b : Option ℕ) (m n : Bool) → IsTable kind (record { layout = layout; raw_entries = raw_entries; cluster = a; modified = m }) → IsTrue (raw_entry_valid kind layout w) → w < 2 ^ 64 → IsTable kind (record { layout = layout; raw_entries = slice_set raw_entries i w; cluster = b; modified = n })
entered kind layout raw_entries i w a b m n is sound fits = record {
  low = is.low;
  high = is.high;
  long = subst (IsLength kind layout) (sym (length-set raw_entries i w)) is.long;
  sound = each_set (λ x. IsTrue (raw_entry_valid kind layout x)) raw_entries i w is.sound sound;
  fit = each_set (λ x. x < 2 ^ 64) raw_entries i w is.fit fits;
}

-- The entry 0 is valid in each kind of table.
pub zero_sound : (kind : Kind) (layout : Layout) → IsTrue (raw_entry_valid kind layout 0)
zero_sound l1_table_kind layout = zero-l1-word layout.cluster_bits
zero_sound l2_table_kind layout = rw (zero-word layout) refl
zero_sound refcount_table_kind layout = zero-l1-word layout.cluster_bits

pub padded_long : (raw_entries : List ℕ) (n : ℕ) → length raw_entries ≤ n → length (padded raw_entries n) ≡ n
padded_long raw_entries n few = length-append raw_entries (replicate (n - length raw_entries) 0) ∙ omega (arith, length-replicate {A = ℕ} (n - length raw_entries) 0, few)

pub zeroes_at : (m j : ℕ) → slice_index (replicate m 0) j ≡ 0
zeroes_at zero j = refl
zeroes_at (suc m) zero = refl
zeroes_at (suc m) (suc j) = zeroes_at m j

-- Past its end a list reads as 0.
pub past_end : (xs : List ℕ) (j : ℕ) → length xs ≤ j → slice_index xs j ≡ 0
past_end [] j ge = refl
past_end (x ∷ xs) zero ge = absurd (omega (arith, ge))
past_end (x ∷ xs) (suc j) ge = past_end xs j (omega (arith, ge))

pub padded_at : (raw_entries : List ℕ) (n k : ℕ) → slice_index (padded raw_entries n) k ≡ slice_index raw_entries k
padded_at raw_entries n k = elim (cases_lt k (length raw_entries)) [
  | inl lt ↦ get_or-append raw_entries (replicate (n - length raw_entries) 0) 0 k lt
  | inr ge ↦ get_or-append_right raw_entries (replicate (n - length raw_entries) 0) (length raw_entries) k 0 refl ge ∙ (zeroes_at (n - length raw_entries) (k - length raw_entries) ∙ sym (past_end raw_entries k ge))
]

pub each_padded : (P : ℕ → Type 0) (raw_entries : List ℕ) (n : ℕ) → EachWord P raw_entries → P 0 → EachWord P (padded raw_entries n)
each_padded P raw_entries n old none k inside = subst P (sym (padded_at raw_entries n k)) (elim (cases_lt k (length raw_entries)) [
  | inl lt ↦ old k lt
  | inr ge ↦ subst P (sym (past_end raw_entries k ge)) none
])

pub padded_sound : (kind : Kind) (layout : Layout) (raw_entries : List ℕ) (n : ℕ) → AreSound kind layout raw_entries → AreSound kind layout (padded raw_entries n)
padded_sound kind layout raw_entries n old = each_padded (λ x. IsTrue (raw_entry_valid kind layout x)) raw_entries n old (zero_sound kind layout)

pub padded_fit : (raw_entries : List ℕ) (n : ℕ) → AreFit raw_entries → AreFit (padded raw_entries n)
padded_fit raw_entries n old = each_padded (λ x. x < 2 ^ 64) raw_entries n old (lit< tt)

pub each_append : (P : ℕ → Type 0) (raw_entries behind : List ℕ) → EachWord P raw_entries → EachWord P behind → EachWord P (raw_entries ++ behind)
each_append P raw_entries behind first second i inside =
    let all : i < length raw_entries + length behind = omega (arith, length-append raw_entries behind, inside) in
    elim (cases_lt i (length raw_entries)) [
      | inl lt ↦ subst P (sym (get_or-append raw_entries behind 0 i lt)) (first i lt)
      | inr ge ↦ subst P (sym (get_or-append_right raw_entries behind (length raw_entries) i 0 refl ge)) (second (i - length raw_entries) (omega (arith, all, ge)))
    ]

pub each_mapped : (P : ℕ → Type 0) (f : ℕ → ℕ) (raw_entries : List ℕ) → ((w : ℕ) → P w → P (f w)) → EachWord P raw_entries → EachWord P (map f raw_entries)
each_mapped P f raw_entries keeps old i inside =
    let there : i < length raw_entries = omega (arith, length-map raw_entries f, inside) in
    subst P (sym (get_or-map f raw_entries i 0 0 there)) (keeps (slice_index raw_entries i) (old i there))

pub each_zero : (P : ℕ → Type 0) (n : ℕ) → P 0 → EachWord P (replicate n 0)
each_zero P n none k inside = subst P (sym (zeroes_at n k)) none

-- The first `n` entries, with 0 past the end.
pub copied_words : (raw_entries : List ℕ) (n : ℕ) → length raw_entries ≤ n → map (λ i. slice_index raw_entries i) (range_with_len 0 n) ≡ padded raw_entries n
copied_words raw_entries n few =
    let long : length (map (λ i. slice_index raw_entries i) (range_with_len 0 n)) ≡ n = length-map-range_with_len (λ i. slice_index raw_entries i) 0 n in
    same_number_lists (map (λ i. slice_index raw_entries i) (range_with_len 0 n)) (padded raw_entries n) (long ∙ sym (padded_long raw_entries n few))
    (λ k inside. get_or-map-range_with_len (λ i. slice_index raw_entries i) 0 n k k 0 (omega (arith, long, inside)) (omega arith) ∙ sym (padded_at raw_entries n k))

pub one_word_more : (raw_entries : List ℕ) (n : ℕ) → map (λ i. slice_index raw_entries i) (range_with_len 0 (n + 1)) ≡ map (λ i. slice_index raw_entries i) (range_with_len 0 n) ++ slice_index raw_entries n ∷ []
one_word_more raw_entries n = map-range_with_len_more (λ i. slice_index raw_entries i) 0 n n (omega arith)

-- The offset of a cluster is a multiple of 512, and valid.
module _ (bits c : ℕ) (low : 9 ≤ bits) (near : c * 2 ^ bits ≤ max_offset) where
  pub cluster_sectors : c * 2 ^ bits % 512 ≡ 0
  cluster_sectors =
      let split : bits ≡ bits - 9 + 9 = omega arith in
      let power : 2 ^ bits ≡ 2 ^ (bits - 9) * 2 ^ 9 = ap (λ n. 2 ^ n) split ∙ pow-add 2 (bits - 9) 9 in
      let flat : c * 2 ^ bits ≡ c * 2 ^ (bits - 9) * 512 = ap (λ x. c * x) power ∙ omega arith in
      omega arith

  pub cluster_place : is_cluster_offset bits (c * 2 ^ bits) ≡ true
  cluster_place =
      let begin : c * 2 ^ bits % 2 ^ bits ≡ 0 = mul-mod_left c (2 ^ bits) in
      let below : nat_le (c * 2 ^ bits) max_offset ≡ true = grind (arith, nat_tests) in
      rw (begin, below) refl

-- The offsets in the entries of an L2 table and a refcount block.
pub table_named : (bits c : ℕ) → 9 ≤ bits → c * 2 ^ bits ≤ max_offset → table_offset (2 ^ 63 + c * 2 ^ bits) ≡ c * 2 ^ bits
table_named bits c low near = let whole : c * 2 ^ bits % 512 ≡ 0 = cluster_sectors bits c low near in omega arith

pub block_named : (bits c : ℕ) → 9 ≤ bits → c * 2 ^ bits ≤ max_offset → block_offset (c * 2 ^ bits) ≡ c * 2 ^ bits
block_named bits c low near = let whole : c * 2 ^ bits % 512 ≡ 0 = cluster_sectors bits c low near in omega arith

-- The entry that references the L2 table in a cluster is valid.
pub l1_word_named : (bits : ℕ) (cluster : Option ℕ) → 9 ≤ bits → IsPlaced bits cluster → IsTrue (l1_entry_valid bits (2 ^ 63 + place_of bits cluster))
l1_word_named bits None low placed = absurd placed
l1_word_named bits (Some c) low placed = fresh-l1-word bits c low placed

-- The entry that references the refcount block in a cluster is valid.
pub block_word_named : (bits : ℕ) (cluster : Option ℕ) → 9 ≤ bits → IsPlaced bits cluster → IsTrue (reftable_entry_valid bits (place_of bits cluster))
block_word_named bits None low placed = absurd placed
block_word_named bits (Some c) low placed =
    let whole : c * 2 ^ bits % 512 ≡ 0 = cluster_sectors bits c low placed in
    let near : c * 2 ^ bits ≤ max_offset = placed in
    let clear : c * 2 ^ bits / 2 ^ 0 % 2 ^ 9 ≡ 0 = omega arith in
    let same : block_offset (c * 2 ^ bits) ≡ c * 2 ^ bits = omega arith in
    rw (clear, same) (cluster_place bits c low placed)
