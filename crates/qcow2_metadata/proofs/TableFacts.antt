-- Tables: their lengths, their offsets, and their bytes.
use Rattle.std.proofs.Common.{◌≡◌, refl, ℕ, zero, suc, ◌+◌, ◌-◌, ◌*◌, ◌/◌, ◌%◌, ◌^◌, ◌<◌, ◌≤◌, ◌∙◌, ap, sym, subst, arith, List, [], ◌∷◌, ◌++◌, length}
use Rattle.std.specs.Prelude.{IsTrue, Some, None, Option}
use Rattle.std.specs.Int.{to_be_bytes, w64}
use Rattle.std.proofs.Math.Nat.{pow-le-pow_right}
use Rattle.std.proofs.lemmas.List.{length-append}
use Rattle.std.proofs.lemmas.Nat.{mod-mul-add, pow-add}
use Rattle.qcow2_types.specs.Header.{Fields, Shaped, layout_of}
use Rattle.qcow2_types.specs.Words.{Layout}
use Rattle.std.specs.Prelude.{slice_index, Bool, true, false, Result, Ok, Err, IfOk}
use Rattle.std.proofs.lemmas.List.FromFn.{map-range_with_len_more, get_or-map-range_with_len, length-map-range_with_len}
use Rattle.std.proofs.lemmas.Bool.{cases_lt}
use Rattle.std.proofs.Common.{inl, inr}
use Rattle.imago_storage.specs.Calls.{Reads}
use Rattle.imago_storage.specs.declared.fault.Fault.{Fault}
use Rattle.imago_storage.specs.declared.fault.Fault.TheVariants.{Memory, DamagedTable}
use Rattle.qcow2_types.specs.Bytes.{Bytes, bytes_of, be, raw_entry}
use Rattle.qcow2_types.proofs.Numbers.Splices.{be-same}
use Rattle.qcow2_metadata.specs.Tables.{raw_entries_in, AreSound, HasUnsound, WhyNotDecoded, WhyNotLoaded, raw_entry_valid}
use Rattle.qcow2_metadata.specs.Places.{IsPlaced, place_of}
use Rattle.qcow2_metadata.proofs.TableSteps.{EachWord}
use Rattle.qcow2_metadata.specs.Tables.{Kind, l1_table_kind, l2_table_kind, refcount_table_kind, TableValue, IsTable, IsLength, IsAsked, IsPlacedTable, table_start, max_entries}
use Rattle.qcow2_types.specs.TableBytes.{table_bytes}

-- No table has more entries than the largest L1 table.
pub few_by_kind : (kind : Kind) (layout : Layout) (n : ℕ) → layout.cluster_bits ≤ 21 → IsLength kind layout n → n ≤ 2 ^ 22
few_by_kind l1_table_kind layout n high long = long
few_by_kind refcount_table_kind layout n high long = let most : n ≤ 2 ^ 20 = long in omega arith
few_by_kind l2_table_kind layout n high long =
    let most : 2 ^ layout.cluster_bits ≤ 2 ^ 21 = pow-le-pow_right (omega arith) high in
    let is : n * 8 ≡ 2 ^ layout.cluster_bits = long in
    omega arith

pub few_words : (kind : Kind) (table : TableValue) → IsTable kind table → length table.raw_entries ≤ 2 ^ 22
few_words kind table is = few_by_kind kind table.layout (length table.raw_entries) is.high is.long

-- The requested number of entries is allowed.
pub asked_is_length : (kind : Kind) (h : Fields) (n : ℕ) → Shaped h → n ≤ max_entries kind → IsAsked kind h n → IsLength kind (layout_of h) n
asked_is_length l1_table_kind h n shaped most asked = most
asked_is_length refcount_table_kind h n shaped most asked = most
asked_is_length l2_table_kind h n shaped most asked =
    let split : h.cluster_bits ≡ h.cluster_bits - 3 + 3 = let low : 9 ≤ h.cluster_bits = shaped.low in omega arith in
    let power : 2 ^ h.cluster_bits ≡ 2 ^ (h.cluster_bits - 3) * 8 = ap (λ b. 2 ^ b) split ∙ pow-add 2 (h.cluster_bits - 3) 3 in
    let is : n ≡ 2 ^ h.cluster_bits / 8 = asked in
    omega (arith, power, is)

pub bytes_long : (raw_entries : List ℕ) → length (table_bytes raw_entries) ≡ 8 * length raw_entries
bytes_long [] = refl
bytes_long (w ∷ ws) =
    let own : length (to_be_bytes w64 w) ≡ 8 = refl in
    length-append (to_be_bytes w64 w) (table_bytes ws) ∙ omega (arith, own, bytes_long ws)

-- A table ends far below 2^64.
pub table_below : (table : TableValue) (kind : Kind) → IsTable kind table → IsPlacedTable table → table_start table + 8 * length table.raw_entries ≤ 2 ^ 63
table_below table kind is placed = below table.cluster placed
  where
    below : (cluster : Option ℕ) → IsPlaced table.layout.cluster_bits cluster → place_of table.layout.cluster_bits cluster + 8 * length table.raw_entries ≤ 2 ^ 63
    below None p = absurd p
    below (Some c) p =
        let reach : c * 2 ^ table.layout.cluster_bits ≤ 0x00ff_ffff_ffff_fe00 = p in
        let few : length table.raw_entries ≤ 2 ^ 22 = few_words kind table is in
        omega (arith, reach, few)

-- The offset of an entry is a multiple of 8.
pub word_whole : (bits cluster index : ℕ) → 9 ≤ bits → (cluster * 2 ^ bits + 8 * index) % 8 ≡ 0
word_whole bits cluster index low =
    let split : bits ≡ bits - 3 + 3 = omega arith in
    let power : 2 ^ bits ≡ 2 ^ (bits - 3) * 8 = ap (λ b. 2 ^ b) split ∙ pow-add 2 (bits - 3) 3 in
    let flat : cluster * 2 ^ bits + 8 * index ≡ (cluster * 2 ^ (bits - 3) + index) * 8 + 0 = ap (λ p. cluster * p + 8 * index) power ∙ omega arith in
    ap (λ n. n % 8) flat ∙ mod-mul-add (cluster * 2 ^ (bits - 3) + index) 8 0 (omega arith)

pub table_word_whole : (table : TableValue) (index : ℕ) → 9 ≤ table.layout.cluster_bits → IsPlacedTable table → (table_start table + 8 * index) % 2 ^ 3 ≡ 0
table_word_whole table index low placed = whole table.cluster placed
  where
    whole : (cluster : Option ℕ) → IsPlaced table.layout.cluster_bits cluster → (place_of table.layout.cluster_bits cluster + 8 * index) % 2 ^ 3 ≡ 0
    whole None p = absurd p
    whole (Some c) p = word_whole table.layout.cluster_bits c index low

pub words_long : (f : Bytes) (p n : ℕ) → length (raw_entries_in f p n) ≡ n
words_long f p n = length-map-range_with_len (raw_entry f p) 0 n

pub words_at : (f : Bytes) (p n i : ℕ) → i < n → slice_index (raw_entries_in f p n) i ≡ raw_entry f p i
words_at f p n i inside = get_or-map-range_with_len (raw_entry f p) 0 n i i 0 inside (omega arith)

pub words_more : (f : Bytes) (p n : ℕ) → raw_entries_in f p (n + 1) ≡ raw_entries_in f p n ++ raw_entry f p n ∷ []
words_more f p n = map-range_with_len_more (raw_entry f p) 0 n n (omega arith)

pub word_of_bytes : (f : Bytes) (i : ℕ) → raw_entry f 0 i ≡ be f (8 * i) 8
unfolding raw_entry
word_of_bytes f i = let at : 0 + 8 * i ≡ 8 * i = omega arith in ap (λ p. be f p 8) at

pub word_in_bytes : (f : Bytes) (n i : ℕ) → i < n → slice_index (raw_entries_in f 0 n) i ≡ be f (8 * i) 8
word_in_bytes f n i inside = words_at f 0 n i inside ∙ word_of_bytes f i

-- Equal entries at different offsets give equal lists.
pub words_same : (f g : Bytes) (p q n : ℕ) → ((i : ℕ) → i < n → raw_entry f p i ≡ raw_entry g q i) → raw_entries_in f p n ≡ raw_entries_in g q n
words_same f g p q zero same = refl
words_same f g p q (suc n) same =
    let next : suc n ≡ n + 1 = omega arith in
    let front : raw_entries_in f p n ≡ raw_entries_in g q n = words_same f g p q n (λ i lt. same i (omega arith)) in
    let own : raw_entry f p n ≡ raw_entry g q n = same n (omega arith) in
    let fs : raw_entries_in f p (n + 1) ≡ raw_entries_in f p n ++ raw_entry f p n ∷ [] = words_more f p n in
    let gs : raw_entries_in g q (n + 1) ≡ raw_entries_in g q n ++ raw_entry g q n ∷ [] = words_more g q n in
    ap (λ k. raw_entries_in f p k) next ∙ (fs ∙ (cc (front, own)) ∙ sym gs) ∙ ap (λ k. raw_entries_in g q k) (sym next)

-- The entries in bytes that were read.
words_read : (file bytes : List ℕ) (place n : ℕ) → Reads file place bytes → length bytes ≡ n * 8 → raw_entries_in (bytes_of bytes) 0 (length bytes / 8) ≡ raw_entries_in (bytes_of file) place n
unfolding raw_entry
words_read file bytes place n reads long =
    let count : length bytes / 8 ≡ n = omega arith in
    ap (λ k. raw_entries_in (bytes_of bytes) 0 k) count
    ∙ words_same (bytes_of bytes) (bytes_of file) 0 place n (λ i lt. one i lt)
  where
    one : (i : ℕ) → i < n → raw_entry (bytes_of bytes) 0 i ≡ raw_entry (bytes_of file) place i
    one i lt = be-same (bytes_of bytes) (bytes_of file) (0 + 8 * i) (place + 8 * i) 8 (λ k low.
        let at : place + (0 + 8 * i + k) ≡ place + 8 * i + k = omega arith in
        reads (0 + 8 * i + k) (omega arith) ∙ ap (λ p. slice_index file p) at)

-- Like `words_read`, for a read that can fail.
pub words_read_if : {X : Type 0} (items : X → List ℕ) (r : Result X Fault) (file : List ℕ) (place n : ℕ) → IfOk r (λ b. Reads file place (items b)) → IfOk r (λ b. length (items b) ≡ n * 8)
    → IfOk r (λ b. raw_entries_in (bytes_of (items b)) 0 (length (items b) / 8) ≡ raw_entries_in (bytes_of file) place n)
words_read_if items (Ok b) file place n reads long = words_read file (items b) place n reads long
words_read_if items (Err fault) file place n reads long = tt

-- A property of each entry, with one entry more.
pub each_more : (P : ℕ → Type 0) (f : Bytes) (p n : ℕ) → EachWord P (raw_entries_in f p n) → P (raw_entry f p n) → EachWord P (raw_entries_in f p (n + 1))
each_more P f p n before here i inside =
    let small : i < n + 1 = omega (arith, words_long f p (n + 1), inside) in
    elim (cases_lt i n) [
      | inl lt ↦
          let old : i < length (raw_entries_in f p n) = omega (arith, words_long f p n) in
          subst P (words_at f p n i lt ∙ sym (words_at f p (n + 1) i small)) (before i old)
      | inr ge ↦
          let last : n ≡ i = omega arith in
          subst P (ap (λ k. raw_entry f p k) last ∙ sym (words_at f p (n + 1) i small)) here
    ]

pub sound_more : (kind : Kind) (layout : Layout) (f : Bytes) (p n : ℕ) → AreSound kind layout (raw_entries_in f p n) → IsTrue (raw_entry_valid kind layout (raw_entry f p n)) → AreSound kind layout (raw_entries_in f p (n + 1))
sound_more kind layout = each_more (λ w. IsTrue (raw_entry_valid kind layout w))

not_true : (b : Bool) → (IsTrue b → false ≡ true) → b ≡ false
not_true true h = sym (h refl)
not_true false h = refl

-- An entry that is invalid.
pub unsound_at : (kind : Kind) (layout : Layout) (f : Bytes) (p n i : ℕ) → i < n → (IsTrue (raw_entry_valid kind layout (raw_entry f p i)) → false ≡ true) → HasUnsound kind layout (raw_entries_in f p n)
unsound_at kind layout f p n i inside unsound =
    (i, omega (arith, words_long f p n, inside), ap (λ w. raw_entry_valid kind layout w) (words_at f p n i inside) ∙ not_true (raw_entry_valid kind layout (raw_entry f p i)) unsound)

-- The fault of a failed decoding is the fault of the failed load.
pub decoded_loaded : (kind : Kind) (layout : Layout) (raw_entries : List ℕ) (before after : ℕ) (fault : Fault) → after ≡ before → WhyNotDecoded kind layout raw_entries fault → WhyNotLoaded kind layout raw_entries before after fault
decoded_loaded kind layout raw_entries before after Memory same why = same
decoded_loaded kind layout raw_entries before after DamagedTable same why = (why, same)
decoded_loaded kind layout raw_entries before after fault same why = absurd why
