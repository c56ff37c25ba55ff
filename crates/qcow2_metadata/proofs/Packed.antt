-- Refcounts in the bytes of a cluster: the program's cells have the format's refcounts.
use Rattle.std.proofs.Common.{◌≡◌, ℕ, zero, suc, ◌+◌, ◌-◌, ◌*◌, ◌/◌, ◌%◌, ◌^◌, ◌<◌, ◌≤◌, ◌∙◌, refl, arith, ap, sym, List, ◌++◌, ◌∷◌, [], length, get_or, take, drop}
use Rattle.std.specs.Prelude.{Bool, true, false, cond, nat_le, replicate}
use Rattle.std.proofs.Math.Nat.{mod-eq_of_lt, mod-one, zero-mul, div-eq_of_lt}
use Rattle.std.proofs.Math.Seq.{take-add}
use Rattle.std.proofs.lemmas.Nat.{div-mul-add, pow_pos, pow-add}
use Rattle.std.proofs.lemmas.List.{get_or-drop, length-drop, same_lists, get_or-replicate, length-replicate}
use Rattle.std.proofs.lemmas.List.FromFn.{length-map-range_with_len, get_or-map-range_with_len}
use Rattle.std.proofs.lemmas.Int.Digits.{number_push}
use Rattle.qcow2_types.specs.TableBytes.{Packs}
use Rattle.qcow2_types.specs.Bytes.{Bytes, bytes_of, be}
use Rattle.qcow2_types.specs.Header.{Fields, Shaped, cluster_size}
use Rattle.qcow2_types.specs.Counts.{counter_of, wide_counter, narrow_counter, counters_of_block}
use Rattle.qcow2_types.specs.Counts.{counter as counter_in}
use Rattle.qcow2_types.proofs.Counting.Counters.{counter-moved}
use Rattle.qcow2_types.proofs.Numbers.Digits.{be-below}
use Rattle.imago_storage.specs.Calls.{Reads}
use Rattle.qcow2_metadata.specs.Cells.{big_endian, cell_bytes, cell_counters, counter, counter_count, counters_of, HasCounter}
use Rattle.qcow2_metadata.specs.Blocks.{counters_in}
use Rattle.qcow2_metadata.proofs.Blocks.{counters_at, counters_length, has_counter}
use Rattle.qcow2_metadata.proofs.Widths.{cell_filled, place_ends}

-- The first `n + 1` elements from an index on.
take-one-more : (xs : List ℕ) (at n : ℕ) → at + n < length xs → take (suc n) (drop at xs) ≡ take n (drop at xs) ++ get_or xs (at + n) 0 ∷ []
take-one-more xs at n inside =
    let e : suc n ≡ n + 1 = omega arith in
    ap (λ k. take k (drop at xs)) e
    ∙ take-add n 1 (drop at xs)
    ∙ ap (λ l. take n (drop at xs) ++ l) (take-first (drop n (drop at xs)) (omega (arith, length-drop at xs, length-drop n (drop at xs))) ∙ ap (λ x. x ∷ []) (first-dropped (drop at xs) n ∙ get_or-drop at xs n 0))
  where
    take-first : (ys : List ℕ) → 0 < length ys → take 1 ys ≡ get_or ys 0 0 ∷ []
    take-first [] some = absurd (omega arith)
    take-first (y ∷ ys) some = refl

    first-dropped : (ys : List ℕ) (k : ℕ) → get_or (drop k ys) 0 0 ≡ get_or ys k 0
    first-dropped ys k = let e : k + 0 ≡ k = omega arith in get_or-drop k ys 0 0 ∙ ap (λ j. get_or ys j 0) e

-- The big-endian number of some bytes, read by index.
number-be : (xs : List ℕ) (at n : ℕ) → at + n ≤ length xs → big_endian (take n (drop at xs)) ≡ be (bytes_of xs) at n
unfolding be
number-be xs at zero inside = refl
number-be xs at (suc n) inside =
    let before : big_endian (take n (drop at xs)) ≡ be (bytes_of xs) at n = number-be xs at n (omega arith) in
    ap big_endian (take-one-more xs at n (omega arith)) ∙ number_push 256 (take n (drop at xs)) (get_or xs (at + n) 0) ∙ ap (λ m. m * 256 + get_or xs (at + n) 0) before

-- A refcount of whole bytes.
wide-cell : (o n i : ℕ) (bytes : List ℕ) → cell_counters o ≡ 1 → cell_bytes o ≡ n → 2 ^ o / 8 ≡ n → 256 ^ n ≡ 2 ^ (2 ^ o) → ((k : ℕ) → get_or bytes k 0 < 256) → i * n + n ≤ length bytes → counter o bytes i ≡ wide_counter (bytes_of bytes) (2 ^ o) 0 i
wide-cell o n i bytes one size width power fits inside =
    let row : i / 1 ≡ i = omega arith in
    let none : i % 1 * 2 ^ o ≡ 0 = ap (λ k. k * 2 ^ o) (mod-one i) ∙ zero-mul (2 ^ o) in
    let x : ℕ = be (bytes_of bytes) (i * n) n in
    let read : big_endian (take n (drop (i * n) bytes)) ≡ be (bytes_of bytes) (i * n) n = number-be bytes (i * n) n inside in
    let small : be (bytes_of bytes) (i * n) n < 2 ^ (2 ^ o) = let low : be (bytes_of bytes) (i * n) n < 256 ^ n = be-below (bytes_of bytes) fits (i * n) n in omega arith in
    let over : be (bytes_of bytes) (i * n) n / 1 ≡ be (bytes_of bytes) (i * n) n = omega arith in
    let start : 0 + i * n ≡ i * n = omega arith in
    ap (λ m. big_endian (take (cell_bytes o) (drop (i / m * cell_bytes o) bytes)) / 2 ^ (i % m * 2 ^ o) % 2 ^ (2 ^ o)) one
    ∙ (ap (λ b. big_endian (take b (drop (i / 1 * b) bytes)) / 2 ^ (i % 1 * 2 ^ o) % 2 ^ (2 ^ o)) size
    ∙ (ap (λ r. big_endian (take n (drop (r * n) bytes)) / 2 ^ (i % 1 * 2 ^ o) % 2 ^ (2 ^ o)) row
    ∙ (ap (λ s. big_endian (take n (drop (i * n) bytes)) / 2 ^ s % 2 ^ (2 ^ o)) none
    ∙ (ap (λ y. y / 1 % 2 ^ (2 ^ o)) read ∙ (ap (λ y. y % 2 ^ (2 ^ o)) over
    ∙ (mod-eq_of_lt small ∙ (ap (λ a. be (bytes_of bytes) a n) (sym start) ∙ ap (λ m. be (bytes_of bytes) (0 + i * m) m) (sym width))))))))

-- A refcount of two bytes.
pub pair-counter : (i : ℕ) (bytes : List ℕ) → ((k : ℕ) → get_or bytes k 0 < 256) → HasCounter 4 bytes i → counter 4 bytes i ≡ get_or bytes (2 * i) 0 * 256 + get_or bytes (2 * i + 1) 0
unfolding be
pair-counter i bytes fits has =
    let high : get_or bytes (0 + i * 2 + 0) 0 ≡ get_or bytes (2 * i) 0 = let e : 0 + i * 2 + 0 ≡ 2 * i = omega arith in ap (λ k. get_or bytes k 0) e in
    let low : get_or bytes (0 + i * 2 + 1) 0 ≡ get_or bytes (2 * i + 1) 0 = let e : 0 + i * 2 + 1 ≡ 2 * i + 1 = omega arith in ap (λ k. get_or bytes k 0) e in
    let two : be (bytes_of bytes) (0 + i * 2) 2 ≡ get_or bytes (2 * i) 0 * 256 + get_or bytes (2 * i + 1) 0 = omega (arith, high, low) in
    wide-cell 4 2 i bytes refl refl refl refl fits (omega arith) ∙ two

one-byte : (f : Bytes) (at : ℕ) → be f at 1 ≡ f at
unfolding be
one-byte f at = let same : at + 0 ≡ at = omega arith in let here : f (at + 0) ≡ f at = ap f same in omega arith

-- A refcount that shares its byte.
narrow-cell : (o i : ℕ) (bytes : List ℕ) → cell_bytes o ≡ 1 → i / cell_counters o ≡ i * 2 ^ o / 8 → i % cell_counters o * 2 ^ o ≡ i * 2 ^ o % 8 → i * 2 ^ o / 8 < length bytes → counter o bytes i ≡ narrow_counter (bytes_of bytes) (2 ^ o) 0 i
narrow-cell o i bytes size row bit inside =
    let read : big_endian (take 1 (drop (i * 2 ^ o / 8 * 1) bytes)) ≡ be (bytes_of bytes) (i * 2 ^ o / 8 * 1) 1 = number-be bytes (i * 2 ^ o / 8 * 1) 1 (omega arith) in
    let at : i * 2 ^ o / 8 * 1 ≡ 0 + i * 2 ^ o / 8 = omega arith in
    ap (λ b. big_endian (take b (drop (i / cell_counters o * b) bytes)) / 2 ^ (i % cell_counters o * 2 ^ o) % 2 ^ (2 ^ o)) size
    ∙ (ap (λ r. big_endian (take 1 (drop (r * 1) bytes)) / 2 ^ (i % cell_counters o * 2 ^ o) % 2 ^ (2 ^ o)) row
    ∙ (ap (λ s. big_endian (take 1 (drop (i * 2 ^ o / 8 * 1) bytes)) / 2 ^ s % 2 ^ (2 ^ o)) bit
    ∙ ap (λ y. y / 2 ^ (i * 2 ^ o % 8) % 2 ^ (2 ^ o)) (read ∙ (one-byte (bytes_of bytes) (i * 2 ^ o / 8 * 1) ∙ ap (bytes_of bytes) at))))

-- The program's refcount is the format's.
pub cell-counter : (o i : ℕ) (bytes : List ℕ) → o ≤ 6 → ((k : ℕ) → get_or bytes k 0 < 256) → HasCounter o bytes i → counter o bytes i ≡ counter_of (bytes_of bytes) (2 ^ o) 0 i
cell-counter zero i bytes most fits has = narrow-cell 0 i bytes refl (omega arith) (omega arith) (omega arith)
cell-counter (suc zero) i bytes most fits has = narrow-cell 1 i bytes refl (omega arith) (omega arith) (omega arith)
cell-counter (suc (suc zero)) i bytes most fits has = narrow-cell 2 i bytes refl (omega arith) (omega arith) (omega arith)
cell-counter (suc (suc (suc zero))) i bytes most fits has = wide-cell 3 1 i bytes refl refl refl refl fits (omega arith)
cell-counter (suc (suc (suc (suc zero)))) i bytes most fits has = wide-cell 4 2 i bytes refl refl refl refl fits (omega arith)
cell-counter (suc (suc (suc (suc (suc zero))))) i bytes most fits has = wide-cell 5 4 i bytes refl refl refl refl fits (omega arith)
cell-counter (suc (suc (suc (suc (suc (suc zero)))))) i bytes most fits has = wide-cell 6 8 i bytes refl refl refl refl fits (omega arith)
cell-counter (suc (suc (suc (suc (suc (suc (suc n))))))) i bytes most fits has = absurd (omega (arith, most))

-- The number of refcounts in the bytes of a block.
cells-fill : (o b n : ℕ) → o ≤ 6 → 9 ≤ b → n ≡ 2 ^ b → n / cell_bytes o * cell_counters o * 2 ^ o ≡ n * 8
cells-fill o b n most low is =
    let filled : cell_counters o * 2 ^ o ≡ 8 * cell_bytes o = cell_filled o most in
    let rest : o - 3 + (b - (o - 3)) ≡ b = omega arith in
    let product : n ≡ 2 ^ (o - 3) * 2 ^ (b - (o - 3)) = is ∙ (ap (λ k. 2 ^ k) (sym rest) ∙ pow-add 2 (o - 3) (b - (o - 3))) in
    let flat : n ≡ 2 ^ (b - (o - 3)) * cell_bytes o + 0 = omega arith in
    let quotient : n / cell_bytes o ≡ 2 ^ (b - (o - 3)) = ap (λ k. k / cell_bytes o) flat ∙ div-mul-add (2 ^ (b - (o - 3))) (cell_bytes o) 0 (pow_pos (o - 3)) in
    let group : n / cell_bytes o * cell_counters o * 2 ^ o ≡ n / cell_bytes o * (cell_counters o * 2 ^ o) = omega arith in
    group ∙ (ap (λ k. n / cell_bytes o * k) filled ∙ (ap (λ q. q * (8 * cell_bytes o)) quotient ∙ omega (arith, flat)))

-- It is the number of refcounts in a block of the header.
pub count-of-cells : (o b n : ℕ) → o ≤ 6 → 9 ≤ b → n ≡ 2 ^ b → n / cell_bytes o * cell_counters o ≡ 2 ^ b * 8 / 2 ^ o
count-of-cells o b n most low is =
    let filled : n / cell_bytes o * cell_counters o * 2 ^ o ≡ n * 8 = cells-fill o b n most low is in
    let flat : 2 ^ b * 8 ≡ n / cell_bytes o * cell_counters o * 2 ^ o + 0 = omega arith in
    sym (ap (λ k. k / 2 ^ o) flat ∙ div-mul-add (n / cell_bytes o * cell_counters o) (2 ^ o) 0 (pow_pos o))

-- The refcounts fill the block.
pub whole-counters : (o b : ℕ) → o ≤ 6 → 9 ≤ b → 2 ^ b * 8 / 2 ^ o * 2 ^ o ≡ 2 ^ b * 8
whole-counters o b most low =
    let n : ℕ = 2 ^ b in
    ap (λ k. k * 2 ^ o) (sym (count-of-cells o b (2 ^ b) most low refl)) ∙ cells-fill o b (2 ^ b) most low refl

-- The bytes of a block encode its refcounts.
pub block-packs : (o b : ℕ) (bytes : List ℕ) → o ≤ 6 → 9 ≤ b → length bytes ≡ 2 ^ b → ((k : ℕ) → get_or bytes k 0 < 256) → Packs o (counters_of o bytes) bytes
block-packs o b bytes most low long fits = record {
  size = sym (ap (λ k. k * 2 ^ o) (counters_length o bytes) ∙ cells-fill o b (length bytes) most low long);
  fit = fits;
  each = λ i lt.
      let inside : i < counter_count o bytes = omega (arith, counters_length o bytes) in
      sym (counters_at o i 0 bytes inside ∙ cell-counter o i bytes most fits (has_counter o i bytes inside));
}

-- The refcounts in bytes that were read are those of the file.
pub counters-read : (file bytes : List ℕ) (h : Fields) (place : ℕ) → Shaped h → length bytes ≡ cluster_size h → ((k : ℕ) → get_or bytes k 0 < 256) → Reads file place bytes → counters_of h.refcount_order bytes ≡ counters_in (bytes_of file) h place
unfolding counter_in
counters-read file bytes h place shaped long fits reads =
    let many : counter_count h.refcount_order bytes ≡ counters_of_block h = count-of-cells h.refcount_order h.cluster_bits (length bytes) shaped.order shaped.low long in
    same_lists (counters_of h.refcount_order bytes) (counters_in (bytes_of file) h place) (counters_length h.refcount_order bytes ∙ (many ∙ sym (length-map-range_with_len (counter_in (bytes_of file) h place) 0 (counters_of_block h)))) (λ k d lt.
    let inside : k < counter_count h.refcount_order bytes = omega (arith, counters_length h.refcount_order bytes) in
    let inside' : k < counters_of_block h = omega arith in
    let place' : 0 + k ≡ k = omega arith in
    let room : k * 2 ^ h.refcount_order + 2 ^ h.refcount_order ≤ length bytes * 8 = room-of k inside in
    counters_at h.refcount_order k d bytes inside
    ∙ (cell-counter h.refcount_order k bytes shaped.order fits (has_counter h.refcount_order k bytes inside)
    ∙ (counter-moved (bytes_of file) (bytes_of bytes) h.refcount_order place 0 (length bytes) k room (λ j less. let zeroth : 0 + j ≡ j = omega arith in ap (bytes_of bytes) zeroth ∙ reads j less)
    ∙ sym (get_or-map-range_with_len (counter_in (bytes_of file) h place) 0 (counters_of_block h) k k d inside' (omega arith)))))
  where
    room-of : (k : ℕ) → k < counter_count h.refcount_order bytes → k * 2 ^ h.refcount_order + 2 ^ h.refcount_order ≤ length bytes * 8
    room-of k lt =
        let filled : length bytes / cell_bytes h.refcount_order * cell_counters h.refcount_order * 2 ^ h.refcount_order ≡ length bytes * 8 = cells-fill h.refcount_order h.cluster_bits (length bytes) shaped.order shaped.low long in
        let row : k * 2 ^ h.refcount_order + 2 ^ h.refcount_order ≤ counter_count h.refcount_order bytes * 2 ^ h.refcount_order = place_ends k (counter_count h.refcount_order bytes) (2 ^ h.refcount_order) lt in
        omega arith

be-zero : (f : Bytes) (at n : ℕ) → ((k : ℕ) → f k ≡ 0) → be f at n ≡ 0
unfolding be
be-zero f at zero none = refl
be-zero f at (suc n) none =
    let before : be f at n ≡ 0 = be-zero f at n none in
    let here : f (at + n) ≡ 0 = none (at + n) in
    omega arith

-- Bytes of 0 have refcounts of 0.
zero-counter : (f : Bytes) (width i : ℕ) → ((k : ℕ) → f k ≡ 0) → counter_of f width 0 i ≡ 0
zero-counter f width i none = either (nat_le 8 width)
  where
    zero-part : (x y : ℕ) → x ≡ 0 → 0 < y → x / y ≡ 0
    zero-part x y is some = div-eq_of_lt (omega arith)

    either : (t : Bool) → cond t (wide_counter f width 0 i) (narrow_counter f width 0 i) ≡ 0
    either true = be-zero f (0 + i * (width / 8)) (width / 8) none
    either false =
        let byte : f (0 + i * width / 8) ≡ 0 = none (0 + i * width / 8) in
        let quotient : f (0 + i * width / 8) / 2 ^ (i * width % 8) ≡ 0 = zero-part (f (0 + i * width / 8)) (2 ^ (i * width % 8)) byte (pow_pos (i * width % 8)) in
        ap (λ q. q % 2 ^ width) quotient ∙ mod-eq_of_lt (pow_pos width)

pub zero-counters : (o b : ℕ) (bytes : List ℕ) → o ≤ 6 → 9 ≤ b → length bytes ≡ 2 ^ b → ((k : ℕ) → get_or bytes k 0 ≡ 0) → counters_of o bytes ≡ replicate (2 ^ b * 8 / 2 ^ o) 0
zero-counters o b bytes most low long none =
    let many : counter_count o bytes ≡ 2 ^ b * 8 / 2 ^ o = count-of-cells o b (length bytes) most low long in
    let fits : (k : ℕ) → get_or bytes k 0 < 256 = λ k. let e : get_or bytes k 0 ≡ 0 = none k in omega arith in
    same_lists (counters_of o bytes) (replicate (2 ^ b * 8 / 2 ^ o) 0) (counters_length o bytes ∙ (many ∙ sym (length-replicate (2 ^ b * 8 / 2 ^ o) 0))) (λ k d lt.
    let inside : k < counter_count o bytes = omega (arith, counters_length o bytes) in
    counters_at o k d bytes inside
    ∙ (cell-counter o k bytes most fits (has_counter o k bytes inside)
    ∙ (zero-counter (bytes_of bytes) (2 ^ o) k none ∙ sym (get_or-replicate (2 ^ b * 8 / 2 ^ o) k 0 d (omega arith)))))
