-- The bytes of a block's refcounts, and the refcounts in these bytes.
use Rattle.std.proofs.Common.{◌≡◌, ℕ, zero, suc, ◌+◌, ◌-◌, ◌*◌, ◌/◌, ◌%◌, ◌^◌, ◌<◌, ◌≤◌, refl, arith, ap, sym, ◌∙◌, inl, inr, List, length, get_or}
use Rattle.std.specs.Prelude.{Bool, true, false, cond, nat_le}
use Rattle.std.proofs.lemmas.Bool.{cases_lt}
use Rattle.std.proofs.lemmas.Bool.Decides.{nat_tests}
use Rattle.std.proofs.lemmas.Nat.{div-mul-add, mod-mul-add, mod_below, div_below, pow_pos, div-add-mod'}
use Rattle.std.proofs.lemmas.Grind.{get_or_default_zero}
use Rattle.std.proofs.Math.Nat.{mod-eq_of_lt, pow-suc, mul-le-mul_right, lt_of_mul-lt-mul_right}
use Rattle.std.proofs.lemmas.List.{get_or_past, same_lists}
use Rattle.std.proofs.lemmas.List.FromFn.{length-map-range_with_len, get_or-map-range_with_len}
use Rattle.qcow2_types.specs.Bytes.{bytes_of}
use Rattle.qcow2_types.specs.Counts.{counter_of, wide_counter, narrow_counter}
use Rattle.qcow2_types.specs.TableBytes.{block_bytes, wide_byte, narrow_byte, Packs, ArePackable}
use Rattle.qcow2_types.proofs.Counting.Counters.{whole}
use Rattle.qcow2_types.proofs.Numbers.Digits.{digits-below, digit-found, digits-make, be-of-digits, be-digit, bytes-bits, be-below}
use Rattle.qcow2_types.proofs.Numbers.Sums.{sum-same}

pub bytes-length : (o : ℕ) (counters : List ℕ) → length (block_bytes o counters) ≡ length counters * 2 ^ o / 8
unfolding block_bytes
bytes-length o counters = length-map-range_with_len (λ k. cond (nat_le 8 (2 ^ o)) (wide_byte (2 ^ o) counters k) (narrow_byte (2 ^ o) counters k)) 0 (length counters * 2 ^ o / 8)

pub byte-at : (o : ℕ) (counters : List ℕ) (k d : ℕ) → k < length counters * 2 ^ o / 8
    → get_or (block_bytes o counters) k d ≡ cond (nat_le 8 (2 ^ o)) (wide_byte (2 ^ o) counters k) (narrow_byte (2 ^ o) counters k)
unfolding block_bytes
byte-at o counters k d lt = get_or-map-range_with_len (λ k. cond (nat_le 8 (2 ^ o)) (wide_byte (2 ^ o) counters k) (narrow_byte (2 ^ o) counters k)) 0 (length counters * 2 ^ o / 8) k k d lt (omega arith)

-- the position of a narrow refcount in its byte
record Shares (o : ℕ) : Type 0 where
  fill : 8 / 2 ^ o * 2 ^ o ≡ 8
  byte : (i : ℕ) → i * 2 ^ o / 8 ≡ i / (8 / 2 ^ o)
  bit : (i : ℕ) → i * 2 ^ o % 8 ≡ i % (8 / 2 ^ o) * 2 ^ o

shares : (o : ℕ) → nat_le 8 (2 ^ o) ≡ false → Shares o
shares zero e = record { fill = refl; byte = λ i. omega arith; bit = λ i. omega arith }
shares (suc zero) e = record { fill = refl; byte = λ i. omega arith; bit = λ i. omega arith }
shares (suc (suc zero)) e = record { fill = refl; byte = λ i. omega arith; bit = λ i. omega arith }
shares (suc (suc (suc k))) e =
    let split : 2 ^ suc (suc (suc k)) ≡ 2 ^ k * 2 * 2 * 2 = rw (pow-suc, pow-suc, pow-suc) refl in
    let some : 0 < 2 ^ k = pow_pos k in
    let low : 2 ^ suc (suc (suc k)) < 8 = grind (arith, nat_tests) in
    absurd (omega arith)

-- case analysis on the width
by-width : (o : ℕ) (P : Bool → Type 0) → (8 ≤ 2 ^ o → P true) → (nat_le 8 (2 ^ o) ≡ false → P false) → P (nat_le 8 (2 ^ o))
by-width o P wide narrow = either (nat_le 8 (2 ^ o)) refl
  where
    either : (t : Bool) → nat_le 8 (2 ^ o) ≡ t → P t
    either true e = wide (grind (arith, nat_tests))
    either false e = narrow e

module _ (o : ℕ) (counters : List ℕ) (packable : ArePackable o counters) where
  -- past the last refcount the list gives 0
  fits : (i : ℕ) → get_or counters i 0 < 2 ^ (2 ^ o)
  fits i = elim (cases_lt i (length counters)) [
    | inl lt ↦ packable.fit i lt
    | inr past ↦ rw (get_or_past counters i 0 past) (pow_pos (2 ^ o))
  ]

  byte-fits : (k : ℕ) → cond (nat_le 8 (2 ^ o)) (wide_byte (2 ^ o) counters k) (narrow_byte (2 ^ o) counters k) < 256
  byte-fits k = by-width o (λ t. cond t (wide_byte (2 ^ o) counters k) (narrow_byte (2 ^ o) counters k) < 256) (λ le. mod_below _ 256 (omega arith)) (λ e.
      let low : narrow_byte (2 ^ o) counters k < 2 ^ (8 / 2 ^ o * 2 ^ o) = digits-below (2 ^ o) (8 / 2 ^ o) (λ j. get_or counters (k * (8 / 2 ^ o) + j) 0) (λ j. fits (k * (8 / 2 ^ o) + j)) in
      rw (shares o e).fill at low)

  pub bytes-fit : (k : ℕ) → get_or (block_bytes o counters) k 0 < 256
  bytes-fit k = elim (cases_lt k (length counters * 2 ^ o / 8)) [
    | inl lt ↦ rw (byte-at o counters k 0 lt) (byte-fits k)
    | inr past ↦ rw (get_or_past (block_bytes o counters) k 0 (rw (bytes-length o counters) past)) (omega arith)
  ]

  -- a refcount of 8 bits or more is read from the bytes
  wide-found : (i : ℕ) → i < length counters → 8 ≤ 2 ^ o → wide_counter (bytes_of (block_bytes o counters)) (2 ^ o) 0 i ≡ get_or counters i 0
  wide-found i lt le =
      let size : ℕ = 2 ^ o / 8 in
      let bits : 2 ^ o / 8 * 8 ≡ 2 ^ o = whole o le in
      let small : get_or counters i 0 < 256 ^ (2 ^ o / 8) = rw (bytes-bits (2 ^ o / 8), bits) (fits i) in
      let wide : nat_le 8 (2 ^ o) ≡ true = grind (arith, nat_tests) in
      let rows : suc i * size ≤ length counters * size = mul-le-mul_right size lt in
      let all : length counters * 2 ^ o / 8 ≡ length counters * size = let e : length counters * 2 ^ o ≡ length counters * size * 8 = ap (λ k. length counters * k) (sym bits) ∙ omega arith in omega (arith, e) in
      be-of-digits (bytes_of (block_bytes o counters)) (0 + i * size) size (get_or counters i 0) small (λ m below.
      let place : 0 + i * size + m ≡ i * size + m = omega arith in
      let inside : i * size + m < length counters * 2 ^ o / 8 = omega (arith, rows, all) in
      ap (λ k. get_or (block_bytes o counters) k 0) place
      ∙ (byte-at o counters (i * size + m) 0 inside
      ∙ (ap (λ t. cond t (wide_byte (2 ^ o) counters (i * size + m)) (narrow_byte (2 ^ o) counters (i * size + m))) wide
      ∙ (ap (λ q. get_or counters q 0 / 256 ^ (size - 1 - (i * size + m) % size) % 256) (div-mul-add i size m below)
      ∙ ap (λ r. get_or counters i 0 / 256 ^ (size - 1 - r) % 256) (mod-mul-add i size m below)))))

  -- a narrower refcount is read from the bytes
  narrow-found : (i : ℕ) → i < length counters → nat_le 8 (2 ^ o) ≡ false → narrow_counter (bytes_of (block_bytes o counters)) (2 ^ o) 0 i ≡ get_or counters i 0
  narrow-found i lt narrow =
      let n : ℕ = 8 / 2 ^ o in
      let s : Shares o = shares o narrow in
      let some : 0 < n = positive n s.fill in
      let bytes : ℕ = length counters * 2 ^ o / 8 in
      let rows : suc i * 2 ^ o ≤ length counters * 2 ^ o = mul-le-mul_right (2 ^ o) lt in
      let pos : 0 < 2 ^ o = pow_pos o in
      let inside : i * 2 ^ o / 8 < length counters * 2 ^ o / 8 = omega (arith, rows, packable.whole, pos) in
      let place : 0 + i * 2 ^ o / 8 ≡ i * 2 ^ o / 8 = omega arith in
      let here : get_or (block_bytes o counters) (0 + i * 2 ^ o / 8) 0 ≡ narrow_byte (2 ^ o) counters (i / n) =
      ap (λ k. get_or (block_bytes o counters) k 0) place
      ∙ (byte-at o counters (i * 2 ^ o / 8) 0 inside
      ∙ (ap (λ t. cond t (wide_byte (2 ^ o) counters (i * 2 ^ o / 8)) (narrow_byte (2 ^ o) counters (i * 2 ^ o / 8))) narrow
      ∙ ap (narrow_byte (2 ^ o) counters) (s.byte i))) in
      ap (λ x. x / 2 ^ (i * 2 ^ o % 8) % 2 ^ (2 ^ o)) here
      ∙ (ap (λ b. narrow_byte (2 ^ o) counters (i / n) / 2 ^ b % 2 ^ (2 ^ o)) (s.bit i)
      ∙ (digit-found (2 ^ o) n (i % n) (λ j. get_or counters (i / n * n + j) 0) (λ j. fits (i / n * n + j)) (mod_below i n some)
      ∙ ap (λ k. get_or counters k 0) (div-add-mod' i n)))
    where
      positive : (k : ℕ) → k * 2 ^ o ≡ 8 → 0 < k
      positive zero e = absurd (omega arith)
      positive (suc k) e = omega arith

  pub bytes-pack : Packs o counters (block_bytes o counters)
  bytes-pack = record {
    size = omega (arith, bytes-length o counters, packable.whole);
    fit = bytes-fit;
    each = λ i lt. by-width o (λ t. cond t (wide_counter (bytes_of (block_bytes o counters)) (2 ^ o) 0 i) (narrow_counter (bytes_of (block_bytes o counters)) (2 ^ o) 0 i) ≡ get_or counters i 0) (wide-found i lt) (narrow-found i lt);
  }

module _ (o : ℕ) (counters bytes : List ℕ) (packs : Packs o counters bytes) where
  -- the bytes of refcounts of 8 bits or more are determined
  wide-only : (k : ℕ) → k < length bytes → 8 ≤ 2 ^ o → get_or bytes k 0 ≡ wide_byte (2 ^ o) counters k
  wide-only k lt le =
      let size : ℕ = 2 ^ o / 8 in
      let i : ℕ = k / size in
      let m : ℕ = k % size in
      let bits : size * 8 ≡ 2 ^ o = whole o le in
      let some : 0 < size = omega (arith, bits) in
      let below : m < size = mod_below k size some in
      let full : length counters * 2 ^ o ≡ length counters * size * 8 = ap (λ n. length counters * n) (sym bits) ∙ omega arith in
      let all : length bytes ≡ length counters * size = omega (arith, full, packs.size) in
      let inside : i < length counters = div_below k size (length counters) some (omega (arith, all)) in
      let wide : nat_le 8 (2 ^ o) ≡ true = grind (arith, nat_tests) in
      let number : wide_counter (bytes_of bytes) (2 ^ o) 0 i ≡ get_or counters i 0 =
      sym (ap (λ t. cond t (wide_counter (bytes_of bytes) (2 ^ o) 0 i) (narrow_counter (bytes_of bytes) (2 ^ o) 0 i)) wide) ∙ packs.each i inside in
      let place : k ≡ 0 + i * size + m = omega (arith, div-add-mod' k size) in
      ap (λ p. get_or bytes p 0) place
      ∙ (sym (be-digit (bytes_of bytes) (0 + i * size) size m packs.fit below)
      ∙ ap (λ x. x / 256 ^ (size - 1 - m) % 256) number)

  -- the bytes of narrower refcounts are determined
  narrow-only : (k : ℕ) → k < length bytes → nat_le 8 (2 ^ o) ≡ false → get_or bytes k 0 ≡ narrow_byte (2 ^ o) counters k
  narrow-only k lt narrow =
      let n : ℕ = 8 / 2 ^ o in
      let s : Shares o = shares o narrow in
      let x : ℕ = get_or bytes k 0 in
      let fits : x < 256 = packs.fit k in
      let whole-byte : x ≡ x % 2 ^ (n * 2 ^ o) = rw s.fill (sym (mod-eq_of_lt fits)) in
      whole-byte ∙ (sym (digits-make (2 ^ o) n x)
      ∙ sum-same n (λ j. x / 2 ^ (j * 2 ^ o) % 2 ^ (2 ^ o) * 2 ^ (j * 2 ^ o)) (λ j. get_or counters (k * n + j) 0 * 2 ^ (j * 2 ^ o)) (λ j below.
      let i : ℕ = k * n + j in
      let row : i / n ≡ k = div-mul-add k n j below in
      let rest : i % n ≡ j = mod-mul-add k n j below in
      let place : 0 + i * 2 ^ o / 8 ≡ k = let e : i * 2 ^ o / 8 ≡ i / n = s.byte i in omega (arith, e, row) in
      let bit : i * 2 ^ o % 8 ≡ j * 2 ^ o = s.bit i ∙ ap (λ b. b * 2 ^ o) rest in
      let ends : suc j * 2 ^ o ≤ n * 2 ^ o = mul-le-mul_right (2 ^ o) below in
      let flat : i * 2 ^ o ≡ k * 8 + j * 2 ^ o = let e : i * 2 ^ o ≡ k * (n * 2 ^ o) + j * 2 ^ o = omega arith in e ∙ ap (λ b. k * b + j * 2 ^ o) s.fill in
      let inside : i < length counters = lt_of_mul-lt-mul_right (2 ^ o) (omega (arith, pow_pos o, flat, ends, s.fill, packs.size)) in
      let number : narrow_counter (bytes_of bytes) (2 ^ o) 0 i ≡ get_or counters i 0 =
      sym (ap (λ t. cond t (wide_counter (bytes_of bytes) (2 ^ o) 0 i) (narrow_counter (bytes_of bytes) (2 ^ o) 0 i)) narrow) ∙ packs.each i inside in
      let digit : x / 2 ^ (j * 2 ^ o) % 2 ^ (2 ^ o) ≡ get_or counters i 0 =
      sym (ap (λ p. get_or bytes p 0 / 2 ^ (i * 2 ^ o % 8) % 2 ^ (2 ^ o)) place ∙ ap (λ b. x / 2 ^ b % 2 ^ (2 ^ o)) bit) ∙ number in
      ap (λ q. q * 2 ^ (j * 2 ^ o)) digit))

  -- Only these bytes pack the refcounts.
  pub bytes-only : bytes ≡ block_bytes o counters
  bytes-only =
      let size : length bytes ≡ length counters * 2 ^ o / 8 = omega (arith, packs.size) in
      same_lists bytes (block_bytes o counters) (size ∙ sym (bytes-length o counters)) (λ k d lt.
      let inside : k < length counters * 2 ^ o / 8 = omega (arith, size) in
      get_or_default_zero bytes k d lt
      ∙ (by-width o (λ t. get_or bytes k 0 ≡ cond t (wide_byte (2 ^ o) counters k) (narrow_byte (2 ^ o) counters k)) (wide-only k lt) (narrow-only k lt)
      ∙ sym (byte-at o counters k d inside)))

  -- Refcounts that are packed in bytes fit their width.
  pub counters-packable : ArePackable o counters
  counters-packable = record {
    fit = λ i lt. rw (packs.each i lt) at (counter-fits i);
    whole = omega (arith, packs.size);
  }
    where
      counter-fits : (i : ℕ) → counter_of (bytes_of bytes) (2 ^ o) 0 i < 2 ^ (2 ^ o)
      counter-fits i = by-width o (λ t. cond t (wide_counter (bytes_of bytes) (2 ^ o) 0 i) (narrow_counter (bytes_of bytes) (2 ^ o) 0 i) < 2 ^ (2 ^ o))
          (λ le. rw (bytes-bits (2 ^ o / 8), whole o le) at (be-below (bytes_of bytes) packs.fit (0 + i * (2 ^ o / 8)) (2 ^ o / 8)))
          (λ e. mod_below _ (2 ^ (2 ^ o)) (pow_pos (2 ^ o)))
