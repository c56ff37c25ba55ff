-- Lemmas on ranges of a disk, and the clusters that they touch in one L2 table.
use Rattle.std.proofs.Common.{◌≡◌, ℕ, min, ◌⊎◌, inl, inr, ◌+◌, ◌-◌, ◌*◌, ◌/◌, ◌%◌, ◌^◌, ◌<◌, ◌≤◌, arith, ap, ◌∙◌}
use Rattle.std.proofs.lemmas.Bool.{cases_lt}
use Rattle.std.proofs.lemmas.Nat.{div-add-mod', mod_below, pow_pos}
use Rattle.std.proofs.Math.Arith.{mod-mul}
use Rattle.std.proofs.Math.Nat.{div-lt_iff_lt-mul, lt-div-mul-add, div-mul-le_self, mul-le-mul, mul-le-mul_right, pow-le-pow_right, mul-add-div_right, mul-add-mod_self_right}
use Rattle.qcow2_types.specs.Header.{Fields, Shaped}
use Rattle.qcow2_types.specs.Entries.{l2_entries}

-- Bounds of the cluster bits of a header.
pub low-bits : (b : ℕ) (h : Fields) → b ≡ h.cluster_bits → Shaped h → 9 ≤ b
low-bits b h is shaped = omega (arith, is, shaped.low)

pub high-bits : (b : ℕ) (h : Fields) → b ≡ h.cluster_bits → Shaped h → b ≤ 21
high-bits b h is shaped = omega (arith, is, shaped.high)

-- A table has entries, and its guest clusters have at most 2^42 bytes together.
module _ (bits : ℕ) (low : 9 ≤ bits) (high : bits ≤ 21) where
  pub large : 2 ^ 9 ≤ 2 ^ bits
  large = pow-le-pow_right (omega arith) low

  pub some-words : 0 < l2_entries bits
  some-words = omega (arith, large)

  pub small-table : l2_entries bits * 2 ^ bits ≤ 2 ^ 42
  small-table =
      let few : 2 ^ bits ≤ 2 ^ 21 = pow-le-pow_right (omega arith) high in
      let raw_entries : l2_entries bits ≤ 2 ^ 21 = omega (arith, few) in
      mul-le-mul raw_entries few

-- A nonempty range in one table of `e` entries, with clusters of `c` bytes.
module _ (c e offset n : ℕ) (some : 0 < c) (raw_entries : 0 < e) (positive : 0 < n) (row : offset % (e * c) + n ≤ e * c) where
  abbrev w : ℕ
  w = offset % c

  abbrev q : ℕ
  q = (w + n - 1) / c

  pub one-table : offset / c % e + (q + 1) ≤ e
  one-table =
      let g : ℕ = offset / c % e in
      let d : ℕ = e - g in
      let below : g < e = mod_below (offset / c) e raw_entries in
      let split : e ≡ g + d = omega (arith, below) in
      let place : offset % (e * c) ≡ g * c + w = mod-mul offset raw_entries some in
      let product : e * c ≡ g * c + d * c = ap (λ x. x * c) split ∙ omega arith in
      let few : w + n - 1 < d * c = omega (arith, row, place, product, positive) in
      let less : q < d = (div-lt_iff_lt-mul some).1 few in
      omega (arith, split, less)

  pub ends-near : (top : ℕ) → offset + n ≤ top → (offset / c + (q + 1)) * c < top + c
  ends-near top near =
      let le : q * c ≤ w + n - 1 = div-mul-le_self (w + n - 1) c in
      let place : offset / c * c + w ≡ offset = div-add-mod' offset c in
      let product : (offset / c + (q + 1)) * c ≡ offset / c * c + q * c + c = omega arith in
      omega (arith, le, place, product, near, positive)

  -- Its clusters have less than 2^64 bytes together.
  pub fits-word : (count : ℕ) → count ≤ q + 1 → e * c ≤ 2 ^ 42 → count * c < 2 ^ 64
  fits-word count few small =
      let le : count ≤ e = omega (arith, few, one-table) in
      let bytes : count * c ≤ e * c = mul-le-mul_right c le in
      omega (arith, bytes, small)

  pub within-first : (count : ℕ) → 0 < count → w < count * c
  within-first count one =
      let d : ℕ = count - 1 in
      let split : count ≡ d + 1 = omega (arith, one) in
      let product : count * c ≡ d * c + c = ap (λ x. x * c) split ∙ omega arith in
      let below : w < c = mod_below offset c some in
      omega (arith, product, below)

-- The cluster of a byte of the range, and its offset there.
module _ (c offset i : ℕ) (some : 0 < c) where
  pub cluster-of : (offset + i) / c ≡ offset / c + (offset % c + i) / c
  cluster-of = ap (λ x. x / c) (omega (arith, div-add-mod' offset c)) ∙ mul-add-div_right some (offset / c) (offset % c + i)

  pub place-of : (offset + i) % c ≡ (offset % c + i) % c
  place-of = ap (λ x. x % c) (omega (arith, div-add-mod' offset c)) ∙ mul-add-mod_self_right (offset / c) c (offset % c + i)

  pub in-run : (count n : ℕ) → n ≤ count * c - offset % c → i < n → (offset % c + i) / c < count
  in-run count n few lt = (div-lt_iff_lt-mul some).1 (omega (arith, few, lt))

  -- The offset of the byte if the clusters of the range are consecutive.
  pub byte-place : (k : ℕ) → (k + (offset % c + i) / c) * c + (offset + i) % c ≡ k * c + offset % c + i
  byte-place k =
      let rest = div-add-mod' (offset % c + i) c in
      let product : (k + (offset % c + i) / c) * c ≡ k * c + (offset % c + i) / c * c = omega arith in
      omega (arith, rest, product, place-of)

-- The range of a lookup of at most `asked` bytes. It ends with the disk and with the table at the latest.
module _ (b offset size asked rem rest n w most : ℕ) (low : 9 ≤ b) (high : b ≤ 21) (rem-is : rem ≡ l2_entries b * 2 ^ b - offset % (l2_entries b * 2 ^ b)) (rest-is : rest ≡ min rem (size - offset)) (n-is : n ≡ min asked rest)
    (w-is : w ≡ offset % 2 ^ b) (most-is : most ≡ (w + n - 1) / 2 ^ b + 1) (inside : offset < size) (some : 0 < asked) where
  one : 0 < 2 ^ b
  one = pow_pos b

  rows : 0 < l2_entries b
  rows = some-words b low high

  table : 0 < l2_entries b * 2 ^ b
  table = omega (arith, mul-le-mul {n₁ = 1} {m₁ = 1} rows one)

  last : offset % (l2_entries b * 2 ^ b) < l2_entries b * 2 ^ b
  last = mod_below offset (l2_entries b * 2 ^ b) table

  pub range-some : 0 < n
  range-some = omega (arith, rem-is, rest-is, n-is, last, inside, some)

  pub range-near : offset + n ≤ size
  range-near = omega (arith, rest-is, n-is, inside)

  pub range-few : n ≤ asked
  range-few = omega (arith, n-is)

  pub range-row : offset % (l2_entries b * 2 ^ b) + n ≤ l2_entries b * 2 ^ b
  range-row = omega (arith, rem-is, rest-is, n-is, last)

  pub range-small : n ≤ 2 ^ 42
  range-small = let small = small-table b low high in omega (arith, range-row, small)

  met : most ≡ (offset % 2 ^ b + n - 1) / 2 ^ b + 1
  met = most-is ∙ ap (λ x. (x + n - 1) / 2 ^ b + 1) w-is

  pub range-one-table : (guest : ℕ) → guest ≡ offset / 2 ^ b → guest % l2_entries b + most ≤ l2_entries b
  range-one-table guest is = rw (is, met) (one-table (2 ^ b) (l2_entries b) offset n one rows range-some range-row)

  pub range-fits : (guest : ℕ) → guest ≡ offset / 2 ^ b → size ≤ 2 ^ 64 → (guest + most) * 2 ^ b < 2 ^ 64 + 2 ^ b
  range-fits guest is short = rw (is, met) (ends-near (2 ^ b) (l2_entries b) offset n one rows range-some range-row (2 ^ 64) (omega (arith, range-near, short)))

  pub range-within : (count : ℕ) → 0 < count → w < count * 2 ^ b
  range-within count positive = rw w-is (within-first (2 ^ b) (l2_entries b) offset n one rows range-some range-row count positive)

  pub range-word : (count : ℕ) → count ≤ most → count * 2 ^ b < 2 ^ 64
  range-word count few = fits-word (2 ^ b) (l2_entries b) offset n one rows range-some range-row count (omega (arith, few, met)) (small-table b low high)

  -- The first `count` clusters end with the range on the disk, with the table, or at the end of a cluster before the last.
  pub range-ends : (count m : ℕ) → 0 < count → count ≤ most → m ≡ min n (count * 2 ^ b - w)
      → (m ≡ min asked (size - offset)) ⊎ ((offset % (l2_entries b * 2 ^ b) + m ≡ l2_entries b * 2 ^ b) ⊎ ((count < most) × (offset + m ≡ (offset / 2 ^ b + count) * 2 ^ b)))
  range-ends count m positive few m-is = elim (cases_lt (count * 2 ^ b - w) n) [
    | inl short ↦
        let first : w < count * 2 ^ b = range-within count positive in
        let place : offset / 2 ^ b * 2 ^ b + w ≡ offset = ap (λ x. offset / 2 ^ b * 2 ^ b + x) w-is ∙ div-add-mod' offset (2 ^ b) in
        let product : (offset / 2 ^ b + count) * 2 ^ b ≡ offset / 2 ^ b * 2 ^ b + count * 2 ^ b = omega arith in
        inr (inr (fewer count few short, omega (arith, m-is, short, first, place, product)))
    | inr whole ↦ elim (cases_lt rem (min asked (size - offset))) [
      | inl table-first ↦ inr (inl (omega (arith, m-is, whole, n-is, rest-is, table-first, rem-is, last)))
      | inr range-first ↦ inl (omega (arith, m-is, whole, n-is, rest-is, range-first))
    ]
  ] where
    fewer : (count : ℕ) → count ≤ most → count * 2 ^ b - w < n → count < most
    fewer count few short = elim (cases_lt count most) [
      | inl lt ↦ lt
      | inr le ↦
          let is : count ≡ most = omega (arith, few, le) in
          let above : w + n - 1 < (w + n - 1) / 2 ^ b * 2 ^ b + 2 ^ b = lt-div-mul-add one in
          let product : count * 2 ^ b ≡ (w + n - 1) / 2 ^ b * 2 ^ b + 2 ^ b = ap (λ x. x * 2 ^ b) (is ∙ most-is) ∙ omega arith in
          absurd (omega (arith, above, product, short, range-some))
    ]
