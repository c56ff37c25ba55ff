-- The refcounts of a block don't change if the block's bytes don't.
use Rattle.std.proofs.Common.{◌≡◌, ◌≢◌, ℕ, zero, suc, ◌+◌, ◌*◌, ◌/◌, ◌%◌, ◌^◌, ◌<◌, ◌≤◌, refl, arith, ap, inl, inr}
use Rattle.std.specs.Prelude.{Bool, true, false, cond, nat_le}
use Rattle.std.proofs.lemmas.Bool.{cases_eq}
use Rattle.std.proofs.lemmas.Bool.Decides.{nat_tests}
use Rattle.std.proofs.lemmas.Nat.{mod_below, pow_pos, le-div}
use Rattle.std.proofs.Math.Nat.{div-mul-le_self, mul-le-mul_right, pow-le-pow_right, pow-suc}
use Rattle.qcow2_types.specs.Bytes.{Bytes}
use Rattle.qcow2_types.specs.Header.{Fields, cluster_size, Shaped}
use Rattle.qcow2_types.specs.Counts.{block_at, count, counter, counter_of, counter_bits, counters_of_block, wide_counter, narrow_counter}
use Rattle.qcow2_types.proofs.Numbers.Splices.{be-same}
use Rattle.qcow2_types.specs.Frames.{Same}

-- a width of 8 bits or more is a multiple of 8
pub whole : (o : ℕ) → 8 ≤ 2 ^ o → 2 ^ o / 8 * 8 ≡ 2 ^ o
whole zero le = absurd (omega arith)
whole (suc zero) le = absurd (omega arith)
whole (suc (suc zero)) le = absurd (omega arith)
whole (suc (suc (suc k))) le = let e : 2 ^ suc (suc (suc k)) ≡ 2 ^ k * 2 * 2 * 2 = rw (pow-suc, pow-suc, pow-suc) refl in omega arith

-- a block has at least one refcount
pub some-counters : (h : Fields) → Shaped h → 0 < counters_of_block h
some-counters h shaped =
    let pos : 0 < 2 ^ h.refcount_order = pow_pos h.refcount_order in
    let few : 2 ^ h.refcount_order ≤ 2 ^ 6 = pow-le-pow_right (omega arith) shaped.order in
    let size : 2 ^ 9 ≤ 2 ^ h.cluster_bits = pow-le-pow_right (omega arith) shaped.low in
    le-div 1 (cluster_size h * 8) (2 ^ h.refcount_order) pos (omega arith)

module _ (f g : Bytes) (h : Fields) (block : ℕ) (same : Same f g block (cluster_size h)) (i : ℕ) (lt : i < counters_of_block h) where
  -- the refcount is inside its block
  room : i * counter_bits h + counter_bits h ≤ cluster_size h * 8
  room =
      let a : suc i * counter_bits h ≤ counters_of_block h * counter_bits h = mul-le-mul_right (counter_bits h) lt in
      let b : counters_of_block h * counter_bits h ≤ cluster_size h * 8 = div-mul-le_self (cluster_size h * 8) (counter_bits h) in
      omega arith

  wide-same : 8 ≤ counter_bits h → wide_counter g (counter_bits h) block i ≡ wide_counter f (counter_bits h) block i
  wide-same le =
      let w : 2 ^ h.refcount_order / 8 * 8 ≡ 2 ^ h.refcount_order = whole h.refcount_order le in
      let d : ℕ = 2 ^ h.refcount_order / 8 in
      let all : i * (d * 8) + d * 8 ≤ cluster_size h * 8 = rw w room in
      be-same g f (block + i * d) (block + i * d) d (λ k less. let place : block + (i * d + k) ≡ block + i * d + k = omega arith in rw place at (same (i * d + k) (omega arith)))

  narrow-same : narrow_counter g (counter_bits h) block i ≡ narrow_counter f (counter_bits h) block i
  narrow-same =
      let pos : 0 < 2 ^ h.refcount_order = pow_pos h.refcount_order in
      ap (λ b. b / 2 ^ (i * counter_bits h % 8) % 2 ^ counter_bits h) (same (i * counter_bits h / 8) (omega (arith, room)))

  either-same : (b : Bool) → nat_le 8 (counter_bits h) ≡ b → cond b (wide_counter g (counter_bits h) block i) (narrow_counter g (counter_bits h) block i) ≡ cond b (wide_counter f (counter_bits h) block i) (narrow_counter f (counter_bits h) block i)
  either-same true e = wide-same (grind (arith, nat_tests))
  either-same false e = narrow-same

  pub counter-same : counter g h block i ≡ counter f h block i
  unfolding counter
  counter-same = either-same (nat_le 8 (counter_bits h)) refl

-- a cluster's refcount is the same if its block's offset and bytes are
pub count-same : (f g : Bytes) (h : Fields) (c : ℕ) → Shaped h → block_at g h (c / counters_of_block h) ≡ block_at f h (c / counters_of_block h)
    → (block_at f h (c / counters_of_block h) ≢ 0 → Same f g (block_at f h (c / counters_of_block h)) (cluster_size h)) → count g h c ≡ count f h c
unfolding count
count-same f g h c shaped at same =
    let k : ℕ = counters_of_block h in
    let block : ℕ = block_at f h (c / k) in
    let below : c % k < k = mod_below c k (some-counters h shaped) in
    elim (cases_eq block 0) [
      | inl e ↦ rw (at, e) refl
      | inr there ↦ let here : counter g h block (c % k) ≡ counter f h block (c % k) = counter-same f g h block (same there) (c % k) below in rw (at, here) refl
    ]

-- A refcount depends only on the block's bytes, not on their file and offset.
pub counter-moved : (f g : Bytes) (order a b n i : ℕ) → i * 2 ^ order + 2 ^ order ≤ n * 8 → ((k : ℕ) → k < n → g (b + k) ≡ f (a + k)) → counter_of g (2 ^ order) b i ≡ counter_of f (2 ^ order) a i
counter-moved f g order a b n i room same = either (nat_le 8 (2 ^ order)) refl
  where
    wide : 8 ≤ 2 ^ order → wide_counter g (2 ^ order) b i ≡ wide_counter f (2 ^ order) a i
    wide le =
        let w : 2 ^ order / 8 * 8 ≡ 2 ^ order = whole order le in
        let d : ℕ = 2 ^ order / 8 in
        let all : i * (d * 8) + d * 8 ≤ n * 8 = rw w room in
        be-same g f (b + i * d) (a + i * d) d (λ k less.
        let here : b + i * d + k ≡ b + (i * d + k) = omega arith in
        let there : a + i * d + k ≡ a + (i * d + k) = omega arith in
        rw (here, there) (same (i * d + k) (omega arith)))

    narrow : narrow_counter g (2 ^ order) b i ≡ narrow_counter f (2 ^ order) a i
    narrow =
        let pos : 0 < 2 ^ order = pow_pos order in
        ap (λ x. x / 2 ^ (i * 2 ^ order % 8) % 2 ^ (2 ^ order)) (same (i * 2 ^ order / 8) (omega (arith, room)))

    either : (t : Bool) → nat_le 8 (2 ^ order) ≡ t → cond t (wide_counter g (2 ^ order) b i) (narrow_counter g (2 ^ order) b i) ≡ cond t (wide_counter f (2 ^ order) a i) (narrow_counter f (2 ^ order) a i)
    either true e = wide (grind (arith, nat_tests))
    either false e = narrow
