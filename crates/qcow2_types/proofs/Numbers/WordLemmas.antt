-- Raw entries: the entry 0, and the entry of a cluster with the COPIED flag.
use Rattle.std.proofs.Common.{◌≡◌, ◌≢◌, ℕ, ◌+◌, ◌-◌, ◌*◌, ◌/◌, ◌%◌, ◌^◌, ◌<◌, ◌≤◌, refl, arith, ◌∙◌, ap}
use Rattle.std.specs.Prelude.{Bool, true, false, cond, ◌&&◌, ◌==◌, nat_le, IsTrue}
use Rattle.std.proofs.lemmas.Bool.Decides.{nat_tests}
use Rattle.std.proofs.lemmas.Nat.{pow_pos, pow-add}
use Rattle.std.proofs.Math.Nat.{mul-mod_left, mul-div_cancel, mul-pos}
use Rattle.qcow2_types.specs.Words.{Layout, Mapping, unmapped, data_at, mapping_of, is_cluster_offset, is_copied, max_offset, l1_entry_valid, table_offset}
use Rattle.qcow2_types.specs.Header.{Fields, cluster_size, layout_of}

-- 0 is a valid offset
pub zero-place : (bits : ℕ) → is_cluster_offset bits 0 ≡ true
zero-place bits = let pos : 0 < 2 ^ bits = pow_pos bits in let none : 0 % 2 ^ bits ≡ 0 = omega arith in rw none refl

-- An L2 entry of 0 is unmapped.
pub zero-word : (layout : Layout) → mapping_of layout 0 ≡ unmapped
unfolding mapping_of
zero-word layout = rw (zero-place layout.cluster_bits) (names layout.external_data _)
  where
    names : (b : Bool) (m : Mapping) → cond (b && false) m unmapped ≡ unmapped
    names true m = refl
    names false m = refl

-- An L1 entry of 0 is valid, and references no table.
pub zero-l1-word : (bits : ℕ) → IsTrue (l1_entry_valid bits 0)
zero-l1-word bits = zero-place bits

-- A raw entry with bit 63 and the offset p, which is a multiple of 512.
module _ (p : ℕ) (sectors : p % 512 ≡ 0) (near : p ≤ max_offset) where
  pub copied-below : 2 ^ 63 + p < 2 ^ 64
  copied-below = omega arith

  pub copied-offset : table_offset (2 ^ 63 + p) ≡ p
  copied-offset = omega arith

  pub copied-marked : is_copied (2 ^ 63 + p) ≡ true
  copied-marked = let one : (2 ^ 63 + p) / 2 ^ 63 % 2 ≡ 1 = omega arith in rw one refl

  -- it is a valid L1 entry
  pub copied-l1-word : (bits : ℕ) → is_cluster_offset bits p ≡ true → IsTrue (l1_entry_valid bits (2 ^ 63 + p))
  copied-l1-word bits place =
      let a : (2 ^ 63 + p) / 2 ^ 0 % 2 ^ 9 ≡ 0 = omega arith in
      let b : (2 ^ 63 + p) / 2 ^ 56 % 2 ^ 7 ≡ 0 = omega arith in
      rw (a, b, copied-offset, place) refl

  -- as an L2 entry it references the cluster at p as data, with the COPIED flag
  pub copied-l2-word : (layout : Layout) → is_cluster_offset layout.cluster_bits p ≡ true → p ≢ 0 → mapping_of layout (2 ^ 63 + p) ≡ data_at (p / 2 ^ layout.cluster_bits) true
  unfolding mapping_of
  copied-l2-word layout place some =
      let a : (2 ^ 63 + p) / 2 ^ 62 % 2 ≡ 0 = omega arith in
      let b : (2 ^ 63 + p) / 2 ^ 1 % 2 ^ 8 ≡ 0 = omega arith in
      let d : (2 ^ 63 + p) / 2 ^ 56 % 2 ^ 6 ≡ 0 = omega arith in
      let e : (2 ^ 63 + p) / 2 ^ 0 % 2 ≡ 0 = omega arith in
      let named : (p == 0) ≡ false = grind (arith, nat_tests) in
      rw (a, b, d, e, copied-offset, place, named, copied-marked) refl

-- The raw entry that references cluster c with the COPIED flag.
module _ (bits c : ℕ) (low : 9 ≤ bits) (few : c * 2 ^ bits ≤ max_offset) where
  sectors-of : c * 2 ^ bits % 512 ≡ 0
  sectors-of =
      let split : bits ≡ (bits - 9) + 9 = omega arith in
      let power : 2 ^ bits ≡ 2 ^ (bits - 9) * 2 ^ 9 = ap (λ n. 2 ^ n) split ∙ pow-add 2 (bits - 9) 9 in
      let e : c * 2 ^ bits ≡ c * 2 ^ (bits - 9) * 512 = ap (λ x. c * x) power ∙ omega arith in
      omega arith

  place-of : is_cluster_offset bits (c * 2 ^ bits) ≡ true
  place-of =
      let begin : c * 2 ^ bits % 2 ^ bits ≡ 0 = mul-mod_left c (2 ^ bits) in
      let near : nat_le (c * 2 ^ bits) max_offset ≡ true = grind (arith, nat_tests) in
      rw (begin, near) refl

  pub fresh-below : 2 ^ 63 + c * 2 ^ bits < 2 ^ 64
  fresh-below = copied-below (c * 2 ^ bits) sectors-of few

  pub fresh-l1-word : IsTrue (l1_entry_valid bits (2 ^ 63 + c * 2 ^ bits))
  fresh-l1-word = copied-l1-word (c * 2 ^ bits) sectors-of few bits place-of

  pub fresh-offset : table_offset (2 ^ 63 + c * 2 ^ bits) ≡ c * 2 ^ bits
  fresh-offset = copied-offset (c * 2 ^ bits) sectors-of few

  pub fresh-copied : is_copied (2 ^ 63 + c * 2 ^ bits) ≡ true
  fresh-copied = copied-marked (c * 2 ^ bits) sectors-of few

-- Like `copied-l2-word`, by the fields of a header.
pub fresh-word : (h : Fields) (c : ℕ) → 9 ≤ h.cluster_bits → 0 < c → c * cluster_size h ≤ max_offset → mapping_of (layout_of h) (2 ^ 63 + c * cluster_size h) ≡ data_at c true
fresh-word h c low some few =
    let pos : 0 < cluster_size h = pow_pos h.cluster_bits in
    let there : 0 < c * cluster_size h = mul-pos some pos in
    copied-l2-word (c * cluster_size h) (sectors-of h.cluster_bits c low few) few (layout_of h) (place-of h.cluster_bits c low few) (omega arith)
    ∙ ap (λ d. data_at d true) (mul-div_cancel c pos)
