-- The size of an image's space.
use Rattle.std.proofs.Common.{◌≡◌, ℕ, ◌+◌, ◌-◌, ◌*◌, ◌/◌, ◌%◌, ◌^◌, ◌<◌, ◌≤◌, arith, ap, sym, subst, ◌∙◌}
use Rattle.std.proofs.lemmas.Nat.{le-div, pow-add, pow_pos}
use Rattle.std.proofs.Math.Nat.{div-mul-le_self, lt-div-mul-add, min-le_left, min-le_right, mul-le-mul, mul-mod_left, mul-div_left}
use Rattle.std.proofs.Math.Pow.{pow_mono}
use Rattle.qcow2_types.specs.Counts.{counters_of_block}
use Rattle.qcow2_types.specs.Header.{Fields, Shaped, cluster_size, entries_of_cluster}
use Rattle.qcow2_types.specs.Words.{max_offset}
use Rattle.qcow2_metadata.specs.Places.{IsAddressable}
use Rattle.qcow2_metadata.proofs.Powers.{power-counters}
use Rattle.qcow2_alloc.specs.Crowding.{space, room_for, IsRoomy}
use Rattle.qcow2_alloc.specs.GuestView.{Metadata}
use Rattle.qcow2_alloc.proofs.Space.RoomToGrow.{AreSizes}

module _ (h : Fields) (shaped : Shaped h) where
  abbrev k : ℕ
  k = counters_of_block h

  pub counters-wide : 64 ≤ k
  counters-wide = let le : 2 ^ 6 ≤ 2 ^ (h.cluster_bits + 3 - h.refcount_order) = pow_mono {i = 6} {j = h.cluster_bits + 3 - h.refcount_order} (omega (arith, shaped.order, shaped.low)) in subst (λ n. 64 ≤ n) (power-counters h shaped) le

  counters-narrow : k ≤ 2 ^ 24
  counters-narrow = let le : 2 ^ (h.cluster_bits + 3 - h.refcount_order) ≤ 2 ^ 24 = pow_mono {i = h.cluster_bits + 3 - h.refcount_order} {j = 24} (omega (arith, shaped.high)) in subst (λ n. n ≤ 2 ^ 24) (power-counters h shaped) le

  words-are : entries_of_cluster h ≡ 2 ^ (h.cluster_bits - 3)
  words-are =
      let split : h.cluster_bits ≡ h.cluster_bits - 3 + 3 = omega (arith, shaped.low) in
      ap (λ n. 2 ^ n / 8) split ∙ ap (λ n. n / 8) (pow-add 2 (h.cluster_bits - 3) 3) ∙ mul-div_left (2 ^ (h.cluster_bits - 3)) (omega arith)

  pub words-wide : 64 ≤ entries_of_cluster h
  words-wide = let le : 2 ^ 6 ≤ 2 ^ (h.cluster_bits - 3) = pow_mono {i = 6} {j = h.cluster_bits - 3} (omega (arith, shaped.low)) in subst (λ n. 64 ≤ n) (sym words-are) le

  pub words-divide : 2 ^ 20 % entries_of_cluster h ≡ 0
  words-divide =
      let split : 20 ≡ 20 - (h.cluster_bits - 3) + (h.cluster_bits - 3) = omega (arith, shaped.high) in
      let power : 2 ^ 20 ≡ 2 ^ (20 - (h.cluster_bits - 3)) * 2 ^ (h.cluster_bits - 3) = ap (λ n. 2 ^ n) split ∙ pow-add 2 (20 - (h.cluster_bits - 3)) (h.cluster_bits - 3) in
      ap (λ n. 2 ^ 20 % n) words-are ∙ ap (λ n. n % 2 ^ (h.cluster_bits - 3)) power ∙ mul-mod_left (2 ^ (20 - (h.cluster_bits - 3))) (2 ^ (h.cluster_bits - 3))

  offsets-many : 2 ^ 34 ≤ max_offset / cluster_size h
  offsets-many =
      let size : 2 ^ h.cluster_bits ≤ 2 ^ 21 = pow_mono {i = h.cluster_bits} {j = 21} shaped.high in
      le-div (2 ^ 34) max_offset (cluster_size h) (pow_pos h.cluster_bits) (omega (arith, size))

  pub space-blocks : space h ≤ 2 ^ 20 * k
  space-blocks = min-le_left (2 ^ 20 * k) (max_offset / cluster_size h + 1)

  space-offsets : space h ≤ max_offset / cluster_size h + 1
  space-offsets = min-le_right (2 ^ 20 * k) (max_offset / cluster_size h + 1)

  space-least : (n : ℕ) → n ≤ 2 ^ 20 * k → n ≤ max_offset / cluster_size h + 1 → n ≤ space h
  space-least n one two = omega (arith, one, two)

  -- Each cluster of the space is addressable.
  pub space-reach : (c : ℕ) → c < space h → IsAddressable h.cluster_bits c
  space-reach c inside =
      let below = space-offsets in
      let le : c * cluster_size h ≤ max_offset / cluster_size h * cluster_size h = mul-le-mul (omega (arith, inside, below)) (omega arith) in
      let whole = div-mul-le_self max_offset (cluster_size h) in
      omega (arith, le, whole)

-- The sizes of an allocation that has enough space.
pub roomy-sizes : (m : Metadata) (mark n s : ℕ) → Shaped m.header.fields → 1 ≤ n → (roomy : IsRoomy m mark n) → s ≤ roomy.first
    → AreSizes (counters_of_block m.header.fields) n (space m.header.fields) (room_for m.header.fields n) s (roomy.first + roomy.total)
roomy-sizes m mark n s shaped some roomy early =
    let wide = counters-wide m.header.fields shaped in
    let narrow = counters-narrow m.header.fields shaped in
    let offsets = offsets-many m.header.fields shaped in
    let below = roomy.below in
    record {
      wide = wide;
      narrow = space-least m.header.fields shaped (64 * counters_of_block m.header.fields) (omega arith) (omega (arith, narrow, offsets));
      some = some;
      large = space-least m.header.fields shaped (2 ^ 26) (omega (arith, wide)) (omega (arith, offsets));
      fits = space-blocks m.header.fields shaped;
      enough = let high : space m.header.fields < space m.header.fields / 16 * 16 + 16 = lt-div-mul-add (omega arith) in omega (arith, high);
      span = let enough = roomy.enough in omega (arith, early, enough);
      ends = below;
    }
