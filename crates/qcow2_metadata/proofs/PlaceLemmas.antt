-- The host offsets of addressable clusters.
use Rattle.std.proofs.Common.{◌≡◌, ℕ, ◌+◌, ◌*◌, ◌%◌, ◌^◌, ◌≤◌, ◌∙◌, arith}
use Rattle.std.specs.Prelude.{Option, Some, None}
use Rattle.std.proofs.Math.Nat.{pow-le-pow_right}
use Rattle.std.proofs.lemmas.Nat.{mod-mul-add, pow_pos, mul-le}
use Rattle.std.proofs.Common.{ap}
use Rattle.qcow2_metadata.specs.Places.{IsAddressable, IsPlaced, place_of}

pub place-whole : (bits : ℕ) (cluster : Option ℕ) → IsPlaced bits cluster → place_of bits cluster % 2 ^ bits ≡ 0
place-whole bits None placed = absurd placed
place-whole bits (Some c) placed =
    let flat : c * 2 ^ bits ≡ c * 2 ^ bits + 0 = omega arith in
    ap (λ n. n % 2 ^ bits) flat ∙ mod-mul-add c (2 ^ bits) 0 (pow_pos bits)

-- Clusters with small numbers are addressable.
pub near_reach : (bits c : ℕ) → bits ≤ 21 → c ≤ 2 ^ 30 → IsAddressable bits c
near_reach bits c few low =
    let size : 2 ^ bits ≤ 2 ^ 21 = pow-le-pow_right (omega arith) few in
    let most : c * 2 ^ bits ≤ 2 ^ 30 * 2 ^ 21 = mul-le c (2 ^ bits) (2 ^ 30) (2 ^ 21) low size in
    omega arith
