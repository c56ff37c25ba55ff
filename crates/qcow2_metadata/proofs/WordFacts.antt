-- Parts of raw entries.
use Rattle.std.proofs.Common.{ℕ, ◌-◌, ◌/◌, ◌%◌, ◌^◌, ◌<◌, ◌≤◌, arith}
use Rattle.std.proofs.Math.Nat.{pow-le-pow_right}
use Rattle.std.proofs.lemmas.Nat.{mod_below, pow_pos}
use Rattle.qcow2_types.specs.Words.{bits_at}

-- The offset in a compressed entry has at most 61 bits.
pub packed_fits : (w cluster_bits : ℕ) → 9 ≤ cluster_bits → bits_at w 0 (70 - cluster_bits) < 2 ^ 61
packed_fits w cluster_bits low =
    let less : 70 - cluster_bits ≤ 61 = omega arith in
    let most : 2 ^ (70 - cluster_bits) ≤ 2 ^ 61 = pow-le-pow_right (omega arith) less in
    let here : w / 2 ^ 0 % 2 ^ (70 - cluster_bits) < 2 ^ (70 - cluster_bits) = mod_below (w / 2 ^ 0) (2 ^ (70 - cluster_bits)) (pow_pos (70 - cluster_bits)) in
    omega arith
