-- Bounds on the offsets of clusters and compressed ranges.
use Rattle.std.proofs.Common.{◌≡◌, ℕ, ◌-◌, ◌*◌, ◌/◌, ◌%◌, ◌^◌, ◌<◌, ◌≤◌, arith}
use Rattle.std.proofs.Math.Nat.{div-mul-le_self, pow-le-pow_right}
use Rattle.std.proofs.lemmas.Nat.{mod_below, pow_pos, one_shl}
use Rattle.qcow2_types.specs.Words.{bits_at}

-- a cluster starts at or before each offset in it
pub cluster_begin : (offset cluster_bits : ℕ) → offset / 2 ^ cluster_bits * 2 ^ cluster_bits ≤ offset
cluster_begin offset cluster_bits = div-mul-le_self offset (2 ^ cluster_bits)

-- a compressed entry has at most 2^13 additional sectors
pub sectors_fit : (w first cluster_bits : ℕ) → cluster_bits ≤ 21 → bits_at w first (cluster_bits - 8) < 2 ^ 13
sectors_fit w first cluster_bits few =
    let less : cluster_bits - 8 ≤ 13 = omega arith in
    let most : 2 ^ (cluster_bits - 8) ≤ 2 ^ 13 = pow-le-pow_right (omega arith) less in
    let here : w / 2 ^ first % 2 ^ (cluster_bits - 8) < 2 ^ (cluster_bits - 8) = mod_below (w / 2 ^ first) (2 ^ (cluster_bits - 8)) (pow_pos (cluster_bits - 8)) in
    omega arith
