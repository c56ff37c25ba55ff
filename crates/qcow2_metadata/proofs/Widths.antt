-- The seven widths of refcounts, from 2 ^ 0 to 2 ^ 6 bits.
use Rattle.std.proofs.Common.{◌≡◌, ℕ, zero, suc, ◌+◌, ◌-◌, ◌*◌, ◌/◌, ◌%◌, ◌<◌, ◌≤◌, ◌^◌, arith, refl}
use Rattle.std.proofs.Math.Nat.{mul-le-mul_right}
use Rattle.std.proofs.lemmas.Nat.{mod_below, pow_pos, row_fits}
use Rattle.qcow2_metadata.specs.Cells.{bit_start, cell_bytes, cell_counters}

-- The refcounts of a cell fill its bytes.
pub cell_filled : (order : ℕ) → order ≤ 6 → cell_counters order * 2 ^ order ≡ 8 * cell_bytes order
cell_filled zero h = refl
cell_filled (suc zero) h = refl
cell_filled (suc (suc zero)) h = refl
cell_filled (suc (suc (suc zero))) h = refl
cell_filled (suc (suc (suc (suc zero)))) h = refl
cell_filled (suc (suc (suc (suc (suc zero))))) h = refl
cell_filled (suc (suc (suc (suc (suc (suc zero)))))) h = refl
cell_filled (suc (suc (suc (suc (suc (suc (suc n))))))) h = absurd (omega (arith, h))

pub cell_bytes_small : (order : ℕ) → order ≤ 6 → cell_bytes order ≤ 8
cell_bytes_small zero h = omega arith
cell_bytes_small (suc zero) h = omega arith
cell_bytes_small (suc (suc zero)) h = omega arith
cell_bytes_small (suc (suc (suc zero))) h = omega arith
cell_bytes_small (suc (suc (suc (suc zero)))) h = omega arith
cell_bytes_small (suc (suc (suc (suc (suc zero))))) h = omega arith
cell_bytes_small (suc (suc (suc (suc (suc (suc zero)))))) h = omega arith
cell_bytes_small (suc (suc (suc (suc (suc (suc (suc n))))))) h = absurd (omega (arith, h))

pub place_ends : (a b w : ℕ) → a < b → a * w + w ≤ b * w
place_ends a b w h = grind (arith, row_fits, mul-le-mul_right)

-- A refcount ends inside its cell.
pub bit_start_inside : (order i : ℕ) → order ≤ 6 → bit_start order i + 2 ^ order ≤ 8 * cell_bytes order
bit_start_inside order i h =
    let below : i % cell_counters order < cell_counters order =
    mod_below i (cell_counters order) (pow_pos (3 - order))
    in omega (
      arith,
      cell_filled order h,
      place_ends (i % cell_counters order) (cell_counters order) (2 ^ order) below,
    )

pub bit_start_below : (order i : ℕ) → order ≤ 6 → bit_start order i < 64
bit_start_below order i h =
    omega (arith, bit_start_inside order i h, cell_bytes_small order h, pow_pos order)

pub width_small : (order : ℕ) → order ≤ 6 → 2 ^ order ≤ 64
width_small order h = omega (arith, cell_filled order h, cell_bytes_small order h, place_ends 0 (cell_counters order) (2 ^ order) (pow_pos (3 - order)))

pub ruleset width_facts = (cell_bytes_small, pow_pos, width_small)
