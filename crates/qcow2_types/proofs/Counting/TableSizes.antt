-- The sizes of L2 tables are powers of 2, and an entry of a table is inside one cluster.
use Rattle.std.proofs.Common.{◌≡◌, ℕ, ◌+◌, ◌-◌, ◌*◌, ◌/◌, ◌%◌, ◌^◌, ◌<◌, ◌≤◌, arith, ap, sym, ◌∙◌}
use Rattle.std.proofs.Math.Nat.{div-add-mod}
use Rattle.std.proofs.lemmas.Nat.{shl-shr, pow-add, mod_below, mul-add-lt, shr_below, shr_split}
use Rattle.qcow2_types.specs.Entries.{l2_entries}

pub entries_power : (b : ℕ) → 9 ≤ b → l2_entries b ≡ 2 ^ (b - 3)
entries_power b low =
    let apart : b ≡ b - 3 + 3 = omega arith in
    ap (λ n. 2 ^ n / 8) apart ∙ ap (λ n. n / 8) (pow-add 2 (b - 3) 3) ∙ shl-shr (2 ^ (b - 3)) 3

pub mapped_power : (b : ℕ) → 9 ≤ b → l2_entries b * 2 ^ b ≡ 2 ^ (2 * b - 3)
mapped_power b low =
    let apart : b - 3 + b ≡ 2 * b - 3 = omega arith in
    ap (λ n. n * 2 ^ b) (entries_power b low) ∙ sym (pow-add 2 (b - 3) b) ∙ ap (λ n. 2 ^ n) apart

-- A number whose lowest k bits aren't all 1 has a successor of the same width.
pub next_below : (n k j w : ℕ) → j + k ≡ w → n < 2 ^ w → n % 2 ^ k + 1 < 2 ^ k → n + 1 < 2 ^ w
next_below n k j w e h r =
    let whole : n < 2 ^ (j + k) = rw e h in
    let place : n / 2 ^ k * 2 ^ k + (n % 2 ^ k + 1) < 2 ^ k * 2 ^ j =
    mul-add-lt (n / 2 ^ k) (2 ^ k) (n % 2 ^ k + 1) (2 ^ j) (shr_below n j k whole) r
    in rw (← e) (omega (arith, place, shr_split n k, pow-add 2 j k))

-- an entry of a table at a cluster's offset is inside one cluster
pub word-in-cluster : (offset size raw_entries i : ℕ) → 0 < size → raw_entries * 8 ≡ size → offset % size ≡ 0 → offset + 8 * i + 8 ≤ ((offset + 8 * i) / size + 1) * size
word-in-cluster offset size raw_entries i pos whole-words begins =
    let q : ℕ = (offset + 8 * i) / size in
    let rest : (offset + 8 * i) % size < size = mod_below (offset + 8 * i) size pos in
    let split : size * ((offset + 8 * i) / size) + (offset + 8 * i) % size ≡ offset + 8 * i = div-add-mod (offset + 8 * i) size in
    let begin : size * (offset / size) + offset % size ≡ offset = div-add-mod offset size in
    let a : ((offset + 8 * i) / size) * (raw_entries * 8) ≡ ((offset + 8 * i) / size) * size = ap (λ x. (offset + 8 * i) / size * x) whole-words in
    let b : offset / size * (raw_entries * 8) ≡ offset / size * size = ap (λ x. offset / size * x) whole-words in
    omega arith
