-- A digit of a number that is raised without a carry.
use Rattle.std.proofs.Common.{◌≡◌, ℕ, ◌+◌, ◌-◌, ◌*◌, ◌/◌, ◌%◌, ◌<◌, ◌≤◌, ◌^◌, ◌∙◌, inl, inr, ap, sym, arith, refl}
use Rattle.std.proofs.Math.Nat.{mod-le, mul-le-mul_right}
use Rattle.std.proofs.lemmas.Bool.{cases_lt}
use Rattle.std.proofs.lemmas.Nat.{mul-add-lt, shr_below, shr_split, shr-shr, pow-add, div-mul-add, mod-mul-add, mod_below, pow_pos}
use Rattle.qcow2_types.proofs.Counting.TableSizes.{next_below}

pub raised_quotient : (x s by : ℕ) → (x + by * 2 ^ s) / 2 ^ s ≡ x / 2 ^ s + by
raised_quotient x s by =
    let parts : x + by * 2 ^ s ≡ (x / 2 ^ s + by) * 2 ^ s + x % 2 ^ s = omega (arith, shr_split x s) in
    rw parts (div-mul-add (x / 2 ^ s + by) (2 ^ s) (x % 2 ^ s) (mod_below x (2 ^ s) (pow_pos s)))

pub raised_digit : (x s w by : ℕ) → x / 2 ^ s % 2 ^ w + by < 2 ^ w → (x + by * 2 ^ s) / 2 ^ s % 2 ^ w ≡ x / 2 ^ s % 2 ^ w + by
raised_digit x s w by h =
    let y = x / 2 ^ s in
    let parts : y + by ≡ y / 2 ^ w * 2 ^ w + (y % 2 ^ w + by) = omega (arith, shr_split y w) in
    rw (raised_quotient x s by) (rw parts (mod-mul-add (y / 2 ^ w) (2 ^ w) (y % 2 ^ w + by) h))

-- The higher digits are unchanged.
pub raised_above : (x s w t by : ℕ) → x / 2 ^ s % 2 ^ w + by < 2 ^ w → s + w ≤ t → (x + by * 2 ^ s) / 2 ^ t ≡ x / 2 ^ t
raised_above x s w t by h above =
    let y = x / 2 ^ s in
    let parts : y + by ≡ y / 2 ^ w * 2 ^ w + (y % 2 ^ w + by) = omega (arith, shr_split y w) in
    let carry : (y + by) / 2 ^ w ≡ y / 2 ^ w =
    rw parts (div-mul-add (y / 2 ^ w) (2 ^ w) (y % 2 ^ w + by) h) in
    let place : s + w + (t - (s + w)) ≡ t = omega arith in
    let at : (z : ℕ) → z / 2 ^ t ≡ z / 2 ^ s / 2 ^ w / 2 ^ (t - (s + w)) =
    λ z. ap (λ (k : ℕ). z / 2 ^ k) (sym place)
    ∙ sym (shr-shr z (s + w) (t - (s + w)))
    ∙ ap (λ (q : ℕ). q / 2 ^ (t - (s + w))) (sym (shr-shr z s w)) in
    at (x + by * 2 ^ s) ∙ (rw (raised_quotient x s by, carry) (sym (at x)))

regrouped : (a b c : ℕ) → a * (b * c) ≡ a * b * c
regrouped a b c = omega arith

raised_parts : (x y r q p v n : ℕ) → x ≡ y * p + r → n ≡ q * (p * v) → x + n ≡ (y + q * v) * p + r
raised_parts x y r q p v n whole part = omega (arith, whole, part)

next_parts : (y z r q v : ℕ) → y ≡ z * v + r → y + q * v ≡ (z + q) * v + r
next_parts y z r q v whole = omega (arith, whole)

-- The lower digits are unchanged.
pub raised_below : (x s w t by : ℕ) → t + w ≤ s → (x + by * 2 ^ s) / 2 ^ t % 2 ^ w ≡ x / 2 ^ t % 2 ^ w
raised_below x s w t by below =
    let y = x / 2 ^ t in
    let q = by * 2 ^ (s - (t + w)) in
    let place : s - (t + w) + (t + w) ≡ s = omega arith in
    let split : 2 ^ s ≡ 2 ^ (s - (t + w)) * (2 ^ t * 2 ^ w) =
    rw (← pow-add 2 t w) (rw (← pow-add 2 (s - (t + w)) (t + w)) (ap (λ (k : ℕ). 2 ^ k) (sym place))) in
    let power : by * 2 ^ s ≡ q * (2 ^ t * 2 ^ w) =
    ap (λ (k : ℕ). by * k) split ∙ regrouped by (2 ^ (s - (t + w))) (2 ^ t * 2 ^ w) in
    let parts : x + by * 2 ^ s ≡ (y + q * 2 ^ w) * 2 ^ t + x % 2 ^ t = raised_parts x y (x % 2 ^ t) q (2 ^ t) (2 ^ w) (by * 2 ^ s) (sym (shr_split x t)) power in
    let quotient : (x + by * 2 ^ s) / 2 ^ t ≡ y + q * 2 ^ w =
    rw parts (div-mul-add (y + q * 2 ^ w) (2 ^ t) (x % 2 ^ t) (mod_below x (2 ^ t) (pow_pos t))) in
    let digits : y + q * 2 ^ w ≡ (y / 2 ^ w + q) * 2 ^ w + y % 2 ^ w = next_parts y (y / 2 ^ w) (y % 2 ^ w) q (2 ^ w) (sym (shr_split y w)) in
    rw quotient (rw digits (mod-mul-add (y / 2 ^ w + q) (2 ^ w) (y % 2 ^ w) (mod_below y (2 ^ w) (pow_pos w))))

-- The number keeps its width.
pub raised_fits : (x s w n : ℕ) → s + w ≤ n → x < 2 ^ n → x / 2 ^ s % 2 ^ w + 1 < 2 ^ w → x + 2 ^ s < 2 ^ n
raised_fits x s w n inside small h =
    let j = n - (s + w) in
    let place : j + w + s ≡ n = omega arith in
    let whole : x < 2 ^ (j + w + s) = rw place small in
    let quotient : x / 2 ^ s + 1 < 2 ^ (j + w) =
    next_below (x / 2 ^ s) w j (j + w) refl (shr_below x (j + w) s whole) h in
    let number = mul-add-lt (x / 2 ^ s + 1) (2 ^ s) (x % 2 ^ s) (2 ^ (j + w)) quotient (mod_below x (2 ^ s) (pow_pos s)) in
    let power : 2 ^ n ≡ 2 ^ (j + w) * 2 ^ s =
    ap (λ (k : ℕ). 2 ^ k) (sym place) ∙ pow-add 2 (j + w) s in
    omega (arith, shr_split x s, number, power)

-- With a carry, the digit is less than what was added.
carries : (y w by : ℕ) → by < 2 ^ w → 2 ^ w ≤ y % 2 ^ w + by → (y + by) % 2 ^ w < by
carries y w by fits full =
    let below : y % 2 ^ w < 2 ^ w = mod_below y (2 ^ w) (pow_pos w) in
    let rest = y % 2 ^ w + by - 2 ^ w in
    let parts : y + by ≡ (y / 2 ^ w + 1) * 2 ^ w + rest = omega (arith, shr_split y w, full) in
    let digit : (y + by) % 2 ^ w ≡ rest = rw parts (mod-mul-add (y / 2 ^ w + 1) (2 ^ w) rest (omega (arith, below, fits, full))) in
    omega (arith, digit, below, full)

-- If the raised digit isn't less than what was added, there was no carry.
pub lowered_digit : (x s w by : ℕ) → by ≤ (x + by * 2 ^ s) / 2 ^ s % 2 ^ w → x / 2 ^ s % 2 ^ w + by < 2 ^ w
lowered_digit x s w by h =
    let y = x / 2 ^ s in
    let digit : by ≤ (y + by) % 2 ^ w = rw (raised_quotient x s by) at h in
    let top : (y + by) % 2 ^ w < 2 ^ w = mod_below (y + by) (2 ^ w) (pow_pos w) in
    elim (cases_lt (y % 2 ^ w + by) (2 ^ w)) [
      | inl room ↦ room
      | inr full ↦ absurd (let less = carries y w by (omega (arith, digit, top)) full in omega (arith, less, digit))
    ]

-- The number is at least as large as the part that is taken from a digit.
pub lowered_inside : (x s w by : ℕ) → by ≤ x / 2 ^ s % 2 ^ w → by * 2 ^ s ≤ x
lowered_inside x s w by h =
    let less : by ≤ x / 2 ^ s = omega (arith, h, mod-le (x / 2 ^ s) (2 ^ w)) in
    omega (arith, mul-le-mul_right (2 ^ s) less, shr_split x s)
