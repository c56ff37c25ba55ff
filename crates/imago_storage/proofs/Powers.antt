-- Powers of two: the larger of two alignments is a multiple of both.
use Rattle.std.proofs.Common.{◌≡◌, refl, inl, inr, ℕ, zero, suc, ◌+◌, ◌-◌, ◌*◌, ◌/◌, ◌%◌, ◌^◌, ◌≤◌, arith, ◌∙◌, ap}
use Rattle.std.proofs.Math.Nat.{pow-suc, pow-le-pow_right}
use Rattle.std.proofs.lemmas.Nat.{div-add-mod', mod_below, mod-mul-add, pow-add}
use Rattle.std.proofs.lemmas.Bool.{cases_eq, cases_lt}
use Rattle.imago_storage.specs.State.{IsAlignment}

pub one_of_one : (d q : ℕ) → d * q ≡ 1 → d ≡ 1
one_of_one zero q is = absurd (omega arith)
one_of_one (suc zero) q is = refl
one_of_one (suc (suc d)) zero is = absurd (omega arith)
one_of_one (suc (suc d)) (suc q) is = absurd (omega arith)

-- A divisor of a power of two is a power of two.
pub power_of : (k d q : ℕ) → d * q ≡ 2 ^ k → (e : ℕ) × (e ≤ k) × (d ≡ 2 ^ e)
power_of zero d q is = (0, omega arith, one_of_one d q is)
power_of (suc k) d q is =
    let twice : 2 ^ suc k ≡ 2 * 2 ^ k = omega (arith, pow-suc 2 k) in
    elim (cases_eq (d % 2) 0) [
      | inl even ↦
          let a = d / 2 in
          let d_is : d ≡ 2 * a = omega (arith, div-add-mod' d 2) in
          let rest : a * q ≡ 2 ^ k = omega (arith, twice, ap (λ (n : ℕ). n * q) d_is, is) in
          let found = power_of k a q rest in
          (suc found.0, omega (arith, found.1), omega (arith, d_is, found.2, pow-suc 2 found.0))
      | inr odd ↦
          let a = d / 2 in
          let b = q / 2 in
          let odd_one : d % 2 ≡ 1 = omega (arith, mod_below d 2 (omega arith)) in
          let d_is : d ≡ 2 * a + 1 = omega (arith, div-add-mod' d 2) in
          elim (cases_eq (q % 2) 0) [
            | inl even ↦
                let q_is : q ≡ 2 * b = omega (arith, div-add-mod' q 2) in
                let rest : d * b ≡ 2 ^ k = omega (arith, twice, ap (λ (n : ℕ). d * n) q_is, is) in
                let found = power_of k d b rest in
                (found.0, omega (arith, found.1), found.2)
            | inr odd_q ↦
                let odd_two : q % 2 ≡ 1 = omega (arith, mod_below q 2 (omega arith)) in
                let q_is : q ≡ 2 * b + 1 = omega (arith, div-add-mod' q 2) in
                let product : d * q ≡ (2 * a + 1) * (2 * b + 1) = ap (λ (n : ℕ). n * q) d_is ∙ ap (λ (n : ℕ). (2 * a + 1) * n) q_is in
                absurd (omega (arith, twice, product, is))
          ]
    ]

pub alignment_power : (n : ℕ) → IsAlignment n → (e : ℕ) × (n ≡ 2 ^ e)
alignment_power n alignment =
    let whole : n * (2 ^ 20 / n) ≡ 2 ^ 20 = omega (arith, div-add-mod' (2 ^ 20) n, alignment.divides) in
    let found = power_of 20 n (2 ^ 20 / n) whole in
    (found.0, found.2)

-- The smaller of two alignments divides the larger.
pub divides_larger : (a b : ℕ) → IsAlignment a → IsAlignment b → a ≤ b → b % a ≡ 0
divides_larger a b first second le =
    let x = alignment_power a first in
    let y = alignment_power b second in
    elim (cases_lt y.0 x.0) [
      | inl lt ↦
          let down = pow-le-pow_right {n = 2} (omega arith) (let l : y.0 ≤ x.0 = omega arith in l) in
          let same : b ≡ 1 * a + 0 = omega (arith, x.1, y.1, down, le) in
          ap (λ (n : ℕ). n % a) same ∙ mod-mul-add 1 a 0 first.positive
      | inr ge ↦
          let split : y.0 ≡ (y.0 - x.0) + x.0 = omega arith in
          let product : b ≡ 2 ^ (y.0 - x.0) * a + 0 = y.1 ∙ ap (λ (n : ℕ). 2 ^ n) split ∙ pow-add 2 (y.0 - x.0) x.0 ∙ omega (arith, ap (λ (n : ℕ). 2 ^ (y.0 - x.0) * n) x.1) in
          ap (λ (n : ℕ). n % a) product ∙ mod-mul-add (2 ^ (y.0 - x.0)) a 0 first.positive
    ]
