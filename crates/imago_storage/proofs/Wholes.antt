-- The whole units of a range.
use Rattle.std.proofs.Common.{◌≡◌, refl, ℕ, ◌+◌, ◌-◌, ◌*◌, ◌/◌, ◌%◌, ◌^◌, ◌<◌, ◌≤◌, arith, sym, ◌∙◌, ap}
use Rattle.std.proofs.Math.Nat.{div-mul-le_self, mul-mod_left, add-mul-mod_self_right}
use Rattle.std.proofs.lemmas.Nat.{div-add-mod'}
use Rattle.imago_storage.specs.State.{IsUnitRange}
use Rattle.imago_storage.specs.Through.{round_up, round_down, HasWholeUnits, IsUnitAligned}
use Rattle.imago_storage.proofs.Rounding.{le_round_up, round_up_whole, sum_of_whole}

pub round_down_is : (unit n : ℕ) → round_down unit n ≡ n / unit * unit
unfolding round_down
round_down_is unit n = refl

pub round_down-le : (unit n : ℕ) → round_down unit n ≤ n
unfolding round_down
round_down-le unit n = div-mul-le_self n unit

pub round_down_whole : (unit n : ℕ) → round_down unit n % unit ≡ 0
unfolding round_down
round_down_whole unit n = mul-mod_left (n / unit) unit

pub round_up_is_whole : (unit n : ℕ) → round_up unit n % unit ≡ 0
unfolding round_up
round_up_is_whole unit n = mul-mod_left ((n + (unit - 1)) / unit) unit

-- If the rounded start doesn't fit 64 bits, the range has no whole unit.
pub no-start : (align at n : ℕ) → at + n < 2 ^ 64 → (round_up align (at + 0) < 2 ^ 64 → ⊥) → HasWholeUnits align at n → ⊥
no-start align at n fits far has =
    let same : round_up align (at + 0) ≡ round_up align at = ap (round_up align) (let e : at + 0 ≡ at = omega arith in e) in
    let down : round_down align (at + n) ≤ at + n = round_down-le align (at + n) in
    far (omega (arith, same, down, has, fits))

-- The start and the end of the whole units, as the code computes them.
pub whole-found : (align at n start end : ℕ) → start ≡ round_up align (at + 0) → end ≡ (at + n) / align * align → start < end → HasWholeUnits align at n × (◌≡◌ {A = ℕ × ℕ} (start, end) (round_up align at, round_down align (at + n)))
whole-found align at n start end start-is end-is lt =
    let first : start ≡ round_up align at = start-is ∙ ap (round_up align) (let e : at + 0 ≡ at = omega arith in e) in
    let last : end ≡ round_down align (at + n) = end-is ∙ sym (round_down_is align (at + n)) in
    (omega (arith, first, last, lt), ap (λ s. (s, end)) first ∙ ap (λ e. (round_up align at, e)) last)

pub none-found : (align at n start : ℕ) → start ≡ round_up align (at + 0) → (at + n) / align * align ≤ start → HasWholeUnits align at n → ⊥
none-found align at n start start-is le has =
    let first : start ≡ round_up align at = start-is ∙ ap (round_up align) (let e : at + 0 ≡ at = omega arith in e) in
    let last : (at + n) / align * align ≡ round_down align (at + n) = sym (round_down_is align (at + n)) in
    omega (arith, first, last, le, has)

-- A multiple of an alignment is a multiple of each number that divides the alignment.
pub whole-of : (align unit n : ℕ) → align % unit ≡ 0 → n % align ≡ 0 → n % unit ≡ 0
whole-of align unit n divides whole =
    let a : n ≡ n / align * align = omega (arith, div-add-mod' n align, whole) in
    let b : align ≡ align / unit * unit = omega (arith, div-add-mod' align unit, divides) in
    let c : n ≡ n / align * (align / unit) * unit = a ∙ (ap (λ m. n / align * m) b ∙ grind arith) in
    ap (λ m. m % unit) c ∙ mul-mod_left (n / align * (align / unit)) unit

-- The difference of two multiples of a unit is a multiple of it.
pub difference-whole : (unit a b : ℕ) → a ≤ b → a % unit ≡ 0 → b % unit ≡ 0 → (b - a) % unit ≡ 0
difference-whole unit a b le first second =
    let same : b - a + a / unit * unit ≡ b = omega (arith, div-add-mod' a unit, first, le) in
    sym (add-mul-mod_self_right (b - a) (a / unit) unit) ∙ (ap (λ m. m % unit) same ∙ second)

-- The range between two multiples of a unit is a valid range of a request.
pub between-whole : (unit a b : ℕ) → a ≤ b → a % unit ≡ 0 → b % unit ≡ 0 → b < 2 ^ 64 → IsUnitRange unit a (b - a)
between-whole unit a b le first second fits = record { start = first; size = difference-whole unit a b le first second; fits = omega (arith, le, fits) }

-- The end of whole units is a multiple of the unit.
pub behind-whole : (unit a b : ℕ) → 0 < unit → a < b → IsUnitRange unit a (b - a) → b % unit ≡ 0
behind-whole unit a b positive lt whole = ap (λ m. m % unit) (let e : b ≡ a + (b - a) = omega (arith, lt) in e) ∙ sum_of_whole unit a (b - a) positive whole.start whole.size

-- The empty range is a valid range of a request.
pub none-whole : (unit a : ℕ) → 0 < unit → a % unit ≡ 0 → a < 2 ^ 64 → IsUnitRange unit a 0
none-whole unit a positive whole fits = record { start = whole; size = ap (λ m. m % unit) (let e : 0 ≡ a - a = omega arith in e) ∙ difference-whole unit a a (omega arith) whole whole; fits = omega (arith, fits) }

module _ (align at n : ℕ) (w : ℕ × ℕ) (positive : 0 < align) (has : HasWholeUnits align at n) (is : w ≡ (round_up align at, round_down align (at + n))) where
  start-is : w.0 ≡ round_up align at
  start-is = ap (λ (p : ℕ × ℕ). p.0) is

  end-is : w.1 ≡ round_down align (at + n)
  end-is = ap (λ (p : ℕ × ℕ). p.1) is

  pub whole-behind : at ≤ w.0
  whole-behind = omega (arith, start-is, le_round_up align at positive)

  pub whole-some : w.0 < w.1
  whole-some = omega (arith, start-is, end-is, has)

  pub whole-inside : w.1 ≤ at + n
  whole-inside = omega (arith, end-is, round_down-le align (at + n))

  -- They are whole units of each alignment that divides `align`.
  pub whole-units : (unit : ℕ) → align % unit ≡ 0 → at + n < 2 ^ 64 → IsUnitRange unit w.0 (w.1 - w.0)
  whole-units unit divides fits =
      let first : w.0 % unit ≡ 0 = whole-of align unit w.0 divides (ap (λ m. m % align) start-is ∙ round_up_is_whole align at) in
      let last : w.1 % unit ≡ 0 = whole-of align unit w.1 divides (ap (λ m. m % align) end-is ∙ round_down_whole align (at + n)) in
      record { start = first; size = difference-whole unit w.0 w.1 (omega (arith, whole-some)) first last; fits = omega (arith, whole-some, whole-inside, fits) }

-- A nonempty range of whole units has no other part.
module _ (align at n : ℕ) (positive : 0 < align) (some : 0 < n) (units : IsUnitAligned align at n) where
  units-start : round_up align at ≡ at
  units-start = round_up_whole align at positive units.0

  units-end : round_down align (at + n) ≡ at + n
  units-end = round_down_is align (at + n) ∙ (let e : (at + n) / align * align ≡ at + n = omega (arith, div-add-mod' (at + n) align, sum_of_whole align at n positive units.0 units.1) in e)

  pub units-has : HasWholeUnits align at n
  units-has = omega (arith, units-start, units-end, some)

  pub units-all : (w : ℕ × ℕ) → w ≡ (round_up align at, round_down align (at + n)) → (at, at + n) ≡ w
  units-all w is = sym (is ∙ (ap (λ s. (s, round_down align (at + n))) units-start ∙ ap (λ e. (at, e)) units-end))
