-- The digits of a number: in base 2^w with the lowest first, and in base 256 with the highest first.
use Rattle.std.proofs.Common.{◌≡◌, ℕ, zero, suc, ◌+◌, ◌-◌, ◌*◌, ◌/◌, ◌%◌, ◌^◌, ◌<◌, ◌≤◌, refl, arith, ap, sym, ◌∙◌, inl, inr}
use Rattle.std.proofs.lemmas.Bool.{cases_lt}
use Rattle.std.proofs.lemmas.Nat.{mul-add-lt, div-mul-add, mod-mul-add, mod_below, pow_pos, pow-add, div-add-mod'}
use Rattle.std.proofs.Math.Nat.{zero-mul, mod-one, mod-eq_of_lt, div-eq_of_lt, pow-suc, add-mul-div_right, add-mul-mod_self_right, div-div-eq-div-mul}
use Rattle.qcow2_types.specs.Bytes.{Bytes, be, sum_below}

power-more : (n w : ℕ) → 2 ^ (suc n * w) ≡ 2 ^ (n * w) * 2 ^ w
power-more n w = let e : suc n * w ≡ n * w + w = omega arith in ap (λ k. 2 ^ k) e ∙ pow-add 2 (n * w) w

-- a number of n digits has n * w bits
pub digits-below : (w n : ℕ) (digit : ℕ → ℕ) → ((j : ℕ) → digit j < 2 ^ w) → sum_below n (λ j. digit j * 2 ^ (j * w)) < 2 ^ (n * w)
unfolding sum_below
digits-below w zero digit fits = rw (zero-mul w) (omega arith)
digits-below w (suc n) digit fits =
    let number : digit n * 2 ^ (n * w) + sum_below n (λ j. digit j * 2 ^ (j * w)) < 2 ^ (n * w) * 2 ^ w = mul-add-lt (digit n) (2 ^ (n * w)) (sum_below n (λ j. digit j * 2 ^ (j * w))) (2 ^ w) (fits n) (digits-below w n digit fits) in
    rw (power-more n w) number

-- each digit can be read from the number
pub digit-found : (w n j : ℕ) (digit : ℕ → ℕ) → ((j : ℕ) → digit j < 2 ^ w) → j < n → sum_below n (λ j. digit j * 2 ^ (j * w)) / 2 ^ (j * w) % 2 ^ w ≡ digit j
unfolding sum_below
digit-found w zero j digit fits lt = absurd (omega arith)
digit-found w (suc n) j digit fits lt =
    let rest : ℕ = sum_below n (λ j. digit j * 2 ^ (j * w)) in
    elim (cases_lt j n) [
      | inl before ↦
          let steps : n * w ≡ (n - suc j) * w + w + j * w = let e : n ≡ n - suc j + 1 + j = omega arith in ap (λ k. k * w) e ∙ omega arith in
          let power : 2 ^ (n * w) ≡ 2 ^ ((n - suc j) * w) * 2 ^ w * 2 ^ (j * w) = ap (λ k. 2 ^ k) steps ∙ (pow-add 2 ((n - suc j) * w + w) (j * w) ∙ ap (λ k. k * 2 ^ (j * w)) (pow-add 2 ((n - suc j) * w) w)) in
          let product : digit n * 2 ^ (n * w) ≡ digit n * 2 ^ ((n - suc j) * w) * 2 ^ w * 2 ^ (j * w) = ap (λ k. digit n * k) power ∙ omega arith in
          let parts : digit n * 2 ^ (n * w) + rest ≡ rest + digit n * 2 ^ ((n - suc j) * w) * 2 ^ w * 2 ^ (j * w) = omega (arith, product) in
          ap (λ x. x / 2 ^ (j * w) % 2 ^ w) parts
          ∙ (ap (λ x. x % 2 ^ w) (add-mul-div_right rest (digit n * 2 ^ ((n - suc j) * w) * 2 ^ w) (pow_pos (j * w)))
          ∙ (add-mul-mod_self_right (rest / 2 ^ (j * w)) (digit n * 2 ^ ((n - suc j) * w)) (2 ^ w)
          ∙ digit-found w n j digit fits before))
      | inr last ↦
          let here : j ≡ n = omega arith in
          ap (λ k. (digit n * 2 ^ (n * w) + rest) / 2 ^ (k * w) % 2 ^ w) here
          ∙ (ap (λ x. x % 2 ^ w) (div-mul-add (digit n) (2 ^ (n * w)) rest (digits-below w n digit fits))
          ∙ (mod-eq_of_lt (fits n) ∙ ap digit (sym here)))
    ]

-- the number that n digits of x make
pub digits-make : (w n x : ℕ) → sum_below n (λ j. x / 2 ^ (j * w) % 2 ^ w * 2 ^ (j * w)) ≡ x % 2 ^ (n * w)
unfolding sum_below
digits-make w zero x = rw (zero-mul w) (sym (mod-one x))
digits-make w (suc n) x =
    let base : ℕ = 2 ^ (n * w) in
    let y : ℕ = x / 2 ^ (n * w) in
    let low : ℕ = y % 2 ^ w * base + x % base in
    let below : low < base * 2 ^ w = mul-add-lt (y % 2 ^ w) base (x % base) (2 ^ w) (mod_below y (2 ^ w) (pow_pos w)) (mod_below x base (pow_pos (n * w))) in
    let upper : y * base ≡ (y / 2 ^ w * 2 ^ w + y % 2 ^ w) * base = ap (λ k. k * base) (sym (div-add-mod' y (2 ^ w))) in
    let parts : x ≡ y / 2 ^ w * (base * 2 ^ w) + low = omega (arith, upper, div-add-mod' x base) in
    ap (λ k. y % 2 ^ w * base + k) (digits-make w n x)
    ∙ sym (ap (λ k. x % k) (power-more n w) ∙ (ap (λ k. k % (base * 2 ^ w)) parts ∙ mod-mul-add (y / 2 ^ w) (base * 2 ^ w) low below))

-- bytes that are the digits of x spell x
pub be-of-digits : (f : Bytes) (at n x : ℕ) → x < 256 ^ n → ((m : ℕ) → m < n → f (at + m) ≡ x / 256 ^ (n - 1 - m) % 256) → be f at n ≡ x
unfolding be
be-of-digits f at n x small digits = let none : n - n ≡ 0 = omega arith in let one : x / 1 ≡ x = omega arith in front n (omega arith) ∙ (ap (λ k. x / 256 ^ k) none ∙ one)
  where
    front : (m : ℕ) → m ≤ n → be f at m ≡ x / 256 ^ (n - m)
    front zero le = let all : n - 0 ≡ n = omega arith in rw all (sym (div-eq_of_lt small))
    front (suc m) le =
        let before : be f at m ≡ x / 256 ^ (n - m) = front m (omega arith) in
        let left : n - m ≡ suc (n - 1 - m) = omega arith in
        let left' : n - suc m ≡ n - 1 - m = omega arith in
        let y : ℕ = x / 256 ^ (n - 1 - m) in
        let above : be f at m ≡ y / 256 = before ∙ (ap (λ k. x / 256 ^ k) left ∙ (ap (λ k. x / k) (pow-suc 256 (n - 1 - m)) ∙ sym (div-div-eq-div-mul x (256 ^ (n - 1 - m)) 256))) in
        let here : f (at + m) ≡ y % 256 = digits m (omega arith) in
        let all : be f at m * 256 + f (at + m) ≡ y = omega arith in
        all ∙ ap (λ k. x / 256 ^ k) (sym left')

-- each byte is a digit of the number that the bytes spell
pub be-digit : (f : Bytes) (at n m : ℕ) → ((k : ℕ) → f k < 256) → m < n → be f at n / 256 ^ (n - 1 - m) % 256 ≡ f (at + m)
unfolding be
be-digit f at zero m fits lt = absurd (omega arith)
be-digit f at (suc n) m fits lt =
    let last : f (at + n) < 256 = fits (at + n) in
    elim (cases_lt m n) [
      | inl before ↦
          let left : suc n - 1 - m ≡ suc (n - 1 - m) = omega arith in
          let split : 256 ^ suc (n - 1 - m) ≡ 256 * 256 ^ (n - 1 - m) = omega (arith, pow-suc 256 (n - 1 - m)) in
          ap (λ k. (be f at n * 256 + f (at + n)) / 256 ^ k % 256) left
          ∙ (ap (λ k. (be f at n * 256 + f (at + n)) / k % 256) split
          ∙ (ap (λ k. k % 256) (sym (div-div-eq-div-mul (be f at n * 256 + f (at + n)) 256 (256 ^ (n - 1 - m))))
          ∙ (ap (λ k. k / 256 ^ (n - 1 - m) % 256) (div-mul-add (be f at n) 256 (f (at + n)) last)
          ∙ be-digit f at n m fits before)))
      | inr end ↦
          let here : m ≡ n = omega arith in
          let left : suc n - 1 - m ≡ 0 = omega arith in
          let low : (be f at n * 256 + f (at + n)) / 1 % 256 ≡ f (at + n) = omega arith in
          ap (λ k. (be f at n * 256 + f (at + n)) / 256 ^ k % 256) left ∙ (low ∙ ap (λ k. f (at + k)) (sym here))
    ]

pub bytes-bits : (n : ℕ) → 256 ^ n ≡ 2 ^ (n * 8)
bytes-bits zero = refl
bytes-bits (suc n) = pow-suc 256 n ∙ (ap (λ k. k * 256) (bytes-bits n) ∙ sym (power-more n 8))

-- n bytes spell a number below 256^n
pub be-below : (f : Bytes) → ((p : ℕ) → f p < 256) → (i n : ℕ) → be f i n < 256 ^ n
unfolding be
be-below f fits i zero = omega arith
be-below f fits i (suc n) =
    let front : be f i n < 256 ^ n = be-below f fits i n in
    let last : f (i + n) < 256 = fits (i + n) in
    omega (arith, pow-suc 256 n)
