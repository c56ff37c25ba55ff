-- Big-endian numbers, one byte at a time.
use Rattle.std.proofs.Common.{◌≡◌, ℕ, ◌+◌, ◌*◌, ◌%◌, ◌^◌, ◌<◌, ◌≤◌, refl, arith, add-one, ◌∙◌, ap}
use Rattle.std.specs.Prelude.{bit_or}
use Rattle.std.proofs.Math.Nat.{pow-le-pow_right, pow-suc}
use Rattle.std.proofs.lemmas.Nat.{shl_whole, or_shifted}
use Rattle.qcow2_types.specs.Bytes.{Bytes, be}

pub be-none : (f : Bytes) (i : ℕ) → be f i 0 ≡ 0
unfolding be
be-none f i = refl

pub be-more : (f : Bytes) (i n : ℕ) → be f i (n + 1) ≡ be f i n * 256 + f (i + n)
unfolding be
be-more f i n = rw add-one refl

pub pow-more : (i : ℕ) → 256 ^ (i + 1) ≡ 256 ^ i * 256
pow-more i = rw (add-one, pow-suc) refl

-- a byte appended to a number of at most 7 bytes
pub one_more : (number byte i : ℕ) → number < 256 ^ i → i < 8 → byte < 256 → bit_or (number * 256 % 2 ^ 64) byte ≡ number * 256 + byte
one_more number byte i fits few below =
    let few' : i ≤ 7 = omega arith in
    let most : 256 ^ i ≤ 256 ^ 7 = pow-le-pow_right (omega arith) few' in
    let high : (number * 2 ^ 8) % 2 ^ 64 ≡ number * 2 ^ 8 = shl_whole number 56 8 64 (omega arith) (omega arith) in
    ap (λ n. bit_or n byte) high ∙ or_shifted number 8 byte below

pub more_fits : (number byte i : ℕ) → number < 256 ^ i → byte < 256 → number * 256 + byte < 256 ^ (i + 1)
more_fits number byte i fits below = rw pow-more (omega arith)

-- a byte appended to a number of at most 3 bytes
pub one_more_4 : (number byte i : ℕ) → number < 256 ^ i → i < 4 → byte < 256 → bit_or (number * 256 % 2 ^ 32) byte ≡ number * 256 + byte
one_more_4 number byte i fits few below =
    let few' : i ≤ 3 = omega arith in
    let most : 256 ^ i ≤ 256 ^ 3 = pow-le-pow_right (omega arith) few' in
    let high : (number * 2 ^ 8) % 2 ^ 32 ≡ number * 2 ^ 8 = shl_whole number 24 8 32 (omega arith) (omega arith) in
    ap (λ n. bit_or n byte) high ∙ or_shifted number 8 byte below
