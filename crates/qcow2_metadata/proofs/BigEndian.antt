-- Bytes and their big-endian numbers.
use Rattle.std.proofs.Common.{◌≡◌, ℕ, zero, suc, ◌+◌, ◌*◌, ◌<◌, ◌≤◌, ◌^◌, List, [], ◌∷◌, ◌++◌, length, get_or, take, refl, ap, ◌∙◌, arith}
use Rattle.std.specs.Int.Digits.{number_from_digits, AllBelowBase}
use Rattle.std.proofs.lemmas.Int.Digits.{number_lt}
use Rattle.std.proofs.Common.{◌/◌, ◌%◌, set, drop}
use Rattle.std.proofs.lemmas.List.{length-take, length-append, length-drop, take_at, drop_all, set_split}
use Rattle.std.proofs.lemmas.Int.Digits.{number_push}
use Rattle.std.proofs.Math.Nat.{pow-le-pow_right, pow-suc}
use Rattle.std.proofs.lemmas.Nat.{pow-add}
use Rattle.std.specs.Int.{w64, from_be_bytes}
use Rattle.qcow2_types.specs.Bytes.{Bytes, be}
use Rattle.qcow2_metadata.specs.Cells.{big_endian}

pub all_bytes : (bytes : List ℕ) → ((i : ℕ) → get_or bytes i 0 < 256) → AllBelowBase 256 bytes
all_bytes [] h = tt
all_bytes (b ∷ bs) h = (h 0, all_bytes bs (λ i. h (suc i)))

pub all_bytes_take : (n : ℕ) (bytes : List ℕ) → AllBelowBase 256 bytes → AllBelowBase 256 (take n bytes)
all_bytes_take zero bytes h = tt
all_bytes_take (suc n) [] h = tt
all_bytes_take (suc n) (b ∷ bs) h = (h.0, all_bytes_take n bs h.1)

-- The number of the first bytes is small enough to append one more of eight bytes.
pub first_bytes_small : (bytes : List ℕ) (i : ℕ) → ((k : ℕ) → get_or bytes k 0 < 256) → length bytes ≤ 8 → i < length bytes → big_endian (take i bytes) < 2 ^ 56
first_bytes_small bytes i h short inside =
    let all = all_bytes_take i bytes (all_bytes bytes h) in
    let below : number_from_digits 256 (take i bytes) < 256 ^ length (take i bytes) =
    number_lt 256 (take i bytes) all in
    let few : length (take i bytes) ≤ 7 = omega (arith, length-take i bytes) in
    let room : 256 ^ length (take i bytes) ≤ 256 ^ 7 = pow-le-pow_right {n = 256} (omega arith) few in
    omega (arith, below, room)

-- The lowest byte is written last.
pub big_endian-write_last : (front bytes : List ℕ) (n v : ℕ) → length bytes ≡ n + 1 → length front ≡ n → big_endian front ≡ v / 256 → big_endian (set (front ++ drop n bytes) n (v % 256)) ≡ v
big_endian-write_last front bytes n v whole short high =
    let rest : length (drop n bytes) ≡ 1 = omega (arith, length-drop n bytes) in
    let all : length (front ++ drop n bytes) ≡ n + 1 = omega (arith, length-append front (drop n bytes)) in
    let start : take n (front ++ drop n bytes) ≡ front = take_at front (drop n bytes) n short in
    let end : drop (suc n) (front ++ drop n bytes) ≡ [] = drop_all (suc n) (front ++ drop n bytes) (omega arith) in
    let split : set (front ++ drop n bytes) n (v % 256) ≡ front ++ (v % 256) ∷ [] =
    set_split (front ++ drop n bytes) n (v % 256) (omega arith)
    ∙ (rw (start, end) refl)
    in rw split (number_push 256 front (v % 256) ∙ rw high (omega arith))

pub big_endian_below : (bytes : List ℕ) → ((k : ℕ) → get_or bytes k 0 < 256) → big_endian bytes < 256 ^ length bytes
big_endian_below bytes h = number_lt 256 bytes (all_bytes bytes h)

pub bytes_as_bits : (n : ℕ) → 256 ^ n ≡ 2 ^ (8 * n)
bytes_as_bits zero = refl
bytes_as_bits (suc n) =
    let more : 2 ^ (8 * suc n) ≡ 2 ^ (8 * n) * 2 ^ 8 = ap (λ (k : ℕ). 2 ^ k) (omega arith) ∙ pow-add 2 (8 * n) 8 in
    omega (arith, pow-suc 256 n, bytes_as_bits n, more)

-- Eight bytes as an array give the same number as `be`.
pub eight_bytes : (f : Bytes) (i : ℕ) → from_be_bytes w64 (f i ∷ f (i + 1) ∷ f (i + 2) ∷ f (i + 3) ∷ f (i + 4) ∷ f (i + 5) ∷ f (i + 6) ∷ f (i + 7) ∷ []) ≡ be f i 8
unfolding be
eight_bytes f i =
    let first : i + 0 ≡ i = omega arith in
    rw first (omega arith)
