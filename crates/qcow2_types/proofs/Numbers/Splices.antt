-- The numbers in a file after bytes were spliced in.
use Rattle.std.proofs.Common.{◌≡◌, ℕ, zero, suc, ◌+◌, ◌-◌, ◌*◌, ◌^◌, ◌<◌, ◌≤◌, refl, arith, ◌∙◌, List, length, inl, inr}
use Rattle.std.specs.Prelude.{slice_index, ◌⊎◌}
use Rattle.std.specs.Int.{w64, to_be_bytes, from_be_bytes}
use Rattle.std.proofs.lemmas.Bool.Decides.{nat_tests}
use Rattle.std.proofs.lemmas.Nat.{from_be_bytes-to_be_bytes_8}
use Rattle.qcow2_types.specs.Bytes.{Bytes, be, raw_entry, splice, bytes_of}

pub be-same : (f g : Bytes) (i j n : ℕ) → ((k : ℕ) → k < n → f (i + k) ≡ g (j + k)) → be f i n ≡ be g j n
unfolding be
be-same f g i j zero same = refl
be-same f g i j (suc n) same =
    let front : be f i n ≡ be g j n = be-same f g i j n (λ k lt. same k (omega arith)) in
    let here : f (i + n) ≡ g (j + n) = same n (omega arith) in
    omega arith

pub splice-outside : (f : Bytes) (i : ℕ) (bytes : List ℕ) (p : ℕ) → (p < i) ⊎ (i + length bytes ≤ p) → splice f i bytes p ≡ f p
unfolding splice
splice-outside f i bytes p (inl before) = grind (arith, nat_tests)
splice-outside f i bytes p (inr after) = grind (arith, nat_tests)

pub splice-inside : (f : Bytes) (i : ℕ) (bytes : List ℕ) (k : ℕ) → k < length bytes → splice f i bytes (i + k) ≡ slice_index bytes k
unfolding splice
splice-inside f i bytes k lt = let same : (i + k) - i ≡ k = omega arith in rw same (grind (arith, nat_tests))

-- a number outside the splice is the same
pub be-splice-apart : (f : Bytes) (i : ℕ) (bytes : List ℕ) (j n : ℕ) → (j + n ≤ i) ⊎ (i + length bytes ≤ j) → be (splice f i bytes) j n ≡ be f j n
be-splice-apart f i bytes j n (inl before) = be-same (splice f i bytes) f j j n (λ k lt. splice-outside f i bytes (j + k) (inl (omega arith)))
be-splice-apart f i bytes j n (inr after) = be-same (splice f i bytes) f j j n (λ k lt. splice-outside f i bytes (j + k) (inr (omega arith)))

-- the number that the spliced bytes spell
pub be-splice-same : (f : Bytes) (i : ℕ) (bytes : List ℕ) → be (splice f i bytes) i (length bytes) ≡ be (bytes_of bytes) 0 (length bytes)
be-splice-same f i bytes = be-same (splice f i bytes) (bytes_of bytes) i 0 (length bytes)
    (λ k lt. let none : 0 + k ≡ k = omega arith in rw none (splice-inside f i bytes k lt))

-- the number that 8 bytes spell
pub be-of-bytes : (bytes : List ℕ) → be (bytes_of bytes) 0 8 ≡ from_be_bytes w64 bytes
unfolding be
be-of-bytes bytes = omega arith

-- a number written as 8 bytes is read back
pub be-written : (f : Bytes) (i n : ℕ) → n < 2 ^ 64 → be (splice f i (to_be_bytes w64 n)) i 8 ≡ n
be-written f i n fits = be-splice-same f i (to_be_bytes w64 n) ∙ (be-of-bytes (to_be_bytes w64 n) ∙ from_be_bytes-to_be_bytes_8 n fits)

pub word-written : (f : Bytes) (table i n : ℕ) → n < 2 ^ 64 → raw_entry (splice f (table + 8 * i) (to_be_bytes w64 n)) table i ≡ n
unfolding raw_entry
word-written f table i n fits = be-written f (table + 8 * i) n fits

pub be-zeroes : (f : Bytes) (i n : ℕ) → ((k : ℕ) → k < n → f (i + k) ≡ 0) → be f i n ≡ 0
unfolding be
be-zeroes f i zero none = refl
be-zeroes f i (suc n) none =
    let front : be f i n ≡ 0 = be-zeroes f i n (λ k lt. none k (omega arith)) in
    let last : f (i + n) ≡ 0 = none n (omega arith) in
    omega arith
