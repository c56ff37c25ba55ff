-- The bytes of an extension or of a feature bit's name, appended part by part.
use Rattle.std.proofs.Common.{◌≡◌, ◌≢◌, ℕ, ◌+◌, ◌-◌, ◌*◌, ◌/◌, ◌%◌, ◌≤◌, refl, arith, ap, sym, ◌∙◌, List, [], ◌∷◌, ◌++◌, length, take, drop, replicate, append_assoc, inl, inr}
use Rattle.std.specs.Prelude.{flat_map, min, true, false, ◌==◌, cond, Result, Ok, Err, OnOk, is_ok}
use Rattle.std.proofs.lemmas.Grind.{flat_map-append}
use Rattle.std.proofs.lemmas.Bool.Decides.{nat_tests}
use Rattle.std.specs.Int.{w32, w64, to_be_bytes}
use Rattle.std.proofs.lemmas.Bool.{cases_lt}
use Rattle.std.proofs.lemmas.List.{take-replicate, take_all}
use Rattle.qcow2_types.specs.Header.{Header, Extension}
use Rattle.qcow2_types.specs.HeaderBytes.{padding, extension_bytes, extension_of, extensions_of, extensions_bytes, names_data, feature_bytes}

pub zeroes-taken : (n : ℕ) → n ≤ 46 → take {A = ℕ} n (replicate 46 0) ≡ replicate n 0
zeroes-taken n le = take-replicate n 46 0 le

-- The number of zeroes that pad `n` bytes to a multiple of 8.
pub fill-up : (n : ℕ) → replicate {A = ℕ} ((8 - n % 8) % 8) 0 ≡ padding n
unfolding padding
fill-up n = let same : (8 - n % 8) % 8 ≡ (n + 7) / 8 * 8 - n = omega arith in ap (λ k. replicate k 0) same

pub low-bytes : (n : ℕ) (bytes : List ℕ) → bytes ≡ to_be_bytes w64 n → take 4 (drop 4 bytes) ≡ to_be_bytes w32 n
low-bytes n bytes is = rw is refl

pub extension-pushed : (old one two three bytes : List ℕ) (kind : ℕ) → one ≡ old ++ to_be_bytes w32 kind → two ≡ one ++ to_be_bytes w32 (length bytes) → three ≡ two ++ bytes
    → three ++ replicate ((8 - length bytes % 8) % 8) 0 ≡ old ++ extension_bytes (kind, bytes)
unfolding extension_bytes
extension-pushed old one two three bytes kind a b d =
    rw (fill-up (length bytes), d, b, a) (simp append_assoc)

-- The text of a name, cut or padded.
pub name-cut : (text : List ℕ) (n : ℕ) → n ≡ min (length text) 46 → (take n text ≡ take 46 text) × (replicate {A = ℕ} (46 - n) 0 ≡ replicate (46 - length text) 0)
name-cut text n is = elim (cases_lt (length text) 46) [
  | inl lt ↦
      let n' : n ≡ length text = omega arith in
      (rw n' (take_all (length text) text (omega arith) ∙ sym (take_all 46 text (omega arith))), rw n' refl)
  | inr le ↦
      let n' : n ≡ 46 = omega arith in
      let none : 46 - length text ≡ 0 = omega arith in
      (rw n' refl, rw (n', none) refl)
]

pub name-pushed : (old one two three text : List ℕ) (kind bit n : ℕ) → one ≡ old ++ kind ∷ [] → two ≡ one ++ bit ∷ [] → three ≡ two ++ take n text → n ≡ min (length text) 46
    → three ++ replicate (46 - n) 0 ≡ old ++ feature_bytes (record { kind = kind; bit = bit; name = text })
unfolding feature_bytes
name-pushed old one two three text kind bit n a b d is =
    let cut = name-cut text n is in
    rw (cut.1, d, cut.0, b, a) (simp append_assoc)

-- The bytes that the last of several calls appends.
pub pushed-last : {E : Type 0} (r : Result (Unit {0}) E) (now old more bytes : List ℕ) → now ≡ cond (is_ok r) (old ++ more) old → more ≡ bytes → OnOk r (now ≡ old ++ bytes)
pushed-last (Ok u) now old more bytes is same = is ∙ ap (λ xs. old ++ xs) same
pushed-last (Err e) now old more bytes is same = tt

-- The extensions and the 8 zero bytes that end them, in version 3.
pub extensions-newer : (H : Header) (start one two three : List ℕ) → H.fields.version ≡ 3 → one ≡ start ++ flat_map extension_bytes (extension_of 0xE279_2ACA H.backing_format)
    → two ≡ one ++ flat_map extension_bytes (extension_of 0x4441_5441 H.data_file_name) → three ≡ two ++ flat_map extension_bytes (extension_of 0x6803_F857 (names_data H.features))
    → three ++ replicate 8 0 ≡ start ++ extensions_bytes H
unfolding extensions_bytes extensions_of
extensions-newer H start one two three newer a b d =
    let test : (H.fields.version == 3) ≡ true = grind (arith, nat_tests) in
    let first : List Extension = extension_of 0xE279_2ACA H.backing_format in
    let second : List Extension = extension_of 0x4441_5441 H.data_file_name in
    let third : List Extension = extension_of 0x6803_F857 (names_data H.features) in
    let all : flat_map extension_bytes (first ++ second ++ third) ≡ flat_map extension_bytes first ++ flat_map extension_bytes second ++ flat_map extension_bytes third =
    flat_map-append extension_bytes (first ++ second) third ∙ ap (λ xs. xs ++ flat_map extension_bytes third) (flat_map-append extension_bytes first second) in
    rw (test, all, d, b, a) (simp append_assoc)

-- In version 2.
pub extensions-older : (H : Header) (start : List ℕ) → H.fields.version ≢ 3 → start ++ replicate 8 0 ≡ start ++ extensions_bytes H
unfolding extensions_bytes
extensions-older H start older = let test : (H.fields.version == 3) ≡ false = grind (arith, nat_tests) in rw test refl
