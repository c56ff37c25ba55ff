-- Bytes that a file has at an offset: parts of them, the numbers that they spell, and the extensions read from them.
use Rattle.std.proofs.Common.{◌≡◌, ℕ, zero, suc, ◌+◌, ◌-◌, ◌*◌, ◌/◌, ◌^◌, ◌<◌, ◌≤◌, refl, arith, ap, subst, ◌∙◌, List, [], ◌∷◌, ◌++◌, length, replicate, get_or, length-append, append_assoc, Some, None, Ok}
use Rattle.std.specs.Prelude.{flat_map, Bool, true, false, ◌||◌, ◌==◌, nat_lt, slice_index, cond}
use Rattle.std.specs.Int.{w32, w64, to_be_bytes}
use Rattle.std.proofs.lemmas.Bool.Decides.{nat_tests}
use Rattle.std.proofs.lemmas.Grind.{common_steps}
use Rattle.std.proofs.lemmas.List.{length-replicate, get_or_append_left, get_or-append_right}
use Rattle.std.proofs.lemmas.List.Concat.{flat_map-cons}
use Rattle.qcow2_types.specs.Bytes.{Bytes, be, run}
use Rattle.qcow2_types.specs.OnDisk.{Holds}
use Rattle.qcow2_types.specs.Header.{Extension, extension_at, extensions_at, and_more, with_front, after, ◌>>=◌}
use Rattle.qcow2_types.specs.HeaderBytes.{padding, extension_bytes}
use Rattle.qcow2_types.proofs.Numbers.Splices.{be-zeroes}
use Rattle.qcow2_types.proofs.Fields.HeaderFields.{number-there_4, number-there_8}

pub holds-front : (f : Bytes) (at : ℕ) (xs ys : List ℕ) → Holds f at (xs ++ ys) → Holds f at xs
holds-front f at xs ys held k inside = held k (omega (arith, length-append xs ys)) ∙ get_or_append_left xs ys 0 k inside

pub holds-back : (f : Bytes) (at : ℕ) (xs ys : List ℕ) → Holds f at (xs ++ ys) → Holds f (at + length xs) ys
holds-back f at xs ys held k inside =
    let place : at + length xs + k ≡ at + (length xs + k) = omega arith in
    let first : length xs + k - length xs ≡ k = omega arith in
    rw place (held (length xs + k) (omega (arith, length-append xs ys)) ∙ (get_or-append_right xs ys (length xs) (length xs + k) 0 refl (omega arith) ∙ ap (λ i. get_or ys i 0) first))

-- equal bytes at an equal offset
pub holds-as : (f : Bytes) (at at' : ℕ) (xs ys : List ℕ) → at ≡ at' → xs ≡ ys → Holds f at xs → Holds f at' ys
holds-as f at at' xs ys p e held = subst (λ (i : ℕ). Holds f i ys) p (subst (Holds f at) e held)

pub held_4 : (f : Bytes) (at v : ℕ) → Holds f at (to_be_bytes w32 v) → v < 2 ^ 32 → be f at 4 ≡ v
held_4 f at v held fits = let place : at + 0 ≡ at = omega arith in rw place at (number-there_4 f at (to_be_bytes w32 v) 0 v held (omega arith) refl fits)

pub held_8 : (f : Bytes) (at v : ℕ) → Holds f at (to_be_bytes w64 v) → v < 2 ^ 64 → be f at 8 ≡ v
held_8 f at v held fits = let place : at + 0 ≡ at = omega arith in rw place at (number-there_8 f at (to_be_bytes w64 v) 0 v held (omega arith) refl fits)

-- `run` reads the bytes that the file holds
pub run-held : (f : Bytes) (at : ℕ) (bytes : List ℕ) → Holds f at bytes → run f at (length bytes) ≡ bytes
unfolding run
run-held f at [] held = refl
run-held f at (b ∷ bs) held =
    let place : at + 0 ≡ at = omega arith in
    let here : f at ≡ b = rw place at (held 0 (omega arith)) in
    let rest : run f (at + 1) (length bs) ≡ bs = run-held f (at + 1) bs (holds-back f at (b ∷ []) bs held) in
    rw (here, rest) refl

-- the length of an extension's bytes
pub length-extension_bytes : (x : Extension) → length (extension_bytes x) ≡ 8 + (length x.1 + 7) / 8 * 8
unfolding extension_bytes padding
length-extension_bytes x =
    let head : List ℕ = to_be_bytes w32 x.0 ++ to_be_bytes w32 (length x.1) in
    let pad : List ℕ = replicate ((length x.1 + 7) / 8 * 8 - length x.1) 0 in
    omega (arith, length-append (to_be_bytes w32 x.0 ++ to_be_bytes w32 (length x.1) ++ x.1) pad, length-append (to_be_bytes w32 x.0 ++ to_be_bytes w32 (length x.1)) x.1, length-replicate {A = ℕ} ((length x.1 + 7) / 8 * 8 - length x.1) 0)

-- an extension that can be read back: its type isn't 0, and its numbers fit
pub record IsPlainExtension (x : Extension) : Type 0 where
  pub some : 0 < x.0
  pub kind : x.0 < 2 ^ 32
  pub size : length x.1 < 2 ^ 32

module _ (f : Bytes) (end at : ℕ) (x : Extension) (held : Holds f at (extension_bytes x)) (plain : IsPlainExtension x) (room : at + 8 + length x.1 ≤ end) where
  kind-held : be f at 4 ≡ x.0
  unfolding extension_bytes
  kind-held = held_4 f at x.0 (holds-front f at (to_be_bytes w32 x.0) (to_be_bytes w32 (length x.1)) (holds-front f at (to_be_bytes w32 x.0 ++ to_be_bytes w32 (length x.1)) x.1 (holds-front f at (to_be_bytes w32 x.0 ++ to_be_bytes w32 (length x.1) ++ x.1) (padding (length x.1)) held))) plain.kind

  size-held : be f (at + 4) 4 ≡ length x.1
  unfolding extension_bytes
  size-held = held_4 f (at + 4) (length x.1) (holds-back f at (to_be_bytes w32 x.0) (to_be_bytes w32 (length x.1)) (holds-front f at (to_be_bytes w32 x.0 ++ to_be_bytes w32 (length x.1)) x.1 (holds-front f at (to_be_bytes w32 x.0 ++ to_be_bytes w32 (length x.1) ++ x.1) (padding (length x.1)) held))) plain.size

  bytes-held : run f (at + 8) (length x.1) ≡ x.1
  unfolding extension_bytes
  bytes-held = run-held f (at + 8) x.1 (holds-back f at (to_be_bytes w32 x.0 ++ to_be_bytes w32 (length x.1)) x.1 (holds-front f at (to_be_bytes w32 x.0 ++ to_be_bytes w32 (length x.1) ++ x.1) (padding (length x.1)) held))

  -- The extension is read.
  pub extension-held : extension_at f end at ≡ Ok (Some x)
  unfolding extension_at
  extension-held =
      let inside : nat_lt end (at + 8) ≡ false = grind (arith, nat_tests) in
      let kind : (x.0 == 0) ≡ false = let some : 0 < x.0 = plain.some in grind (arith, nat_tests) in
      let fits : nat_lt end (at + 8 + length x.1) ≡ false = grind (arith, nat_tests) in
      rw (kind-held, size-held, inside, kind, fits, bytes-held) refl

-- An extension of type 0 ends the list.
none-left : (f : Bytes) (end at : ℕ) → Holds f at (replicate 8 0) → extension_at f end at ≡ Ok None
unfolding extension_at
none-left f end at held =
    let ends : be f at 4 ≡ 0 = be-zeroes f at 4 (λ k lt. held k (omega (arith, lt)) ∙ zero-there k (omega (arith, lt))) in
    rw ends (either _ _ (nat_lt end (at + 8)))
  where
    zero-there : (k : ℕ) → k < 8 → slice_index (replicate 8 0) k ≡ 0
    zero-there k lt = grind (arith, common_steps)

    either : {A : Type 0} (a r : A) (b : Bool) → cond (b || true) a r ≡ a
    either a r true = refl
    either a r false = refl

-- extensions that can be read back
abbrev pub ArePlain : List Extension → Type 0
ArePlain [] = Unit {0}
ArePlain (x ∷ xs) = IsPlainExtension x × ArePlain xs

-- Extensions followed by 8 zeroes are read.
pub extensions-held : (n : ℕ) (f : Bytes) (end at : ℕ) (xs : List Extension) → Holds f at (flat_map extension_bytes xs ++ replicate 8 0) → ArePlain xs → at + length (flat_map extension_bytes xs) + 8 ≤ end → length xs ≤ n
    → extensions_at n f end at ≡ Ok xs
unfolding extensions_at
extensions-held zero f end at [] held plain room enough = refl
extensions-held zero f end at (x ∷ xs) held plain room enough = absurd (omega (arith, enough))
extensions-held (suc n) f end at [] held plain room enough = ap (λ r. r >>= and_more (λ x. extensions_at n f end (after at x))) (none-left f end at held)
extensions-held (suc n) f end at (x ∷ xs) held plain room enough =
    let long : length (extension_bytes x) ≡ 8 + (length x.1 + 7) / 8 * 8 = length-extension_bytes x in
    let split : flat_map extension_bytes (x ∷ xs) ++ replicate 8 0 ≡ extension_bytes x ++ (flat_map extension_bytes xs ++ replicate 8 0) =
    ap (λ bytes. bytes ++ replicate 8 0) (flat_map-cons extension_bytes x xs) ∙ append_assoc (extension_bytes x) (flat_map extension_bytes xs) (replicate 8 0) in
    let all : Holds f at (extension_bytes x ++ (flat_map extension_bytes xs ++ replicate 8 0)) = holds-as f at at _ _ refl split held in
    let size : length (flat_map extension_bytes (x ∷ xs)) ≡ length (extension_bytes x) + length (flat_map extension_bytes xs) =
    ap length (flat_map-cons extension_bytes x xs) ∙ length-append (extension_bytes x) (flat_map extension_bytes xs) in
    let next : at + length (extension_bytes x) ≡ after at x = omega (arith, long) in
    let first : extension_at f end at ≡ Ok (Some x) = extension-held f end at x (holds-front f at (extension_bytes x) (flat_map extension_bytes xs ++ replicate 8 0) all) plain.0 (omega (arith, long, size, room)) in
    let rest : extensions_at n f end (after at x) ≡ Ok xs =
    extensions-held n f end (after at x) xs (holds-as f _ _ _ _ next refl (holds-back f at (extension_bytes x) (flat_map extension_bytes xs ++ replicate 8 0) all)) plain.1 (omega (arith, next, size, room)) (omega (arith, enough)) in
    ap (λ r. r >>= and_more (λ y. extensions_at n f end (after at y))) first ∙ ap (with_front x) rest
