-- The names of feature bits load the same after they are written.
use Rattle.std.proofs.Common.{◌≡◌, ℕ, zero, suc, ◌+◌, ◌-◌, ◌*◌, ◌/◌, ◌≤◌, refl, arith, ap, sym, ◌∙◌, List, [], ◌∷◌, ◌++◌, length, take, drop, replicate, length-append, length-take, append_assoc, append-nil}
use Rattle.std.specs.Prelude.{flat_map, take_while, Bool, true, false, ◌&&◌, ◌||◌, ◌==◌, not, nat_lt, nat_le}
use Rattle.std.specs.List.{list_all, prefix_len}
use Rattle.std.specs.Str.{is_utf8}
use Rattle.std.proofs.lemmas.Bool.Decides.{nat_tests}
use Rattle.std.proofs.lemmas.List.{length-replicate, take_all}
use Rattle.std.proofs.lemmas.List.Concat.{flat_map-cons}
use Rattle.std.proofs.Math.Seq.{take-append_seam, drop-append_seam}
use Rattle.std.proofs.Math.Nat.{mul-div_cancel}
use Rattle.qcow2_types.specs.Header.{Feature, feature_in, features_of, features_read, comes_before, with_name, with_names}
use Rattle.qcow2_types.specs.HeaderBytes.{feature_bytes, names_data}
use Rattle.qcow2_metadata.specs.Features.{is_first, in_order}
use Rattle.qcow2_metadata.specs.Reloading.{is_plain_name}

both : (a b : Bool) → (a && b) ≡ true → (a ≡ true) × (b ≡ true)
both true b e = (refl, e)
both false b e = absurd cc

-- A text without a byte 0, followed by zeroes.
until-zero : (name : List ℕ) (n : ℕ) → list_all (λ b. not (b == 0)) name ≡ true → take_while (λ b. not (b == 0)) (name ++ replicate n 0) ≡ name
until-zero [] zero none = refl
until-zero [] (suc n) none = refl
until-zero (b ∷ bs) n none =
    let parts = both (not (b == 0)) (list_all (λ c. not (c == 0)) bs) none in
    let up : 1 + prefix_len (λ c. not (c == 0)) (bs ++ replicate n 0) ≡ suc (prefix_len (λ c. not (c == 0)) (bs ++ replicate n 0)) = omega arith in
    rw (parts.0, up) (ap (λ xs. b ∷ xs) (until-zero bs n parts.1))

pub record PlainName (x : Feature) : Type 0 where
  pub kind : nat_lt x.kind 3 ≡ true
  pub text : is_utf8 x.name ≡ true
  pub short : length x.name ≤ 46
  pub whole : list_all (λ b. not (b == 0)) x.name ≡ true

plain-name : (x : Feature) → is_plain_name x ≡ true → PlainName x
plain-name x plain =
    let a = both (nat_lt x.kind 3 && is_utf8 x.name && nat_le (length x.name) 46) (list_all (λ b. not (b == 0)) x.name) plain in
    let b = both (nat_lt x.kind 3 && is_utf8 x.name) (nat_le (length x.name) 46) a.0 in
    let c = both (nat_lt x.kind 3) (is_utf8 x.name) b.0 in
    let few : nat_le (length x.name) 46 ≡ true = b.1 in
    record { kind = c.0; text = c.1; short = grind (arith, nat_tests); whole = a.1 }

pub length-feature_bytes : (x : Feature) → length (feature_bytes x) ≡ 48
unfolding feature_bytes
length-feature_bytes x =
    omega (arith, length-append (x.kind ∷ x.bit ∷ take 46 x.name) (replicate (46 - length x.name) 0), length-take 46 x.name, length-replicate {A = ℕ} (46 - length x.name) 0)

feature-read : (x : Feature) → PlainName x → feature_in (feature_bytes x) ≡ x ∷ []
unfolding feature_bytes
feature-read x plain =
    let uncut : take 46 x.name ≡ x.name = take_all 46 x.name plain.short in
    let name : take_while (λ b. not (b == 0)) (x.name ++ replicate (46 - length x.name) 0) ≡ x.name = until-zero x.name (46 - length x.name) plain.whole in
    rw (uncut, name, plain.kind, plain.text) refl

features-read : (xs : List Feature) → list_all is_plain_name xs ≡ true → features_of (length xs) (flat_map feature_bytes xs) ≡ xs
features-read [] plain = refl
features-read (x ∷ xs) plain =
    let parts = both (is_plain_name x) (list_all is_plain_name xs) plain in
    let rest : List ℕ = flat_map feature_bytes xs in
    let size : length (feature_bytes x) ≡ 48 = length-feature_bytes x in
    let first : take 48 (feature_bytes x ++ flat_map feature_bytes xs) ≡ feature_bytes x = ap (λ (n : ℕ). take n (feature_bytes x ++ flat_map feature_bytes xs)) (sym size) ∙ take-append_seam (feature_bytes x) rest in
    let others : drop 48 (feature_bytes x ++ flat_map feature_bytes xs) ≡ flat_map feature_bytes xs = ap (λ (n : ℕ). drop n (feature_bytes x ++ flat_map feature_bytes xs)) (sym size) ∙ drop-append_seam (feature_bytes x) rest in
    let all : flat_map feature_bytes (x ∷ xs) ≡ feature_bytes x ++ flat_map feature_bytes xs = flat_map-cons feature_bytes x xs in
    rw (all, first, others, feature-read x (plain-name x parts.0), features-read xs parts.1) refl

length-names : (xs : List Feature) → length (flat_map feature_bytes xs) ≡ length xs * 48
length-names [] = refl
length-names (x ∷ xs) =
    omega (arith, ap length (flat_map-cons feature_bytes x xs), length-append (feature_bytes x) (flat_map feature_bytes xs), length-feature_bytes x, length-names xs)

-- The order is transitive.
before-later : (x y z : Feature) → comes_before x y ≡ true → comes_before y z ≡ true → comes_before x z ≡ true
before-later x y z a b = ordered x.kind y.kind z.kind x.bit y.bit z.bit a b
  where
    ordered : (k l m i j n : ℕ) → (nat_lt k l || ((k == l) && nat_lt i j)) ≡ true → (nat_lt l m || ((l == m) && nat_lt j n)) ≡ true → (nat_lt k m || ((k == m) && nat_lt i n)) ≡ true
    ordered k l m i j n a b = grind (arith, nat_tests)

-- In a sorted list, the first name is before each later one.
before-all : (y x : Feature) (ys rest : List Feature) → in_order (y ∷ (ys ++ x ∷ rest)) ≡ true → comes_before y x ≡ true
before-all y x [] rest ordered = (both (comes_before y x) (in_order (x ∷ rest)) ordered).0
before-all y x (z ∷ zs) rest ordered =
    let parts = both (comes_before y z) (in_order (z ∷ (zs ++ x ∷ rest))) ordered in
    before-later y z x parts.0 (before-all z x zs rest parts.1)

-- So a later name is appended.
put-behind : (x : Feature) (known rest : List Feature) → in_order (known ++ x ∷ rest) ≡ true → with_name x known ≡ known ++ x ∷ []
put-behind x [] rest ordered = refl
put-behind x (y ∷ ys) rest ordered =
    let before : comes_before y x ≡ true = before-all y x ys rest ordered in
    let later : in_order (ys ++ x ∷ rest) ≡ true = (both (is_first y (ys ++ x ∷ rest)) (in_order (ys ++ x ∷ rest)) ordered).1 in
    rw (before, put-behind x ys rest later) refl

-- Sorted names keep their order.
names-kept : (known xs : List Feature) → in_order (known ++ xs) ≡ true → with_names known xs ≡ known ++ xs
names-kept known [] ordered = sym (append-nil known)
names-kept known (x ∷ xs) ordered =
    let same : (known ++ x ∷ []) ++ xs ≡ known ++ x ∷ xs = append_assoc known (x ∷ []) xs in
    let next : in_order ((known ++ x ∷ []) ++ xs) ≡ true = ap in_order same ∙ ordered in
    ap (λ ys. with_names ys xs) (put-behind x known xs ordered) ∙ (names-kept (known ++ x ∷ []) xs next ∙ same)

pub names-read : (xs : List Feature) → list_all is_plain_name xs ≡ true → in_order xs ≡ true → features_read (names_data xs) ≡ xs
names-read [] plain ordered = refl
names-read (x ∷ xs) plain ordered =
    let bytes : List ℕ = flat_map feature_bytes (x ∷ xs) in
    let count : length (flat_map feature_bytes (x ∷ xs)) / 48 ≡ length (x ∷ xs) = ap (λ (n : ℕ). n / 48) (length-names (x ∷ xs)) ∙ mul-div_cancel (length (x ∷ xs)) (omega arith) in
    ap (λ (n : ℕ). with_names [] (features_of n (flat_map feature_bytes (x ∷ xs)))) count ∙ (ap (with_names []) (features-read (x ∷ xs) plain) ∙ names-kept [] (x ∷ xs) ordered)
