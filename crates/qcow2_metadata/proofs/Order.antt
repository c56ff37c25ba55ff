-- The list of the names of feature bits stays sorted.
use Rattle.std.proofs.Common.{◌≡◌, ℕ, ◌/◌, refl, arith, List, [], ◌∷◌, length, Some, None}
use Rattle.std.specs.Prelude.{Bool, true, false, ◌&&◌, ◌||◌, ◌==◌, nat_lt, if◌then◌else◌, Option}
use Rattle.std.proofs.lemmas.Bool.Decides.{nat_tests}
use Rattle.qcow2_types.specs.Header.{Feature, comes_before, with_name, with_names, features_of, features_read}
use Rattle.qcow2_metadata.specs.Features.{is_first, in_order}

-- Two names of the same kind and bit are sorted before the same names.
same-place : (x y z : Feature) → comes_before x y ≡ false → comes_before y x ≡ false → comes_before y z ≡ true → comes_before x z ≡ true
same-place x y z a b c = ordered x.kind y.kind z.kind x.bit y.bit z.bit a b c
  where
    ordered : (k l m i j n : ℕ) → (nat_lt k l || ((k == l) && nat_lt i j)) ≡ false → (nat_lt l k || ((l == k) && nat_lt j i)) ≡ false → (nat_lt l m || ((l == m) && nat_lt j n)) ≡ true → (nat_lt k m || ((k == m) && nat_lt i n)) ≡ true
    ordered k l m i j n a b c = grind (arith, nat_tests)

both : (a b : Bool) → (a && b) ≡ true → (a ≡ true) × (b ≡ true)
both true b e = (refl, e)
both false b e = absurd cc

first-with : (y x : Feature) (ys : List Feature) → comes_before y x ≡ true → is_first y ys ≡ true → is_first y (with_name x ys) ≡ true
first-with y x [] before first = before
first-with y x (z ∷ zs) before first = split (comes_before z x) (comes_before x z)
  where
    split : (a b : Bool) → is_first y (if a then z ∷ with_name x zs else if b then x ∷ z ∷ zs else x ∷ zs) ≡ true
    split true b = first
    split false true = before
    split false false = before

with_name-ordered : (x : Feature) (ys : List Feature) → in_order ys ≡ true → in_order (with_name x ys) ≡ true
with_name-ordered x [] ordered = refl
with_name-ordered x (y ∷ ys) ordered = split (with_name-ordered x ys (both (is_first y ys) (in_order ys) ordered).1) (comes_before y x) (comes_before x y) refl refl
  where
    parts : (is_first y ys ≡ true) × (in_order ys ≡ true)
    parts = both (is_first y ys) (in_order ys) ordered

    instead : (zs : List Feature) → comes_before x y ≡ false → comes_before y x ≡ false → is_first y zs ≡ true → is_first x zs ≡ true
    instead [] a b first = refl
    instead (z ∷ zs) a b first = same-place x y z a b first

    split : in_order (with_name x ys) ≡ true → (a b : Bool) → comes_before y x ≡ a → comes_before x y ≡ b → in_order (if a then y ∷ with_name x ys else if b then x ∷ y ∷ ys else x ∷ ys) ≡ true
    split rest true b before e = rw (first-with y x ys before parts.0, rest) refl
    split rest false true e before = rw (before, ordered) refl
    split rest false false e e' = rw (instead ys e' e parts.0, parts.1) refl

with_names-ordered : (known xs : List Feature) → in_order known ≡ true → in_order (with_names known xs) ≡ true
with_names-ordered known [] ordered = ordered
with_names-ordered known (x ∷ xs) ordered = with_names-ordered (with_name x known) xs (with_name-ordered x known ordered)

pub features-ordered : (extension : Option (List ℕ)) → in_order (features_read extension) ≡ true
features-ordered None = refl
features-ordered (Some bytes) = with_names-ordered [] (features_of (length bytes / 48) bytes) refl
