-- Names of feature bits, sorted in a list, and in an entry of their extension.
use Rattle.std.proofs.Common.{◌≡◌, ℕ, suc, ◌+◌, ◌-◌, ◌*◌, ◌<◌, ◌≤◌, refl, arith, ap, sym, ◌∙◌, List, [], ◌∷◌, ◌++◌, length, get_or, take, drop, lit<}
use Rattle.std.specs.Prelude.{Bool, true, false, not, ◌&&◌, ◌==◌, nat_lt, if◌then◌else◌, Option, Some, None, unwrap_or, map, take_while, slice_set}
use Rattle.std.specs.List.{insert, position, position_or_len}
use Rattle.std.specs.Option.{option_to_list}
use Rattle.std.specs.Str.{is_utf8, IsUtf8}
use Rattle.std.proofs.lemmas.Str.{IsUtf8-from_is_utf8, is_utf8-from_IsUtf8}
use Rattle.std.proofs.lemmas.Bool.{lt-ltb}
use Rattle.std.proofs.lemmas.List.{take_rest, drop-drop}
use Rattle.qcow2_types.specs.Header.{Feature, comes_before, with_name, with_names, feature_in, features_of}
use Rattle.qcow2_metadata.specs.declared.features.FeatureName.{FeatureName}
use Rattle.qcow2_types.specs.declared.features.FeatureType.{FeatureType}
use Rattle.qcow2_types.specs.declared.features.FeatureType.TheVariants.{Incompatible, Compatible, Autoclear}
use Rattle.qcow2_types.specs.Features.{kind_of}
use Rattle.qcow2_metadata.specs.Features.{seen_name}
use Rattle.qcow2_metadata.proofs.Places.{place-or-end}

module _ (x d : FeatureName) where
  -- The index of a new name: after the names that are sorted before it.
  abbrev place : List FeatureName → ℕ
  place ys = position_or_len (λ y. not (comes_before (seen_name y) (seen_name x))) ys

  -- The name is new there.
  put-inserted : (ys : List FeatureName) → (place ys < length ys → comes_before (seen_name x) (seen_name (get_or ys (place ys) d)) ≡ true) → map seen_name (insert ys (place ys) x) ≡ with_name (seen_name x) (map seen_name ys)
  put-inserted [] new = refl
  put-inserted (y ∷ ys) new = split (put-inserted ys) (comes_before (seen_name y) (seen_name x)) refl
    where
      split : ((place ys < length ys → comes_before (seen_name x) (seen_name (get_or ys (place ys) d)) ≡ true) → map seen_name (insert ys (place ys) x) ≡ with_name (seen_name x) (map seen_name ys)) → (b : Bool) → comes_before (seen_name y) (seen_name x) ≡ b → map seen_name (insert (y ∷ ys) (place (y ∷ ys)) x) ≡ with_name (seen_name x) (map seen_name (y ∷ ys))
      split later true before =
          let one : 1 + place ys ≡ suc (place ys) = omega arith in
          let rest : place ys < length ys → comes_before (seen_name x) (seen_name (get_or ys (place ys) d)) ≡ true = λ lt. (rw (before, one) at new) (omega arith) in
          rw (before, one) (ap (λ r. seen_name y ∷ r) (later rest))
      split later false after =
          let first : comes_before (seen_name x) (seen_name y) ≡ true = (rw after at new) (omega arith) in
          rw (after, first) refl

  -- The name replaces one of the same kind and bit.
  put-set : (ys : List FeatureName) → place ys < length ys → comes_before (seen_name x) (seen_name (get_or ys (place ys) d)) ≡ false → map seen_name (slice_set ys (place ys) x) ≡ with_name (seen_name x) (map seen_name ys)
  put-set [] within same = absurd (omega arith)
  put-set (y ∷ ys) within same = split (put-set ys) (comes_before (seen_name y) (seen_name x)) refl
    where
      split : (place ys < length ys → comes_before (seen_name x) (seen_name (get_or ys (place ys) d)) ≡ false → map seen_name (slice_set ys (place ys) x) ≡ with_name (seen_name x) (map seen_name ys)) → (b : Bool) → comes_before (seen_name y) (seen_name x) ≡ b → map seen_name (slice_set (y ∷ ys) (place (y ∷ ys)) x) ≡ with_name (seen_name x) (map seen_name (y ∷ ys))
      split later true before =
          let one : 1 + place ys ≡ suc (place ys) = omega arith in
          let rest : comes_before (seen_name x) (seen_name (get_or ys (place ys) d)) ≡ false = rw (before, one) at same in
          let inside : suc (place ys) < suc (length ys) = rw (before, one) at within in
          rw (before, one) (ap (λ r. seen_name y ∷ r) (later (omega arith) rest))
      split later false after =
          let first : comes_before (seen_name x) (seen_name y) ≡ false = rw after at same in
          rw (after, first) refl

  -- The same cases at the index that the search found.
  module _ (ys : List FeatureName) (found : Option ℕ) (m at : ℕ) (searched : found ≡ position (λ y. not (comes_before (seen_name y) (seen_name x))) ys) (size : m ≡ length ys) (chosen : at ≡ unwrap_or found m) where
    spot : at ≡ place ys
    spot = rw (chosen, searched, size) (place-or-end (λ y. not (comes_before (seen_name y) (seen_name x))) ys)

    pub put-at-end : length ys ≤ at → map seen_name (insert ys at x) ≡ with_name (seen_name x) (map seen_name ys)
    put-at-end past = let is : at ≡ place ys = spot in rw spot (put-inserted ys (λ lt. absurd (omega arith)))

    pub put-before : d ≡ get_or ys at d → comes_before (seen_name x) (seen_name d) ≡ true → map seen_name (insert ys at x) ≡ with_name (seen_name x) (map seen_name ys)
    put-before read before = let there : d ≡ get_or ys (place ys) d = rw spot at read in rw spot (put-inserted ys (λ lt. rw (← there) before))

    pub put-instead : at < length ys → d ≡ get_or ys at d → comes_before (seen_name x) (seen_name d) ≡ false → map seen_name (slice_set ys at x) ≡ with_name (seen_name x) (map seen_name ys)
    put-instead lt read after = let is : at ≡ place ys = spot in let there : d ≡ get_or ys (place ys) d = rw spot at read in rw spot (put-set ys (omega arith) (rw (← there) after))

-- The name in an entry, from the parts of its bytes.
pub feature-parts : (e : List ℕ) → 2 ≤ length e
    → feature_in e ≡ (let name = take_while (λ x. not (x == 0)) (drop 2 e) in if nat_lt (get_or e 0 0) 3 && is_utf8 name then record { kind = get_or e 0 0; bit = get_or e 1 0; name = name } ∷ [] else [])
feature-parts [] le = absurd (omega arith)
feature-parts (k ∷ []) le = absurd (omega arith)
feature-parts (k ∷ b ∷ rest) le = refl

-- The text of an entry, as the program slices it.
pub text-cut : (e : List ℕ) (found : Option ℕ) (at : ℕ) → found ≡ position (λ b. b == 0) (take (length e - 2) (drop 2 e)) → at ≡ unwrap_or found (length (take (length e - 2) (drop 2 e)))
    → take at (take (length e - 2) (drop 2 e)) ≡ take_while (λ x. not (x == 0)) (drop 2 e)
text-cut e found at searched chosen =
    let text : take (length e - 2) (drop 2 e) ≡ drop 2 e = take_rest e 2 in
    let spot : at ≡ position_or_len (λ b. b == 0) (take (length e - 2) (drop 2 e)) = rw (chosen, searched) (place-or-end (λ b. b == 0) (take (length e - 2) (drop 2 e))) in
    rw (spot, text) refl

kinds-few : (kind : FeatureType) → kind_of kind < 3
kinds-few Incompatible = lit< tt
kinds-few Compatible = lit< tt
kinds-few Autoclear = lit< tt

module _ (e name : List ℕ) (long : 2 ≤ length e) (text : name ≡ take_while (λ x. not (x == 0)) (drop 2 e)) where
  named : feature_in e ≡ (if nat_lt (get_or e 0 0) 3 && is_utf8 name then record { kind = get_or e 0 0; bit = get_or e 1 0; name = name } ∷ [] else [])
  named = rw text (feature-parts e long)

  -- The text isn't UTF-8.
  pub entry-skipped : (IsUtf8 name → ⊥) → feature_in e ≡ []
  entry-skipped not_text = named ∙ split (nat_lt (get_or e 0 0) 3) (is_utf8 name) _ refl
    where
      split : (a b : Bool) (x : Feature) → is_utf8 name ≡ b → (if a && b then x ∷ [] else []) ≡ []
      split a true x is = absurd (not_text (IsUtf8-from_is_utf8 name is))
      split true false x is = refl
      split false false x is = refl

  -- The entry has a known kind and a UTF-8 name.
  pub entry-named : (kind : FeatureType) → kind_of kind ≡ get_or e 0 0 → IsUtf8 name → feature_in e ≡ record { kind = kind_of kind; bit = get_or e 1 0; name = name } ∷ []
  entry-named kind known is_text =
      let few : get_or e 0 0 < 3 = omega (arith, known, kinds-few kind) in
      let low : nat_lt (get_or e 0 0) 3 ≡ true = lt-ltb _ _ few in
      named ∙ rw (low, is_utf8-from_IsUtf8 name is_text, known) refl

-- The first entry has a name, or is skipped.
with_names-entry : (known rest : List Feature) (found : Option Feature) → with_names known (option_to_list found ++ rest) ≡ with_names (with_names known (option_to_list found)) rest
with_names-entry known rest None = refl
with_names-entry known rest (Some x) = refl

-- One more entry is read: entry `i` of `n`.
pub entry-read : (bytes : List ℕ) (n i : ℕ) (known : List Feature) (found : Option Feature) (all : List Feature) → i < n
    → feature_in (take (i * 48 + 48 - i * 48) (drop (i * 48) bytes)) ≡ option_to_list found → with_names known (features_of (n - i) (drop (i * 48) bytes)) ≡ all
    → with_names (with_names known (option_to_list found)) (features_of (n - (i + 1)) (drop ((i + 1) * 48) bytes)) ≡ all
entry-read bytes n i known found all lt here before =
    let more : n - i ≡ suc (n - (i + 1)) = omega arith in
    let size : i * 48 + 48 - i * 48 ≡ 48 = omega arith in
    let place : (i + 1) * 48 ≡ i * 48 + 48 = omega arith in
    let next : drop ((i + 1) * 48) bytes ≡ drop 48 (drop (i * 48) bytes) = ap (λ k. drop k bytes) place ∙ sym (drop-drop 48 (i * 48) bytes) in
    let first : feature_in (take 48 (drop (i * 48) bytes)) ≡ option_to_list found = rw size at here in
    rw next (sym (with_names-entry known (features_of (n - (i + 1)) (drop 48 (drop (i * 48) bytes))) found) ∙ (rw (more, first) at before))
