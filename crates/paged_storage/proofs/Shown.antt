-- The bytes that a file shows: how many there are, and that they are bytes.
use Rattle.std.proofs.Common.{◌≡◌, refl, inl, inr, ℕ, zero, suc, ◌-◌, ◌/◌, ◌%◌, ◌<◌, ◌≤◌, Option, Some, None, Vec, List, [], ◌∷◌, length, get_or, nat_eq, arith, sym, ◌∙◌, ap, subst, length-append}
use Rattle.std.specs.Prelude.{slice_index}
use Rattle.std.specs.Global.{Global}
use Rattle.std.specs.Map.{lookup}
use Rattle.std.proofs.lemmas.Bool.{cases_lt}
use Rattle.std.proofs.lemmas.List.{get_or_append_left, get_or-append_right, get_or_past}
use Rattle.lru.proofs.CallerLemmas.{Contains-lookup}
use Rattle.paged_storage.specs.Pages.{AreBytes, AreWhole, Pages, byte_at, byte_in, first_values, shown}

pub length-first_values : (f : ℕ → ℕ) (n : ℕ) → length (first_values f n) ≡ n
unfolding first_values
length-first_values f zero = refl
length-first_values f (suc n) = omega (arith, length-append (first_values f n) (f n ∷ []), length-first_values f n)

pub first_values_at : (f : ℕ → ℕ) (n k : ℕ) → k < n → slice_index (first_values f n) k ≡ f k
unfolding first_values
first_values_at f zero k lt = absurd (omega (arith, lt))
first_values_at f (suc n) k lt = elim (cases_lt k n) [
  | inl less ↦ get_or_append_left (first_values f n) (f n ∷ []) 0 k (omega (arith, length-first_values f n)) ∙ first_values_at f n k less
  | inr last ↦
      let is : k ≡ n = omega arith in
      let first : k - n ≡ 0 = omega arith in
      get_or-append_right (first_values f n) (f n ∷ []) n k 0 (length-first_values f n) last
      ∙ ap (λ (j : ℕ). get_or (f n ∷ []) j 0) first
      ∙ ap f (sym is)
]

pub first_values_past : (f : ℕ → ℕ) (n k : ℕ) → n ≤ k → slice_index (first_values f n) k ≡ 0
first_values_past f n k le = get_or_past (first_values f n) k 0 (omega (arith, le, length-first_values f n))

-- Values that are below 256 each.
pub first_values_are_bytes : (f : ℕ → ℕ) (n : ℕ) → ((k : ℕ) → f k < 256) → AreBytes (first_values f n)
first_values_are_bytes f n each k = elim (cases_lt k n) [
  | inl lt ↦ subst (λ (z : ℕ). z < 256) (sym (first_values_at f n k lt)) (each k)
  | inr past ↦ subst (λ (z : ℕ). z < 256) (sym (first_values_past f n k past)) (omega arith)
]

module _ (pages : Pages) (held : List ℕ) (whole : AreWhole pages) (bytes : AreBytes held) where
  byte_in_is_byte : (k : ℕ) (page : Option (Vec ℕ Global)) → lookup (nat_eq (k / 65536)) pages ≡ page → byte_in page held k < 256
  byte_in_is_byte k None is = bytes k
  byte_in_is_byte k (Some page) is =
      let found = Contains-lookup (nat_eq (k / 65536)) pages page is in
      (whole found.0 page found.1).bytes (k % 65536)

  pub shown_are_bytes : (size : ℕ) → AreBytes (shown size pages held)
  unfolding shown
  shown_are_bytes size = first_values_are_bytes (byte_at pages held) size (λ k. byte_in_is_byte k (lookup (nat_eq (k / 65536)) pages) refl)

pub length-shown : (size : ℕ) (pages : Pages) (held : List ℕ) → length (shown size pages held) ≡ size
unfolding shown
length-shown size pages held = length-first_values (byte_at pages held) size
