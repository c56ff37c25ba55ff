-- The units of requests of a chain and of its layers.
use Rattle.std.proofs.Common.{◌≡◌, refl, inl, inr, ℕ, ◌+◌, ◌-◌, ◌*◌, ◌/◌, ◌%◌, ◌<◌, ◌≤◌, max, List, [], ◌∷◌, arith, sym, ◌∙◌, ap, subst, ◌^◌}
use Rattle.std.specs.Prelude.{map}
use Rattle.std.proofs.Math.Nat.{mul-mod_left}
use Rattle.std.proofs.lemmas.Nat.{div-add-mod'}
use Rattle.std.proofs.lemmas.Bool.{cases_lt}
use Rattle.imago_storage.specs.State.{IsAlignment}
use Rattle.imago_storage.specs.Through.{Overflows, round_up}
use Rattle.imago_storage.proofs.Rounding.{round_up-le, round_up_whole, le_round_up, round_up_part}
use Rattle.imago_storage.proofs.Powers.{divides_larger}
use Rattle.imago_access.specs.Layer.{Layer, unit_of_layer}
use Rattle.imago_access.specs.Chain.{req_align_of, mem_align_of, unit_of_chain, KeepLayerStates}

pub alignment_one : IsAlignment 1
alignment_one = record { positive = omega arith; small = omega arith; divides = refl }

pub alignment_max : (a b : ℕ) → IsAlignment a → IsAlignment b → IsAlignment (max a b)
alignment_max a b first second = elim (cases_lt a b) [
  | inl lt ↦ let is : max a b ≡ b = omega arith in subst IsAlignment (sym is) second
  | inr le ↦ let is : max a b ≡ a = omega arith in subst IsAlignment (sym is) first
]

whole_of_larger : (small big k : ℕ) → 0 < small → big % small ≡ 0 → (k * big) % small ≡ 0
whole_of_larger small big k positive whole =
    let is : big ≡ big / small * small = omega (arith, div-add-mod' big small, whole) in
    let product : k * big ≡ k * (big / small) * small = ap (λ (n : ℕ). k * n) is ∙ omega arith in
    ap (λ (n : ℕ). n % small) product ∙ mul-mod_left (k * (big / small)) small

-- A range that overflows with a smaller unit overflows with a larger one.
pub overflows_more : (small big offset n : ℕ) → IsAlignment small → IsAlignment big → small ≤ big → Overflows small offset n → Overflows big offset n
unfolding round_up
overflows_more small big offset n first second le h =
    let whole : round_up big (offset + n) % small ≡ 0 = whole_of_larger small big ((offset + n + (big - 1)) / big) first.positive (divides_larger small big first second le) in
    let same : round_up small (round_up big (offset + n)) ≡ round_up big (offset + n) = round_up_whole small (round_up big (offset + n)) first.positive whole in
    let low : round_up small (offset + n) ≤ round_up small (round_up big (offset + n)) = round_up-le small (offset + n) (round_up big (offset + n)) first.positive (le_round_up big (offset + n) second.positive) in
    (h.0, omega (arith, same, low, h.1))

pub overflows_late : (unit offset n : ℕ) → IsAlignment unit → offset + n ≤ 2 ^ 63 + 2 ^ 22 → Overflows unit offset n → ⊥
overflows_late unit offset n aligned low over =
    let m = offset + n in
    elim (cases_lt 0 (m % unit)) [
      | inl part ↦ let is = round_up_part unit m aligned.positive part in omega (arith, is, over.1, low, aligned.small)
      | inr whole ↦ let is = round_up_whole unit m aligned.positive (omega (arith, whole)) in omega (arith, is, over.1, low)
    ]

module _ {D : Type 0} (layer : D → Layer) (aligned : (d : D) → IsAlignment (layer d).fixed.req_align × IsAlignment (layer d).fixed.mem_align) where
  req_aligned : (ds : List D) → IsAlignment (req_align_of (map layer ds))
  req_aligned [] = alignment_one
  req_aligned (d ∷ ds) = alignment_max (layer d).fixed.req_align (req_align_of (map layer ds)) (aligned d).0 (req_aligned ds)

  mem_aligned : (ds : List D) → IsAlignment (mem_align_of (map layer ds))
  mem_aligned [] = alignment_one
  mem_aligned (d ∷ ds) = alignment_max (layer d).fixed.mem_align (mem_align_of (map layer ds)) (aligned d).1 (mem_aligned ds)

  pub unit_aligned : (ds : List D) → IsAlignment (unit_of_chain (map layer ds))
  unit_aligned ds = alignment_max (req_align_of (map layer ds)) (mem_align_of (map layer ds)) (req_aligned ds) (mem_aligned ds)

  pub layer_aligned : (d : D) → IsAlignment (unit_of_layer (layer d))
  layer_aligned d = alignment_max (layer d).fixed.req_align (layer d).fixed.mem_align (aligned d).0 (aligned d).1

  pub calm_below : (d : D) (ds : List D) (offset n : ℕ) → (Overflows (unit_of_chain (map layer (d ∷ ds))) offset n → ⊥) → Overflows (unit_of_chain (map layer ds)) offset n → ⊥
  calm_below d ds offset n no_change_refused h =
      let le : unit_of_chain (map layer ds) ≤ unit_of_chain (map layer (d ∷ ds)) = omega arith in
      no_change_refused (overflows_more (unit_of_chain (map layer ds)) (unit_of_chain (map layer (d ∷ ds))) offset n (unit_aligned ds) (unit_aligned (d ∷ ds)) le h)

  pub overflows_chain : (d : D) (ds : List D) (offset n : ℕ) → Overflows (unit_of_layer (layer d)) offset n → Overflows (unit_of_chain (map layer (d ∷ ds))) offset n
  overflows_chain d ds offset n h =
      let le : unit_of_layer (layer d) ≤ unit_of_chain (map layer (d ∷ ds)) = omega arith in
      overflows_more (unit_of_layer (layer d)) (unit_of_chain (map layer (d ∷ ds))) offset n (layer_aligned d) (unit_aligned (d ∷ ds)) le h

  pub calm_top : (d : D) (ds : List D) (offset n : ℕ) → (Overflows (unit_of_chain (map layer (d ∷ ds))) offset n → ⊥) → Overflows (unit_of_layer (layer d)) offset n → ⊥
  calm_top d ds offset n no_change_refused h =
      no_change_refused (overflows_chain d ds offset n h)

-- Layers that keep their state have the same units.
pub likes_same : (xs : List Layer) → KeepLayerStates xs xs
likes_same [] = tt
likes_same (x ∷ xs) = (record { fixed = refl; size = refl; unspent = refl; failed = λ f. f }, likes_same xs)

pub likes_both : (xs ys zs : List Layer) → KeepLayerStates xs ys → KeepLayerStates ys zs → KeepLayerStates xs zs
likes_both [] [] [] first second = tt
likes_both (x ∷ xs) (y ∷ ys) (z ∷ zs) first second =
    (record { fixed = second.0.fixed ∙ first.0.fixed; size = second.0.size ∙ first.0.size; unspent = second.0.unspent ∙ first.0.unspent; failed = λ f. second.0.failed (first.0.failed f) }, likes_both xs ys zs first.1 second.1)
likes_both [] (y ∷ ys) zs first second = absurd first
likes_both [] [] (z ∷ zs) first second = absurd second
likes_both (x ∷ xs) [] zs first second = absurd first
likes_both (x ∷ xs) (y ∷ ys) [] first second = absurd second

likes_req : (xs ys : List Layer) → KeepLayerStates xs ys → req_align_of ys ≡ req_align_of xs
likes_req [] [] like = refl
likes_req (x ∷ xs) (y ∷ ys) like = rw (like.0.fixed, likes_req xs ys like.1) refl
likes_req [] (y ∷ ys) like = absurd like
likes_req (x ∷ xs) [] like = absurd like

likes_mem : (xs ys : List Layer) → KeepLayerStates xs ys → mem_align_of ys ≡ mem_align_of xs
likes_mem [] [] like = refl
likes_mem (x ∷ xs) (y ∷ ys) like = rw (like.0.fixed, likes_mem xs ys like.1) refl
likes_mem [] (y ∷ ys) like = absurd like
likes_mem (x ∷ xs) [] like = absurd like

pub likes_unit : (xs ys : List Layer) → KeepLayerStates xs ys → unit_of_chain ys ≡ unit_of_chain xs
likes_unit xs ys like = rw (likes_req xs ys like, likes_mem xs ys like) refl
