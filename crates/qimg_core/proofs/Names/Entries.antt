-- The lists of items: adding items, their sum, and the cut at a cluster.
use Rattle.std.proofs.Common.{◌≡◌, ◌≢◌, ℕ, ◌+◌, ◌*◌, ◌/◌, ◌%◌, ◌^◌, ◌<◌, ◌≤◌, refl, arith, ap, sym, subst, ◌∙◌, List, [], ◌∷◌, ◌++◌, length, take, drop, inl, inr}
use Rattle.std.specs.Prelude.{Some, None, slice_index, slice_index_or, if◌then◌else◌}
use Rattle.std.specs.List.{sum_by}
use Rattle.std.proofs.Math.Nat.{pow-le-pow_right, div-eq_of_lt}
use Rattle.std.proofs.lemmas.Grind.{get_or_default_zero}
use Rattle.std.proofs.lemmas.Bool.{cases_eq, cases_lt, eq-eqb, ne_eqb}
use Rattle.std.proofs.lemmas.Nat.{mod-pow-add, mul-le}
use Rattle.std.proofs.lemmas.List.{get_or_default, get_or-drop, get_or-take, length-take, length-drop}
use Rattle.std.proofs.lemmas.List.Sums.{sum_by_push, sum_by-le, sum_by-take-drop, sum_by_more}
use Rattle.qimg_core.specs.Names.{cluster_of, count_of, weight_in, weight_of, IsRising, AddsWeight}
use Rattle.qimg_core.specs.Searches.{IsListed, IsCut, IsFrom}

weight-here : (c name : ℕ) → cluster_of name ≡ c → weight_in c name ≡ count_of name
weight-here c name is = ap (λ b. if b then count_of name else 0) (eq-eqb (name / 2048) c is)

weight-other : (c name : ℕ) → cluster_of name ≢ c → weight_in c name ≡ 0
weight-other c name ne = ap (λ b. if b then count_of name else 0) (ne_eqb (name / 2048) c ne)

pub weight-none : (c : ℕ) (list : List ℕ) → ((k : ℕ) → k < length list → cluster_of (slice_index list k) ≢ c) → sum_by (weight_in c) list ≡ 0
weight-none c list apart =
    let least : sum_by (weight_in c) list ≤ length list * 0 = sum_by-le (weight_in c) 0 list (λ k d lt. subst (λ n. weight_in c n ≤ 0) (get_or_default list k 0 d lt) (let none : weight_in c (slice_index list k) ≡ 0 = weight-other c (slice_index list k) (apart k lt) in omega arith)) in
    omega arith

digit-more : (n k : ℕ) → n % 2 ^ (8 * (k + 1)) ≡ n / 2 ^ (8 * k) % 256 * 2 ^ (8 * k) + n % 2 ^ (8 * k)
digit-more n k = ap (λ e. n % 2 ^ e) (let next : 8 * (k + 1) ≡ 8 + 8 * k = omega arith in next) ∙ mod-pow-add n 8 (8 * k)

pub adds-skip : (old now : List ℕ) (c n k : ℕ) → n / 2 ^ (8 * k) % 256 ≡ 0 → AddsWeight old now c (n % 2 ^ (8 * k)) → AddsWeight old now c (n % 2 ^ (8 * (k + 1)))
adds-skip old now c n k zero adds = subst (AddsWeight old now c) (let same : n % 2 ^ (8 * k) ≡ n % 2 ^ (8 * (k + 1)) = omega (arith, digit-more n k, ap (λ m. m * 2 ^ (8 * k)) zero) in same) adds

pub adds-push : (old now new : List ℕ) (c n k digit : ℕ) → digit ≡ n / 2 ^ (8 * k) % 256 → k < 8 → new ≡ now ++ (c * 2048 + k * 256 + digit) ∷ [] → AddsWeight old now c (n % 2 ^ (8 * k)) → AddsWeight old new c (n % 2 ^ (8 * (k + 1)))
adds-push old now new c n k digit is small pushed adds =
    let low : (c * 2048 + k * 256 + digit) % 256 ≡ digit = omega arith in
    let place : (c * 2048 + k * 256 + digit) / 256 % 8 ≡ k = omega arith in
    let name : count_of (c * 2048 + k * 256 + digit) ≡ digit * 2 ^ (8 * k) = ap (λ m. m * 2 ^ (8 * ((c * 2048 + k * 256 + digit) / 256 % 8))) low ∙ ap (λ e. digit * 2 ^ (8 * e)) place in
    let one : weight_in c (c * 2048 + k * 256 + digit) ≡ n / 2 ^ (8 * k) % 256 * 2 ^ (8 * k) = weight-here c (c * 2048 + k * 256 + digit) at ∙ (name ∙ ap (λ m. m * 2 ^ (8 * k)) is) in
    record {
      here = omega (arith, digit-more n k, one, more c, adds.here);
      others = λ d ne. more d ∙ (let none : weight_in d (c * 2048 + k * 256 + digit) ≡ 0 = weight-other d (c * 2048 + k * 256 + digit) (λ same. ne (sym same ∙ at)) in omega (arith, adds.others d ne, none));
    }
  where
    at : cluster_of (c * 2048 + k * 256 + digit) ≡ c
    at = omega arith

    more : (d : ℕ) → sum_by (weight_in d) new ≡ sum_by (weight_in d) now + weight_in d (c * 2048 + k * 256 + digit)
    more d = ap (sum_by (weight_in d)) pushed ∙ sum_by_push (weight_in d) now (c * 2048 + k * 256 + digit)

-- The digits below `place` are added, with at most one item for each.
pub record EntersDigits (old now : List ℕ) (c times place : ℕ) : Type 0 where
  pub adds : AddsWeight old now c (times % 2 ^ (8 * place))
  pub few : length now ≤ length old + place
  pub needed : (n : ℕ) → times < 2 ^ (8 * n) → place ≤ n

-- A digit is added only if the number has that many digits.
pub digits-reach : (times k : ℕ) → times / 2 ^ (8 * k) ≢ 0 → (n : ℕ) → times < 2 ^ (8 * n) → k + 1 ≤ n
digits-reach times k some n lt = elim (cases_lt k n) [
  | inl less ↦ omega (arith, less)
  | inr le ↦
      let most : 2 ^ (8 * n) ≤ 2 ^ (8 * k) = pow-le-pow_right (omega arith) (let low : 8 * n ≤ 8 * k = omega (arith, le) in low) in
      absurd (some (div-eq_of_lt (let short : times < 2 ^ (8 * k) = omega (arith, lt, most) in short)))
]

-- The sum of a list is far below 2^128.
pub weight-few : (c : ℕ) (list : List ℕ) → length list < 2 ^ 63 → weight_of list c + 2 ^ 63 ≤ 2 ^ 127
weight-few c list short = let most : sum_by (weight_in c) list ≤ length list * (255 * 2 ^ 56) = sum_by-le (weight_in c) (255 * 2 ^ 56) list (λ k d lt. small (slice_index_or list k d)) in omega (arith, most, short)
  where
    small : (name : ℕ) → weight_in c name ≤ 255 * 2 ^ 56
    small name = elim (cases_eq (cluster_of name) c) [
      | inl is ↦
          let power : 2 ^ (8 * (name / 256 % 8)) ≤ 2 ^ 56 = pow-le-pow_right (omega arith) (let low : 8 * (name / 256 % 8) ≤ 56 = omega arith in low) in
          let most : count_of name ≤ 255 * 2 ^ 56 = mul-le (name % 256) (2 ^ (8 * (name / 256 % 8))) 255 (2 ^ 56) (omega arith) power in
          omega (arith, weight-here c name is, most)
      | inr ne ↦ omega (arith, weight-other c name ne)
    ]

-- The sum of items up to an index, from the first item of a cluster on.
module _ (list : List ℕ) (c start : ℕ) (bound : start ≤ length list) (before : (i : ℕ) → i < start → cluster_of (slice_index list i) < c) where
  pub sum-start : 0 ≡ sum_by (weight_in c) (take start list)
  sum-start = sym (weight-none c (take start list) (λ k lt is.
      let within : k < start = omega (arith, lt, length-take start list) in
      let less = before k within in
      let same : slice_index (take start list) k ≡ slice_index list k = get_or-take start list k 0 within in
      absurd (omega (arith, ap cluster_of same, is, less))))

  pub sum-more : (i sum name : ℕ) → i < length list → name ≡ slice_index list i → cluster_of name ≡ c → sum ≡ sum_by (weight_in c) (take i list) → sum + count_of name ≡ sum_by (weight_in c) (take (i + 1) list)
  sum-more i sum name lt at is so_far =
      let more : sum_by (weight_in c) (take (i + 1) list) ≡ sum_by (weight_in c) (take i list) + weight_in c (slice_index list i) = sum_by_more (weight_in c) list i 0 lt in
      let here : weight_in c (slice_index list i) ≡ count_of name = ap (weight_in c) (sym at) ∙ weight-here c name is in
      omega (arith, more, here, so_far)

  pub sum-end : (i sum : ℕ) → start ≤ i → ((k : ℕ) → i ≤ k → k < length list → cluster_of (slice_index list k) ≢ c) → sum ≡ sum_by (weight_in c) (take i list) → sum ≡ weight_of list c
  sum-end i sum le apart so_far =
      let rest : sum_by (weight_in c) (drop i list) ≡ 0 = weight-none c (drop i list) (λ k lt is. apart (i + k) (omega arith) (omega (arith, lt, length-drop i list)) (ap cluster_of (sym (get_or-drop i list k 0)) ∙ is)) in
      omega (arith, rest, so_far, sum_by-take-drop (weight_in c) list i)

-- The item at the cut gives the next cluster.
pub cut-next : (list : List ℕ) (c index : ℕ) → index < length list → IsRising list → slice_index list index < 2 ^ 64 → IsCut list c (Some c) index
    → IsCut list c (Some (cluster_of (slice_index list index))) index × IsFrom c (Some (cluster_of (slice_index list index)))
cut-next list c index some rising small cut = (
  record { bound = cut.bound; before = cut.before; next_not_after = λ i le lt. rising index i 0 le lt },
  (cut.next_not_after index (omega arith) some, omega (arith, small)),
)

-- The cut is at the end of the list.
pub cut-end : (list : List ℕ) (c index : ℕ) → length list ≤ index → IsCut list c (Some c) index → IsCut list c None index × IsFrom c None
cut-end list c index past cut = (record { bound = cut.bound; before = cut.before; next_not_after = λ i le lt. absurd (omega arith) }, tt)

pub cut-named : (list : List ℕ) (index : ℕ) → index < length list → IsListed list (cluster_of (slice_index list index))
cut-named list index some = (index, slice_index list index, some, get_or_default_zero list index (slice_index list index) some, refl)
