-- A range in three parts. The first and the last part are written as whole units.
use Rattle.std.proofs.Common.{◌≡◌, ◌⊎◌, inl, inr, ⊎_elim, ℕ, ◌+◌, ◌-◌, ◌*◌, ◌/◌, ◌%◌, ◌^◌, ◌<◌, ◌≤◌, List, ◌++◌, length, arith, sym, ◌∙◌, ap, subst, length-append}
use Rattle.std.proofs.lemmas.Nat.{div-add-mod', mod_below, mul-le}
use Rattle.std.proofs.lemmas.Bool.{cases_eq, cases_lt}
use Rattle.imago_storage.specs.State.{IsUnitRange}
use Rattle.imago_storage.specs.Through.{round_up, IsUnitAligned, IsOnePart, Parts}
use Rattle.imago_storage.specs.Edges.{IsEdge, IsPaddedPart}
use Rattle.imago_storage.proofs.Rounding.{round_up_whole, round_up_unit, sum_of_whole, start_whole, mod_self}
use Rattle.imago_storage.proofs.Wholes.{difference-whole}
use Rattle.imago_storage.proofs.Range.{mul_whole}
use Rattle.imago_storage.proofs.Pads.{pads-self, pads-both, pads-alone}

multiple-le : (unit a b : ℕ) → 0 < unit → a % unit ≡ 0 → b % unit ≡ 0 → a < b + unit → a ≤ b
multiple-le unit a b positive first second lt = elim (cases_lt b a) [
  | inr le ↦ le
  | inl more ↦
      let d : ℕ = a - b in
      let whole : (a - b) % unit ≡ 0 = difference-whole unit b a (omega (arith, more)) second first in
      let rows : a - b ≡ (a - b) / unit * unit = omega (arith, div-add-mod' (a - b) unit, whole) in
      elim (cases_eq ((a - b) / unit) 0) [
        | inl none ↦
            let zero : (a - b) / unit * unit ≡ 0 * unit = ap (λ (q : ℕ). q * unit) none in
            absurd (omega (arith, rows, zero, more))
        | inr some ↦
            let high : 1 * unit ≤ (a - b) / unit * unit = mul-le 1 unit ((a - b) / unit) unit (omega (arith, some)) (omega arith) in
            absurd (omega (arith, rows, high, lt))
      ]
]

-- A multiple of the unit at or after `at` is at or after the end of the unit that contains `at`.
next-multiple : (unit at a : ℕ) → 0 < unit → at ≤ a → a % unit ≡ 0 → 0 < at % unit → at - at % unit + unit ≤ a
next-multiple unit at a positive from whole part =
    let start : (at - at % unit) % unit ≡ 0 = start_whole unit at positive in
    let low : at % unit ≤ at = omega (arith, div-add-mod' at unit) in
    let end : (at - at % unit + unit) % unit ≡ 0 = sum_of_whole unit (at - at % unit) unit positive start (mod_self unit positive) in
    multiple-le unit (at - at % unit + unit) a positive end whole (omega (arith, from, part, low))

-- Works with the lengths of the three parts, and of the buffers for the first and the last.
module _ (unit at h m t f l : ℕ) (positive : 0 < unit) (some : 0 < h + m + t) (parts : Parts unit at (h + m + t) h m) (is-first : IsEdge unit h f) (is-last : IsEdge unit t l) where
  start : ℕ
  start = at - at % unit

  low : at % unit ≤ at
  low = omega (arith, div-add-mod' at unit)

  tail-is : h + m + t - h - m ≡ t
  tail-is = omega arith

  -- The first part ends with the unit that is written for it, or it is the whole range.
  pub joined : (at + h ≡ at - at % unit + f) ⊎ ((0 < h) × ((m ≡ 0) × (t ≡ 0)))
  joined = ⊎_elim
      (λ (none, whole). let e = is-first.none none in inl (omega (arith, none, whole, e)))
      (λ (part, ends). elim (cases_eq h 0) [
        | inl none ↦ ⊎_elim
            (λ full. absurd (omega (arith, full, none, mod_below at unit positive)))
            (λ all. absurd (omega (arith, all, none, some)))
            ends
        | inr more ↦
            let e = is-first.unit_if_nonempty (omega (arith, more)) in
            ⊎_elim
            (λ full. inl (omega (arith, full, e, low)))
            (λ all. inr (omega (arith, more), (omega (arith, all), omega (arith, all))))
            ends
      ])
      parts.edge

  first-whole : f % unit ≡ 0
  first-whole = elim (cases_eq h 0) [
    | inl none ↦ ap (λ (n : ℕ). n % unit) (let e : f ≡ 0 * unit = omega (arith, is-first.none none) in e) ∙ mul_whole unit 0 positive
    | inr more ↦ ap (λ (n : ℕ). n % unit) (is-first.unit_if_nonempty (omega (arith, more))) ∙ mod_self unit positive
  ]

  last-whole : l % unit ≡ 0
  last-whole = elim (cases_eq t 0) [
    | inl none ↦ ap (λ (n : ℕ). n % unit) (let e : l ≡ 0 * unit = omega (arith, is-last.none none) in e) ∙ mul_whole unit 0 positive
    | inr more ↦ ap (λ (n : ℕ). n % unit) (is-last.unit_if_nonempty (omega (arith, more))) ∙ mod_self unit positive
  ]

  mid-whole : m % unit ≡ 0
  mid-whole = elim (cases_eq m 0) [
    | inl none ↦ ap (λ (n : ℕ). n % unit) (let e : m ≡ 0 * unit = omega (arith, none) in e) ∙ mul_whole unit 0 positive
    | inr more ↦ (parts.whole (omega (arith, more))).1
  ]

  second-whole : (at - at % unit + f) % unit ≡ 0
  second-whole = sum_of_whole unit (at - at % unit) f positive (start_whole unit at positive) first-whole

  third-whole : (at - at % unit + f + m) % unit ≡ 0
  third-whole = sum_of_whole unit (at - at % unit + f) m positive second-whole mid-whole

  -- The written bytes end with the range's last unit.
  pub end-is : at - at % unit + f + m + l ≡ round_up unit (at + (h + m + t))
  end-is = ⊎_elim
      (λ joint.
      let third : at + h + m ≡ at - at % unit + f + m = omega (arith, joint) in
      let whole : (at + h + m) % unit ≡ 0 = ap (λ (n : ℕ). n % unit) third ∙ third-whole in
      elim (cases_eq t 0) [
        | inl none ↦
            let same : round_up unit (at + (h + m + t)) ≡ round_up unit (at + h + m) = ap (round_up unit) (let e : at + (h + m + t) ≡ at + h + m = omega (arith, none) in e) in
            omega (arith, same, round_up_whole unit (at + h + m) positive whole, third, is-last.none none)
        | inr more ↦
            let same : round_up unit (at + (h + m + t)) ≡ round_up unit (at + h + m + t) = ap (round_up unit) (let e : at + (h + m + t) ≡ at + h + m + t = omega arith in e) in
            let up = round_up_unit unit (at + h + m) t (omega (arith, more)) (omega (arith, parts.last, tail-is)) in
            omega (arith, same, up, whole, third, is-last.unit_if_nonempty (omega (arith, more)))
      ])
      (λ (more, (none, nothing)).
      let same : round_up unit (at + (h + m + t)) ≡ round_up unit (at + h) = ap (round_up unit) (let e : at + (h + m + t) ≡ at + h = omega (arith, none, nothing) in e) in
      omega (arith, same, round_up_unit unit at h more parts.first, none, is-last.none nothing, is-first.unit_if_nonempty more))
      joined

  module _ (fits : round_up unit (at + (h + m + t)) < 2 ^ 64) where
    pub first-units : IsUnitRange unit (at - at % unit) f
    first-units = record { start = start_whole unit at positive; size = first-whole; fits = omega (arith, end-is, fits) }

    pub mid-units : IsUnitRange unit (at - at % unit + f) m
    mid-units = record { start = second-whole; size = mid-whole; fits = omega (arith, end-is, fits) }

    pub last-units : IsUnitRange unit (at - at % unit + f + m) l
    last-units = record { start = third-whole; size = last-whole; fits = omega (arith, end-is, fits) }

  -- The middle contains all whole units of the range.
  pub middle-holds : (a b : ℕ) → at ≤ a → a < b → b ≤ at + (h + m + t) → a % unit ≡ 0 → b % unit ≡ 0 → (at - at % unit + f ≤ a) × (b ≤ at - at % unit + f + m)
  middle-holds a b from lt to a-whole b-whole = (
    elim (cases_eq h 0) [
      | inl none ↦ omega (arith, is-first.none none, from)
      | inr more ↦ ⊎_elim
          (λ (none, _). absurd (omega (arith, none, more)))
          (λ (part, _). omega (arith, is-first.unit_if_nonempty (omega (arith, more)), next-multiple unit at a positive from a-whole part))
          parts.edge
    ],
    ⊎_elim
        (λ joint. multiple-le unit b (at - at % unit + f + m) positive b-whole third-whole (omega (arith, joint, to, parts.tail_below_unit, tail-is)))
        (λ (more, (none, nothing)). omega (arith, to, none, nothing, is-first.unit_if_nonempty more, parts.first, low))
        joined,
  )

  -- A range of whole units only has a middle part.
  pub middle-alone : IsUnitAligned unit at (h + m + t) → (f ≡ 0) × ((l ≡ 0) × (m ≡ h + m + t))
  middle-alone units =
      let head : h ≡ 0 = ⊎_elim (λ (none, _). none) (λ (part, _). absurd (omega (arith, part, units.0))) parts.edge in
      let all : h + m + t ≤ m = multiple-le unit (h + m + t) m positive units.1 mid-whole (omega (arith, parts.tail_below_unit, head, tail-is)) in
      let tail : t ≡ 0 = omega (arith, head, all) in
      (is-first.none head, (is-last.none tail, omega (arith, head, tail)))

-- Works with the written bytes one by one.
module _ (unit : ℕ) (bytes : List ℕ) (at : ℕ) (head mid tail first last : List ℕ) (positive : 0 < unit) (some : 0 < length head + length mid + length tail)
    (parts : Parts unit at (length head + length mid + length tail) (length head) (length mid)) (is-first : IsEdge unit (length head) (length first)) (is-last : IsEdge unit (length tail) (length last)) where
  abbrev begin : ℕ
  begin = at - at % unit

  nothing-pads : (place : ℕ) (xs p : List ℕ) → length xs ≡ 0 → length p ≡ 0 → IsPaddedPart bytes place xs place p
  nothing-pads place xs p none none-put = record {
    low = omega arith;
    high = omega (arith, none);
    before = λ k from lt. absurd (omega (arith, from, lt));
    inside = λ k from to. absurd (omega (arith, from, to, none));
    after = λ k from lt. absurd (omega (arith, from, lt, none-put));
  }

  pub edges-pad : (0 < length head → IsPaddedPart bytes at head (at - at % unit) first)
      → (0 < length tail → IsPaddedPart bytes (at + length head + length mid) tail (at + length head + length mid - (at + length head + length mid) % unit) last)
      → IsPaddedPart bytes at (head ++ mid ++ tail) (at - at % unit) (first ++ mid ++ last)
  edges-pad pads-first pads-last = ⊎_elim
      (λ joint.
      let one : IsPaddedPart bytes at head begin first = elim (cases_eq (length head) 0) [
        | inl none ↦
            let same : at ≡ begin = omega (arith, joint, none, is-first.none none) in
            subst (λ (n : ℕ). IsPaddedPart bytes at head n first) same (nothing-pads at head first none (is-first.none none))
        | inr more ↦ pads-first (omega (arith, more))
      ] in
      let two : IsPaddedPart bytes at (head ++ mid) begin (first ++ mid) =
      pads-both bytes at head begin first mid mid one joint (subst (λ (n : ℕ). IsPaddedPart bytes (at + length head) mid n mid) joint (pads-self bytes (at + length head) mid)) in
      let third : at + length head + length mid ≡ begin + length first + length mid = omega (arith, joint) in
      let place : at + length head + length mid ≡ at + length (head ++ mid) = omega (arith, length-append head mid) in
      let from : at + length head + length mid ≡ begin + length (first ++ mid) = omega (arith, third, length-append first mid) in
      let behind : IsPaddedPart bytes (at + length head + length mid) tail (at + length head + length mid) last = elim (cases_eq (length tail) 0) [
        | inl none ↦ nothing-pads (at + length head + length mid) tail last none (is-last.none none)
        | inr more ↦
            let whole : (at + length head + length mid) % unit ≡ 0 = ap (λ (n : ℕ). n % unit) third ∙ third-whole unit at (length head) (length mid) (length tail) (length first) (length last) positive some parts is-first is-last in
            subst (λ (n : ℕ). IsPaddedPart bytes (at + length head + length mid) tail n last)
            (let e : at + length head + length mid - (at + length head + length mid) % unit ≡ at + length head + length mid = omega (arith, whole) in e) (pads-last (omega (arith, more)))
      ] in
      pads-both bytes at (head ++ mid) begin (first ++ mid) tail last two (sym place ∙ from)
      (subst (λ (n : ℕ). IsPaddedPart bytes (at + length (head ++ mid)) tail n last) from (subst (λ (n : ℕ). IsPaddedPart bytes n tail (at + length head + length mid) last) place behind)))
      (λ (more, (none, nothing)).
      pads-alone bytes at (head ++ mid) begin (first ++ mid) tail last
      (pads-alone bytes at head begin first mid mid (pads-first more) none none) nothing (is-last.none nothing))
      (joined unit at (length head) (length mid) (length tail) (length first) (length last) positive some parts is-first is-last)

-- Works with the lengths as the code computes them.
module _ (unit at n i j h m t f g l k : ℕ) (some : 0 < n) (parts : Parts unit at n i j) (is-first : IsEdge unit i g) (is-last : IsEdge unit (n - i - j) k)
    (h-is : h ≡ i) (m-is : m ≡ j) (t-is : t ≡ n - i - j) (f-is : f ≡ g) (l-is : l ≡ k) where
  pub all-is : h + m + t ≡ n
  all-is = omega (arith, parts.within, h-is, m-is, t-is)

  pub some-here : 0 < h + m + t
  some-here = omega (arith, all-is, some)

  pub parts-here : Parts unit at (h + m + t) h m
  parts-here = subst (λ (x : ℕ). Parts unit at x h m) (sym all-is) (subst (λ (x : ℕ). Parts unit at n x m) (sym h-is) (subst (λ (x : ℕ). Parts unit at n i x) (sym m-is) parts))

  pub first-here : IsEdge unit h f
  first-here = subst (λ (x : ℕ). IsEdge unit x f) (sym h-is) (subst (λ (x : ℕ). IsEdge unit i x) (sym f-is) is-first)

  pub last-here : IsEdge unit t l
  last-here = subst (λ (x : ℕ). IsEdge unit x l) (sym t-is) (subst (λ (x : ℕ). IsEdge unit (n - i - j) x) (sym l-is) is-last)

  module _ (positive : 0 < unit) (fits : round_up unit (at + n) < 2 ^ 64) where
    fits-here : round_up unit (at + (h + m + t)) < 2 ^ 64
    fits-here = subst (λ (x : ℕ). round_up unit (at + x) < 2 ^ 64) (sym all-is) fits

    pub first-laid : IsUnitRange unit (at - at % unit) f
    first-laid = first-units unit at h m t f l positive some-here parts-here first-here last-here fits-here

    pub mid-laid : IsUnitRange unit (at - at % unit + f) m
    mid-laid = mid-units unit at h m t f l positive some-here parts-here first-here last-here fits-here

    pub last-laid : IsUnitRange unit (at - at % unit + f + m) l
    last-laid = last-units unit at h m t f l positive some-here parts-here first-here last-here fits-here
