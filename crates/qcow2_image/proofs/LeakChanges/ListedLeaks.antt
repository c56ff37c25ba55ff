-- Lemmas on the leaks of a file as pairs: each cluster's pair lowers its refcount by its excess.
use Rattle.std.proofs.Common.{◌≡◌, ℕ, zero, suc, ◌+◌, ◌-◌, ◌*◌, ◌<◌, ◌≤◌, arith, refl, ap, sym, subst, ◌∙◌, inl, inr, List, [], ◌∷◌, ◌++◌}
use Rattle.std.specs.Prelude.{Bool, if◌then◌else◌}
use Rattle.std.proofs.lemmas.Bool.{cases_eq, cases_lt, lt-ltb, le-ltb}
use Rattle.std.proofs.lemmas.List.Sums.{sum_by-append}
use Rattle.qcow2_types.specs.Bytes.{Bytes}
use Rattle.qcow2_types.specs.Consistency.{leak_at, leaks, leaks_below}
use Rattle.qcow2_types.specs.Counts.{count, counters_of_block}
use Rattle.qcow2_types.specs.Header.{Fields, refcount_table_entries}
use Rattle.qcow2_types.specs.References.{refs}
use Rattle.qcow2_types.proofs.Counting.Leaks.{count-beyond}
use Rattle.qcow2_alloc.specs.GuestView.{many_at}
use Rattle.qcow2_alloc.proofs.GuestView.QuietCounters.{away-many, here-many}
use Rattle.qcow2_clusters.specs.Lowering.{ArePositive, lowered_in}

positive-then : (xs ys : List (ℕ × ℕ)) → ArePositive xs → ArePositive ys → ArePositive (xs ++ ys)
positive-then [] ys first second i inside = second i inside
positive-then (x ∷ xs) ys first second zero inside = first 0 (omega arith)
positive-then (x ∷ xs) ys first second (suc i) inside =
    positive-then xs ys (λ j low. first (suc j) (omega (arith, low))) second i (omega (arith, inside))

module _ (f : Bytes) (h : Fields) where
  abbrev excess : ℕ → ℕ
  excess c = count f h c - refs f h c

  leak-some : (c : ℕ) → refs f h c < count f h c → leak_at f h c ≡ (c, excess c) ∷ []
  leak-some c more = ap (λ (b : Bool). if b then (c, excess c) ∷ [] else []) (lt-ltb _ _ more)

  pub leak-none : (c : ℕ) → count f h c ≤ refs f h c → leak_at f h c ≡ []
  leak-none c few = ap (λ (b : Bool). if b then (c, excess c) ∷ [] else []) (le-ltb _ _ few)

  lowered-at : (c d : ℕ) → lowered_in (leak_at f h c) d ≡ many_at c (excess c) d
  lowered-at c d = elim (cases_lt (refs f h c) (count f h c)) [
    | inl more ↦
        let one : lowered_in (leak_at f h c) d ≡ 0 + many_at c (excess c) d = ap (λ (pairs : List (ℕ × ℕ)). lowered_in pairs d) (leak-some c more) in
        omega (arith, one)
    | inr few ↦
        let none : lowered_in (leak_at f h c) d ≡ 0 = ap (λ (pairs : List (ℕ × ℕ)). lowered_in pairs d) (leak-none c few) in
        let zero-at : many_at c (excess c) d ≡ many_at c 0 d = ap (λ (n : ℕ). many_at c n d) (let less : excess c ≡ 0 = omega (arith, few) in less) in
        none ∙ sym (zero-at ∙ nowhere c d)
  ] where
    nowhere : (c d : ℕ) → many_at c 0 d ≡ 0
    nowhere c d = elim (cases_eq d c) [
      | inl here ↦ subst (λ (x : ℕ). many_at c 0 x ≡ 0) (sym here) (here-many c 0)
      | inr apart ↦ away-many c 0 d apart
    ]

  lowered-more : (n c : ℕ) → lowered_in (leaks_below f h (suc n)) c ≡ lowered_in (leaks_below f h n) c + many_at n (excess n) c
  unfolding leaks_below
  lowered-more n c =
      let both : lowered_in (leaks_below f h (suc n)) c ≡ lowered_in (leaks_below f h n) c + lowered_in (leak_at f h n) c =
      sum_by-append (λ (p : ℕ × ℕ). many_at p.0 p.1 c) (leaks_below f h n) (leak_at f h n) in
      let at = lowered-at n c in
      omega (arith, both, at)

  lowered-past : (n c : ℕ) → n ≤ c → lowered_in (leaks_below f h n) c ≡ 0
  unfolding leaks_below
  lowered-past zero c past = refl
  lowered-past (suc n) c past =
      let more = lowered-more n c in
      let before = lowered-past n c (omega (arith, past)) in
      let away = away-many n (excess n) c (λ is. omega (arith, past, is)) in
      omega (arith, more, before, away)

  lowered-below : (n c : ℕ) → c < n → lowered_in (leaks_below f h n) c ≡ excess c
  lowered-below zero c below = absurd (omega (arith, below))
  lowered-below (suc n) c below =
      let more = lowered-more n c in
      elim (cases_eq c n) [
        | inl is ↦
            let before = lowered-past n c (omega (arith, is)) in
            let here : many_at n (excess n) c ≡ excess c = subst (λ (x : ℕ). many_at n (excess n) x ≡ excess x) (sym is) (here-many n (excess n)) in
            omega (arith, more, before, here)
        | inr apart ↦
            let before = lowered-below n c (omega (arith, below, apart)) in
            let away = away-many n (excess n) c apart in
            omega (arith, more, before, away)
      ]

  -- The pairs of the leaks lower each refcount by its excess.
  pub lowered-listed : 0 < counters_of_block h → (c : ℕ) → lowered_in (leaks f h) c ≡ excess c
  lowered-listed some c = let n = refcount_table_entries h * counters_of_block h in elim (cases_lt c n) [
    | inl below ↦ lowered-below n c below
    | inr past ↦
        let none = lowered-past n c past in
        let free = count-beyond f h c some past in
        omega (arith, none, free)
  ]

  positive-at : (c : ℕ) → ArePositive (leak_at f h c)
  positive-at c = elim (cases_lt (refs f h c) (count f h c)) [
    | inl more ↦ subst ArePositive (sym (leak-some c more)) (one more)
    | inr few ↦ subst ArePositive (sym (leak-none c few)) (λ i inside. absurd (omega (arith, inside)))
  ] where
    one : refs f h c < count f h c → ArePositive ((c, excess c) ∷ [])
    one more zero inside = omega (arith, more)
    one more (suc i) inside = absurd (omega (arith, inside))

  positive-below : (n : ℕ) → ArePositive (leaks_below f h n)
  unfolding leaks_below
  positive-below zero = λ i inside. absurd (omega (arith, inside))
  positive-below (suc n) = positive-then (leaks_below f h n) (leak_at f h n) (positive-below n) (positive-at n)

  pub positive-listed : ArePositive (leaks f h)
  positive-listed = positive-below (refcount_table_entries h * counters_of_block h)

  none-below : ((c : ℕ) → count f h c ≤ refs f h c) → (n : ℕ) → leaks_below f h n ≡ []
  unfolding leaks_below
  none-below few zero = refl
  none-below few (suc n) = ap (λ r. r ++ leak_at f h n) (none-below few n) ∙ leak-none n (few n)

  -- A file leaks nothing if no refcount is above the references.
  pub none-listed : ((c : ℕ) → count f h c ≤ refs f h c) → leaks f h ≡ []
  none-listed few = none-below few (refcount_table_entries h * counters_of_block h)
