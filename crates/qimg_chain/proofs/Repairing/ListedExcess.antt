-- Lemmas on the leaks of a file as pairs: they are the clusters with an excess refcount, by rising cluster, each with its excess.
use Rattle.std.proofs.Common.{◌≡◌, ◌⊎◌, ℕ, zero, suc, ◌+◌, ◌-◌, ◌*◌, ◌<◌, arith, refl, ap, sym, subst, ◌∙◌, inl, inr, List, [], ◌∷◌, ◌++◌, length, Some}
use Rattle.std.specs.Prelude.{Bool, if◌then◌else◌, slice_get}
use Rattle.std.proofs.lemmas.Bool.{cases_eq, cases_lt, lt-ltb, le-ltb}
use Rattle.std.proofs.lemmas.Option.{slice_get_within}
use Rattle.qcow2_types.specs.Bytes.{Bytes}
use Rattle.qcow2_types.specs.Consistency.{leak_at, leaks, leaks_below}
use Rattle.qcow2_types.specs.Counts.{count, counters_of_block}
use Rattle.qcow2_types.specs.Header.{Fields, refcount_table_entries}
use Rattle.qcow2_types.specs.References.{refs}
use Rattle.qcow2_types.proofs.Counting.Leaks.{count-beyond}
use Rattle.qimg_calls.specs.Repairing.{ListsExcess}

abbrev Pair : Type 0
Pair = ℕ × ℕ

-- An element of a list with one more element.
last-cases : (xs : List Pair) (x y : Pair) (i : ℕ) → slice_get (xs ++ x ∷ []) i ≡ Some y → (slice_get xs i ≡ Some y) ⊎ ((i ≡ length xs) × (y ≡ x))
last-cases [] x y zero is = inr (refl, let same : x ≡ y = cc is in sym same)
last-cases [] x y (suc i) is = absurd (cc is)
last-cases (z ∷ xs) x y zero is = inl is
last-cases (z ∷ xs) x y (suc i) is = elim (last-cases xs x y i is) [ inl within ↦ inl within | inr last ↦ inr (ap suc last.0, last.1) ]

before-last : (xs : List Pair) (x y : Pair) (i : ℕ) → slice_get xs i ≡ Some y → slice_get (xs ++ x ∷ []) i ≡ Some y
before-last [] x y i is = absurd (cc is)
before-last (z ∷ xs) x y zero is = is
before-last (z ∷ xs) x y (suc i) is = before-last xs x y i is

at-last : (xs : List Pair) (x : Pair) → slice_get (xs ++ x ∷ []) (length xs) ≡ Some x
at-last [] x = refl
at-last (z ∷ xs) x = at-last xs x

no-more : (xs : List Pair) → xs ++ [] ≡ xs
no-more [] = refl
no-more (x ∷ xs) = ap (λ (r : List Pair). x ∷ r) (no-more xs)

-- The pairs are the clusters below `n` with an excess.
record ListsBelow (excess : ℕ → ℕ) (n : ℕ) (pairs : List Pair) : Type 0 where
  each : (i c m : ℕ) → slice_get pairs i ≡ Some (c, m) → (m ≡ excess c) × (0 < m) × (c < n)
  all : (c : ℕ) → c < n → 0 < excess c → (i : ℕ) × (slice_get pairs i ≡ Some (c, excess c))
  rising : (i c m d k : ℕ) → slice_get pairs i ≡ Some (c, m) → slice_get pairs (i + 1) ≡ Some (d, k) → c < d

module _ (excess : ℕ → ℕ) (n : ℕ) (pairs : List Pair) (lists : ListsBelow excess n pairs) where
  without : excess n ≡ 0 → ListsBelow excess (suc n) pairs
  without none = record {
    each = λ i c m is. let one = lists.each i c m is in (one.0, one.1, omega (arith, one.2));
    all = λ c below some. elim (cases_eq c n) [
      | inl is ↦ absurd (let same = ap excess is in omega (arith, same, none, some))
      | inr apart ↦ lists.all c (omega (arith, below, apart)) some
    ];
    rising = lists.rising;
  }

  module _ (some : 0 < excess n) where
    abbrev more : List Pair
    more = pairs ++ (n, excess n) ∷ []

    each-more : (i c m : ℕ) → slice_get more i ≡ Some (c, m) → (m ≡ excess c) × (0 < m) × (c < suc n)
    each-more i c m is = elim (last-cases pairs (n, excess n) (c, m) i is) [
      | inl within ↦ let one = lists.each i c m within in (one.0, one.1, omega (arith, one.2))
      | inr last ↦
          let first : c ≡ n = ap (λ (p : Pair). p.0) last.1 in
          let second : m ≡ excess n = ap (λ (p : Pair). p.1) last.1 in
          (second ∙ ap excess (sym first), omega (arith, second, some), omega (arith, first))
    ]

    all-more : (c : ℕ) → c < suc n → 0 < excess c → (i : ℕ) × (slice_get more i ≡ Some (c, excess c))
    all-more c below leaks = elim (cases_eq c n) [
      | inl is ↦ (length pairs, subst (λ (x : ℕ). slice_get more (length pairs) ≡ Some (x, excess x)) (sym is) (at-last pairs (n, excess n)))
      | inr apart ↦ let there = lists.all c (omega (arith, below, apart)) leaks in (there.0, before-last pairs (n, excess n) (c, excess c) there.0 there.1)
    ]

    rising-more : (i c m d k : ℕ) → slice_get more i ≡ Some (c, m) → slice_get more (i + 1) ≡ Some (d, k) → c < d
    rising-more i c m d k is next = elim (last-cases pairs (n, excess n) (d, k) (i + 1) next) [
      | inl within ↦
          let low = slice_get_within pairs (i + 1) (d, k) within in
          elim (last-cases pairs (n, excess n) (c, m) i is) [
            | inl before ↦ lists.rising i c m d k before within
            | inr last ↦ absurd (omega (arith, low, last.0))
          ]
      | inr last ↦
          let first : d ≡ n = ap (λ (p : Pair). p.0) last.1 in
          elim (last-cases pairs (n, excess n) (c, m) i is) [
            | inl before ↦ let below = (lists.each i c m before).2 in omega (arith, first, below)
            | inr same ↦ absurd (omega (arith, same.0, last.0))
          ]
    ]

    with-last : ListsBelow excess (suc n) more
    with-last = record { each = each-more; all = all-more; rising = rising-more }

module _ (f : Bytes) (h : Fields) where
  abbrev pub excess_of : ℕ → ℕ
  excess_of c = count f h c - refs f h c

  lists-next : (n : ℕ) (pairs : List Pair) → ListsBelow excess_of n pairs → ListsBelow excess_of (suc n) (pairs ++ leak_at f h n)
  lists-next n pairs lists = elim (cases_lt (refs f h n) (count f h n)) [
    | inl more ↦
        let is : leak_at f h n ≡ (n, excess_of n) ∷ [] = ap (λ (b : Bool). if b then (n, excess_of n) ∷ [] else []) (lt-ltb _ _ more) in
        subst (λ (r : List Pair). ListsBelow excess_of (suc n) (pairs ++ r)) (sym is) (with-last excess_of n pairs lists (omega (arith, more)))
    | inr few ↦
        let is : leak_at f h n ≡ [] = ap (λ (b : Bool). if b then (n, excess_of n) ∷ [] else []) (le-ltb _ _ few) in
        subst (λ (r : List Pair). ListsBelow excess_of (suc n) (pairs ++ r)) (sym is)
        (subst (ListsBelow excess_of (suc n)) (sym (no-more pairs)) (without excess_of n pairs lists (omega (arith, few))))
  ]

  lists-below : (n : ℕ) → ListsBelow excess_of n (leaks_below f h n)
  unfolding leaks_below
  lists-below zero = record {
    each = λ i c m is. absurd (cc is);
    all = λ c below some. absurd (omega (arith, below));
    rising = λ i c m d k is next. absurd (cc is);
  }
  lists-below (suc n) = lists-next n (leaks_below f h n) (lists-below n)

  -- The leaks of a file list its excess refcounts, which are those of `excess`.
  pub lists-excess : (excess : ℕ → ℕ) → ((c : ℕ) → excess c ≡ excess_of c) → 0 < counters_of_block h → ListsExcess excess (leaks f h)
  lists-excess excess same some =
      let n = refcount_table_entries h * counters_of_block h in
      let lists = lists-below n in
      record {
        each = λ i c m is. let one = lists.each i c m is in let at = same c in (one.0 ∙ sym at, one.1);
        all = λ c leaks.
            let at = same c in
            elim (cases_lt c n) [
              | inl below ↦
                  let there = lists.all c below (omega (arith, leaks, at)) in
                  (there.0, there.1 ∙ ap (λ (m : ℕ). Some (c, m)) (sym at))
              | inr past ↦ let none = count-beyond f h c some past in absurd (omega (arith, leaks, at, none))
            ];
        rising = lists.rising;
      }
