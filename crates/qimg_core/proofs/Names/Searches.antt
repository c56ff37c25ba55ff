-- Searches for the lowest cluster that passes a test.
use Rattle.std.proofs.Common.{◌≡◌, ◌≢◌, ◌⊎◌, ℕ, List, suc, ◌+◌, ◌-◌, ◌^◌, ◌<◌, ◌≤◌, refl, true, false, arith, ap, sym, subst, ◌∙◌, length, inl, inr, true≢false}
use Rattle.std.specs.Prelude.{Bool, IsFalse, ◌&&◌, ◌||◌, not, ◌==◌, nat_lt, Option, Some, None, slice_index, IfSome, IsSomeAnd, MatchOption, max}
use Rattle.std.specs.Option.{is_some}
use Rattle.std.proofs.lemmas.Bool.{cases_lt, cases_order}
use Rattle.std.proofs.lemmas.List.{get_or_past}
use Rattle.std.proofs.lemmas.Option.{IfSome_then}
use Rattle.qcow2_types.specs.Consistency.{Nowhere, IsLeast}
use Rattle.qimg_core.specs.declared.check.names.Times.{Times}
use Rattle.qimg_core.specs.declared.check.names.Tallies.{Tallies}
use Rattle.qimg_core.specs.declared.check.names.Others.{Others}
use Rattle.qimg_core.specs.declared.check.search.Question.{Question}
use Rattle.qimg_core.specs.declared.check.search.Way.{Way}
use Rattle.qimg_core.specs.declared.check.search.Question.TheVariants.{Shared, FalselyCopied, Either, AtAll}
use Rattle.qimg_core.specs.Names.{no_times, no_few_times, cell_at, cluster_of, other_at, together, times_at, weight_of}
use Rattle.qimg_core.specs.Searches.{passes, is_such, IsBelow, NoneWithin, IsFirstWithin, IsListed, IsEntry, IsFrom, IsCut, IsAlong}
use Rattle.qimg_core.proofs.Names.Clusters.{as-times}
use Rattle.qimg_core.proofs.Names.Entries.{weight-none}

not-before : (next one : Option ℕ) (n : ℕ) → ((c : ℕ) → IsBelow next c → IsBelow one c) → IsSomeAnd one (λ e. e ≤ n) → IsSomeAnd next (λ e. e ≤ n)
not-before next None n below past = absurd past
not-before None (Some e) n below past = absurd (omega (arith, below n tt, past))
not-before (Some d) (Some e) n below past = elim (cases_lt n d) [ inl lt ↦ absurd (omega (arith, below n lt, past)) | inr ge ↦ ge ]

cut-least : (list : List ℕ) (c index : ℕ) (next one : Option ℕ) → ((d : ℕ) → IsBelow next d → IsBelow one d) → IsCut list c one index → IsCut list c next index
cut-least list c index next one below cut = record { bound = cut.bound; before = cut.before; next_not_after = λ i le lt. not-before next one (cluster_of (slice_index list i)) below (cut.next_not_after i le lt) }

-- The walk from the cuts of the lists.
pub along-cuts : (others : Others) (c : ℕ) (way : Way) (structure rest mapped copied : Option ℕ) → ((d : ℕ) → IsBelow way.next d → IsBelow structure d × IsBelow rest d) → (way.next ≡ structure) ⊎ (way.next ≡ rest) → ((d : ℕ) → IsBelow rest d → IsBelow mapped d × IsBelow copied d) → (rest ≡ mapped) ⊎ (rest ≡ copied)
    → IsCut others.structure.items c structure way.structure × IsFrom c structure → IsCut others.mapped.items c mapped way.mapped × IsFrom c mapped → IsCut others.copied.items c copied way.copied × IsFrom c copied
    → IfSome structure (IsListed others.structure.items) → IfSome mapped (IsListed others.mapped.items) → IfSome copied (IsListed others.copied.items) → IsAlong others c way
along-cuts others c way structure rest mapped copied below is below-rest is-rest of-structure of-mapped of-copied in-structure in-mapped in-copied = record {
  structure = cut-least others.structure.items c way.structure way.next structure (λ d lt. (below d lt).0) of-structure.0;
  mapped = cut-least others.mapped.items c way.mapped way.next mapped (λ d lt. (below-rest d (below d lt).1).0) of-mapped.0;
  copied = cut-least others.copied.items c way.copied way.next copied (λ d lt. (below-rest d (below d lt).1).1) of-copied.0;
  from = one-of (λ n. (c ≤ n) × (n < 2 ^ 53)) way.next structure rest is of-structure.1 (one-of (λ n. (c ≤ n) × (n < 2 ^ 53)) rest mapped copied is-rest of-mapped.1 of-copied.1);
  named = one-of (IsEntry others) way.next structure rest is (IfSome_then structure in-structure (λ n p. inl p)) (one-of (IsEntry others) rest mapped copied is-rest (IfSome_then mapped in-mapped (λ n p. inr (inl p))) (IfSome_then copied in-copied (λ n p. inr (inr p))));
}
  where
    one-of : (P : ℕ → Type 0) (a b d : Option ℕ) → (a ≡ b) ⊎ (a ≡ d) → IfSome b P → IfSome d P → IfSome a P
    one-of P a b d (inl same) p q = subst (λ o. IfSome o P) (sym same) p
    one-of P a b d (inr same) p q = subst (λ o. IfSome o P) (sym same) q

-- A cluster before the next one has no item in a list.
cut-none : (list : List ℕ) (c d index : ℕ) (next : Option ℕ) → c ≤ d → IsBelow next d → IsCut list c next index → weight_of list d ≡ 0
cut-none list c d index next le below cut = weight-none d list (λ k lt is. elim (cases_lt k index) [
  | inl less ↦ absurd (omega (arith, cut.before k less, is, le))
  | inr ge ↦ past next below (cut.next_not_after k ge lt) is
])
  where
    past : (next : Option ℕ) {n : ℕ} → IsBelow next d → IsSomeAnd next (λ e. e ≤ n) → n ≡ d → ⊥
    past None lt le is = le
    past (Some e) lt le is = omega (arith, lt, le, is)

pub along-none : (others : Others) (c d : ℕ) (way : Way) → c ≤ d → IsBelow way.next d → IsAlong others c way → other_at others d ≡ no_times
unfolding other_at
along-none others c d way le below along = as-times (cut-none _ c d way.structure way.next le below along.structure) (cut-none _ c d way.mapped way.next le below along.mapped) (cut-none _ c d way.copied way.next le below along.copied)

-- The walk can be moved to a later cluster, up to the next one with an item.
pub along-later : (others : Others) (c d : ℕ) (way : Way) → c ≤ d → IsFrom d way.next → IsAlong others c way → IsAlong others d way
along-later others c d way le from along = record { structure = later _ _ along.structure; mapped = later _ _ along.mapped; copied = later _ _ along.copied; from = from; named = along.named }
  where
    later : (list : List ℕ) (index : ℕ) → IsCut list c way.next index → IsCut list d way.next index
    later list index cut = record { bound = cut.bound; before = λ i lt. omega (arith, cut.before i lt, le); next_not_after = cut.next_not_after }

pub along-at : (others : Others) (c n : ℕ) (way : Way) → way.next ≡ Some n → IsAlong others c way → IsAlong others n way
along-at others c n way is along =
    let from = subst (IsFrom c) is along.from in
    along-later others c n way from.0 (subst (IsFrom n) (sym is) (omega arith, from.1)) along

-- The walk moves past a cluster that has no item.
pub along-other : (others : Others) (c : ℕ) (way : Way) → way.next ≢ Some c → IsAlong others c way → IsBelow way.next c × IsAlong others (c + 1) way
along-other others c way other along =
    let after = by-next way.next other along.from in
    (after.0, along-later others c (c + 1) way (omega arith) after.1 along)
  where
    by-next : (next : Option ℕ) → next ≢ Some c → IsFrom c next → IsBelow next c × IsFrom (c + 1) next
    by-next None other from = (tt, tt)
    by-next (Some e) other from =
        let apart : c ≢ e = λ is. other (ap Some (sym is)) in
        (omega (arith, from.0, apart), (omega (arith, from.0, apart), from.1))

module _ (question : Question) (names : Tallies) where
  -- The test of a cluster, from its counted references.
  pub such-is : (c : ℕ) (n : Times) {answer b : Bool} → n ≡ times_at names c → answer ≡ passes question n → answer ≡ b → is_such question names c ≡ b
  unfolding is_such
  such-is c n told is so = ap (passes question) (sym told) ∙ (sym is ∙ so)

  -- The test fails for a cluster without references.
  fails : (q : Question) → passes q no_times ≡ false
  fails Shared = refl
  fails FalselyCopied = refl
  fails Either = refl
  fails AtAll = refl

  such-none : (c : ℕ) → length names.cells.items ≤ c → other_at names.others c ≡ no_times → is_such question names c ≡ false
  unfolding is_such times_at cell_at
  such-none c past none = ap (passes question) (ap (λ x. together x (other_at names.others c)) (get_or_past names.cells.items c no_few_times past) ∙ ap (together no_few_times) none) ∙ fails question

  -- The state of a search through the lists.
  abbrev pub IsAhead : ℕ → Option ℕ → Type 0
  IsAhead low next = NoneWithin (is_such question names) low next × IfSome next (λ c. (low ≤ c) × (c < 2 ^ 53))

  pub ahead-first : (low : ℕ) (way : Way) → length names.cells.items ≤ low → IsAlong names.others low way → IsAhead low way.next
  ahead-first low way past along = (record { none = λ d le below. such-none d (omega arith) (along-none names.others low d way le below along) }, along.from)

  pub ahead-next : (low c : ℕ) (way : Way) → length names.cells.items ≤ low → IsAhead low (Some c) → is_such question names c ≡ false → IsAlong names.others (c + 1) way → IsAhead low way.next
  ahead-next low c way past so_far here along = (
    record {
      none = λ d le below. elim (cases_order d c) [
        | inl is ↦ ap (is_such question names) is ∙ here
        | inr (inl lt) ↦ so_far.0.none d le lt
        | inr (inr gt) ↦ such-none d (omega arith) (along-none names.others (c + 1) d way (omega arith) below along)
      ];
    },
    further way.next along.from,
  )
    where
      further : (next : Option ℕ) → IfSome next (λ e. (c + 1 ≤ e) × (e < 2 ^ 53)) → IfSome next (λ e. (low ≤ e) × (e < 2 ^ 53))
      further None from = tt
      further (Some e) from = (omega (arith, from.0, so_far.1.0), from.1)

-- A number that gets lower with each step of the search.
abbrev pub left : Option ℕ → ℕ
left None = 0
left (Some c) = suc (2 ^ 53 - c)

pub left-less : (c : ℕ) (next : Option ℕ) → IfSome next (λ e. (c + 1 ≤ e) × (e < 2 ^ 53)) → left next < left (Some c)
left-less c None from = omega arith
left-less c (Some e) from = omega (arith, from.0, from.1)

module _ (test : ℕ → Bool) (low : ℕ) where
  pub none-at-start : NoneWithin test low (Some low)
  none-at-start = record { none = λ d le lt. absurd (omega arith) }

  pub none-next : (c : ℕ) → NoneWithin test low (Some c) → test c ≡ false → NoneWithin test low (Some (c + 1))
  none-next c so_far here = record { none = λ d le lt. elim (cases_lt d c) [ inl less ↦ so_far.none d le less | inr ge ↦ let is : d ≡ c = omega arith in ap test is ∙ here ] }

  pub none-until : (c : ℕ) (high : Option ℕ) → IsSomeAnd high (λ end. end ≤ c) → NoneWithin test low (Some c) → NoneWithin test low high
  none-until c (Some end) le so_far = record { none = λ d from lt. so_far.none d from (omega arith) }
  none-until c None le so_far = absurd le

  pub none-bounded : (high : Option ℕ) → NoneWithin test low None → NoneWithin test low high
  none-bounded high none = record { none = λ d le below. none.none d le tt }

  pub first-here : (c : ℕ) (high : Option ℕ) → low ≤ c → IsBelow high c → NoneWithin test low (Some c) → test c ≡ true → IsFirstWithin test low high c
  first-here c high le below so_far here = record { from = le; below = below; is = here; before = λ d from lt. so_far.none d from lt }

  -- First the cells are searched, and then the lists.
  module _ (cells end : ℕ) (high : Option ℕ) (inside : (c : ℕ) → c < cells → IsBelow high c → c < end) (below : (c : ℕ) → c < end → (c < cells) × IsBelow high c) where
    pub first-of-cells : (c : ℕ) → IsFirstWithin test low (Some end) c → IsFirstWithin test low high c
    first-of-cells c first = record { from = first.from; below = (below c first.below).1; is = first.is; before = first.before }

    pub first-of-both : (start : ℕ) (next : Option ℕ) → start ≡ max low cells → NoneWithin test low (Some end) → MatchOption next (NoneWithin test start high) (IsFirstWithin test start high) → MatchOption next (NoneWithin test low high) (IsFirstWithin test low high)
    first-of-both start None most none rest = record { none = λ d le under. elim (cases_lt d cells) [ inl lt ↦ none.none d le (inside d lt under) | inr ge ↦ rest.none d (omega arith) under ] }
    first-of-both start (Some c) most none rest = record {
      from = omega (arith, rest.from);
      below = rest.below;
      is = rest.is;
      before = λ d le lt. elim (cases_lt d cells) [
        | inl less ↦ none.none d le (inside d less (lower high d c lt rest.below))
        | inr ge ↦ rest.before d (omega arith) lt
      ];
    }
      where
        lower : (high : Option ℕ) (d c : ℕ) → d < c → IsBelow high c → IsBelow high d
        lower None d c lt under = tt
        lower (Some h) d c lt under = omega arith

pub over-all : (test : ℕ → Bool) (next : Option ℕ) → MatchOption next (NoneWithin test 0 None) (IsFirstWithin test 0 None) → MatchOption next (Nowhere test) (IsLeast test)
over-all test None none = λ c. none.none c (omega arith) tt
over-all test (Some c) first = (first.is, λ d lt. first.before d (omega arith) lt)

-- If neither of two tests passes anywhere, nothing passes `Either`.
pub neither : (names : Tallies) (found : Option ℕ) → is_some found ≡ false → MatchOption found (Nowhere (is_such Either names)) (IsLeast (is_such Either names)) → Nowhere (is_such Shared names) × Nowhere (is_such FalselyCopied names)
unfolding is_such
neither names (Some c) empty least = absurd (true≢false empty)
neither names None empty none = (λ c. (at c).0, λ c. (at c).1)
  where
    last : (a : Bool) → IsFalse (a && false)
    last true = refl
    last false = refl

    both : (a b d : Bool) → IsFalse ((a || b) && d) → IsFalse (a && d) × IsFalse (b && d)
    both a b false p = (last a, last b)
    both true b true p = absurd (true≢false p)
    both false true true p = absurd (true≢false p)
    both false false true p = (refl, refl)

    at : (c : ℕ) → IsFalse (is_such Shared names c) × IsFalse (is_such FalselyCopied names c)
    at c = both (nat_lt 0 (times_at names c).structure) (nat_lt 0 (times_at names c).copied) (not ((times_at names c).structure + (times_at names c).mapped == 1)) (none c)
