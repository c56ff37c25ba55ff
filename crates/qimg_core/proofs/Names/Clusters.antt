-- Adding references to clusters, one cluster after another.
use Rattle.std.proofs.Common.{◌≡◌, ◌≢◌, ℕ, ◌+◌, ◌*◌, ◌<◌, ◌≤◌, refl, arith, ap, sym, subst, ◌∙◌, List, [], length, inl, inr}
use Rattle.std.specs.Prelude.{slice_index_or, slice_set, replicate}
use Rattle.std.specs.List.{sum_by}
use Rattle.std.specs.List.Sorted.{IsPermutation, IsSorted}
use Rattle.std.specs.Ordering.{nat_cmp}
use Rattle.std.proofs.lemmas.Bool.{cases_eq, cases_lt}
use Rattle.std.proofs.lemmas.List.{get_or-set_same, get_or-set_other, get_or_default, get_or-replicate, get_or_past, length-replicate, length-set}
use Rattle.std.proofs.lemmas.List.Sorted.{sum_by-IsPermutation, IsNonDecreasingBy-from_sort}
use Rattle.qcow2_types.specs.Header.{Fields}
use Rattle.qimg_core.specs.declared.check.names.Times.{Times}
use Rattle.qimg_core.specs.declared.check.names.FewTimes.{FewTimes}
use Rattle.qimg_core.specs.declared.check.names.Tallies.{Tallies}
use Rattle.qimg_core.specs.declared.check.names.Others.{Others}
use Rattle.qimg_core.specs.Names.{structure_part, mapped_part, copied_part, no_times, no_few_times, cell_at, weight_in, weight_of, other_at, together, times_at, referenced_by, is_between, FitsCell, ListsOnlyOverflow, HasRoom, HasRoomAt, KeepsCells, IsSum, IsFewSum, IsRising, TellsNothing, Total, Adds, AddsClusters, AddsWeight, AddsEntry}

pub adds-none : (names : Tallies) (low : ℕ) (times : Times) → AddsClusters names names low low times
adds-none names low times = record {
  structure = λ c. none (referenced_by structure_part c names) times.structure c;
  mapped = λ c. none (referenced_by mapped_part c names) times.mapped c;
  copied = λ c. none (referenced_by copied_part c names) times.copied c;
  cells = refl;
  spares = λ spared. spared;
}
  where
    between : (c : ℕ) → is_between low low c ≡ 0
    between c = grind arith

    none : (n x c : ℕ) → n ≡ n + x * is_between low low c
    none n x c = rw (between c) (omega arith)

pub adds-more : (old now new : Tallies) (low k : ℕ) (times : Times) → low ≤ k → AddsClusters old now low k times → AddsClusters now new k (k + 1) times → AddsClusters old new low (k + 1) times
adds-more old now new low k times le before here = record {
  structure = λ c. more times.structure c _ _ _ (before.structure c) (here.structure c);
  mapped = λ c. more times.mapped c _ _ _ (before.mapped c) (here.mapped c);
  copied = λ c. more times.copied c _ _ _ (before.copied c) (here.copied c);
  cells = here.cells ∙ before.cells;
  spares = λ spared. here.spares (before.spares spared);
}
  where
    between : (x c : ℕ) → x * is_between low (k + 1) c ≡ x * is_between low k c + x * is_between k (k + 1) c
    between x c = grind arith

    more : (x c a b d : ℕ) → b ≡ a + x * is_between low k c → d ≡ b + x * is_between k (k + 1) c → d ≡ a + x * is_between low (k + 1) c
    more x c a b d p q = omega (arith, p, q, between x c)

abbrev pub times-of : ℕ → ℕ → ℕ → Times
times-of s m p = record { structure = s; mapped = m; copied = p }

pub as-times : {s t m n p q : ℕ} → s ≡ t → m ≡ n → p ≡ q → times-of s m p ≡ times-of t n q
as-times {s} {t} {m} {n} {p} {q} is is-2 is-3 = ap (λ x. times-of x m p) is ∙ (ap (λ x. times-of t x p) is-2 ∙ ap (times-of t n) is-3)

-- References are added to one cluster. No other cluster changes, and the lists still have no items that would fit a cell.
module _ (old new : Tallies) (k : ℕ) (times : Times) (sum : IsSum (times_at old k) times (times_at new k)) (apart : (c : ℕ) → c ≢ k → times_at new c ≡ times_at old c) (kept : KeepsCells old new)
    (spared : (c : ℕ) → c < length old.cells.items → FitsCell (times_at new c) → other_at old.others c ≡ no_times → other_at new.others c ≡ no_times) where
  at-one : (part : Times → ℕ) (x : ℕ) → part (times_at new k) ≡ part (times_at old k) + x → (c : ℕ) → part (times_at new c) ≡ part (times_at old c) + x * is_between k (k + 1) c
  at-one part x here c = elim (cases_eq c k) [
    | inl is ↦
        let one : is_between k (k + 1) c ≡ 1 = grind arith in
        let at : part (times_at new c) ≡ part (times_at new k) = ap (λ i. part (times_at new i)) is in
        let was : part (times_at old c) ≡ part (times_at old k) = ap (λ i. part (times_at old i)) is in
        rw one (omega arith)
    | inr ne ↦
        let none : is_between k (k + 1) c ≡ 0 = grind arith in
        let same : part (times_at new c) ≡ part (times_at old c) = ap part (apart c ne) in
        rw none (omega arith)
  ]

  pub adds-one : AddsClusters old new k (k + 1) times
  adds-one = record {
    structure = at-one structure_part times.structure sum.structure;
    mapped = at-one mapped_part times.mapped sum.mapped;
    copied = at-one copied_part times.copied sum.copied;
    cells = kept;
    spares = λ before c lt fits. let has : c < length old.cells.items = omega (arith, lt, kept) in spared c has fits (before c has (less c fits));
  }
    where
      less : (c : ℕ) → FitsCell (times_at new c) → FitsCell (times_at old c)
      less c fits = (omega (arith, fits.0, at-one structure_part times.structure sum.structure c), omega (arith, fits.1, at-one mapped_part times.mapped sum.mapped c), omega (arith, fits.2, at-one copied_part times.copied sum.copied c))

-- The references are added to the cell.
pub adds-in-cell : (old new : Tallies) (k : ℕ) (times : Times) (cell sum : FewTimes) → k < length old.cells.items → cell ≡ slice_index_or old.cells.items k cell → IsFewSum cell times sum → new.cells.items ≡ slice_set old.cells.items k sum → new.others ≡ old.others
    → AddsClusters old new k (k + 1) times
unfolding times_at cell_at
adds-in-cell old new k times cell sum lt is room cells others =
    adds-one old new k times
    (record {
      structure = step _ _ _ _ _ _ _ (ap (λ (n : FewTimes). n.structure) here) (ap (λ (n : FewTimes). n.structure) was) (ap (λ (n : Times). n.structure) same) room.structure;
      mapped = step _ _ _ _ _ _ _ (ap (λ (n : FewTimes). n.mapped) here) (ap (λ (n : FewTimes). n.mapped) was) (ap (λ (n : Times). n.mapped) same) room.mapped;
      copied = step _ _ _ _ _ _ _ (ap (λ (n : FewTimes). n.copied) here) (ap (λ (n : FewTimes). n.copied) was) (ap (λ (n : Times). n.copied) same) room.copied;
    })
    (λ c ne.
    ap (λ x. together x (other_at new.others c)) (ap (λ l. cell_at l c) cells ∙ get_or-set_other old.cells.items k c sum no_few_times ne)
    ∙ ap (λ o. together (cell_at old.cells.items c) (other_at o c)) others)
    (ap (λ (l : List FewTimes). length l) cells ∙ length-set old.cells.items k sum)
    (λ c lt fits none. ap (λ o. other_at o c) others ∙ none)
  where
    here : cell_at new.cells.items k ≡ sum
    here = ap (λ l. slice_index_or l k no_few_times) cells ∙ get_or-set_same old.cells.items k sum no_few_times lt

    was : cell_at old.cells.items k ≡ cell
    was = sym (is ∙ get_or_default old.cells.items k cell no_few_times lt)

    same : other_at new.others k ≡ other_at old.others k
    same = ap (λ o. other_at o k) others

    step : (a b d e s r x : ℕ) → a ≡ s → b ≡ r → d ≡ e → s ≡ r + x → a + d ≡ b + e + x
    step a b d e s r x p q u t = omega (arith, p, q, u, t)

-- The references are added to the lists, as the cluster has no cell or the cell can't hold them.
pub adds-in-entry : (old new : Tallies) (k : ℕ) (times : Times) → (HasRoomAt old k times → ⊥) → AddsEntry old.others new.others k times → new.cells.items ≡ old.cells.items → AddsClusters old new k (k + 1) times
unfolding times_at
adds-in-entry old new k times full adds cells =
    adds-one old new k times
    (record {
      structure = step _ _ _ _ _ (ap (λ (n : FewTimes). n.structure) same) adds.here.structure;
      mapped = step _ _ _ _ _ (ap (λ (n : FewTimes). n.mapped) same) adds.here.mapped;
      copied = step _ _ _ _ _ (ap (λ (n : FewTimes). n.copied) same) adds.here.copied;
    })
    (λ c ne. ap (λ x. together x (other_at new.others c)) (ap (λ l. cell_at l c) cells) ∙ ap (together (cell_at old.cells.items c)) (adds.others c ne))
    (ap (λ (l : List FewTimes). length l) cells)
    (λ c lt fits none. elim (cases_eq c k) [
      | inl is ↦ absurd (full (omega (arith, lt, is), roomy (subst (λ i. FitsCell (times_at new i)) is fits)))
      | inr ne ↦ adds.others c ne ∙ none
    ])
  where
    same : cell_at new.cells.items k ≡ cell_at old.cells.items k
    same = ap (λ l. cell_at l k) cells

    step : (a b d e x : ℕ) → a ≡ b → d ≡ e + x → a + d ≡ b + e + x
    step a b d e x p q = omega (arith, p, q)

    less : (a b d e x n : ℕ) → a ≡ b → d ≡ e + x → a + d < n → b + x < n
    less a b d e x n p q lt = omega (arith, p, q, lt)

    -- If the sum fits a cell, the cell could have held it.
    roomy : FitsCell (times_at new k) → HasRoom (cell_at old.cells.items k) times
    roomy fits = (
      less _ _ _ _ _ _ (ap (λ (n : FewTimes). n.structure) same) adds.here.structure fits.0,
      less _ _ _ _ _ _ (ap (λ (n : FewTimes). n.mapped) same) adds.here.mapped fits.1,
      less _ _ _ _ _ _ (ap (λ (n : FewTimes). n.copied) same) adds.here.copied fits.2,
    )

pub adds-entry : (old new : Others) (k : ℕ) (times : Times) → AddsWeight old.structure.items new.structure.items k times.structure → AddsWeight old.mapped.items new.mapped.items k times.mapped → AddsWeight old.copied.items new.copied.items k times.copied → AddsEntry old new k times
unfolding other_at
adds-entry old new k times structure mapped copied = record {
  here = record { structure = structure.here; mapped = mapped.here; copied = copied.here };
  others = λ d ne. as-times (structure.others d ne) (mapped.others d ne) (copied.others d ne);
}

pub no-others : (others : Others) (c : ℕ) → others.structure.items ≡ [] → others.mapped.items ≡ [] → others.copied.items ≡ [] → other_at others c ≡ no_times
unfolding other_at
no-others others c structure mapped copied = as-times (ap (sum_by (weight_in c)) structure) (ap (sum_by (weight_in c)) mapped) (ap (sum_by (weight_in c)) copied)

-- New tallies with `n` cells have no references.
pub no-names : (names : Tallies) (n : ℕ) → names.cells.items ≡ replicate n no_few_times → names.others.structure.items ≡ [] → names.others.mapped.items ≡ [] → names.others.copied.items ≡ [] → TellsNothing names
unfolding times_at cell_at
no-names names n cells structure mapped copied c =
    ap (λ x. together x (other_at names.others c)) (ap (λ l. slice_index_or l c no_few_times) cells ∙ blank)
    ∙ ap (together no_few_times) (no-others names.others c structure mapped copied)
  where
    blank : slice_index_or (replicate n no_few_times) c no_few_times ≡ no_few_times
    blank = elim (cases_lt c n) [
      | inl lt ↦ get_or-replicate n c no_few_times no_few_times lt
      | inr ge ↦ get_or_past (replicate n no_few_times) c no_few_times (omega (arith, length-replicate n no_few_times))
    ]

-- The lists are sorted.
module _ (old new : Tallies) (cells : new.cells.items ≡ old.cells.items) (structure : IsPermutation old.others.structure.items new.others.structure.items) (mapped : IsPermutation old.others.mapped.items new.others.mapped.items) (copied : IsPermutation old.others.copied.items new.others.copied.items) where
  sorted-others : (c : ℕ) → other_at new.others c ≡ other_at old.others c
  unfolding other_at
  sorted-others c = as-times (sum_by-IsPermutation (weight_in c) _ _ structure) (sum_by-IsPermutation (weight_in c) _ _ mapped) (sum_by-IsPermutation (weight_in c) _ _ copied)

  pub sorted-same : (c : ℕ) → times_at new c ≡ times_at old c
  unfolding times_at
  sorted-same c = ap (λ l. together (cell_at l c) (other_at new.others c)) cells ∙ ap (together (cell_at old.cells.items c)) (sorted-others c)

  pub sorted-spares : ListsOnlyOverflow old → ListsOnlyOverflow new
  sorted-spares spared c lt fits =
      let has : c < length old.cells.items = omega (arith, lt, ap (λ (l : List FewTimes). length l) cells) in
      sorted-others c ∙ spared c has (subst FitsCell (sorted-same c) fits)

pub adds-since : (h : Fields) (old now new : Tallies) (s m p : Total) → ((c : ℕ) → times_at new c ≡ times_at now c) → KeepsCells now new → (ListsOnlyOverflow now → ListsOnlyOverflow new) → Adds h old now s m p → Adds h old new s m p
adds-since h old now new s m p same kept spares adds = record { structure = λ c. ap structure_part (same c) ∙ adds.structure c; mapped = λ c. ap mapped_part (same c) ∙ adds.mapped c; copied = λ c. ap copied_part (same c) ∙ adds.copied c; cells = kept ∙ adds.cells; spares = λ spared. spares (adds.spares spared) }

pub sorted-rising : (list : List ℕ) → IsSorted nat_cmp list → IsRising list
sorted-rising list sorted i j d le lt = let up = IsNonDecreasingBy-from_sort (λ n. n) list sorted i j d le lt in omega (arith, up)

pub together-is : (names : Tallies) (c : ℕ) (cell : FewTimes) (s m p : ℕ) → cell ≡ cell_at names.cells.items c → s ≡ weight_of names.others.structure.items c → m ≡ weight_of names.others.mapped.items c → p ≡ weight_of names.others.copied.items c
    → times-of (cell.structure + s) (cell.mapped + m) (cell.copied + p) ≡ times_at names c
unfolding times_at other_at
together-is names c cell s m p is structure mapped copied = ap (λ x. together x (times-of s m p)) is ∙ ap (together (cell_at names.cells.items c)) (as-times structure mapped copied)

pub cell-alone : (names : Tallies) (c : ℕ) (cell : FewTimes) → cell ≡ cell_at names.cells.items c → other_at names.others c ≡ no_times → times-of cell.structure cell.mapped cell.copied ≡ times_at names c
unfolding times_at
cell-alone names c cell is none = as-times (omega arith) (omega arith) (omega arith) ∙ (ap (λ x. together x no_times) is ∙ ap (together (cell_at names.cells.items c)) (sym none))
