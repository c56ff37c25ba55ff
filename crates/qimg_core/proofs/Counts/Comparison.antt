-- Refcounts compared with the references, cluster by cluster.
use Rattle.std.proofs.Common.{◌≡◌, ℕ, suc, ◌+◌, ◌-◌, ◌*◌, ◌/◌, ◌<◌, ◌≤◌, refl, true, false, arith, ap, sym, subst, ◌∙◌, List, [], ◌∷◌, ◌++◌, length, inl, inr}
use Rattle.std.specs.Prelude.{nat_lt, if◌then◌else◌, slice_index, IsFalse, Option, Some, None}
use Rattle.std.proofs.lemmas.Bool.{cases_lt, lt-ltb, le-ltb, ltb-true, ltb-false}
use Rattle.std.proofs.lemmas.List.{append-nil}
use Rattle.std.proofs.lemmas.Nat.{le-div}
use Rattle.imago_storage.specs.State.{StorageState, HasRisen}
use Rattle.imago_storage.specs.Calls.{UnchangedButFaults}
use Rattle.qcow2_types.specs.Bytes.{Bytes}
use Rattle.qcow2_types.specs.Header.{Fields, refcount_table_entries}
use Rattle.qcow2_types.specs.Counts.{count, counters_of_block}
use Rattle.qcow2_types.specs.References.{refs}
use Rattle.qcow2_types.specs.Consistency.{leaks_below, leak_at, leaks, is_under_counted, Nowhere, IsLeast}
use Rattle.qcow2_types.proofs.Counting.Leaks.{leaks-skip, count-no-block}
use Rattle.qcow2_metadata.proofs.TableSteps.{past_end}
use Rattle.qcow2_metadata.specs.Blocks.{Block}
use Rattle.qimg_core.specs.declared.check.names.Times.{Times}
use Rattle.qimg_core.specs.declared.check.names.Tallies.{Tallies}
use Rattle.qimg_core.specs.declared.check.search.Question.TheVariants.{AtAll}
use Rattle.qimg_core.specs.Names.{times_at}
use Rattle.qimg_core.specs.Searches.{is_such, NoneWithin, IsFirstWithin}
use Rattle.qimg_core.specs.declared.check.CheckFault.{CheckFault}
use Rattle.qimg_core.specs.declared.check.CheckFault.TheVariants as fault
use Rattle.qcow2_metadata.specs.Loading.{file}
use Rattle.qimg_core.specs.CheckParts.{Tells, IsBlocks, HoldsCounters, AreCompared}
use Rattle.qimg_core.specs.Check.{IsUnder, NamesFirst, Found}
use Rattle.qimg_core.proofs.Calls.{kept-file}
use Rattle.qimg_core.proofs.Counts.Verdicts.{named-refs, named-same}

module _ (f : Bytes) (h : Fields) where
  compared-none : AreCompared f h [] 0
  unfolding leaks_below
  compared-none = record { enough = λ d lt. absurd (omega arith); are_leaks = refl }

  pub compared-start : (found : List (ℕ × ℕ)) → found ≡ [] → AreCompared f h found (0 * counters_of_block h)
  compared-start found is = subst (λ l. AreCompared f h l (0 * counters_of_block h)) (sym is) (subst (AreCompared f h []) (let none : 0 ≡ 0 * counters_of_block h = omega arith in none) compared-none)

  is-under : (c : ℕ) → count f h c < refs f h c → is_under_counted f h c ≡ true
  unfolding is_under_counted
  is-under c lt = lt-ltb _ _ lt

  not-under : (c : ℕ) → refs f h c ≤ count f h c → is_under_counted f h c ≡ false
  unfolding is_under_counted
  not-under c le = le-ltb _ _ le

  -- The first cluster whose refcount is too low is the lowest such cluster.
  pub first-under : (found : List (ℕ × ℕ)) (c : ℕ) → AreCompared f h found c → count f h c < refs f h c → IsLeast (is_under_counted f h) c
  first-under found c so_far lt = (is-under c lt, so_far.enough)

  enough-next : (c : ℕ) → ((d : ℕ) → d < c → IsFalse (is_under_counted f h d)) → refs f h c ≤ count f h c → (d : ℕ) → d < c + 1 → IsFalse (is_under_counted f h d)
  enough-next c before le d lt = elim (cases_lt d c) [
    | inl less ↦ before d less
    | inr ge ↦ let is : d ≡ c = omega arith in ap (is_under_counted f h) is ∙ not-under c le
  ]

  leaks-more : (c : ℕ) → leaks_below f h (c + 1) ≡ leaks_below f h c ++ leak_at f h c
  unfolding leaks_below
  leaks-more c = let next : c + 1 ≡ suc c = omega arith in ap (leaks_below f h) next

  module _ (found : List (ℕ × ℕ)) (c value references : ℕ) (so_far : AreCompared f h found c) (counted : count f h c ≡ value) (named : references ≡ refs f h c) where
    -- The next cluster is leaked.
    pub compared-leak : (new : List (ℕ × ℕ)) → references < value → new ≡ found ++ (c, value - references) ∷ [] → AreCompared f h new (c + 1)
    compared-leak new less pushed = record {
      enough = enough-next c so_far.enough (omega arith);
      are_leaks = pushed ∙ (ap (λ l. l ++ (c, value - references) ∷ []) so_far.are_leaks ∙ (ap (λ l. leaks_below f h c ++ l) (sym here) ∙ sym (leaks-more c)));
    }
      where
        here : leak_at f h c ≡ (c, value - references) ∷ []
        here =
            let test : nat_lt references value ≡ true = lt-ltb references value less in
            ap (λ r. if nat_lt r (count f h c) then (c, count f h c - r) ∷ [] else []) (sym named)
            ∙ (ap (λ n. if nat_lt references n then (c, n - references) ∷ [] else []) counted ∙ ap (λ b. if b then (c, value - references) ∷ [] else []) test)

    -- The next cluster isn't leaked.
    pub compared-equal : references ≡ value → AreCompared f h found (c + 1)
    compared-equal same = record {
      enough = enough-next c so_far.enough (omega arith);
      are_leaks = so_far.are_leaks ∙ (sym (append-nil (leaks_below f h c)) ∙ (ap (λ l. leaks_below f h c ++ l) (sym here) ∙ sym (leaks-more c)));
    }
      where
        here : leak_at f h c ≡ []
        here =
            let test : nat_lt (refs f h c) (count f h c) ≡ false = le-ltb (refs f h c) (count f h c) (omega arith) in
            ap (λ b. if b then (c, count f h c - refs f h c) ∷ [] else []) test

  -- The clusters from `low` on, up to a bound, have no refcounts.
  module _ (names : Tallies) (told : Tells f h names) (found : List (ℕ × ℕ)) (low : ℕ) (high : Option ℕ) (so_far : AreCompared f h found low) where
    -- A cluster without references has a refcount that is high enough.
    not_referenced : (d : ℕ) → (low ≤ d → is_such AtAll names d ≡ false) → IsFalse (is_under_counted f h d)
    not_referenced d test = elim (cases_lt d low) [
      | inl less ↦ so_far.enough d less
      | inr ge ↦ let zero : refs f h d ≤ 0 = ltb-false 0 (refs f h d) (sym (named-same f h names told d) ∙ test ge) in not-under d (omega arith)
    ]

    -- One of the clusters is referenced, so its refcount is too low.
    pub first-uncounted : (c : ℕ) → count f h c ≡ 0 → IsFirstWithin (is_such AtAll names) low high c → IsLeast (is_under_counted f h) c
    first-uncounted c none first = (
      is-under c (let some : 0 < refs f h c = ltb-true 0 (refs f h c) (sym (named-same f h names told c) ∙ first.is) in omega arith),
      λ d lt. not_referenced d (λ ge. first.before d ge lt),
    )

  module _ (names : Tallies) (told : Tells f h names) (found : List (ℕ × ℕ)) where
    -- The clusters of a missing block.
    module _ (index low high : ℕ) (low-is : low ≡ index * counters_of_block h) (high-is : high ≡ (index + 1) * counters_of_block h) (holds : HoldsCounters f h index None) (before : AreCompared f h found (index * counters_of_block h)) where
      so_far : AreCompared f h found low
      so_far = subst (AreCompared f h found) (sym low-is) before

      uncounted : (c : ℕ) → low ≤ c → c < high → count f h c ≡ 0
      uncounted c le lt =
          let place : c ≡ index * counters_of_block h + (c - low) = omega arith in
          ap (count f h) place ∙ sym (holds.counts (c - low) (omega arith))

      pub gap-under : (c : ℕ) → IsFirstWithin (is_such AtAll names) low (Some high) c → IsLeast (is_under_counted f h) c
      gap-under c first = first-uncounted names told found low (Some high) so_far c (uncounted c first.from first.below) first

      pub gap-compared : NoneWithin (is_such AtAll names) low (Some high) → AreCompared f h found ((index + 1) * counters_of_block h)
      gap-compared none = subst (AreCompared f h found) high-is (record {
        enough = λ d lt. not_referenced names told found low (Some high) so_far d (λ ge. none.none d ge lt);
        are_leaks =
            let next : low + counters_of_block h ≡ high = omega arith in
            so_far.are_leaks ∙ (sym (leaks-skip f h low (counters_of_block h) (λ c ge lt. uncounted c ge (omega arith))) ∙ ap (leaks_below f h) next);
      })

    -- The clusters past the last block.
    module _ (blocks : List ℕ) (i low : ℕ) (are : IsBlocks f h blocks) (some : 0 < counters_of_block h) (all : i ≡ length blocks) (low-is : low ≡ i * counters_of_block h) (before : AreCompared f h found (i * counters_of_block h)) where
      rest-so_far : AreCompared f h found low
      rest-so_far = subst (AreCompared f h found) (sym low-is) before

      past-blocks : (c : ℕ) → low ≤ c → count f h c ≡ 0
      past-blocks c le =
          let past : i ≤ c / counters_of_block h = le-div i c (counters_of_block h) some (omega arith) in
          count-no-block f h c (sym (are.each (c / counters_of_block h)) ∙ past_end blocks (c / counters_of_block h) (omega arith))

      pub rest-under : (c : ℕ) → IsFirstWithin (is_such AtAll names) low None c → IsLeast (is_under_counted f h) c
      rest-under c first = first-uncounted names told found low None rest-so_far c (past-blocks c first.from) first

      pub rest-counted : NoneWithin (is_such AtAll names) low None → Nowhere (is_under_counted f h)
      rest-counted none d = not_referenced names told found low None rest-so_far d (λ ge. none.none d ge tt)

      pub rest-leaks : found ≡ leaks f h
      rest-leaks =
          let entries : i + (refcount_table_entries h - i) ≡ refcount_table_entries h = omega (arith, are.count_bounded) in
          let end = to-end (refcount_table_entries h - i) entries in
          rest-so_far.are_leaks ∙ (sym (leaks-skip f h low ((refcount_table_entries h - i) * counters_of_block h) (λ c ge lt. past-blocks c ge)) ∙ ap (leaks_below f h) end)
        where
          to-end : (m : ℕ) → i + m ≡ refcount_table_entries h → low + m * counters_of_block h ≡ refcount_table_entries h * counters_of_block h
          to-end m is = omega (arith, low-is, ap (λ n. n * counters_of_block h) is)

-- One refcount of a block.
module _ (f : Bytes) (h : Fields) (names : Tallies) (told : Tells f h names) (found : List (ℕ × ℕ)) (index place cluster value : ℕ) (n : Times) (block : Block) (is : cluster ≡ index * counters_of_block h + place) (holds : HoldsCounters f h index (Some block))
    (inside : place < counters_of_block h) (got : value ≡ slice_index block.counters place) (at : n ≡ times_at names cluster) (so_far : AreCompared f h found (index * counters_of_block h + place)) where
  counter-is : count f h (index * counters_of_block h + place) ≡ value
  counter-is = sym (holds.counts place inside) ∙ sym got

  refs-are : n.structure + n.mapped ≡ refs f h (index * counters_of_block h + place)
  refs-are = ap (λ (m : Times). m.structure + m.mapped) at ∙ (named-refs f h names told cluster ∙ ap (refs f h) is)

  next : index * counters_of_block h + place + 1 ≡ index * counters_of_block h + (place + 1)
  next = omega arith

  pub counter-under : value < n.structure + n.mapped → IsLeast (is_under_counted f h) cluster
  counter-under less = subst (IsLeast (is_under_counted f h)) (sym is) (first-under f h found (index * counters_of_block h + place) so_far (omega (arith, counter-is, refs-are, less)))

  pub counter-leak : (new : List (ℕ × ℕ)) → n.structure + n.mapped < value → new ≡ found ++ (cluster, value - (n.structure + n.mapped)) ∷ [] → AreCompared f h new (index * counters_of_block h + (place + 1))
  counter-leak new less pushed = subst (AreCompared f h new) next (compared-leak f h found (index * counters_of_block h + place) value (n.structure + n.mapped) so_far counter-is refs-are new less (pushed ∙ ap (λ c. found ++ (c, value - (n.structure + n.mapped)) ∷ []) is))

  pub counter-equal : n.structure + n.mapped ≤ value → value ≤ n.structure + n.mapped → AreCompared f h found (index * counters_of_block h + (place + 1))
  counter-equal le ge = subst (AreCompared f h found) next (compared-equal f h found (index * counters_of_block h + place) value (n.structure + n.mapped) so_far counter-is refs-are (omega arith))

-- A finding also holds for an earlier state with the same bytes.
pub under-since : (old now new : StorageState) (h : Fields) → UnchangedButFaults old now → now.faults ≡ old.faults → (fault : CheckFault) → Found now new (IsUnder (file now) h) fault → Found old new (IsUnder (file old) h) fault
under-since old now new h kept same (fault.UnderCounted c) found = (subst (λ f. IsLeast (is_under_counted f h) c) (kept-file old now kept) found.0, found.1 ∙ same)
under-since old now new h kept same fault.Memory found = found ∙ same
under-since old now new h kept same fault.Storage found = subst (λ n. HasRisen n new.faults) same found
under-since old now new h kept same fault found = absurd found.0

-- A referenced cluster without a refcount is the finding.
pub uncounted-finding : (old new : StorageState) (h : Fields) (names : Tallies) (low : ℕ) (high : Option ℕ) → new.faults ≡ old.faults → ((c : ℕ) → IsFirstWithin (is_such AtAll names) low high c → IsLeast (is_under_counted (file old) h) c)
    → (fault : CheckFault) → NamesFirst names low high fault → Found old new (IsUnder (file old) h) fault
uncounted-finding old new h names low high same least (fault.UnderCounted c) first = (least c first, same)
uncounted-finding old new h names low high same least fault first = absurd first
