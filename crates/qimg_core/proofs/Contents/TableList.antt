-- The list of the L2 tables, and sums over it.
use Rattle.std.proofs.Common.{◌≡◌, ◌≢◌, ℕ, zero, suc, ◌+◌, ◌*◌, ◌^◌, ◌<◌, ◌≤◌, refl, arith, ap, sym, subst, ◌∙◌, List, [], ◌∷◌, length, take, inl, inr}
use Rattle.std.specs.Prelude.{Bool, true, false, ◌&&◌, ◌||◌, ◌==◌, nat_lt, slice_index, IsTrue, IsFalse, All, Any}
use Rattle.std.specs.List.{sum_by, Contains}
use Rattle.std.proofs.lemmas.Bool.{cases_eq, cases_lt}
use Rattle.std.proofs.lemmas.Bool.Decides.{nat_tests}
use Rattle.std.proofs.lemmas.List.Elements.{All-weaker, All-contains, All-contains_itself, Contains-append_left, Contains-push, Contains-push_cases}
use Rattle.std.proofs.lemmas.List.Sums.{sum_by_push, sum_by_more}
use Rattle.std.proofs.lemmas.List.{take_all}
use Rattle.qcow2_types.specs.Bytes.{Bytes, raw_entry, sum_below, all_below}
use Rattle.qcow2_types.specs.Words.{l1_entry_valid, is_cluster_offset, max_offset}
use Rattle.std.proofs.Math.Nat.{pow-le-pow_right}
use Rattle.qcow2_types.specs.Header.{Fields, Shaped, cluster_size, entries_of_cluster, refcount_table_entries}
use Rattle.qcow2_types.specs.Entries.{l2_table, l1_table_sound, l2_table_sound}
use Rattle.qcow2_types.specs.Counts.{refcount_table_sound}
use Rattle.qcow2_types.specs.Consistency.{tables_sound}
use Rattle.qcow2_types.proofs.Counting.Bounded.{all-below}
use Rattle.qcow2_types.proofs.Counting.Sound.{all-below-holds}
use Rattle.qcow2_types.proofs.Counting.Counters.{whole}
use Rattle.qcow2_types.proofs.Numbers.Sums.{sum-none, sum-more}
use Rattle.qcow2_metadata.proofs.TableSteps.{past_end}
use Rattle.imago_storage.specs.State.{StorageState}
use Rattle.qimg_core.specs.declared.check.CheckFault.{CheckFault}
use Rattle.qimg_core.specs.declared.check.CheckFault.TheVariants.{Table, Memory, Storage}
use Rattle.qcow2_metadata.specs.Loading.{file}
use Rattle.qimg_core.specs.CheckParts.{tables_of, sum_over, AreTables}
use Rattle.qimg_core.specs.Check.{IsUnsound, IsOneDamaged, Found}
use Rattle.qcow2_types.proofs.Changes.WriteBack.{place-near}
use Rattle.qimg_core.proofs.Tables.TablePlaces.{tables_to, tables-more, tables-skip}
use Rattle.qimg_core.proofs.Tables.Tests.{tests-miss, not-same}

module _ (f : Bytes) (h : Fields) where
  pub tables-none : tables_to f h 0 ≡ []
  tables-none = refl

  -- Each table that an L1 entry references is in the list.
  pub table-listed : (n i : ℕ) → i < n → l2_table f h i ≢ 0 → Contains (tables_to f h n) (l2_table f h i)
  table-listed zero i lt there = absurd (omega arith)
  table-listed (suc n) i lt there = subst (λ m. Contains (tables_to f h m) (l2_table f h i)) (let next : n + 1 ≡ suc n = omega arith in next) (elim (cases_lt i n) [
    | inl less ↦ elim (cases_eq (l2_table f h n) 0) [
      | inl none ↦ subst (λ l. Contains l (l2_table f h i)) (sym (tables-skip f h n none)) (table-listed n i less there)
      | inr here ↦ subst (λ l. Contains l (l2_table f h i)) (sym (tables-more f h n (l2_table f h n) refl here)) (Contains-append_left (tables_to f h n) (l2_table f h n ∷ []) (l2_table f h i) (table-listed n i less there))
    ]
    | inr ge ↦
        let last : i ≡ n = omega arith in
        subst (λ k. Contains (tables_to f h (n + 1)) (l2_table f h k)) (sym last) (subst (λ l. Contains l (l2_table f h n)) (sym (tables-more f h n (l2_table f h n) refl (λ none. there (ap (l2_table f h) last ∙ none)))) (Contains-push (tables_to f h n) (l2_table f h n)))
  ])

  -- Each table in the list is referenced by an L1 entry.
  abbrev NamedBelow : ℕ → ℕ → Type 0
  NamedBelow n t = (i : ℕ) × (i < n) × (l2_table f h i ≡ t) × (t ≢ 0)

  listed-step : (n t : ℕ) → (Contains (tables_to f h n) t → NamedBelow n t) → Contains (tables_to f h (n + 1)) t → NamedBelow (n + 1) t
  listed-step n t before found = elim (cases_eq (l2_table f h n) 0) [
    | inl none ↦ earlier (before (subst (λ l. Contains l t) (tables-skip f h n none) found))
    | inr here ↦ elim (Contains-push_cases (tables_to f h n) (l2_table f h n) t (subst (λ l. Contains l t) (tables-more f h n (l2_table f h n) refl here) found)) [
      | inl at ↦ earlier (before at)
      | inr is ↦ (n, omega arith, is, λ none. here (is ∙ none))
    ]
  ]
    where
      earlier : NamedBelow n t → NamedBelow (n + 1) t
      earlier at = (at.0, let lt : at.0 < n = at.1 in omega arith, at.2, at.3)

  pub listed-named : (n t : ℕ) → Contains (tables_to f h n) t → NamedBelow n t
  listed-named zero t found =
      let inside : found.0 < length (tables_to f h 0) = found.1 in
      let long : length (tables_to f h 0) ≡ 0 = ap (λ (l : List ℕ). length l) tables-none in
      absurd (omega arith)
  listed-named (suc n) t found =
      let next : suc n ≡ n + 1 = omega arith in
      subst (λ m. NamedBelow m t) (sym next) (listed-step n t (listed-named n t) (subst (λ m. Contains (tables_to f h m) t) next found))

  -- If a property holds for each table that an L1 entry references, it holds for the whole list.
  pub all-listed : (P : ℕ → Type 0) → ((i : ℕ) → i < h.l1_entries → l2_table f h i ≢ 0 → P (l2_table f h i)) → All P (tables_of f h)
  unfolding tables_of
  all-listed P holds = All-weaker (Contains (tables_of f h)) P (λ t found.
      let at = listed-named h.l1_entries t found in
      subst P at.2 (holds at.0 at.1 (λ none. at.3 (sym at.2 ∙ none)))) (tables_of f h) (All-contains_itself (tables_of f h))

  -- The sum over the list is the sum over the L1 entries, as empty entries add 0.
  pub sum-tables : (of each : ℕ → ℕ) → each 0 ≡ 0 → ((t : ℕ) → t ≢ 0 → each t ≡ of t) → (n : ℕ) → sum_over of (tables_to f h n) ≡ sum_below n (λ i. each (l2_table f h i))
  sum-tables of each none there zero = ap (sum_by of) tables-none ∙ sym (sum-none (λ i. each (l2_table f h i)))
  sum-tables of each none there (suc n) = subst (λ m. sum_over of (tables_to f h m) ≡ sum_below m (λ i. each (l2_table f h i))) (let next : n + 1 ≡ suc n = omega arith in next) (elim (cases_eq (l2_table f h n) 0) [
    | inl e ↦
        let before : sum_over of (tables_to f h n) ≡ sum_below n (λ i. each (l2_table f h i)) = sum-tables of each none there n in
        let more : sum_below (n + 1) (λ i. each (l2_table f h i)) ≡ each (l2_table f h n) + sum_below n (λ i. each (l2_table f h i)) = sum-more n (λ i. each (l2_table f h i)) in
        let zeroth : each (l2_table f h n) ≡ 0 = ap each e ∙ none in
        let same : sum_over of (tables_to f h (n + 1)) ≡ sum_over of (tables_to f h n) = ap (sum_by of) (tables-skip f h n e) in
        omega arith
    | inr here ↦
        let before : sum_over of (tables_to f h n) ≡ sum_below n (λ i. each (l2_table f h i)) = sum-tables of each none there n in
        let more : sum_below (n + 1) (λ i. each (l2_table f h i)) ≡ each (l2_table f h n) + sum_below n (λ i. each (l2_table f h i)) = sum-more n (λ i. each (l2_table f h i)) in
        let is : each (l2_table f h n) ≡ of (l2_table f h n) = there (l2_table f h n) here in
        let one : sum_over of (tables_to f h (n + 1)) ≡ sum_over of (tables_to f h n) + of (l2_table f h n) = ap (sum_by of) (tables-more f h n (l2_table f h n) refl here) ∙ sum_by_push of (tables_to f h n) (l2_table f h n) in
        omega arith
  ])

  -- If the L1 table is valid, each L2 table is at the offset of a cluster.
  pub table-placed : IsTrue (l1_table_sound f h) → (i : ℕ) → i < h.l1_entries → IsTrue (is_cluster_offset h.cluster_bits (l2_table f h i))
  unfolding l1_table_sound
  table-placed sound i lt =
      let within : nat_lt i h.l1_entries ≡ true = grind (arith, nat_tests) in
      let here : l1_entry_valid h.cluster_bits (raw_entry f h.l1_offset i) ≡ true = all-below h.l1_entries (λ i. l1_entry_valid h.cluster_bits (raw_entry f h.l1_offset i)) sound i lt in
      rw within (grind (arith, nat_tests))

  pub tables-placed : IsTrue (l1_table_sound f h) → AreTables h.cluster_bits (tables_of f h)
  tables-placed sound = all-listed (λ place. IsTrue (is_cluster_offset h.cluster_bits place)) (λ i lt there. table-placed sound i lt)

  -- If the listed tables are valid, all tables of the image are.
  pub sound-by-list : IsTrue (l1_table_sound f h) → IsTrue (refcount_table_sound f h) → All (λ place. IsTrue (l2_table_sound f h place)) (tables_of f h) → IsTrue (tables_sound f h)
  unfolding tables_sound tables_of
  sound-by-list l1 blocks tables = all-three (all-below-holds h.l1_entries (λ i. (l2_table f h i == 0) || l2_table_sound f h (l2_table f h i)) (λ i lt. elim (cases_eq (l2_table f h i) 0) [
    | inl none ↦ let test : (l2_table f h i == 0) ≡ true = grind (arith, nat_tests) in rw test refl
    | inr there ↦ let sound : l2_table_sound f h (l2_table f h i) ≡ true = All-contains (λ place. IsTrue (l2_table_sound f h place)) (tables_of f h) (l2_table f h i) tables (table-listed h.l1_entries i lt there) in
        let test : (l2_table f h i == 0) ≡ false = not-same (l2_table f h i) 0 there in
        rw (test, sound) refl
  ]))
    where
      all-three : {last : Bool} → last ≡ true → (l1_table_sound f h && refcount_table_sound f h && last) ≡ true
      all-three {last} e = rw (l1, blocks, e) refl

  -- If a listed table is damaged, the image has a damaged table.
  pub damaged-by-list : Any (λ place. IsFalse (l2_table_sound f h place)) (tables_of f h) → IsFalse (tables_sound f h)
  unfolding tables_sound tables_of
  damaged-by-list found =
      let at = listed-named h.l1_entries found.1 (found.0, found.2, found.3) in
      let here : l2_table_sound f h (l2_table f h at.0) ≡ false = ap (l2_table_sound f h) at.2 ∙ found.4 in
      let there : (l2_table f h at.0 == 0) ≡ false = not-same (l2_table f h at.0) 0 (λ none. at.3 (sym at.2 ∙ none)) in
      let all : all_below h.l1_entries (λ i. (l2_table f h i == 0) || l2_table_sound f h (l2_table f h i)) ≡ false = tests-miss h.l1_entries at.0 (λ i. (l2_table f h i == 0) || l2_table_sound f h (l2_table f h i)) at.1 (rw (there, here) refl) in
      last-false (l1_table_sound f h) (refcount_table_sound f h) all
    where
      last-false : (a b : Bool) {c : Bool} → c ≡ false → (a && b && c) ≡ false
      last-false true true e = e
      last-false true false e = refl
      last-false false b e = refl

-- A sum over indices is a sum over the list, as indices past its end add 0.
sum-first : (each : ℕ → ℕ) → each 0 ≡ 0 → (xs : List ℕ) (n : ℕ) → sum_below n (λ i. each (slice_index xs i)) ≡ sum_by each (take n xs)
sum-first each none xs zero = sum-none (λ i. each (slice_index xs i))
sum-first each none xs (suc n) = subst (λ m. sum_below m (λ i. each (slice_index xs i)) ≡ sum_by each (take m xs)) (let next : n + 1 ≡ suc n = omega arith in next) (
    let before : sum_below n (λ i. each (slice_index xs i)) ≡ sum_by each (take n xs) = sum-first each none xs n in
    let more : sum_below (n + 1) (λ i. each (slice_index xs i)) ≡ each (slice_index xs n) + sum_below n (λ i. each (slice_index xs i)) = sum-more n (λ i. each (slice_index xs i)) in
    elim (cases_lt n (length xs)) [
      | inl lt ↦
          let one : sum_by each (take (n + 1) xs) ≡ sum_by each (take n xs) + each (slice_index xs n) = sum_by_more each xs n 0 lt in
          omega arith
      | inr ge ↦
          let past : each (slice_index xs n) ≡ 0 = ap each (past_end xs n ge) ∙ none in
          let same : sum_by each (take (n + 1) xs) ≡ sum_by each (take n xs) = ap (sum_by each) (take_all (n + 1) xs (omega arith) ∙ sym (take_all n xs ge)) in
          omega arith
    ])

pub sum-list : (each : ℕ → ℕ) → each 0 ≡ 0 → (xs : List ℕ) (n : ℕ) → length xs ≤ n → sum_below n (λ i. each (slice_index xs i)) ≡ sum_by each xs
sum-list each none xs n all = sum-first each none xs n ∙ ap (sum_by each) (take_all n xs all)

pub places-bounded : (xs ys : List ℕ) (bits : ℕ) → xs ≡ ys → AreTables bits ys → (i : ℕ) → slice_index xs i ≤ max_offset
places-bounded xs ys bits same placed i = elim (cases_lt i (length xs)) [
  | inl lt ↦ place-near bits (slice_index xs i) (subst (AreTables bits) (sym same) placed i 0 lt)
  | inr ge ↦ let past : slice_index xs i ≡ 0 = past_end xs i ge in omega arith
]

-- The length of the refcount table in bytes.
pub table-bytes : (h : Fields) → Shaped h → h.refcount_table_clusters * cluster_size h ≡ refcount_table_entries h * 8
table-bytes h shaped =
    let size : 2 ^ 9 ≤ 2 ^ h.cluster_bits = pow-le-pow_right (omega arith) shaped.low in
    let raw_entries : entries_of_cluster h * 8 ≡ cluster_size h = whole h.cluster_bits (omega arith) in
    let a : h.refcount_table_clusters * (entries_of_cluster h * 8) ≡ h.refcount_table_clusters * cluster_size h = ap (λ x. h.refcount_table_clusters * x) raw_entries in
    omega arith

-- If a listed table is damaged, that is the finding.
pub damaged-finding : (old new : StorageState) (h : Fields) (tables : List ℕ) → tables ≡ tables_of (file old) h → (fault : CheckFault) → Found old new (IsOneDamaged (file old) h tables) fault → Found old new (IsUnsound (file old) h) fault
damaged-finding old new h tables is Table found = (damaged-by-list (file old) h (subst (Any (λ place. IsFalse (l2_table_sound (file old) h place))) is found.0), found.1)
damaged-finding old new h tables is Memory found = found
damaged-finding old new h tables is Storage found = found
damaged-finding old new h tables is fault found = absurd found.0
