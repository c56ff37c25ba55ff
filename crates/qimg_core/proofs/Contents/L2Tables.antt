-- The references of a sorted list of L2 tables. Equal offsets that follow each other are added in one step.
use Rattle.std.proofs.Common.{◌≡◌, ℕ, ◌+◌, ◌*◌, ◌<◌, ◌≤◌, refl, arith, ap, sym, subst, ◌∙◌, List, length, take, inl, inr, ◌⊎◌}
use Rattle.std.specs.Prelude.{slice_index, IsTrue, IsFalse, All, Any}
use Rattle.std.specs.List.{sum_by, Contains}
use Rattle.std.specs.List.Sorted.{IsPermutation}
use Rattle.std.proofs.lemmas.Bool.{cases_lt}
use Rattle.std.proofs.lemmas.Grind.{get_or_default_zero}
use Rattle.std.proofs.lemmas.List.{take_all}
use Rattle.std.proofs.lemmas.List.Elements.{All-get_or, All-from_get_or}
use Rattle.std.proofs.lemmas.List.Sorted.{IsPermutation-sym, All-permutation, Contains-permutation, sum_by-IsPermutation}
use Rattle.imago_storage.specs.State.{StorageState, HasRisen}
use Rattle.imago_storage.specs.Calls.{UnchangedButFaults}
use Rattle.qcow2_types.specs.Bytes.{Bytes, bytes_of}
use Rattle.qcow2_types.specs.Words.{is_cluster_offset}
use Rattle.qcow2_types.specs.Header.{Fields}
use Rattle.qcow2_types.specs.Entries.{l2_table_sound}
use Rattle.qcow2_types.specs.References.{meets, of_mapping, of_copied, of_table}
use Rattle.qimg_core.specs.declared.check.CheckFault.{CheckFault}
use Rattle.qimg_core.specs.declared.check.CheckFault.TheVariants.{Table, Memory, Storage}
use Rattle.qimg_core.specs.declared.check.names.Tallies.{Tallies}
use Rattle.qcow2_metadata.specs.Loading.{file}
use Rattle.qimg_core.specs.Names.{KeepsCells, ListsOnlyOverflow, referenced_by, structure_part, mapped_part, copied_part}
use Rattle.qimg_core.specs.Check.{IsDamagedTable, IsOneDamaged, Found}
use Rattle.qimg_core.specs.CheckParts.{AreTables, sum_over}
use Rattle.qimg_core.proofs.Contents.Places.{places-step}
use Rattle.qimg_core.specs.Entering.{AddsTable, AddsTables}

-- The references of the first `i` tables are added, except for the last `times` of them. Those are all at the same offset as the table that
-- follows.
pub record NamedTo (old now : StorageState) (h : Fields) (before names : Tallies) (places : List ℕ) (times i : ℕ) : Type 0 where
  pub kept : UnchangedButFaults old now
  pub faults : now.faults ≡ old.faults
  pub few : times ≤ i
  pub last : i ≡ length places → times ≡ 0
  pub cells : KeepsCells before names
  pub spares : ListsOnlyOverflow before → ListsOnlyOverflow names
  pub structure : (c : ℕ) → referenced_by structure_part c names ≡ referenced_by structure_part c before
  pub mapped : (c : ℕ) → referenced_by mapped_part c names + times * of_table (file old) h (of_mapping h (meets h c)) (slice_index places i) ≡ referenced_by mapped_part c before + sum_over (of_table (file old) h (of_mapping h (meets h c))) (take i places)
  pub copied : (c : ℕ) → referenced_by copied_part c names + times * of_table (file old) h (of_copied h (meets h c)) (slice_index places i) ≡ referenced_by copied_part c before + sum_over (of_table (file old) h (of_copied h (meets h c))) (take i places)
  pub sound : (k : ℕ) → k < i → IsTrue (l2_table_sound (file old) h (slice_index places k)) ⊎ ((0 < times) × (slice_index places k ≡ slice_index places i))

module _ (old now : StorageState) (h : Fields) (before names : Tallies) (places : List ℕ) (times i : ℕ) (so_far : NamedTo old now h before names places times i) where
  pub same-file : file now ≡ file old
  same-file = ap bytes_of so_far.kept.bytes

  -- The next offset is the same, so this table is added later.
  pub named-later : i + 1 < length places → slice_index places (i + 1) ≡ slice_index places i → NamedTo old now h before names places (times + 1) (i + 1)
  named-later inside same = record {
    kept = so_far.kept;
    faults = so_far.faults;
    few = omega (arith, so_far.few);
    last = λ all. absurd (omega arith);
    cells = so_far.cells;
    spares = so_far.spares;
    structure = so_far.structure;
    mapped = λ c. one-more (of_table (file old) h (of_mapping h (meets h c))) _ _ (so_far.mapped c);
    copied = λ c. one-more (of_table (file old) h (of_copied h (meets h c))) _ _ (so_far.copied c);
    sound = λ k lt. elim (cases_lt k i) [
      | inl less ↦ elim (so_far.sound k less) [
        | inl is ↦ inl is
        | inr waits ↦ inr (omega arith, waits.1 ∙ sym same)
      ]
      | inr le ↦ let here : k ≡ i = omega arith in inr (omega arith, ap (slice_index places) here ∙ sym same)
    ];
  }
    where
      step : (a b s s' x times' : ℕ) → s' ≡ s + x → a + times' * x ≡ b + s → a + (times' + 1) * x ≡ b + s'
      step a b s s' x times' p q = omega (arith, p, q)

      one-more : (of : ℕ → ℕ) (a b : ℕ) → a + times * of (slice_index places i) ≡ b + sum_over of (take i places) → a + (times + 1) * of (slice_index places (i + 1)) ≡ b + sum_over of (take (i + 1) places)
      one-more of a b sum = ap (λ p. a + (times + 1) * of p) same ∙ step a b _ _ (of (slice_index places i)) times (places-step of places i (omega arith)) sum

  -- The next offset is another one, so the pending tables are added with this one.
  pub named-now : (new : StorageState) (names' : Tallies) → i < length places → UnchangedButFaults now new → new.faults ≡ now.faults → AddsTable (file now) h (times + 1) names names' (slice_index places i) → IsTrue (l2_table_sound (file now) h (slice_index places i))
      → NamedTo old new h before names' places 0 (i + 1)
  named-now new names' inside kept faults adds sound = record {
    kept = record {
      shape = kept.shape ∙ so_far.kept.shape;
      bytes = kept.bytes ∙ so_far.kept.bytes;
      refusals = kept.refusals ∙ so_far.kept.refusals;
      crash_image = kept.crash_image ∙ so_far.kept.crash_image;
      past_crash_images = kept.past_crash_images ∙ so_far.kept.past_crash_images;
    };
    faults = faults ∙ so_far.faults;
    few = omega arith;
    last = λ all. refl;
    cells = own.cells ∙ so_far.cells;
    spares = λ spared. own.spares (so_far.spares spared);
    structure = λ c. own.structure c ∙ (no-more (referenced_by structure_part c names) ∙ so_far.structure c);
    mapped = λ c. all-now (of_table (file old) h (of_mapping h (meets h c))) _ _ _ (own.mapped c) (so_far.mapped c);
    copied = λ c. all-now (of_table (file old) h (of_copied h (meets h c))) _ _ _ (own.copied c) (so_far.copied c);
    sound = λ k lt. elim (cases_lt k i) [
      | inl less ↦ elim (so_far.sound k less) [
        | inl is ↦ inl is
        | inr waits ↦ inl (ap (l2_table_sound (file old) h) waits.1 ∙ own-sound)
      ]
      | inr le ↦ let here : k ≡ i = omega arith in inl (ap (λ j. l2_table_sound (file old) h (slice_index places j)) here ∙ own-sound)
    ];
  }
    where
      own : AddsTable (file old) h (times + 1) names names' (slice_index places i)
      own = subst (λ (f : Bytes). AddsTable f h (times + 1) names names' (slice_index places i)) same-file adds

      own-sound : IsTrue (l2_table_sound (file old) h (slice_index places i))
      own-sound = subst (λ (f : Bytes). IsTrue (l2_table_sound f h (slice_index places i))) same-file sound

      no-more : (n : ℕ) → n + 0 ≡ n
      no-more n = omega arith

      step : (a b d s s' x y times' : ℕ) → s' ≡ s + x → d ≡ a + (times' + 1) * x → a + times' * x ≡ b + s → d + 0 * y ≡ b + s'
      step a b d s s' x y times' p q r = omega (arith, p, q, r)

      all-now : (of : ℕ → ℕ) (a b d : ℕ) → d ≡ a + (times + 1) * of (slice_index places i) → a + times * of (slice_index places i) ≡ b + sum_over of (take i places) → d + 0 * of (slice_index places (i + 1)) ≡ b + sum_over of (take (i + 1) places)
      all-now of a b d p q = step a b d _ _ (of (slice_index places i)) (of (slice_index places (i + 1))) times (places-step of places i inside) p q

  -- At the end all tables are added, in any order of the list.
  module _ (all : i ≡ length places) (given : List ℕ) (permuted : IsPermutation given places) where
    pub named-all : AddsTables (file old) h before names given
    named-all = record {
      structure = λ c. so_far.structure c ∙ omega arith;
      mapped = λ c. whole (of_table (file old) h (of_mapping h (meets h c))) _ _ (so_far.mapped c);
      copied = λ c. whole (of_table (file old) h (of_copied h (meets h c))) _ _ (so_far.copied c);
      cells = so_far.cells;
      spares = so_far.spares;
    }
      where
        step : (a b s s' x times' : ℕ) → times' ≡ 0 → s ≡ s' → a + times' * x ≡ b + s → a ≡ b + s'
        step a b s s' x times' e p q = let gone : times' * x ≡ 0 = rw e (omega arith) in omega (arith, gone, p, q)

        whole : (of : ℕ → ℕ) (a b : ℕ) → a + times * of (slice_index places i) ≡ b + sum_over of (take i places) → a ≡ b + sum_over of given
        whole of a b sum = step a b _ _ (of (slice_index places i)) times (so_far.last all) (ap (sum_by of) (take_all i places (omega arith)) ∙ sum_by-IsPermutation of given places permuted) sum

    pub all-sound : All (λ place. IsTrue (l2_table_sound (file old) h place)) given
    all-sound = All-permutation (λ place. IsTrue (l2_table_sound (file old) h place)) places given (IsPermutation-sym given places permuted) (All-from_get_or (λ place. IsTrue (l2_table_sound (file old) h place)) places 0 (λ k lt.
        elim (so_far.sound k (omega arith)) [
          | inl is ↦ is
          | inr waits ↦ absurd (omega (arith, waits.0, so_far.last all))
        ]))

  -- If a table isn't added because it is damaged, one of the list is damaged.
  pub one-damaged : (new : StorageState) (given : List ℕ) → IsPermutation given places → i < length places → (fault : CheckFault) → Found now new (IsDamagedTable (file now) h (slice_index places i)) fault → Found old new (IsOneDamaged (file old) h given) fault
  one-damaged new given permuted inside Table found = (damaged, found.1 ∙ so_far.faults)
    where
      there : Contains given (slice_index places i)
      there = Contains-permutation places given (slice_index places i) (IsPermutation-sym given places permuted) (i, inside, get_or_default_zero places i (slice_index places i) inside)

      damaged : Any (λ place. IsFalse (l2_table_sound (file old) h place)) given
      damaged = (there.0, slice_index places i, there.1, there.2, sym (ap (λ (f : Bytes). l2_table_sound f h (slice_index places i)) same-file) ∙ found.0)
  one-damaged new given permuted inside Memory found = found ∙ so_far.faults
  one-damaged new given permuted inside Storage found = rose
    where
      rose : HasRisen old.faults new.faults
      rose = record { not_fallen = omega (arith, found.not_fallen, so_far.faults); rose = λ few. let more = found.rose few in omega (arith, more, so_far.faults) }
  one-damaged new given permuted inside fault found = absurd found.0

pub placed-at : (bits : ℕ) (given places : List ℕ) (i : ℕ) → IsPermutation given places → i < length places → AreTables bits given → IsTrue (is_cluster_offset bits (slice_index places i))
placed-at bits given places i permuted inside are = All-get_or (λ place. IsTrue (is_cluster_offset bits place)) places i 0 inside (All-permutation (λ place. IsTrue (is_cluster_offset bits place)) given places permuted are)
