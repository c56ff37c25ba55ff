-- Dirty tables and blocks that will be written over a consistent image.
use Rattle.std.proofs.Common.{◌≡◌, ◌≢◌, ℕ, ◌+◌, ◌*◌, ◌/◌, ◌<◌, ◌≤◌, refl, arith, ap, sym, subst, ◌∙◌, List, [], ◌∷◌, length, inl, inr, replicate}
use Rattle.std.specs.Prelude.{◌⊎◌, IsTrue}
use Rattle.std.specs.List.{AllByRecursion}
use Rattle.std.proofs.lemmas.Nat.{pow_pos}
use Rattle.std.proofs.lemmas.List.{length-replicate}
use Rattle.std.proofs.lemmas.Bool.{cases_lt}
use Rattle.std.proofs.lemmas.Bool.Decides.{nat_tests}
use Rattle.qcow2_types.specs.Bytes.{Bytes, Patch, over}
use Rattle.qcow2_types.specs.Words.{is_cluster_offset}
use Rattle.qcow2_types.specs.Header.{Fields, Header, cluster_size}
use Rattle.qcow2_types.specs.Entries.{l2_table}
use Rattle.qcow2_types.specs.Counts.{block_at}
use Rattle.qcow2_types.specs.References.{structure}
use Rattle.qcow2_types.specs.Consistency.{IsConsistent}
use Rattle.qcow2_types.specs.Frames.{touches, Same}
use Rattle.qcow2_types.specs.Versions.{SamePlaces}
use Rattle.qcow2_types.proofs.Changes.Over.{IsClear, over-clear}
use Rattle.qcow2_types.proofs.Counting.Parts.{Part, header, l1_table, refcount_table, block_of, table_of, IsPart, part_weight, other-part, touches-once, touches-inside}
use Rattle.qcow2_types.proofs.Changes.Frames.{l2_table-same, block_at-same}
use Rattle.qcow2_types.proofs.Counting.Sound.{sound-words}
use Rattle.qcow2_types.proofs.Changes.WriteBack.{place-whole, table-place}
use Rattle.qcow2_types.proofs.Changes.BlockSteps.{block-place}

-- the offset of a table or a block; 0 for other parts
abbrev pub part_place : Bytes → Fields → Part → ℕ
part_place f h (block_of i) = block_at f h i
part_place f h (table_of i) = l2_table f h i
part_place f h part = 0

-- the patch replaces a whole table or block
pub record IsPatch (f : Bytes) (h : Fields) (e : Patch) : Type 0 where
  pub part : Part
  pub inside : IsPart h part
  pub place : part_place f h part ≡ e.0
  pub there : e.0 ≢ 0
  pub long : length e.1 ≡ cluster_size h

module _ (f : Bytes) (H : Header) (was : IsConsistent f H) where
  place-of-part : (part : Part) → IsPart H.fields part → part_place f H.fields part ≢ 0 → IsTrue (is_cluster_offset H.fields.cluster_bits (part_place f H.fields part))
  place-of-part header inside there = absurd (there refl)
  place-of-part l1_table inside there = absurd (there refl)
  place-of-part refcount_table inside there = absurd (there refl)
  place-of-part (block_of i) inside there = block-place f H.fields i (sound-words f H.fields was.readable.tables) inside
  place-of-part (table_of i) inside there = table-place f H.fields i (sound-words f H.fields was.readable.tables) inside

  -- it touches one part of the structure: its own
  pub part-once : (part : Part) → IsPart H.fields part → part_place f H.fields part ≢ 0 → structure f H.fields (touches (part_place f H.fields part) (cluster_size H.fields)) ≤ 1
  part-once part inside there =
      let at : ℕ = part_place f H.fields part in
      let c : ℕ = at / cluster_size H.fields in
      let place : at / cluster_size H.fields * cluster_size H.fields ≡ at = place-whole H.fields.cluster_bits at (place-of-part part inside there) in
      touches-once f H.fields (at / cluster_size H.fields) at (cluster_size H.fields) (was.structure_apart _) (omega arith) (omega arith)

  weighs-one : (part : Part) → part_place f H.fields part ≢ 0 → 1 ≤ part_weight f H.fields (touches (part_place f H.fields part) (cluster_size H.fields)) part
  weighs-one header there = absurd (there refl)
  weighs-one l1_table there = absurd (there refl)
  weighs-one refcount_table there = absurd (there refl)
  weighs-one (block_of i) there =
      let some : 0 < cluster_size H.fields = pow_pos H.fields.cluster_bits in
      let one : touches (block_at f H.fields i) (cluster_size H.fields) (block_at f H.fields i) (cluster_size H.fields) ≡ 1 = touches-inside _ _ _ _ some (omega arith) (omega arith) in
      grind (arith, nat_tests)
  weighs-one (table_of i) there =
      let some : 0 < cluster_size H.fields = pow_pos H.fields.cluster_bits in
      let one : touches (l2_table f H.fields i) (cluster_size H.fields) (l2_table f H.fields i) (cluster_size H.fields) ≡ 1 = touches-inside _ _ _ _ some (omega arith) (omega arith) in
      grind (arith, nat_tests)

  weighs-none : (w : ℕ → ℕ → ℕ) (part : Part) → part_place f H.fields part ≢ 0 → part_weight f H.fields w part ≡ 0 → w (part_place f H.fields part) (cluster_size H.fields) ≡ 0
  weighs-none w header there none = absurd (there refl)
  weighs-none w l1_table there none = absurd (there refl)
  weighs-none w refcount_table there none = absurd (there refl)
  weighs-none w (block_of i) there none = grind (arith, nat_tests)
  weighs-none w (table_of i) there none = grind (arith, nat_tests)

  -- a range touched by one part is touched by no other part
  touches-none-of : (p q : Part) → IsPart H.fields p → IsPart H.fields q → part_place f H.fields p ≢ 0 → p ≢ q → part_weight f H.fields (touches (part_place f H.fields p) (cluster_size H.fields)) q ≡ 0
  touches-none-of p q inside inside' there apart = other-part f H.fields (touches (part_place f H.fields p) (cluster_size H.fields)) p q inside inside' apart (part-once p inside there) (weighs-one p there)

  clear-from : (at n first length : ℕ) → 0 < n → 0 < length → touches at n first length ≡ 0 → (at + n ≤ first) ⊎ (first + length ≤ at)
  unfolding touches
  clear-from at n first length some some' none = elim (cases_lt first (at + n)) [
    | inl before ↦ elim (cases_lt at (first + length)) [
      | inl after ↦ absurd (grind (arith, nat_tests))
      | inr le ↦ inr le
    ]
    | inr le ↦ inl le
  ]

  -- Patches for different parts don't overlap.
  pub clear-of-other : (a b : Patch) (x : IsPatch f H.fields a) (y : IsPatch f H.fields b) → x.part ≢ y.part → IsClear a.0 (length a.1) b
  clear-of-other a b x y apart =
      let some : 0 < cluster_size H.fields = pow_pos H.fields.cluster_bits in
      let there : part_place f H.fields x.part ≢ 0 = λ e. x.there (sym x.place ∙ e) in
      let there' : part_place f H.fields y.part ≢ 0 = λ e. y.there (sym y.place ∙ e) in
      let none : touches (part_place f H.fields x.part) (cluster_size H.fields) (part_place f H.fields y.part) (cluster_size H.fields) ≡ 0 =
      weighs-none (touches (part_place f H.fields x.part) (cluster_size H.fields)) y.part there' (touches-none-of x.part y.part x.inside y.inside there apart) in
      both-ways (clear-from (part_place f H.fields x.part) (cluster_size H.fields) (part_place f H.fields y.part) (cluster_size H.fields) some some none)
    where
      both-ways : (part_place f H.fields x.part + cluster_size H.fields ≤ part_place f H.fields y.part) ⊎ (part_place f H.fields y.part + cluster_size H.fields ≤ part_place f H.fields x.part) → IsClear a.0 (length a.1) b
      both-ways (inl after) = inr (omega (arith, after, x.place, y.place, x.long))
      both-ways (inr before) = inl (omega (arith, before, x.place, y.place, y.long))

  -- neither do patches at different offsets
  pub clear-apart : (a b : Patch) → IsPatch f H.fields a → IsPatch f H.fields b → a.0 ≢ b.0 → IsClear a.0 (length a.1) b
  clear-apart a b x y apart = clear-of-other a b x y (λ e. apart (sym x.place ∙ ap (part_place f H.fields) e ∙ y.place))

  -- Two parts never have the same offset.
  pub parts-differ : (p q : Part) → IsPart H.fields p → IsPart H.fields q → part_place f H.fields p ≢ 0 → p ≢ q → part_place f H.fields p ≢ part_place f H.fields q
  parts-differ p q inside inside' there apart same =
      let some : 0 < cluster_size H.fields = pow_pos H.fields.cluster_bits in
      let there' : part_place f H.fields q ≢ 0 = λ z. there (same ∙ z) in
      let none : touches (part_place f H.fields p) (cluster_size H.fields) (part_place f H.fields q) (cluster_size H.fields) ≡ 0 =
      weighs-none (touches (part_place f H.fields p) (cluster_size H.fields)) q there' (touches-none-of p q inside inside' there apart) in
      elim (clear-from (part_place f H.fields p) (cluster_size H.fields) (part_place f H.fields q) (cluster_size H.fields) some some none) [
        | inl after ↦ omega (arith, after, same, some)
        | inr before ↦ omega (arith, before, same, some)
      ]

  -- A table or a block without a patch is the same.
  pub part-same : (part : Part) → IsPart H.fields part → part_place f H.fields part ≢ 0 → (es : List Patch) → AllByRecursion (IsPatch f H.fields) es → AllByRecursion (λ e. e.0 ≢ part_place f H.fields part) es
      → Same f (over f es) (part_place f H.fields part) (cluster_size H.fields)
  part-same part inside there es all others k lt = over-clear f (part_place f H.fields part) (cluster_size H.fields) es (clear-of-each es all others) k lt
    where
      whole : Patch
      whole = (part_place f H.fields part, replicate (cluster_size H.fields) 0)

      long : length {A = ℕ} (replicate (cluster_size H.fields) 0) ≡ cluster_size H.fields
      long = length-replicate (cluster_size H.fields) 0

      clear-of-each : (es : List Patch) → AllByRecursion (IsPatch f H.fields) es → AllByRecursion (λ e. e.0 ≢ part_place f H.fields part) es → AllByRecursion (IsClear (part_place f H.fields part) (cluster_size H.fields)) es
      clear-of-each [] all others = tt
      clear-of-each (e ∷ es) all others = (
        subst (λ (n : ℕ). IsClear (part_place f H.fields part) n e) long (clear-apart (part_place f H.fields part, replicate (cluster_size H.fields) 0) e
            (record { part = part; inside = inside; place = refl; there = there; long = long }) all.0 (λ z. others.0 (sym z))),
        clear-of-each es all.1 others.1,
      )

  -- a range of the header, the L1 table or the refcount table is the same
  module _ (q : Part) (inside : IsPart H.fields q) (nowhere : part_place f H.fields q ≡ 0) (at n : ℕ) (weight : (w : ℕ → ℕ → ℕ) → part_weight f H.fields w q ≡ w at n) where
    clear-of-range : (e : Patch) → IsPatch f H.fields e → 0 < n → IsClear at n e
    clear-of-range e x some =
        let there : part_place f H.fields x.part ≢ 0 = λ z. x.there (sym x.place ∙ z) in
        let none : touches (part_place f H.fields x.part) (cluster_size H.fields) at n ≡ 0 =
        sym (weight (touches (part_place f H.fields x.part) (cluster_size H.fields))) ∙ touches-none-of x.part q x.inside inside there (λ z. there (ap (part_place f H.fields) z ∙ nowhere)) in
        turned (clear-from (part_place f H.fields x.part) (cluster_size H.fields) at n (pow_pos H.fields.cluster_bits) some none)
      where
        turned : (part_place f H.fields x.part + cluster_size H.fields ≤ at) ⊎ (at + n ≤ part_place f H.fields x.part) → IsClear at n e
        turned (inl before) = inl (omega (arith, before, x.place, x.long))
        turned (inr after) = inr (omega (arith, after, x.place))

    clear-of-all : (es : List Patch) → AllByRecursion (IsPatch f H.fields) es → 0 < n → AllByRecursion (IsClear at n) es
    clear-of-all [] all some = tt
    clear-of-all (e ∷ es) all some = (clear-of-range e all.0 some, clear-of-all es all.1 some)

    range-same : (es : List Patch) → AllByRecursion (IsPatch f H.fields) es → Same f (over f es) at n
    range-same es all k lt = over-clear f at n es (clear-of-all es all (omega (arith, lt))) k lt

  -- Tables and blocks keep their offsets.
  pub places-over : (es : List Patch) → AllByRecursion (IsPatch f H.fields) es → SamePlaces f (over f es) H.fields
  places-over es all = record {
    l1 = l2_table-same f (over f es) H.fields (range-same l1_table tt refl H.fields.l1_offset (H.fields.l1_entries * 8) (λ w. refl) es all);
    blocks = block_at-same f (over f es) H.fields (range-same refcount_table tt refl H.fields.refcount_table_offset (H.fields.refcount_table_clusters * cluster_size H.fields) (λ w. refl) es all);
  }
