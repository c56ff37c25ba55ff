-- Empty caches are well-formed over every consistent image.
use Rattle.std.proofs.Common.{◌≡◌, ◌≢◌, ℕ, ◌≤◌, refl, arith, sym, ◌∙◌, [], inl, inr}
use Rattle.std.proofs.lemmas.Bool.{cases_eq}
use Rattle.std.proofs.lemmas.Bool.Decides.{nat_tests}
use Rattle.qcow2_types.specs.Bytes.{Bytes, over}
use Rattle.qcow2_types.specs.Header.{Header}
use Rattle.qcow2_types.specs.Entries.{l2_table}
use Rattle.qcow2_types.specs.Counts.{count}
use Rattle.qcow2_types.specs.References.{structure, contents, of_copied, meets, refs}
use Rattle.qcow2_types.specs.Consistency.{IsConsistent, shares_structure, is_false_copied, is_under_counted}
use Rattle.qcow2_types.specs.Versions.{references_in_either, copied, ReferencedOnce}
use Rattle.qcow2_types.proofs.Counting.Either.{named-clean}
use Rattle.qcow2_types.proofs.Counting.Slots.{contents-slots, slots-same}
use Rattle.qcow2_alloc.specs.declared.cache.CacheDependency.TheVariants.{Unset}
use Rattle.std.specs.List.{IsDistinct}
use Rattle.qcow2_alloc.specs.WellFormedness.{WellFormed}

-- Facts that follow from the consistency of the file.
module _ (f : Bytes) (H : Header) (was : IsConsistent f H) where
  named-once : (c : ℕ) → references_in_either f f H.fields c ≡ refs f H.fields c
  named-once c = named-clean f f H.fields c (λ i j live. refl)

  copied-once : (c : ℕ) → copied f f H.fields c ≡ contents f H.fields (of_copied H.fields (meets H.fields c))
  unfolding copied
  copied-once c =
      slots-same (l2_table f H.fields) H.fields _ _ (λ i j live. omega arith) ∙ sym (contents-slots f H.fields (of_copied H.fields (meets H.fields c)))

  by-structure : (c : ℕ) → structure f H.fields (meets H.fields c) ≢ 0 → refs f H.fields c ≡ 1
  unfolding shares_structure
  by-structure c some = let apart = was.structure_apart c in grind (arith, nat_tests)

  by-copied : (c : ℕ) → contents f H.fields (of_copied H.fields (meets H.fields c)) ≢ 0 → refs f H.fields c ≡ 1
  unfolding is_false_copied
  by-copied c some = let apart = was.copied_apart c in grind (arith, nat_tests)

  covered : (c : ℕ) → refs f H.fields c ≤ count f H.fields c
  unfolding is_under_counted
  covered c = let counted = was.counted c in grind (arith, nat_tests)

  apart : ReferencedOnce f f H.fields
  apart c some = elim (cases_eq (structure f H.fields (meets H.fields c)) 0) [
    | inl none ↦
        let one : refs f H.fields c ≡ 1 = by-copied c (λ e. omega (arith, some, none, e, copied-once c)) in
        omega (arith, one, named-once c)
    | inr there ↦ let one : refs f H.fields c ≡ 1 = by-structure c there in omega (arith, one, named-once c)
  ]

  pub empty-safe : WellFormed f H (record { tables = []; blocks = [] }) Unset
  unfolding over IsDistinct
  empty-safe = record {
    consistent = was;
    tables_apart = tt;
    blocks_apart = tt;
    tables = tt;
    blocks = tt;
    apart = apart;
    ordered = (record { cached = λ c. omega (arith, named-once c, covered c); file = covered }, record { file = λ c. omega (arith, named-once c, covered c); lowered = λ c. omega arith });
    covered = covered;
  }
