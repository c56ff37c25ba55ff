-- Entries of the refcount table, with and without a block.
use Rattle.std.proofs.Common.{◌≡◌, ◌≢◌, ℕ, refl, sym, ◌∙◌, true, false, inl, inr}
use Rattle.std.specs.Prelude.{slice_index}
use Rattle.std.specs.Option.{is_some}
use Rattle.std.proofs.lemmas.Bool.{cases_eq, ne_eqb}
use Rattle.qcow2_types.specs.Words.{block_offset}
use Rattle.qcow2_metadata.specs.Tables.{TableValue}
use Rattle.qcow2_alloc.specs.Allocators.{referenced_block}

pub named-some : (table : TableValue) (i : ℕ) → is_some (referenced_block table i) ≡ true → block_offset (slice_index table.raw_entries i) ≢ 0
named-some table i some none = let no : is_some (referenced_block table i) ≡ false = rw none refl in let e : false ≡ true = sym no ∙ some in cc

pub named-none : (table : TableValue) (i : ℕ) → is_some (referenced_block table i) ≡ false → block_offset (slice_index table.raw_entries i) ≡ 0
named-none table i none = elim (cases_eq (block_offset (slice_index table.raw_entries i)) 0) [
  | inl is ↦ is
  | inr some ↦ let here : is_some (referenced_block table i) ≡ true = rw (ne_eqb (block_offset (slice_index table.raw_entries i)) 0 some) refl in let e : true ≡ false = sym here ∙ none in absurd (cc)
]
