-- The references of a whole image, as the checker sums them.
use Rattle.std.proofs.Common.{◌≡◌, ℕ, ◌+◌, refl, arith, ap, sym, ◌∙◌, List}
use Rattle.std.specs.Prelude.{if◌then◌else◌, slice_index}
use Rattle.std.specs.List.{sum_by}
use Rattle.qcow2_types.specs.Bytes.{Bytes, sum_below}
use Rattle.qcow2_types.specs.Words.{Mapping}
use Rattle.qcow2_types.specs.Header.{Header, refcount_table_entries}
use Rattle.qcow2_types.specs.Entries.{l2_table}
use Rattle.qcow2_types.specs.Counts.{block_at}
use Rattle.qcow2_types.specs.References.{Weight, meets, of_cluster, of_mapping, of_copied, of_table, of_table_or_none, structure, contents}
use Rattle.qcow2_types.proofs.Numbers.Sums.{sum-same}
use Rattle.qimg_core.specs.declared.check.names.Tallies.{Tallies}
use Rattle.qimg_core.specs.Names.{TellsNothing, referenced_by, structure_part, mapped_part, copied_part}
use Rattle.qimg_core.specs.CheckParts.{Tells, HoldsPlaces, tables_of, sum_over, structure_over}
use Rattle.qimg_core.specs.Entering.{AddsStructure, AddsTables}
use Rattle.qimg_core.proofs.Tables.Tests.{not-same}
use Rattle.qimg_core.proofs.Contents.TableList.{sum-tables, sum-list}

module _ (f : Bytes) (H : Header) (tables blocks : List ℕ) (holds : HoldsPlaces f H.fields tables blocks) where
  -- The sum over the list of L2 tables is the sum over all L2 tables.
  contents-listed : (of : Mapping → ℕ) → sum_over (of_table f H.fields of) tables ≡ contents f H.fields of
  unfolding contents tables_of
  contents-listed of = ap (sum_by (of_table f H.fields of)) holds.in_order ∙ sum-tables f H.fields (of_table f H.fields of) (of_table_or_none f H.fields of) refl (λ t there. ap (λ b. if b then 0 else of_table f H.fields of t) (not-same t 0 there)) H.fields.l1_entries

  -- The sum over the clusters of the listed L2 tables is the sum over the L1 entries.
  tables-listed : (w : Weight) → sum_over (of_cluster H.fields w) tables ≡ sum_below H.fields.l1_entries (λ i. of_cluster H.fields w (l2_table f H.fields i))
  unfolding tables_of
  tables-listed w = ap (sum_by (of_cluster H.fields w)) holds.in_order ∙ sum-tables f H.fields (of_cluster H.fields w) (of_cluster H.fields w) refl (λ t there. refl) H.fields.l1_entries

  -- The sum over the listed refcount blocks is the sum over the refcount table entries.
  blocks-listed : (w : Weight) → sum_over (of_cluster H.fields w) blocks ≡ sum_below (refcount_table_entries H.fields) (λ i. of_cluster H.fields w (block_at f H.fields i))
  blocks-listed w =
      sym (sum-list (of_cluster H.fields w) refl blocks (refcount_table_entries H.fields) holds.are_blocks.count_bounded)
      ∙ sum-same (refcount_table_entries H.fields) (λ i. of_cluster H.fields w (slice_index blocks i)) (λ i. of_cluster H.fields w (block_at f H.fields i)) (λ i lt. ap (of_cluster H.fields w) (holds.are_blocks.each i))

  structure-listed : (w : Weight) → structure_over H.fields tables blocks w ≡ structure f H.fields w
  unfolding structure structure_over
  structure-listed w =
      let a : sum_over (of_cluster H.fields w) blocks ≡ sum_below (refcount_table_entries H.fields) (λ i. of_cluster H.fields w (block_at f H.fields i)) = blocks-listed w in
      let b : sum_over (of_cluster H.fields w) tables ≡ sum_below H.fields.l1_entries (λ i. of_cluster H.fields w (l2_table f H.fields i)) = tables-listed w in
      omega arith

  module _ (start between given : Tallies) (none : TellsNothing start) (adds-structure : AddsStructure H.fields start between tables blocks) (adds-contents : AddsTables f H.fields between given tables) where
    -- The references added to the tallies are those of the image.
    told-structure : (c : ℕ) → referenced_by structure_part c given ≡ structure f H.fields (meets H.fields c)
    told-structure c =
        let a : referenced_by structure_part c start ≡ 0 = ap structure_part (none c) in
        let b : referenced_by structure_part c between ≡ referenced_by structure_part c start + structure_over H.fields tables blocks (meets H.fields c) = adds-structure.structure c in
        let d : referenced_by structure_part c given ≡ referenced_by structure_part c between + 0 = adds-contents.structure c in
        let e : structure_over H.fields tables blocks (meets H.fields c) ≡ structure f H.fields (meets H.fields c) = structure-listed (meets H.fields c) in
        omega arith

    told-mapped : (c : ℕ) → referenced_by mapped_part c given ≡ contents f H.fields (of_mapping H.fields (meets H.fields c))
    told-mapped c =
        let a : referenced_by mapped_part c start ≡ 0 = ap mapped_part (none c) in
        let b : referenced_by mapped_part c between ≡ referenced_by mapped_part c start + 0 = adds-structure.mapped c in
        let d : referenced_by mapped_part c given ≡ referenced_by mapped_part c between + sum_over (of_table f H.fields (of_mapping H.fields (meets H.fields c))) tables = adds-contents.mapped c in
        let e : sum_over (of_table f H.fields (of_mapping H.fields (meets H.fields c))) tables ≡ contents f H.fields (of_mapping H.fields (meets H.fields c)) = contents-listed (of_mapping H.fields (meets H.fields c)) in
        omega arith

    told-copied : (c : ℕ) → referenced_by copied_part c given ≡ contents f H.fields (of_copied H.fields (meets H.fields c))
    told-copied c =
        let a : referenced_by copied_part c start ≡ 0 = ap copied_part (none c) in
        let b : referenced_by copied_part c between ≡ referenced_by copied_part c start + 0 = adds-structure.copied c in
        let d : referenced_by copied_part c given ≡ referenced_by copied_part c between + sum_over (of_table f H.fields (of_copied H.fields (meets H.fields c))) tables = adds-contents.copied c in
        let e : sum_over (of_table f H.fields (of_copied H.fields (meets H.fields c))) tables ≡ contents f H.fields (of_copied H.fields (meets H.fields c)) = contents-listed (of_copied H.fields (meets H.fields c)) in
        omega arith

    pub given-tells : Tells f H.fields given
    given-tells = record { structure = told-structure; mapped = told-mapped; copied = told-copied }
