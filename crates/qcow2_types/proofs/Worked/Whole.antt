-- Images that have the header of the worked image and one refcount block, and reference no cluster after 6. Their first clusters decide
-- what is true of all clusters.
use Rattle.std.proofs.Common.{◌≡◌, ℕ, ◌+◌, ◌*◌, ◌/◌, ◌<◌, refl, arith, ap, ◌∙◌, List}
use Rattle.std.specs.Prelude.{true, ◌==◌, ◌||◌, not}
use Rattle.std.proofs.lemmas.Bool.Decides.{nat_tests}
use Rattle.qcow2_types.specs.Bytes.{Bytes, all_below}
use Rattle.qcow2_types.specs.WorkedImage.{image_fields, image_header}
use Rattle.qcow2_types.specs.Header.{refcount_table_entries}
use Rattle.qcow2_types.specs.Counts.{counters_of_block, block_at}
use Rattle.qcow2_types.specs.Consistency.{IsReadable, IsConsistent, shares_structure, is_false_copied, is_under_counted, leaks_below, leaks}
use Rattle.qcow2_types.proofs.Counting.Named.{reaching}
use Rattle.qcow2_types.proofs.Counting.Bounded.{nowhere-from, all-below, shared-beyond, copied-beyond, under-beyond}
use Rattle.qcow2_types.proofs.Counting.Leaks.{leaks-skip, count-no-block}

per_block : counters_of_block image_fields ≡ 256
unfolding image_fields
per_block = refl

-- the number of clusters that the refcount table can index
reach : refcount_table_entries image_fields * counters_of_block image_fields ≡ 256 + 16128
unfolding image_fields
reach = refl

module _ (f : Bytes) where
  -- the image is consistent if its first 7 clusters are
  pub consistent-within : IsReadable f image_header → reaching f image_fields 7 ≡ 0 → all_below 7 (λ c. not (shares_structure f image_fields c)) ≡ true → all_below 7 (λ c. not (is_false_copied f image_fields c)) ≡ true
      → all_below 7 (λ c. not (is_under_counted f image_fields c)) ≡ true → IsConsistent f image_header
  unfolding image_header
  consistent-within readable within shared copied counted = record {
    readable = readable;
    structure_apart = nowhere-from 7 (shares_structure f image_fields) shared (shared-beyond f image_fields 7 within);
    copied_apart = nowhere-from 7 (is_false_copied f image_fields) copied (copied-beyond f image_fields 7 within);
    counted = nowhere-from 7 (is_under_counted f image_fields) counted (under-beyond f image_fields 7 within);
  }

  -- the leaks are those among the clusters of the first block
  pub leaks-within : all_below 64 (λ i. (i == 0) || (block_at f image_fields i == 0)) ≡ true → (found : List (ℕ × ℕ)) → leaks_below f image_fields 256 ≡ found → leaks f image_fields ≡ found
  leaks-within one_block found few =
      ap (leaks_below f image_fields) reach
      ∙ (leaks-skip f image_fields 256 16128
      (λ c low high.
      let block : block_at f image_fields (c / 256) ≡ 0 = later (c / 256) (omega arith) (omega arith) in
      count-no-block f image_fields c (ap (λ k. block_at f image_fields (c / k)) per_block ∙ block))
      ∙ few)
    where
      later : (i : ℕ) → 0 < i → i < 64 → block_at f image_fields i ≡ 0
      later i low high =
          let test : ((i == 0) || (block_at f image_fields i == 0)) ≡ true = all-below 64 (λ j. (j == 0) || (block_at f image_fields j == 0)) one_block i high in
          grind (arith, nat_tests)
