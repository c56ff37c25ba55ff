-- The refcount table of the worked image grows. A new block covers clusters below the old table's limit that had no block.
use Rattle.std.proofs.Common.{◌≡◌, ◌≢◌, ℕ, ◌+◌, ◌*◌, ◌<◌, ◌≤◌, refl, arith, ◌∙◌, lit≤, lit<, inl, inr, Ok, [], ◌∷◌}
use Rattle.std.specs.Prelude.{◌⊎◌, true, map, IsTrue, ◌==◌, ◌||◌, not, if◌then◌else◌}
use Rattle.std.specs.Str.{is_utf8, chars}
use Rattle.std.specs.Char.{encode_utf8}
use Rattle.std.proofs.lemmas.Bool.{cases_eq}
use Rattle.std.proofs.lemmas.Bool.Decides.{nat_tests}
use Rattle.qcow2_types.specs.Bytes.{be, raw_entry, run, splice, sum_below, all_below}
use Rattle.qcow2_types.specs.Words.{mapping_of, reftable_entry_valid}
use Rattle.qcow2_types.specs.Header.{header_of, texts_of, fields_of, extensions_at, extension_at, entries_of_cluster}
use Rattle.qcow2_types.specs.Counts.{block_at, count, counter}
use Rattle.qcow2_types.specs.References.{Weight, of_cluster, structure, contents, of_table, meets, refs}
use Rattle.qcow2_types.specs.Frames.{Outside}
use Rattle.qcow2_types.specs.Steps.{FreeWritten}
use Rattle.qcow2_types.specs.Switched.{with_reftable, with_refcount_table, newly_referenced, RefcountTableSwitched}
use Rattle.qcow2_types.specs.WorkedImage.{of_pieces, image, image_fields, image_header, block_written, table_written, grown}
use Rattle.qcow2_types.proofs.Counting.Bounded.{all-below}
use Rattle.qcow2_types.proofs.Changes.DataSteps.{free-written}
use Rattle.qcow2_types.proofs.Changes.Frames.{splice-is-outside}
use Rattle.qcow2_types.proofs.Counting.Parts.{block-inside}
use Rattle.qcow2_types.proofs.Switching.RefcountTableSwitch.{refcount-table-switched}
use Rattle.qcow2_types.proofs.Numbers.Sums.{sum-change, sum-none}
use Rattle.qcow2_types.proofs.Switching.Switches.{sum-longer}
use Rattle.qcow2_types.proofs.Worked.Consistent.{consistent}

-- clusters 256 to 258 have no references
refs_256 : refs (of_pieces image) image_fields 256 ≡ 0
unfolding refs structure contents of_table sum_below mapping_of raw_entry be of_pieces image image_fields
refs_256 = refl

refs_257 : refs (of_pieces image) image_fields 257 ≡ 0
unfolding refs structure contents of_table sum_below mapping_of raw_entry be of_pieces image image_fields
refs_257 = refl

refs_258 : refs (of_pieces image) image_fields 258 ≡ 0
unfolding refs structure contents of_table sum_below mapping_of raw_entry be of_pieces image image_fields
refs_258 = refl

-- the block is written, and nothing changes for the guest
first : FreeWritten (of_pieces image) block_written image_header
unfolding image_header image_fields block_written
first = free-written (of_pieces image) image_header consistent 256 refs_256 (splice (of_pieces image) 131072 (0 ∷ 1 ∷ 0 ∷ 1 ∷ 0 ∷ 1 ∷ [])) 131072 6 (splice-is-outside (of_pieces image) 131072 (0 ∷ 1 ∷ 0 ∷ 1 ∷ 0 ∷ 1 ∷ [])) (lit≤ tt) (lit≤ tt)

-- and the new table
second : FreeWritten block_written table_written image_header
unfolding image_header image_fields table_written
second = free-written block_written image_header first.consistent 257 (first.references 257 ∙ refs_257) (splice block_written 131584 (0 ∷ 0 ∷ 0 ∷ 0 ∷ 0 ∷ 0 ∷ 4 ∷ 0 ∷ 0 ∷ 0 ∷ 0 ∷ 0 ∷ 0 ∷ 2 ∷ 0 ∷ 0 ∷ [])) 131584 16 (splice-is-outside block_written 131584 (0 ∷ 0 ∷ 0 ∷ 0 ∷ 0 ∷ 0 ∷ 4 ∷ 0 ∷ 0 ∷ 0 ∷ 0 ∷ 0 ∷ 0 ∷ 2 ∷ 0 ∷ 0 ∷ [])) (lit≤ tt) (lit≤ tt)

-- clusters without references still have none
not_referenced : (d : ℕ) → refs (of_pieces image) image_fields d ≡ 0 → refs table_written image_fields d ≡ 0
unfolding image_header
not_referenced d none = second.references d ∙ (first.references d ∙ none)

-- the header is switched to the new table
loads : header_of true grown ≡ Ok (with_refcount_table image_header 131584 2)
unfolding header_of texts_of extensions_at extension_at fields_of be run raw_entry splice grown table_written block_written of_pieces image image_header image_fields is_utf8 chars encode_utf8
loads = refl

-- the new table's entries are valid
words_sound : all_below 128 (λ i. reftable_entry_valid 9 (raw_entry table_written 131584 i)) ≡ true
unfolding all_below raw_entry be splice table_written block_written of_pieces image
words_sound = refl

-- the new table references the block that the old one references
blocks_kept : all_below 64 (λ i. (block_at table_written image_fields i == 0) || (block_at table_written (with_reftable image_fields 131584 2) i == block_at table_written image_fields i)) ≡ true
unfolding all_below raw_entry be splice table_written block_written of_pieces image image_fields
blocks_kept = refl

-- only entry 1 of the new table references a block where the old table has none
one_new : all_below 128 (λ i. (i == 1) || not (block_at table_written image_fields i == 0) || (block_at table_written (with_reftable image_fields 131584 2) i == 0)) ≡ true
unfolding all_below raw_entry be splice table_written block_written of_pieces image image_fields
one_new = refl

-- the weight of that block
new_1 : (v : Weight) → (if block_at table_written image_fields 1 == 0 then of_cluster image_fields v (block_at table_written (with_reftable image_fields 131584 2) 1) else 0) ≡ v 131072 512
unfolding raw_entry be splice table_written block_written of_pieces image image_fields
new_1 v = refl

-- only the new table and that block are newly referenced
named_there : (v : Weight) → newly_referenced table_written image_fields 131584 2 v ≡ v 131584 1024 + v 131072 512
unfolding image_fields
named_there v =
    let term : ℕ → ℕ = λ i. if block_at table_written image_fields i == 0 then of_cluster image_fields v (block_at table_written (with_reftable image_fields 131584 2) i) else 0 in
    let all : sum_below 128 term + 0 ≡ sum_below 128 (λ _. 0) + term 1 = sum-change 128 1 term (λ _. 0) (lit< tt) (λ i lt apart. none i lt apart) in
    let zeroes : sum_below 128 (λ _. 0) ≡ 0 = sum-longer 0 128 (λ _. 0) (λ i le. refl) ∙ sum-none (λ _. 0) in
    let here : term 1 ≡ v 131072 512 = new_1 v in
    omega arith
  where
    none : (i : ℕ) → i < 128 → i ≢ 1 → (if block_at table_written image_fields i == 0 then of_cluster image_fields v (block_at table_written (with_reftable image_fields 131584 2) i) else 0) ≡ 0
    none i lt apart =
        let test : ((i == 1) || not (block_at table_written image_fields i == 0) || (block_at table_written (with_reftable image_fields 131584 2) i == 0)) ≡ true =
        all-below 128 (λ j. (j == 1) || not (block_at table_written image_fields j == 0) || (block_at table_written (with_reftable image_fields 131584 2) j == 0)) one_new i lt in
        by i (block_at table_written image_fields i) (block_at table_written (with_reftable image_fields 131584 2) i) apart test
      where
        by : (i a b : ℕ) → i ≢ 1 → ((i == 1) || not (a == 0) || (b == 0)) ≡ true → (if a == 0 then of_cluster image_fields v b else 0) ≡ 0
        by i a b apart test = grind (arith, nat_tests)

-- each entry of the new table is valid
sound : (i : ℕ) → i < 2 * entries_of_cluster image_fields → IsTrue (reftable_entry_valid image_fields.cluster_bits (raw_entry table_written 131584 i))
unfolding image_fields
sound i lt = all-below 128 (λ j. reftable_entry_valid 9 (raw_entry table_written 131584 j)) words_sound i lt

-- and references the block of the old table, if any
kept : (i : ℕ) → block_at table_written image_fields i ≢ 0 → block_at table_written (with_reftable image_fields 131584 2) i ≡ block_at table_written image_fields i
unfolding image_fields
kept i there =
    let lt : i < 64 = block-inside table_written image_fields i there in
    let test : ((block_at table_written image_fields i == 0) || (block_at table_written (with_reftable image_fields 131584 2) i == block_at table_written image_fields i)) ≡ true =
    all-below 64 (λ j. (block_at table_written image_fields j == 0) || (block_at table_written (with_reftable image_fields 131584 2) j == block_at table_written image_fields j)) blocks_kept i lt in
    grind (arith, nat_tests)

-- each cluster is newly referenced at most once
once : (d : ℕ) → newly_referenced table_written image_fields 131584 2 (meets image_fields d) ≤ 1
unfolding image_fields
once d = let sum : newly_referenced table_written image_fields 131584 2 (meets image_fields d) ≡ meets image_fields d 131584 1024 + meets image_fields d 131072 512 = named_there (meets image_fields d) in
    let most : meets image_fields d 131584 1024 + meets image_fields d 131072 512 ≤ 1 = grind (arith, nat_tests) in
    omega arith

-- only clusters 256, 257 and 258 are newly referenced
which : (d : ℕ) → 0 < newly_referenced table_written image_fields 131584 2 (meets image_fields d) → (d ≡ 256) ⊎ (d ≡ 257) ⊎ (d ≡ 258)
unfolding image_fields
which d some =
    let sum : newly_referenced table_written image_fields 131584 2 (meets image_fields d) ≡ meets image_fields d 131584 1024 + meets image_fields d 131072 512 = named_there (meets image_fields d) in
    let low : 256 ≤ d = grind (arith, nat_tests) in
    let high : d < 259 = grind (arith, nat_tests) in
    elim (cases_eq d 256) [
      | inl e ↦ inl e
      | inr a ↦ elim (cases_eq d 257) [
        | inl e ↦ inr (inl e)
        | inr b ↦ let a' : d ≢ 256 = a in let b' : d ≢ 257 = b in inr (inr (omega arith))
      ]
    ]

-- their refcounts by the new table, before the header is written
counted_256 : count table_written (with_reftable image_fields 131584 2) 256 ≡ 1
unfolding count counter raw_entry be splice table_written block_written of_pieces image image_fields
counted_256 = refl

counted_257 : count table_written (with_reftable image_fields 131584 2) 257 ≡ 1
unfolding count counter raw_entry be splice table_written block_written of_pieces image image_fields
counted_257 = refl

counted_258 : count table_written (with_reftable image_fields 131584 2) 258 ≡ 1
unfolding count counter raw_entry be splice table_written block_written of_pieces image image_fields
counted_258 = refl

-- the write of the header is inside its first 64 bytes
in_header : Outside table_written grown 0 64
unfolding grown
in_header p (inl before) = absurd (omega arith)
in_header p (inr after) = splice-is-outside table_written 48 (0 ∷ 0 ∷ 0 ∷ 0 ∷ 0 ∷ 2 ∷ 2 ∷ 0 ∷ 0 ∷ 0 ∷ 0 ∷ 2 ∷ []) p (inr (omega arith))

-- The law on switching the refcount table applies.
pub switched : RefcountTableSwitched table_written grown image_header 131584 2
unfolding image_header
switched = refcount-table-switched table_written grown image_header second.consistent 131584 2 loads in_header sound kept once free
  where
    free : (d : ℕ) → 0 < newly_referenced table_written image_fields 131584 2 (meets image_fields d) → (refs table_written image_fields d ≡ 0) × (1 ≤ count table_written (with_reftable image_fields 131584 2) d)
    free d some = elim (which d some) [
      | inl e ↦ rw e (not_referenced 256 refs_256, omega (arith, counted_256))
      | inr (inl e) ↦ rw e (not_referenced 257 refs_257, omega (arith, counted_257))
      | inr (inr e) ↦ rw e (not_referenced 258 refs_258, omega (arith, counted_258))
    ]

pub counts : map (count grown (with_reftable image_fields 131584 2)) (0 ∷ 1 ∷ 255 ∷ 256 ∷ 257 ∷ 258 ∷ 259 ∷ []) ≡ 1 ∷ 1 ∷ 0 ∷ 1 ∷ 1 ∷ 1 ∷ 0 ∷ []
unfolding count counter raw_entry be splice grown table_written block_written of_pieces image image_fields
counts = refl

pub references : map (refs grown (with_reftable image_fields 131584 2)) (0 ∷ 1 ∷ 255 ∷ 256 ∷ 257 ∷ 258 ∷ 259 ∷ []) ≡ 1 ∷ 0 ∷ 0 ∷ 1 ∷ 1 ∷ 1 ∷ 0 ∷ []
unfolding refs structure contents of_table sum_below mapping_of raw_entry be splice grown table_written block_written of_pieces image image_fields
references = refl
