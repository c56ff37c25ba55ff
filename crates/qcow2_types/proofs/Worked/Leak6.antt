-- The worked image with two entries without the COPIED flag that reference cluster 5, whose refcount is 2.
use Rattle.std.proofs.Common.{◌∷◌, ◌≡◌, refl, sym, []}
use Rattle.std.specs.Prelude.{true, ◌==◌, ◌||◌, not, Ok}
use Rattle.std.specs.Str.{is_utf8, chars}
use Rattle.std.specs.Char.{encode_utf8}
use Rattle.qcow2_types.specs.Bytes.{Bytes, be, raw_entry, run, sum_below, all_below}
use Rattle.qcow2_types.specs.Words.{mapping_of}
use Rattle.qcow2_types.specs.WorkedImage.{of_pieces, image, image_fields, image_header}
use Rattle.qcow2_types.specs.Header.{fields_of, header_of, texts_of, extensions_at, extension_at}
use Rattle.qcow2_types.specs.Entries.{l1_table_sound, l2_table_sound}
use Rattle.qcow2_types.specs.Counts.{count, counter, refcount_table_sound, block_at}
use Rattle.qcow2_types.specs.References.{structure, contents, of_table, refs}
use Rattle.qcow2_types.specs.Consistency.{IsReadable, IsConsistent, IsVerdict, tables_sound, shares_structure, is_false_copied, is_under_counted, leaks_below, leaks}
use Rattle.qcow2_types.proofs.Counting.Named.{reaching, past}
use Rattle.qcow2_types.proofs.Worked.Whole.{consistent-within, leaks-within}

unfoldable changed : Bytes
changed = of_pieces ((2048, 0 ∷ 0 ∷ 0 ∷ 0 ∷ 0 ∷ 0 ∷ 10 ∷ 0 ∷ 0 ∷ 0 ∷ 0 ∷ 0 ∷ 0 ∷ 0 ∷ 10 ∷ 0 ∷ []) ∷ (1034, 0 ∷ 2 ∷ []) ∷ image)

readable : IsReadable changed image_header
unfolding header_of texts_of extensions_at extension_at fields_of be run raw_entry changed of_pieces image image_header image_fields is_utf8 chars encode_utf8
    tables_sound l1_table_sound l2_table_sound refcount_table_sound all_below mapping_of
readable = record { loads = refl; no_snapshots = refl; data_inside = refl; tables = refl }

-- no cluster after 6 is referenced
within : reaching changed image_fields 7 ≡ 0
unfolding reaching past structure contents of_table sum_below mapping_of raw_entry be changed of_pieces image image_fields
within = refl

-- no cluster of the structure before 7 is shared
shared : all_below 7 (λ c. not (shares_structure changed image_fields c)) ≡ true
unfolding shares_structure refs structure contents of_table sum_below all_below mapping_of raw_entry be changed of_pieces image image_fields
shared = refl

-- no COPIED cluster before 7 is shared
copied : all_below 7 (λ c. not (is_false_copied changed image_fields c)) ≡ true
unfolding is_false_copied refs structure contents of_table sum_below all_below mapping_of raw_entry be changed of_pieces image image_fields
copied = refl

-- each refcount before 7 covers the references
counted : all_below 7 (λ c. not (is_under_counted changed image_fields c)) ≡ true
unfolding is_under_counted count counter refs structure contents of_table sum_below all_below mapping_of raw_entry be changed of_pieces image image_fields
counted = refl

consistent : IsConsistent changed image_header
consistent = consistent-within changed readable within shared copied counted

-- only the first block exists
one_block : all_below 64 (λ i. (i == 0) || (block_at changed image_fields i == 0)) ≡ true
unfolding all_below raw_entry be changed of_pieces image image_fields
one_block = refl

-- the leaks among the clusters of the first block
few_leaks : leaks_below changed image_fields 256 ≡ (6, 1) ∷ []
unfolding leaks_below count counter refs structure contents of_table sum_below mapping_of raw_entry be changed of_pieces image image_fields
few_leaks = refl

-- these are all leaks
no_leaks : leaks changed image_fields ≡ (6, 1) ∷ []
no_leaks = leaks-within changed one_block ((6, 1) ∷ []) few_leaks

pub verdict : IsVerdict (of_pieces ((2048, 0 ∷ 0 ∷ 0 ∷ 0 ∷ 0 ∷ 0 ∷ 10 ∷ 0 ∷ 0 ∷ 0 ∷ 0 ∷ 0 ∷ 0 ∷ 0 ∷ 10 ∷ 0 ∷ []) ∷ (1034, 0 ∷ 2 ∷ []) ∷ image)) (Ok ((6, 1) ∷ []))
unfolding changed image_header
verdict = (image_header, consistent, sym no_leaks)
