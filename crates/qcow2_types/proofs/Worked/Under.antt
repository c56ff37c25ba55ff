-- The worked image with a refcount of 0 for cluster 5.
use Rattle.std.proofs.Common.{◌≡◌, refl, [], ◌∷◌}
use Rattle.std.specs.Prelude.{true, not, Ok, Err}
use Rattle.std.specs.Str.{is_utf8, chars}
use Rattle.std.specs.Char.{encode_utf8}
use Rattle.qcow2_types.specs.Bytes.{be, raw_entry, run, sum_below, all_below, Bytes}
use Rattle.qcow2_types.specs.Words.{mapping_of}
use Rattle.qcow2_types.specs.WorkedImage.{of_pieces, image, image_fields, image_header}
use Rattle.qcow2_types.specs.Header.{fields_of, header_of, texts_of, extensions_at, extension_at}
use Rattle.qcow2_types.specs.Entries.{l1_table_sound, l2_table_sound}
use Rattle.qcow2_types.specs.Counts.{count, counter, refcount_table_sound}
use Rattle.qcow2_types.specs.References.{structure, contents, of_table, refs}
use Rattle.qcow2_types.specs.Consistency.{IsVerdict, tables_sound, shares_structure, is_false_copied, is_under_counted}
use Rattle.qcow2_types.specs.Consistency.Finding.{under_counted}
use Rattle.qcow2_types.proofs.Counting.Named.{reaching, past}
use Rattle.qcow2_types.proofs.Counting.Bounded.{nowhere-from, least-at, shared-beyond, copied-beyond}

unfoldable changed : Bytes
changed = of_pieces ((1034, 0 ∷ 0 ∷ []) ∷ image)

loads : header_of true changed ≡ Ok image_header
unfolding changed header_of texts_of extensions_at extension_at fields_of be run of_pieces image image_header image_fields is_utf8 chars encode_utf8
loads = refl

tables : tables_sound changed image_fields ≡ true
unfolding changed tables_sound l1_table_sound l2_table_sound refcount_table_sound all_below mapping_of raw_entry be of_pieces image image_fields
tables = refl

-- no cluster after 6 is referenced
within : reaching changed image_fields 7 ≡ 0
unfolding changed reaching past structure contents of_table sum_below mapping_of raw_entry be of_pieces image image_fields
within = refl

-- no cluster of the structure before 7 is shared
shared : all_below 7 (λ c. not (shares_structure changed image_fields c)) ≡ true
unfolding changed shares_structure refs structure contents of_table sum_below all_below mapping_of raw_entry be of_pieces image image_fields
shared = refl

-- no COPIED cluster before 7 is shared
copied : all_below 7 (λ c. not (is_false_copied changed image_fields c)) ≡ true
unfolding changed is_false_copied refs structure contents of_table sum_below all_below mapping_of raw_entry be of_pieces image image_fields
copied = refl

-- the refcount of cluster 5 doesn't cover its references
under : is_under_counted changed image_fields 5 ≡ true
unfolding changed is_under_counted count counter refs structure contents of_table sum_below all_below mapping_of raw_entry be of_pieces image image_fields
under = refl

-- the refcount of each cluster before 5 does
least : all_below 5 (λ c. not (is_under_counted changed image_fields c)) ≡ true
unfolding changed is_under_counted count counter refs structure contents of_table sum_below all_below mapping_of raw_entry be of_pieces image image_fields
least = refl

pub verdict : IsVerdict (of_pieces ((1034, 0 ∷ 0 ∷ []) ∷ image)) (Err (under_counted 5))
unfolding changed image_header image_fields
verdict = (
  image_header,
  loads,
  (
    refl,
    refl,
    tables,
    nowhere-from 7 (shares_structure changed image_fields) shared (shared-beyond changed image_fields 7 within),
    nowhere-from 7 (is_false_copied changed image_fields) copied (copied-beyond changed image_fields 7 within),
    least-at 5 (is_under_counted changed image_fields) under least,
  ),
)
