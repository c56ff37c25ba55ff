-- The worked image with two COPIED entries that reference cluster 5.
use Rattle.std.proofs.Common.{◌≡◌, refl, [], ◌∷◌}
use Rattle.std.specs.Prelude.{true, not, Ok, Err}
use Rattle.std.specs.Str.{is_utf8, chars}
use Rattle.std.specs.Char.{encode_utf8}
use Rattle.qcow2_types.specs.Bytes.{be, raw_entry, run, sum_below, all_below, Bytes}
use Rattle.qcow2_types.specs.Words.{mapping_of}
use Rattle.qcow2_types.specs.WorkedImage.{of_pieces, image, image_fields, image_header}
use Rattle.qcow2_types.specs.Header.{fields_of, header_of, texts_of, extensions_at, extension_at}
use Rattle.qcow2_types.specs.Entries.{l1_table_sound, l2_table_sound}
use Rattle.qcow2_types.specs.Counts.{refcount_table_sound}
use Rattle.qcow2_types.specs.References.{structure, contents, of_table, refs}
use Rattle.qcow2_types.specs.Consistency.{IsVerdict, tables_sound, shares_structure, is_false_copied}
use Rattle.qcow2_types.specs.Consistency.Finding.{false_copied}
use Rattle.qcow2_types.proofs.Counting.Named.{reaching, past}
use Rattle.qcow2_types.proofs.Counting.Bounded.{nowhere-from, least-at, shared-beyond}

unfoldable changed : Bytes
changed = of_pieces ((2056, 128 ∷ 0 ∷ 0 ∷ 0 ∷ 0 ∷ 0 ∷ 10 ∷ 0 ∷ []) ∷ image)

loads : header_of true changed ≡ Ok image_header
unfolding changed header_of texts_of extensions_at extension_at fields_of be run of_pieces image image_header image_fields is_utf8 chars encode_utf8
loads = refl

tables : tables_sound changed image_fields ≡ true
unfolding changed tables_sound l1_table_sound l2_table_sound refcount_table_sound all_below mapping_of raw_entry be of_pieces image image_fields
tables = refl

-- no cluster after 6 is referenced
within : reaching changed image_fields 7 ≡ 0
unfolding changed reaching past structure contents of_table sum_below mapping_of raw_entry be of_pieces image image_fields
within = refl

-- no cluster of the structure before 7 is shared
shared : all_below 7 (λ c. not (shares_structure changed image_fields c)) ≡ true
unfolding changed shares_structure refs structure contents of_table sum_below all_below mapping_of raw_entry be of_pieces image image_fields
shared = refl

-- COPIED cluster 5 is shared
copied : is_false_copied changed image_fields 5 ≡ true
unfolding changed is_false_copied refs structure contents of_table sum_below all_below mapping_of raw_entry be of_pieces image image_fields
copied = refl

-- no COPIED cluster before 5 is shared
least : all_below 5 (λ c. not (is_false_copied changed image_fields c)) ≡ true
unfolding changed is_false_copied refs structure contents of_table sum_below all_below mapping_of raw_entry be of_pieces image image_fields
least = refl

pub verdict : IsVerdict (of_pieces ((2056, 128 ∷ 0 ∷ 0 ∷ 0 ∷ 0 ∷ 0 ∷ 10 ∷ 0 ∷ []) ∷ image)) (Err (false_copied 5))
unfolding changed image_header image_fields
verdict = (
  image_header,
  loads,
  (
    refl,
    refl,
    tables,
    nowhere-from 7 (shares_structure changed image_fields) shared (shared-beyond changed image_fields 7 within),
    least-at 5 (is_false_copied changed image_fields) copied least,
  ),
)
