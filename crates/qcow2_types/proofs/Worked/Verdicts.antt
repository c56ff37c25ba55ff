-- The worked image with a changed structure, and the finding of a check.
use Rattle.std.proofs.Common.{◌≡◌, refl, [], ◌∷◌, lit<}
use Rattle.std.specs.Prelude.{Ok, Err, true, false, not}
use Rattle.std.specs.Str.{is_utf8, chars}
use Rattle.std.specs.Char.{encode_utf8}
use Rattle.qcow2_types.specs.Bytes.{Bytes, be, raw_entry, run, sum_below, all_below}
use Rattle.qcow2_types.specs.Words.{mapping_of}
use Rattle.qcow2_types.specs.Header.{fields_of, header_of, texts_of, extensions_at, extension_at}
use Rattle.qcow2_types.specs.Entries.{l1_table_sound, l2_table_sound}
use Rattle.qcow2_types.specs.Counts.{refcount_table_sound}
use Rattle.qcow2_types.specs.References.{structure, contents, of_table, refs}
use Rattle.qcow2_types.specs.Consistency.{IsVerdict, tables_sound, shares_structure}
use Rattle.qcow2_types.specs.Consistency.Finding.{header, snapshots, external, table, shared_table}
use Rattle.qcow2_types.specs.WorkedImage.{of_pieces, image, image_fields, image_header, with_bytes, header_with_features, header_with_snapshots}
use Rattle.qcow2_types.proofs.Counting.Bounded.{least-at}

-- a header that doesn't load
pub header_refused : IsVerdict (with_bytes 23 (8 ∷ [])) (Err header)
unfolding header_of texts_of extensions_at extension_at fields_of be run of_pieces image image_header image_fields is_utf8 chars encode_utf8
header_refused = refl

-- a snapshot: the header still loads
snapshot_loads : header_of true (with_bytes 60 (0 ∷ 0 ∷ 0 ∷ 1 ∷ [])) ≡ Ok (header_with_snapshots 1)
unfolding header_of texts_of extensions_at extension_at fields_of be run of_pieces image image_header image_fields is_utf8 chars encode_utf8
snapshot_loads = refl

pub snapshot : IsVerdict (with_bytes 60 (0 ∷ 0 ∷ 0 ∷ 1 ∷ [])) (Err snapshots)
unfolding image_header
snapshot = (header_with_snapshots 1, snapshot_loads, lit< tt)

-- external data: the header still loads
external_loads : header_of true (with_bytes 79 (4 ∷ [])) ≡ Ok (header_with_features 4)
unfolding header_of texts_of extensions_at extension_at fields_of be run of_pieces image image_header image_fields is_utf8 chars encode_utf8
external_loads = refl

pub external_data : IsVerdict (with_bytes 79 (4 ∷ [])) (Err external)
unfolding image_header image_fields
external_data = (header_with_features 4, external_loads, (refl, refl))

-- a damaged L2 entry: the header still loads
table_loads : header_of true (with_bytes 2055 (2 ∷ [])) ≡ Ok image_header
unfolding header_of texts_of extensions_at extension_at fields_of be run of_pieces image image_header image_fields is_utf8 chars encode_utf8
table_loads = refl

table_unsound : tables_sound (with_bytes 2055 (2 ∷ [])) image_fields ≡ false
unfolding tables_sound l1_table_sound l2_table_sound refcount_table_sound all_below mapping_of raw_entry be of_pieces image image_fields
table_unsound = refl

pub damaged_table : IsVerdict (with_bytes 2055 (2 ∷ [])) (Err table)
unfolding image_header image_fields
damaged_table = (image_header, table_loads, (refl, refl, table_unsound))

-- the L1 table is also referenced as an L2 table
unfoldable twice : Bytes
twice = with_bytes 1536 (128 ∷ 0 ∷ 0 ∷ 0 ∷ 0 ∷ 0 ∷ 6 ∷ 0 ∷ [])

twice_loads : header_of true twice ≡ Ok image_header
unfolding twice header_of texts_of extensions_at extension_at fields_of be run of_pieces image image_header image_fields is_utf8 chars encode_utf8
twice_loads = refl

twice_sound : tables_sound twice image_fields ≡ true
unfolding twice tables_sound l1_table_sound l2_table_sound refcount_table_sound all_below mapping_of raw_entry be of_pieces image image_fields
twice_sound = refl

shared_3 : shares_structure twice image_fields 3 ≡ true
unfolding twice shares_structure refs structure contents of_table sum_below all_below mapping_of raw_entry be of_pieces image image_fields
shared_3 = refl

none_below_3 : all_below 3 (λ c. not (shares_structure twice image_fields c)) ≡ true
unfolding twice shares_structure refs structure contents of_table sum_below all_below mapping_of raw_entry be of_pieces image image_fields
none_below_3 = refl

pub shared_l1 : IsVerdict (with_bytes 1536 (128 ∷ 0 ∷ 0 ∷ 0 ∷ 0 ∷ 0 ∷ 6 ∷ 0 ∷ [])) (Err (shared_table 3))
unfolding twice image_header image_fields
shared_l1 = (image_header, twice_loads, (refl, refl, twice_sound, least-at 3 (shares_structure twice image_fields) shared_3 none_below_3))
