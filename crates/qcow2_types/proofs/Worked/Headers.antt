-- The worked image with changed header fields.
use Rattle.std.proofs.Common.{◌≡◌, ◌+◌, ◌^◌, refl, [], ◌∷◌}
use Rattle.std.specs.Prelude.{Ok, Err, true, false, map}
use Rattle.std.specs.Str.{is_utf8, chars}
use Rattle.std.specs.Char.{encode_utf8}
use Rattle.imago_storage.specs.declared.fault.Fault.TheVariants.{DamagedHeader, Unsupported, Limit}
use Rattle.qcow2_types.specs.Bytes.{be, raw_entry, run, all_below}
use Rattle.qcow2_types.specs.Words.{mapping_of, data_at, unmapped}
use Rattle.qcow2_types.specs.Header.{fields_of, header_of, texts_of, extensions_at, extension_at}
use Rattle.qcow2_types.specs.Entries.{entry, l1_table_sound, l2_table_sound}
use Rattle.qcow2_types.specs.Disk.{at, qcow2}
use Rattle.qcow2_types.specs.WorkedImage.{of_pieces, image, image_fields, image_header, with_bytes, header_with_features, older_fields, older_header, written_bytes}

-- version 2
pub older : header_of true (with_bytes 4 (0 ∷ 0 ∷ 0 ∷ 2 ∷ [])) ≡ Ok older_header
unfolding header_of texts_of extensions_at extension_at fields_of be run of_pieces image image_header image_fields is_utf8 chars encode_utf8
older = refl

pub older_entries : map (entry (with_bytes 4 (0 ∷ 0 ∷ 0 ∷ 2 ∷ [])) older_fields) (0 ∷ 1 ∷ 2 ∷ 64 ∷ []) ≡ data_at 5 true ∷ data_at 6 true ∷ unmapped ∷ unmapped ∷ []
unfolding entry l1_table_sound l2_table_sound all_below mapping_of raw_entry be of_pieces image image_fields
older_entries = refl

pub older_bytes : map (at (qcow2 (with_bytes 4 (0 ∷ 0 ∷ 0 ∷ 2 ∷ [])) (λ _. 0) ∷ [])) (508 ∷ 509 ∷ 510 ∷ 511 ∷ 512 ∷ 513 ∷ 514 ∷ 515 ∷ []) ≡ written_bytes
unfolding header_of texts_of extensions_at extension_at fields_of be run of_pieces image image_header image_fields is_utf8 chars encode_utf8 entry l1_table_sound l2_table_sound all_below mapping_of raw_entry
older_bytes = refl

-- the dirty bit: loads for reading, but not for writing
pub dirty_read : header_of false (with_bytes 79 (1 ∷ [])) ≡ Ok (header_with_features 1)
unfolding header_of texts_of extensions_at extension_at fields_of be run of_pieces image image_header image_fields is_utf8 chars encode_utf8
dirty_read = refl

pub dirty_written : header_of true (with_bytes 79 (1 ∷ [])) ≡ Err Unsupported
unfolding header_of texts_of extensions_at extension_at fields_of be run of_pieces image image_header image_fields is_utf8 chars encode_utf8
dirty_written = refl

-- an unknown version
pub version : header_of false (with_bytes 4 (0 ∷ 0 ∷ 0 ∷ 4 ∷ [])) ≡ Err Unsupported
unfolding header_of texts_of extensions_at extension_at fields_of be run of_pieces image image_header image_fields is_utf8 chars encode_utf8
version = refl

-- clusters of 256 bytes
pub small_clusters : header_of false (with_bytes 23 (8 ∷ [])) ≡ Err DamagedHeader
unfolding header_of texts_of extensions_at extension_at fields_of be run of_pieces image image_header image_fields is_utf8 chars encode_utf8
small_clusters = refl

-- clusters of 4 MiB
pub large_clusters : header_of false (with_bytes 23 (22 ∷ [])) ≡ Err DamagedHeader
unfolding header_of texts_of extensions_at extension_at fields_of be run of_pieces image image_header image_fields is_utf8 chars encode_utf8
large_clusters = refl

-- refcounts of 128 bits
pub order : header_of false (with_bytes 99 (7 ∷ [])) ≡ Err DamagedHeader
unfolding header_of texts_of extensions_at extension_at fields_of be run of_pieces image image_header image_fields is_utf8 chars encode_utf8
order = refl

-- an unsupported feature
pub features : header_of false (with_bytes 79 (16 ∷ [])) ≡ Err Unsupported
unfolding header_of texts_of extensions_at extension_at fields_of be run of_pieces image image_header image_fields is_utf8 chars encode_utf8
features = refl

-- a disk size above the limit
pub size : header_of false (with_bytes 24 (128 ∷ [])) ≡ Err (Limit (2 ^ 63 + 65536))
unfolding header_of texts_of extensions_at extension_at fields_of be run of_pieces image image_header image_fields is_utf8 chars encode_utf8
size = refl

-- an L1 table above the limit
pub l1_entries : header_of false (with_bytes 36 (0 ∷ 64 ∷ 0 ∷ 1 ∷ [])) ≡ Err (Limit 4194305)
unfolding header_of texts_of extensions_at extension_at fields_of be run of_pieces image image_header image_fields is_utf8 chars encode_utf8
l1_entries = refl

-- an L1 table that doesn't start at a cluster's offset
pub l1_place : header_of false (with_bytes 47 (1 ∷ [])) ≡ Err DamagedHeader
unfolding header_of texts_of extensions_at extension_at fields_of be run of_pieces image image_header image_fields is_utf8 chars encode_utf8
l1_place = refl
