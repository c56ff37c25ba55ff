-- The bytes that the guest reads from the worked image.
use Rattle.std.proofs.Common.{◌≡◌, refl, [], ◌∷◌}
use Rattle.std.specs.Prelude.{map, None, false}
use Rattle.std.specs.Str.{is_utf8, chars}
use Rattle.std.specs.Char.{encode_utf8}
use Rattle.qcow2_types.specs.Bytes.{be, raw_entry, run, all_below}
use Rattle.qcow2_types.specs.Words.{mapping_of, zeroes, packed, damaged}
use Rattle.qcow2_types.specs.WorkedImage.{of_pieces, image, image_fields, older_fields, with_bytes}
use Rattle.qcow2_types.specs.Header.{fields_of, header_of, texts_of, extensions_at, extension_at}
use Rattle.qcow2_types.specs.Entries.{entry, l1_table_sound, l2_table_sound}
use Rattle.qcow2_types.specs.Disk.{at, qcow2, raw}
use Rattle.imago_storage.specs.Disk.{byte, barred}

-- the written bytes, among zeroes
pub shown_bytes : map (at (qcow2 (of_pieces image) (λ _. 0) ∷ [])) (508 ∷ 509 ∷ 510 ∷ 511 ∷ 512 ∷ 513 ∷ 514 ∷ 515 ∷ [])
    ≡ byte 0 ∷ byte 0 ∷ byte 1 ∷ byte 2 ∷ byte 3 ∷ byte 0 ∷ byte 0 ∷ byte 0 ∷ []
unfolding header_of texts_of extensions_at extension_at fields_of be run of_pieces image is_utf8 chars encode_utf8 entry l1_table_sound l2_table_sound all_below mapping_of raw_entry
shown_bytes = refl

-- over a raw file of one byte, an unmapped byte past its end is 0
pub below : map (at (qcow2 (of_pieces image) (λ _. 0) ∷ raw (9 ∷ []) ∷ [])) (510 ∷ 1024 ∷ [])
    ≡ byte 1 ∷ byte 0 ∷ []
unfolding header_of texts_of extensions_at extension_at fields_of be run of_pieces image is_utf8 chars encode_utf8 entry l1_table_sound l2_table_sound all_below mapping_of raw_entry
below = refl

-- a byte of a compressed cluster can't be read
pub packed_barred : at (qcow2 (with_bytes 2048 (64 ∷ [])) (λ _. 0) ∷ []) 0 ≡ barred
unfolding header_of texts_of extensions_at extension_at fields_of be run of_pieces image is_utf8 chars encode_utf8 entry l1_table_sound l2_table_sound all_below mapping_of raw_entry
packed_barred = refl

pub packed_entry : entry (with_bytes 2048 (64 ∷ [])) image_fields 0 ≡ packed 2560 512
unfolding entry l1_table_sound l2_table_sound all_below mapping_of raw_entry be of_pieces image image_fields
packed_entry = refl

-- an unmapped byte is that of the layer below
pub unmapped_below : at (qcow2 (with_bytes 2048 (0 ∷ 0 ∷ 0 ∷ 0 ∷ 0 ∷ 0 ∷ 0 ∷ 0 ∷ [])) (λ _. 0) ∷ raw (9 ∷ []) ∷ []) 0 ≡ byte 9
unfolding header_of texts_of extensions_at extension_at fields_of be run of_pieces image is_utf8 chars encode_utf8 entry l1_table_sound l2_table_sound all_below mapping_of raw_entry
unmapped_below = refl

-- an unmapped byte without a layer below is 0
pub unmapped_alone : at (qcow2 (with_bytes 2048 (0 ∷ 0 ∷ 0 ∷ 0 ∷ 0 ∷ 0 ∷ 0 ∷ 0 ∷ [])) (λ _. 0) ∷ []) 0 ≡ byte 0
unfolding header_of texts_of extensions_at extension_at fields_of be run of_pieces image is_utf8 chars encode_utf8 entry l1_table_sound l2_table_sound all_below mapping_of raw_entry
unmapped_alone = refl

-- a zero entry hides the layer below
pub zero_above : at (qcow2 (with_bytes 2048 (0 ∷ 0 ∷ 0 ∷ 0 ∷ 0 ∷ 0 ∷ 0 ∷ 1 ∷ [])) (λ _. 0) ∷ raw (9 ∷ []) ∷ []) 0 ≡ byte 0
unfolding header_of texts_of extensions_at extension_at fields_of be run of_pieces image is_utf8 chars encode_utf8 entry l1_table_sound l2_table_sound all_below mapping_of raw_entry
zero_above = refl

pub zero_entry : entry (with_bytes 2048 (0 ∷ 0 ∷ 0 ∷ 0 ∷ 0 ∷ 0 ∷ 0 ∷ 1 ∷ [])) image_fields 0 ≡ zeroes None false
unfolding entry l1_table_sound l2_table_sound all_below mapping_of raw_entry be of_pieces image image_fields
zero_entry = refl

-- in version 2 a zero entry is invalid
pub older_zero : entry (of_pieces ((4, 0 ∷ 0 ∷ 0 ∷ 2 ∷ []) ∷ (2048, 0 ∷ 0 ∷ 0 ∷ 0 ∷ 0 ∷ 0 ∷ 0 ∷ 1 ∷ []) ∷ image)) older_fields 0 ≡ damaged
unfolding entry l1_table_sound l2_table_sound all_below mapping_of raw_entry be of_pieces image image_fields
older_zero = refl

-- a compressed range of two sectors
pub packed_in_two : entry (with_bytes 2048 (96 ∷ 0 ∷ 0 ∷ 0 ∷ 0 ∷ 0 ∷ 10 ∷ 1 ∷ [])) image_fields 0 ≡ packed 2561 1023
unfolding entry l1_table_sound l2_table_sound all_below mapping_of raw_entry be of_pieces image image_fields
packed_in_two = refl
