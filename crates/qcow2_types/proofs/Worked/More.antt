-- Refcounts of other widths, and compressed ranges that cross the end of a cluster.
use Rattle.std.proofs.Common.{◌≡◌, refl, [], ◌∷◌}
use Rattle.std.specs.Prelude.{map}
use Rattle.qcow2_types.specs.Bytes.{be, raw_entry, sum_below}
use Rattle.qcow2_types.specs.Words.{mapping_of}
use Rattle.qcow2_types.specs.WorkedImage.{of_pieces, image, image_fields, with_bytes, fields_with_order}
use Rattle.qcow2_types.specs.Counts.{count, counter}
use Rattle.qcow2_types.specs.References.{structure, contents, of_table, refs}

pub one_bit : map (count (with_bytes 1024 (127 ∷ 0 ∷ 0 ∷ 0 ∷ 0 ∷ 0 ∷ 0 ∷ 0 ∷ 0 ∷ 0 ∷ 0 ∷ 0 ∷ 0 ∷ 0 ∷ [])) (fields_with_order 0)) (0 ∷ 1 ∷ 6 ∷ 7 ∷ 8 ∷ []) ≡ 1 ∷ 1 ∷ 1 ∷ 0 ∷ 0 ∷ []
unfolding count counter raw_entry be of_pieces image image_fields
one_bit = refl

pub four_bits : map (count (with_bytes 1024 (17 ∷ 17 ∷ 17 ∷ 1 ∷ 0 ∷ 0 ∷ 0 ∷ 0 ∷ 0 ∷ 0 ∷ 0 ∷ 0 ∷ 0 ∷ 0 ∷ [])) (fields_with_order 2)) (0 ∷ 1 ∷ 6 ∷ 7 ∷ 8 ∷ []) ≡ 1 ∷ 1 ∷ 1 ∷ 0 ∷ 0 ∷ []
unfolding count counter raw_entry be of_pieces image image_fields
four_bits = refl

pub two_bits : map (count (with_bytes 1024 (85 ∷ 21 ∷ 0 ∷ 0 ∷ 0 ∷ 0 ∷ 0 ∷ 0 ∷ 0 ∷ 0 ∷ 0 ∷ 0 ∷ 0 ∷ 0 ∷ [])) (fields_with_order 1)) (0 ∷ 1 ∷ 6 ∷ 7 ∷ 8 ∷ []) ≡ 1 ∷ 1 ∷ 1 ∷ 0 ∷ 0 ∷ []
unfolding count counter raw_entry be of_pieces image image_fields
two_bits = refl

pub eight_bits : map (count (with_bytes 1024 (1 ∷ 2 ∷ 3 ∷ 4 ∷ 5 ∷ 6 ∷ 255 ∷ 0 ∷ 0 ∷ 0 ∷ 0 ∷ 0 ∷ 0 ∷ 0 ∷ [])) (fields_with_order 3)) (0 ∷ 1 ∷ 6 ∷ 7 ∷ 8 ∷ []) ≡ 1 ∷ 2 ∷ 255 ∷ 0 ∷ 0 ∷ []
unfolding count counter raw_entry be of_pieces image image_fields
eight_bits = refl

pub bits_32 : map (count (with_bytes 1024 (0 ∷ 0 ∷ 0 ∷ 1 ∷ 1 ∷ 0 ∷ 0 ∷ 2 ∷ 0 ∷ 0 ∷ 0 ∷ 0 ∷ 0 ∷ 0 ∷ 0 ∷ 0 ∷ [])) (fields_with_order 5)) (0 ∷ 1 ∷ 2 ∷ []) ≡ 1 ∷ 16777218 ∷ 0 ∷ []
unfolding count counter raw_entry be of_pieces image image_fields
bits_32 = refl

pub bits_64 : map (count (with_bytes 1024 (0 ∷ 0 ∷ 0 ∷ 0 ∷ 0 ∷ 0 ∷ 0 ∷ 1 ∷ 0 ∷ 0 ∷ 0 ∷ 1 ∷ 0 ∷ 0 ∷ 0 ∷ 2 ∷ [])) (fields_with_order 6)) (0 ∷ 1 ∷ 2 ∷ []) ≡ 1 ∷ 4294967298 ∷ 0 ∷ []
unfolding count counter raw_entry be of_pieces image image_fields
bits_64 = refl

-- a range of one sector that starts at the last byte of a cluster
pub one_sector : map (refs (with_bytes 2048 (64 ∷ 0 ∷ 0 ∷ 0 ∷ 0 ∷ 0 ∷ 11 ∷ 255 ∷ [])) image_fields) (5 ∷ 6 ∷ 7 ∷ []) ≡ 1 ∷ 1 ∷ 0 ∷ []
unfolding refs structure contents of_table sum_below mapping_of raw_entry be of_pieces image image_fields
one_sector = refl

-- a range of two sectors references both clusters
pub two_sectors : map (refs (with_bytes 2048 (96 ∷ 0 ∷ 0 ∷ 0 ∷ 0 ∷ 0 ∷ 11 ∷ 255 ∷ [])) image_fields) (5 ∷ 6 ∷ 7 ∷ []) ≡ 1 ∷ 2 ∷ 0 ∷ []
unfolding refs structure contents of_table sum_below mapping_of raw_entry be of_pieces image image_fields
two_sectors = refl
