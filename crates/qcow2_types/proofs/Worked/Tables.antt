-- The tables of the worked image.
use Rattle.std.proofs.Common.{◌≡◌, refl, [], ◌∷◌}
use Rattle.std.specs.Prelude.{true, map}
use Rattle.qcow2_types.specs.Bytes.{be, raw_entry, all_below}
use Rattle.qcow2_types.specs.Words.{mapping_of, data_at, unmapped}
use Rattle.qcow2_types.specs.WorkedImage.{of_pieces, image, image_fields}
use Rattle.qcow2_types.specs.Entries.{entry, l1_table_sound, l2_table_sound}
use Rattle.qcow2_types.specs.Counts.{refcount_table_sound}
use Rattle.qcow2_types.specs.Consistency.{tables_sound}

-- the mappings of guest clusters 0, 1, 2 and 64
pub entries : map (entry (of_pieces image) image_fields) (0 ∷ 1 ∷ 2 ∷ 64 ∷ []) ≡ data_at 5 true ∷ data_at 6 true ∷ unmapped ∷ unmapped ∷ []
unfolding entry l1_table_sound l2_table_sound all_below mapping_of raw_entry be of_pieces image image_fields
entries = refl

pub sound : tables_sound (of_pieces image) image_fields ≡ true
unfolding tables_sound l1_table_sound l2_table_sound refcount_table_sound all_below mapping_of raw_entry be of_pieces image image_fields
sound = refl
