-- The refcounts and the references of the worked image's clusters 0 to 7.
use Rattle.std.proofs.Common.{◌≡◌, refl, [], ◌∷◌}
use Rattle.std.specs.Prelude.{map}
use Rattle.qcow2_types.specs.Bytes.{be, raw_entry, sum_below}
use Rattle.qcow2_types.specs.Words.{mapping_of}
use Rattle.qcow2_types.specs.WorkedImage.{of_pieces, image, image_fields}
use Rattle.qcow2_types.specs.Counts.{count, counter}
use Rattle.qcow2_types.specs.References.{structure, contents, of_table, refs}

pub counts : map (count (of_pieces image) image_fields) (0 ∷ 1 ∷ 2 ∷ 3 ∷ 4 ∷ 5 ∷ 6 ∷ 7 ∷ []) ≡ 1 ∷ 1 ∷ 1 ∷ 1 ∷ 1 ∷ 1 ∷ 1 ∷ 0 ∷ []
unfolding count counter raw_entry be of_pieces image image_fields
counts = refl

pub references : map (refs (of_pieces image) image_fields) (0 ∷ 1 ∷ 2 ∷ 3 ∷ 4 ∷ 5 ∷ 6 ∷ 7 ∷ []) ≡ 1 ∷ 1 ∷ 1 ∷ 1 ∷ 1 ∷ 1 ∷ 1 ∷ 0 ∷ []
unfolding refs structure contents of_table sum_below mapping_of raw_entry be of_pieces image image_fields
references = refl
