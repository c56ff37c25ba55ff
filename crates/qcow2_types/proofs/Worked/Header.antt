-- The header of the worked image loads for writing.
use Rattle.std.proofs.Common.{◌≡◌, refl}
use Rattle.std.specs.Prelude.{Ok, true}
use Rattle.std.specs.Str.{is_utf8, chars}
use Rattle.std.specs.Char.{encode_utf8}
use Rattle.qcow2_types.specs.Bytes.{be, run}
use Rattle.qcow2_types.specs.WorkedImage.{of_pieces, image, image_fields, image_header}
use Rattle.qcow2_types.specs.Header.{fields_of, header_of, texts_of, extensions_at, extension_at}

pub header_pieces : header_of true (of_pieces image) ≡ Ok image_header
unfolding header_of texts_of extensions_at extension_at fields_of be run of_pieces image image_header image_fields is_utf8 chars encode_utf8
header_pieces = refl
