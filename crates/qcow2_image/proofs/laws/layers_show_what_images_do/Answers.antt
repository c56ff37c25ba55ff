use Rattle.qcow2_image.proofs.Preparations.PlaceContents.{shows-the-file, size-of-file}
use Rattle.qcow2_image.proofs.laws.layers_show_what_images_do.Goals as goal

pub returns-clause-size : goal.returns-clause-size
returns-clause-size c = size-of-file

pub returns-clause-shown : goal.returns-clause-shown
returns-clause-shown c = shows-the-file
