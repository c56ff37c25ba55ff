use Rattle.imago_storage.proofs.Parts.{stops_of, as_long_of, shape_of, later_of}
use Rattle.imago_storage.proofs.Trying.{as-write}
use Rattle.imago_storage.proofs.ext.AnyStorageExt.try_write.Goals as goal

pub returns-clause-crash_images : goal.returns-clause-crash_images
returns-clause-crash_images g c =
    let w = as-write _ _ _ _ c.write_padded.result c.write_padded.ensures.ok c.write_padded.ensures.err in stops_of _ _ _ _ _ _ w.0 w.1 w.2

pub returns-clause-shape : goal.returns-clause-shape
returns-clause-shape g c =
    let w = as-write _ _ _ _ c.write_padded.result c.write_padded.ensures.ok c.write_padded.ensures.err in shape_of _ _ _ _ _ _ w.0 w.1 w.2

pub returns-clause-counts_not_fallen : goal.returns-clause-counts_not_fallen
returns-clause-counts_not_fallen g c =
    let w = as-write _ _ _ _ c.write_padded.result c.write_padded.ensures.ok c.write_padded.ensures.err in later_of _ _ _ _ _ _ w.0 w.1 w.2

pub returns-clause-as_long : goal.returns-clause-as_long
returns-clause-as_long g c =
    let w = as-write _ _ _ _ c.write_padded.result c.write_padded.ensures.ok c.write_padded.ensures.err in as_long_of _ _ _ _ _ _ w.0 w.1 w.2
