use Rattle.imago_storage.proofs.Parts.{read_later}
use Rattle.imago_storage.proofs.ext.AnyStorageExt.read.Goals as goal

pub returns-clause-counts_not_fallen : goal.returns-clause-counts_not_fallen
returns-clause-counts_not_fallen g c = read_later _ _ _ _ c.read_padded.result c.read_padded.ensures.unchanged_but_faults c.read_padded.ensures.faults c.read_padded.ensures.err
