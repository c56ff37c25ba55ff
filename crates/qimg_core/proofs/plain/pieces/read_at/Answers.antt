use Rattle.imago_storage.proofs.Once.{read-counted}
use Rattle.qimg_core.proofs.plain.pieces.read_at.Goals as goal

pub returns-clause-faults : goal.returns-clause-faults
returns-clause-faults g c = read-counted c.read.result _ _ c.args.at _ c.read.ensures.unit c.requires c.read.ensures.faults c.read.ensures.err
