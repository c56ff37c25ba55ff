use Rattle.imago_storage.specs.Fault.{cause_of}
use Rattle.imago_storage.proofs.Parts.{mapped}
use Rattle.imago_storage.proofs.Trying.{untold}
use Rattle.imago_storage.proofs.ext.AnyStorageExt.write.Goals as goal

pub returns-clause-err : goal.returns-clause-err
returns-clause-err g c = mapped c.try_write.result c.map_err.result cause_of _ _ _ c.map_err.ensures.cases (untold _ _ _ _) c.try_write.ensures.err
