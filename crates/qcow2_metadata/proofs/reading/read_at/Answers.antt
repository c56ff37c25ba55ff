use Rattle.imago_storage.proofs.Once.{read-counted}
use Rattle.qcow2_metadata.proofs.reading.read_at.Goals as goal

pub returns-clause-faults : goal.returns-clause-faults
returns-clause-faults g c = read-counted c.read.result _ _ c.args.offset _ c.read.ensures.unit c.requires c.read.ensures.faults c.read.ensures.err
