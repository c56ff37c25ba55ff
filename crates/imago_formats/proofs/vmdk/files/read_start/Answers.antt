use Rattle.std.proofs.Common.{arith}
use Rattle.imago_storage.proofs.Once.{read-counted}
use Rattle.imago_formats.proofs.vmdk.files.read_start.Goals as goal

pub returns-clause-faults : goal.returns-clause-faults
returns-clause-faults g c = read-counted c.read.result _ _ 0 _ c.read.ensures.unit (omega (arith, c.requires)) c.read.ensures.faults c.read.ensures.err
