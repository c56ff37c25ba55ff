use Rattle.std.proofs.Common.{refl}
use Rattle.imago_formats.proofs.Quiet.{at_once_same, writes_same, writing_same}
use Rattle.imago_formats.proofs.vmdk.driver.VmdkFormatDriverInstance.write_mapped.Goals as goal

pub returns-clause-writes : goal.returns-clause-writes
returns-clause-writes g c = writes_same _ c.args._guest c.args._place c.args.bytes.now c.check_change.result c.args.self.now c.check_change.ensures.ok

pub returns-clause-early_outcome : goal.returns-clause-early_outcome
returns-clause-early_outcome g c = at_once_same _ c.args._guest _ c.check_change.result c.args.self.now refl c.check_change.ensures.ok c.check_change.ensures.err

pub returns-clause-refused : goal.returns-clause-refused
returns-clause-refused g c = writing_same _ c.args._guest c.args._place _ c.check_change.result c.args.self.now refl c.check_change.ensures.err
