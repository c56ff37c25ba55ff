use Rattle.qimg_core.proofs.Names.Searches.{neither}
use Rattle.qimg_core.proofs.check.check_shared.Goals as goal

pub returns-then-is_none-clause-shared : goal.returns-then-is_none-clause-shared
returns-then-is_none-clause-shared c = (neither c.args.names.now c.least_such.result c.if-is_none.ensures c.least_such.ensures).0

pub returns-then-is_none-clause-copied : goal.returns-then-is_none-clause-copied
returns-then-is_none-clause-copied c = (neither c.args.names.now c.least_such.result c.if-is_none.ensures c.least_such.ensures).1
