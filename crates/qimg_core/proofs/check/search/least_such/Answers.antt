use Rattle.qimg_core.specs.Searches.{is_such}
use Rattle.qimg_core.proofs.Names.Searches.{over-all}
use Rattle.qimg_core.proofs.check.search.least_such.Goals as goal

pub returns : goal.returns
returns c = over-all (is_such c.args.question c.args.names.now) c.first_such.result c.first_such.ensures
