use Rattle.qimg_core.specs.Searches.{is_such}
use Rattle.qimg_core.proofs.Names.Searches.{first-of-cells, first-of-both}
use Rattle.qimg_core.proofs.check.search.first_such.Goals as goal

pub returns-in-Some : goal.returns-in-Some
returns-in-Some c = first-of-cells (is_such c.args.question c.args.names.now) c.args.low _ c.cells_end.result c.args.high c.cells_end.ensures.inside c.cells_end.ensures.below c.in-Some.cluster c.in-Some.ensures

pub returns-in-None : goal.returns-in-None
returns-in-None c = first-of-both (is_such c.args.question c.args.names.now) c.args.low _ c.cells_end.result c.args.high c.cells_end.ensures.inside c.cells_end.ensures.below _ c.first_entry.result c.max.ensures c.in-None.ensures c.first_entry.ensures
