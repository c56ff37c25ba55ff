use Rattle.std.proofs.Common.{arith, refl, sym}
use Rattle.std.proofs.lemmas.List.{get_or_past}
use Rattle.qimg_core.specs.Names.{no_few_times, cell_at}
use Rattle.qimg_core.proofs.check.names.cell_of.Goals as goal

pub returns-then-cluster-cells : goal.returns-then-cluster-cells
unfolding cell_at
returns-then-cluster-cells c = refl

pub returns-else-cluster-cells : goal.returns-else-cluster-cells
unfolding cell_at
returns-else-cluster-cells c = sym (get_or_past c.args.cells.now c.args.cluster no_few_times (omega (arith, c.if-cluster-cells.false)))
