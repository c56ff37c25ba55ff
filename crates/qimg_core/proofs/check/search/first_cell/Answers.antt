use Rattle.std.proofs.Common.{arith}
use Rattle.qimg_core.specs.Names.{all_times}
use Rattle.qimg_core.specs.Searches.{is_such}
use Rattle.qimg_core.proofs.Names.Searches.{such-is, none-at-start, none-next, first-here}
use Rattle.qimg_core.proofs.check.search.first_cell.Goals as goal

pub loop-cluster-init : goal.loop-cluster-init
loop-cluster-init c = (none-at-start (is_such c.args.question c.args.names.now) c.args.low, c.way_from-way.ensures)

pub loop-cluster-preserved : goal.loop-cluster-preserved
loop-cluster-preserved c = (none-next (is_such c.args.question c.args.names.now) c.args.low c.loop-cluster.cluster c.loop-cluster.invariant.0 (such-is c.args.question c.args.names.now c.loop-cluster.cluster (all_times c.times_along.result) c.times_along.ensures.value c.passes.ensures c.if-passes.false), c.times_along.ensures.along)

pub returns-then-passes : goal.returns-then-passes
returns-then-passes c = first-here (is_such c.args.question c.args.names.now) c.args.low c.loop-cluster.cluster _ c.loop-cluster.auto.cluster c.loop-cluster-test.true c.loop-cluster.invariant.0 (such-is c.args.question c.args.names.now c.loop-cluster.cluster (all_times c.times_along.result) c.times_along.ensures.value c.passes.ensures c.if-passes.true)

pub returns : goal.returns
returns c = record { none = λ d le lt. c.loop-cluster.invariant.0.none d le (omega (arith, lt, c.loop-cluster-test.false)) }
