use Rattle.std.proofs.Common.{◌<◌, subst, sym}
use Rattle.qimg_core.specs.Names.{all_times}
use Rattle.qimg_core.specs.Searches.{is_such}
use Rattle.qimg_core.proofs.Names.Searches.{IsAhead, ahead-first, ahead-next, along-at, left, left-less, such-is, none-until, none-bounded, first-here}
use Rattle.qimg_core.proofs.check.search.first_entry.Goals as goal

pub loop-way-init : goal.loop-way-init
loop-way-init c = (
  ahead-first c.args.question c.args.names.now c.args.low c.way_from-way.result c.requires.after_structure c.way_from-way.ensures,
  λ n is. along-at c.args.names.now.others c.args.low n c.way_from-way.result is c.way_from-way.ensures,
)

pub times_along-requires-clause-along : goal.times_along-requires-clause-along
times_along-requires-clause-along c = c.loop-way.invariant.1 c.in-Some.cluster c.in-Some.is

pub returns-then-is_past : goal.returns-then-is_past
returns-then-is_past c = none-until (is_such c.args.question c.args.names.now) c.args.low c.in-Some.cluster c.args.high (c.is_past.ensures.past c.if-is_past.true) (subst (IsAhead c.args.question c.args.names.now c.args.low) c.in-Some.is c.loop-way.invariant.0).0

pub returns-then-passes : goal.returns-then-passes
returns-then-passes c =
    let ahead = subst (IsAhead c.args.question c.args.names.now c.args.low) c.in-Some.is c.loop-way.invariant.0 in
    first-here (is_such c.args.question c.args.names.now) c.args.low c.in-Some.cluster c.args.high ahead.1.0 (c.is_past.ensures.below c.if-is_past.false) ahead.0
    (such-is c.args.question c.args.names.now c.in-Some.cluster (all_times c.times_along.result) c.times_along.ensures.value c.passes.ensures c.if-passes.true)

pub loop-way-preserved : goal.loop-way-preserved
loop-way-preserved c = (
  ahead-next c.args.question c.args.names.now c.args.low c.in-Some.cluster c.times_along.new.way c.requires.after_structure (subst (IsAhead c.args.question c.args.names.now c.args.low) c.in-Some.is c.loop-way.invariant.0)
      (such-is c.args.question c.args.names.now c.in-Some.cluster (all_times c.times_along.result) c.times_along.ensures.value c.passes.ensures c.if-passes.false) c.times_along.ensures.along,
  λ n is. along-at c.args.names.now.others _ n c.times_along.new.way is c.times_along.ensures.along,
)

pub loop-way-smaller : goal.loop-way-smaller
loop-way-smaller c =
    subst (λ o. left c.times_along.new.way.next < left o) (sym c.in-Some.is)
    (left-less c.in-Some.cluster c.times_along.new.way.next c.times_along.ensures.along.from)

pub returns : goal.returns
returns c = none-bounded (is_such c.args.question c.args.names.now) c.args.low c.args.high (subst (IsAhead c.args.question c.args.names.now c.args.low) c.in_default.is c.loop-way.invariant.0).0
