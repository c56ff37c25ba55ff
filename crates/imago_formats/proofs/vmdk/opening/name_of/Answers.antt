use Rattle.std.proofs.Common.{Some}
use Rattle.imago_formats.proofs.ExtentLemmas.{names_from, past_name}
use Rattle.imago_formats.proofs.vmdk.opening.name_of.Goals as goal

pub loop-extent-preserved : goal.loop-extent-preserved
loop-extent-preserved c =
    past_name _ _ _ c.in-Some.name.now c.args.before c.loop-extent.left c.loop-extent.invariant
    (names_from c.args.extents.now c.loop-extent.extent-index c.extent-item.result (Some c.in-Some.name.now) c.loop-extent-test.true c.extent-item.is c.in-Some.ensures.name)
    c.if-left-eq0.false
