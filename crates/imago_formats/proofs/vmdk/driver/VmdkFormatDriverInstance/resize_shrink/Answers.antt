use Rattle.std.proofs.Common.{rules}
use Rattle.imago_formats.proofs.Quiet.{resizes_same, shrink_refused, shrinks_same}
use Rattle.imago_formats.proofs.vmdk.driver.VmdkFormatDriverInstance.resize_shrink.Goals as goal

pub returns-clause-resizes : goal.returns-clause-resizes
returns-clause-resizes g c =
    resizes_same _ _ c.args.size c.saturating_sub.result c.check_change.result c.args.self.now (search rules) (search rules)
    c.check_change.ensures.ok c.check_change.ensures.err

pub returns-clause-shrinks : goal.returns-clause-shrinks
returns-clause-shrinks g c =
    shrinks_same _ c.args.size c.saturating_sub.result c.check_change.result c.args.self.now (search rules) c.check_change.ensures.ok

pub returns-clause-refused : goal.returns-clause-refused
returns-clause-refused g c =
    shrink_refused _ c.args.size c.saturating_sub.result c.check_change.result c.args.self.now (search rules) (search rules) c.check_change.ensures.err
