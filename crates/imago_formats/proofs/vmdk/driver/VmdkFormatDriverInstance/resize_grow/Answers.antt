use Rattle.std.proofs.Common.{rules}
use Rattle.imago_access.specs.Files.{HadNoResourceError}
use Rattle.imago_access.proofs.Looking.{looked_under_same}
use Rattle.imago_formats.proofs.Quiet.{grows_same, growth_refused, resizes_same}
use Rattle.imago_formats.proofs.vmdk.driver.VmdkFormatDriverInstance.resize_grow.Goals as goal

pub returns-clause-resizes : goal.returns-clause-resizes
returns-clause-resizes g c =
    resizes_same _ c.args.size _ c.saturating_sub.result c.check_change.result c.args.self.now (search rules) (search rules)
    c.check_change.ensures.ok c.check_change.ensures.err

pub returns-clause-grows : goal.returns-clause-grows
returns-clause-grows g c =
    grows_same _ g.B.LayersBelowModel c.args.size c.saturating_sub.result c.args._mode c.check_change.result c.args.self.now c.args._below.now (search rules)
    c.check_change.ensures.ok

pub returns-clause-below : goal.returns-clause-below
returns-clause-below g c = looked_under_same g.B.LayersBelowModel (HadNoResourceError c.check_change.result) c.args._below.now

pub returns-clause-refused : goal.returns-clause-refused
returns-clause-refused g c =
    growth_refused _ g.B.LayersBelowModel c.args.size c.saturating_sub.result c.args._mode c.check_change.result c.args.self.now c.args._below.now
    (search rules) (search rules) c.check_change.ensures.err
