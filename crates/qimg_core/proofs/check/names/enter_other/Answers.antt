use Rattle.std.proofs.lemmas.Result.{on_ok_weaker}
use Rattle.qimg_core.proofs.Names.Clusters.{adds-entry}
use Rattle.qimg_core.proofs.check.names.enter_other.Goals as goal

pub returns-clause-ok : goal.returns-clause-ok
returns-clause-ok c = on_ok_weaker c.enter-3.result (λ copied. adds-entry c.args.others.now _ c.args.cluster c.args.times c.in_ok-enter.ensures.ok c.in_ok-enter-2.ensures.ok copied) c.enter-3.ensures.ok
