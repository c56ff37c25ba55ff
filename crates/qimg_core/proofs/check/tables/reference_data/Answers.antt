use Rattle.std.proofs.Common.{◌+◌, subst}
use Rattle.std.proofs.lemmas.Result.{on_ok_weaker}
use Rattle.qimg_core.specs.Names.{AddsClusters}
use Rattle.qimg_core.proofs.Names.Ranges.{adds-data}
use Rattle.qimg_core.proofs.check.tables.reference_data.Goals as goal
use Rattle.qimg_core.proofs.check.tables.reference_data.Goals.{then-copied, else-copied}

pub returns-clause-ok : goal.returns-clause-ok
returns-clause-ok c = λ h.
    on_ok_weaker c.reference_cluster.result
    (λ adds. adds-data c.args.names.now c.reference_cluster.new.names c.args.cluster c.args.times c.if-copied.times c.args.copied (elim c.if-copied.branch [
      | then-copied w ↦ rw w.if-copied.true w.times-is
      | else-copied w ↦ rw w.if-copied.false w.times-is
    ]) (subst (λ k. AddsClusters c.args.names.now c.reference_cluster.new.names k (k + 1) (record { structure = 0; mapped = c.args.times; copied = c.if-copied.times })) c.cluster.view_is adds) h)
    c.reference_cluster.ensures.ok
