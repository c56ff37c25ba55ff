use Rattle.qimg_core.proofs.Names.Clusters.{no-names, no-others}
use Rattle.qimg_core.proofs.check.names.no_references.Goals as goal

pub returns-clause-ok : goal.returns-clause-ok
returns-clause-ok c = no-names _ c.args.count (c.in_ok-vec.ensures.items_if_clones_equal (λ y e. e)) c.new.ensures.items c.new-2.ensures.items c.new-3.ensures.items

pub returns-clause-spares : goal.returns-clause-spares
returns-clause-spares c = λ cluster lt fits. no-others _ cluster c.new.ensures.items c.new-2.ensures.items c.new-3.ensures.items
