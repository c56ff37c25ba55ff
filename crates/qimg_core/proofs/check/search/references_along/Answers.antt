use Rattle.std.proofs.Common.{◌+◌, arith, ap, ◌∙◌, ◌≢◌}
use Rattle.std.specs.Prelude.{Some}
use Rattle.std.proofs.lemmas.Grind.{common_steps}
use Rattle.qimg_core.specs.declared.check.names.Times.{Times}
use Rattle.qimg_core.specs.Names.{cell_at}
use Rattle.qimg_core.proofs.Names.Clusters.{cell-alone}
use Rattle.qimg_core.proofs.Names.Searches.{along-none, along-other}
use Rattle.qimg_core.proofs.check.search.references_along.Goals as goal

pub returns-clause-value : goal.returns-clause-value
returns-clause-value c =
    let other : c.args.way.now.next ≢ Some c.args.cluster = λ is. grind (arith, common_steps) in
    let passed = along-other c.args.names.now.others c.args.cluster c.args.way.now other c.requires.along in
    ap (λ (n : Times). n.structure + n.mapped) (cell-alone c.args.names.now c.args.cluster _ (c.cell_of-cell.ensures ∙ ap (λ l. cell_at l c.args.cluster) c.deref.ensures.value) (along-none c.args.names.now.others c.args.cluster c.args.cluster c.args.way.now (omega arith) passed.0 c.requires.along))

pub returns-clause-along : goal.returns-clause-along
returns-clause-along c =
    let other : c.args.way.now.next ≢ Some c.args.cluster = λ is. grind (arith, common_steps) in
    (along-other c.args.names.now.others c.args.cluster c.args.way.now other c.requires.along).1
