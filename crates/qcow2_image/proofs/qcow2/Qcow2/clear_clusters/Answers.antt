use Rattle.std.proofs.Common.{sym, subst, Result}
use Rattle.imago_storage.specs.declared.fault.Fault.{Fault}
use Rattle.qcow2_image.specs.Allocating.{Begins}
use Rattle.qcow2_image.specs.Clearing.{ClearsClusters}
use Rattle.qcow2_image.specs.declared.qcow2.Qcow2.{Qcow2}
use Rattle.qcow2_image.proofs.Clearings.TableClears.{clears-begins, clears-clusters}
use Rattle.qcow2_image.proofs.qcow2.Qcow2.clear_clusters.Goals as goal

pub returns-clause-clears : goal.returns-clause-clears
returns-clause-clears g c =
    let old = c.args.self.now in
    let a = c.args in
    let cleared = c.clear_tables-cleared in
    subst (λ (r : Result Unit Fault). ClearsClusters g.S.Storage a.clearing a.table a.guest a.count old r c.mark_change_fault.new.self) (sym c.mark_change_fault.ensures.same)
    (subst (λ (d : Qcow2 g.row.S.Denot g.S.Storage). ClearsClusters g.S.Storage a.clearing a.table a.guest a.count old cleared.result d) (sym c.mark_change_fault.ensures.marks_failed)
    (clears-clusters g.S.Storage a.clearing a.table a.guest a.count cleared.new.begun old _ cleared.result cleared.ensures.clears))

pub returns-clause-begins : goal.returns-clause-begins
returns-clause-begins g c =
    let old = c.args.self.now in
    let cleared = c.clear_tables-cleared in
    let was = c.args.begun.now in
    let now = cleared.new.begun in
    subst (λ (r : Result Unit Fault). Begins g.S.Storage was old r now c.mark_change_fault.new.self) (sym c.mark_change_fault.ensures.same)
    (subst (λ (d : Qcow2 g.row.S.Denot g.S.Storage). Begins g.S.Storage was old cleared.result now d) (sym c.mark_change_fault.ensures.marks_failed)
    (clears-begins g.S.Storage was now old _ cleared.result cleared.ensures.begins))
