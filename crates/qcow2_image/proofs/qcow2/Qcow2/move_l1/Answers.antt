use Rattle.std.proofs.Common.{sym, subst, refl, Result}
use Rattle.imago_storage.specs.declared.fault.Fault.{Fault}
use Rattle.qcow2_image.specs.Allocating.{Begins}
use Rattle.qcow2_image.specs.Resizing.{MovesL1}
use Rattle.qcow2_image.specs.declared.qcow2.Qcow2.{Qcow2}
use Rattle.qcow2_image.proofs.CallStarts.{changed-begins}
use Rattle.qcow2_image.proofs.ClusterSteps.{lengthened}
use Rattle.qcow2_image.proofs.qcow2.Qcow2.move_l1.Goals as goal

pub returns-clause-moves : goal.returns-clause-moves
returns-clause-moves g c =
    let old = c.args.self.now in
    let longer = c.lengthen_l1-longer in
    subst (λ (r : Result Unit Fault). MovesL1 g.S.Storage c.args.index old r c.mark_change_fault.new.self) (sym c.mark_change_fault.ensures.same)
    (subst (λ (d : Qcow2 g.row.S.Denot g.S.Storage). MovesL1 g.S.Storage c.args.index old longer.result d) (sym c.mark_change_fault.ensures.marks_failed)
    (lengthened g.S.Storage old longer.new.begun _ c.in-Some.space longer.new.space c.drop_cached-dropped.new.caches c.args.index c.in-Some.is refl
    c.requires.free longer.result longer.ensures.lengthens))

pub returns-clause-begins : goal.returns-clause-begins
returns-clause-begins g c =
    let old = c.args.self.now in
    let longer = c.lengthen_l1-longer in
    let was = c.args.begun.now in
    let now = longer.new.begun in
    subst (λ (r : Result Unit Fault). Begins g.S.Storage was old r now c.mark_change_fault.new.self) (sym c.mark_change_fault.ensures.same)
    (subst (λ (d : Qcow2 g.row.S.Denot g.S.Storage). Begins g.S.Storage was old longer.result now d) (sym c.mark_change_fault.ensures.marks_failed)
    (changed-begins g.S.Storage was now old _ c.in-Some.space longer.new.space c.drop_cached-dropped.new.caches longer.result c.in-Some.is refl
    longer.ensures.lengthens.counts_not_fallen longer.ensures.lengthens.faults longer.ensures.lengthens.empty longer.ensures.untouched_unless_begun))
