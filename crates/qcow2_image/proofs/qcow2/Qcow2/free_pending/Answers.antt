use Rattle.std.proofs.Common.{refl, sym, subst, Result, ◌∙◌}
use Rattle.imago_storage.specs.declared.fault.Fault.{Fault}
use Rattle.qcow2_image.specs.Allocating.{FreesPending}
use Rattle.qcow2_image.specs.declared.qcow2.Qcow2.{Qcow2}
use Rattle.qcow2_image.proofs.ClusterSteps.{freed, none-freed, none-waits}
use Rattle.qcow2_image.proofs.qcow2.Qcow2.free_pending.Goals as goal

pub returns-then-not-has_pending_frees : goal.returns-then-not-has_pending_frees
returns-then-not-has_pending_frees g c = none-freed g.S.Storage c.args.self.now (sym c.has_pending_frees.ensures ∙ c.if-not-has_pending_frees.true)

pub returns-in_default : goal.returns-in_default
returns-in_default g c = absurd (none-waits c.args.self.now.tables.space c.in_default.is (sym c.has_pending_frees.ensures ∙ c.if-not-has_pending_frees.false))

pub returns : goal.returns
returns g c =
    let old = c.args.self.now in
    subst (λ (r : Result Unit Fault). FreesPending g.S.Storage old r c.mark_change_fault.new.self) (sym c.mark_change_fault.ensures.same)
    (subst (λ (d : Qcow2 g.row.S.Denot g.S.Storage). FreesPending g.S.Storage old c.free_pending_clusters-freed.result d) (sym c.mark_change_fault.ensures.marks_failed)
    (freed g.S.Storage old _ c.in-Some.space c.free_pending_clusters-freed.new.space c.drop_cached-dropped.new.caches c.free_pending_clusters-freed.result c.in-Some.is refl refl
    (sym c.has_pending_frees.ensures ∙ c.if-not-has_pending_frees.false) c.free_pending_clusters-freed.ensures))
