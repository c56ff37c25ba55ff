use Rattle.std.proofs.Common.{refl, ap, sym, ◌∙◌}
use Rattle.qcow2_alloc.specs.FreeList.{FreeList}
use Rattle.qcow2_image.proofs.ClusterSteps.{loaded, none-there, unloaded}
use Rattle.qcow2_image.proofs.qcow2.Qcow2.load_space.Goals as goal

pub returns-in-Ok : goal.returns-in-Ok
returns-in-Ok g c =
    loaded g.S.Storage c.args.self.now _ c.in-Ok.space (none-there c.args.self.now.tables.space (sym c.is_some.ensures ∙ c.if-is_some.false)) refl
    refl refl refl refl refl refl c.in-Ok.ensures.header c.in-Ok.ensures.loads (ap (λ (l : FreeList). l.entries) c.in-Ok.ensures.empty)

pub returns-in-Err : goal.returns-in-Err
returns-in-Err g c =
    unloaded g.S.Storage c.args.self.now c.mark.new.self c.in-Err.fault _ c.mark.ensures
    (none-there c.args.self.now.tables.space (sym c.is_some.ensures ∙ c.if-is_some.false)) c.in-Err.ensures.header refl refl refl c.in-Err.ensures.loads
