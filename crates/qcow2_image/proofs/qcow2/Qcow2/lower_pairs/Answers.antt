use Rattle.std.proofs.Common.{refl, sym, subst, Result}
use Rattle.imago_storage.specs.declared.fault.Fault.{Fault}
use Rattle.qcow2_image.specs.Repairing.{LowersPairs}
use Rattle.qcow2_image.specs.declared.qcow2.Qcow2.{Qcow2}
use Rattle.qcow2_image.proofs.ImageLoans.{space-lent}
use Rattle.qcow2_image.proofs.LeakChanges.LoweredCounts.{pairs-lowered, pairs-spaceless}
use Rattle.qcow2_image.proofs.qcow2.Qcow2.lower_pairs.Goals as goal

pub returns-in_default : goal.returns-in_default
returns-in_default g c = pairs-spaceless g.S.Storage c.args.leaks.now c.args.self.now _ c.in_default.is (space-lent c.args.self.now.tables _ _ _ refl)

pub returns : goal.returns
returns g c =
    let old = c.args.self.now in
    let pairs = c.args.leaks.now in
    let lowered = c.lower_leaks-lowered in
    subst (λ (r : Result Unit Fault). LowersPairs g.S.Storage pairs old r c.mark_change_fault.new.self) (sym c.mark_change_fault.ensures.same)
    (subst (λ (d : Qcow2 g.row.S.Denot g.S.Storage). LowersPairs g.S.Storage pairs old lowered.result d) (sym c.mark_change_fault.ensures.marks_failed)
    (pairs-lowered g.S.Storage pairs old _ c.in-Some.space lowered.new.space c.drop_cached-dropped.new.caches lowered.result c.in-Some.is refl refl
    c.requires.free lowered.ensures))
