use Rattle.std.proofs.Common.{arith, refl, sym, subst, ◌∙◌, IsSome, true≢false}
use Rattle.std.proofs.lemmas.List.{get_or_default}
use Rattle.std.proofs.lemmas.Result.{on_ok_weaker}
use Rattle.qimg_core.specs.Names.{HasRoom, HasRoomAt, no_few_times, cell_at}
use Rattle.qimg_core.proofs.Names.Clusters.{adds-in-cell, adds-in-entry}
use Rattle.qimg_core.proofs.check.names.reference_cluster.Goals as goal
use Rattle.qimg_core.proofs.check.names.reference_cluster.Goals.{then-cluster-len+in_default, else-cluster-len}

pub returns-in-Some-clause-ok : goal.returns-in-Some-clause-ok
returns-in-Some-clause-ok c = adds-in-cell c.args.names.now _ c.args.cluster c.args.times c.index.result.now c.in-Some.cell (omega (arith, c.len.ensures, c.args.names.now.cells.ok, c.if-cluster-len.true)) c.index.ensures c.in-Some.ensures.sum refl refl

pub returns-clause-ok : goal.returns-clause-ok
unfolding cell_at
returns-clause-ok c =
    let full : HasRoomAt c.args.names.now c.args.cluster c.args.times → ⊥ = elim c.if-cluster-len.branch [
      | then-cluster-len+in_default w ↦ λ fits. true≢false (sym (subst IsSome w.in_default.is (w.cell_with.ensures.room (subst (λ n. HasRoom n c.args.times) (sym (w.index.ensures ∙ get_or_default _ _ _ no_few_times fits.0)) fits.1))))
      | else-cluster-len w ↦ λ fits. omega (arith, fits.0, c.len.ensures, c.args.names.now.cells.ok, w.if-cluster-len.false)
    ] in
    on_ok_weaker c.enter_other.result (λ adds. adds-in-entry c.args.names.now _ c.args.cluster c.args.times full adds refl) c.enter_other.ensures.ok

pub returns-clause-room : goal.returns-clause-room
unfolding cell_at
returns-clause-room c = elim c.if-cluster-len.branch [
  | then-cluster-len+in_default w ↦ λ fits. absurd (true≢false (sym (subst IsSome w.in_default.is (w.cell_with.ensures.room (subst (λ n. HasRoom n c.args.times) (sym (w.index.ensures ∙ get_or_default _ _ _ no_few_times fits.0)) fits.1)))))
  | else-cluster-len w ↦ λ fits. absurd (omega (arith, fits.0, c.len.ensures, c.args.names.now.cells.ok, w.if-cluster-len.false))
]
