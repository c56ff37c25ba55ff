use Rattle.std.proofs.Common.{ap, subst, ◌+◌, ◌∙◌}
use Rattle.std.specs.Prelude.{Some}
use Rattle.qimg_core.specs.Names.{cell_at, weight_of}
use Rattle.qimg_core.specs.Searches.{IsCut}
use Rattle.qimg_core.proofs.Names.Clusters.{together-is}
use Rattle.qimg_core.proofs.check.search.times_listed.Goals as goal

pub returns-clause-value : goal.returns-clause-value
returns-clause-value c = together-is c.args.names.now c.args.cluster _ _ _ _ (c.cell_of-cell.ensures ∙ ap (λ l. cell_at l c.args.cluster) c.deref.ensures.value) (c.weight_from-structure.ensures.value ∙ ap (λ l. weight_of l c.args.cluster) c.deref-2.ensures.value) (c.weight_from-mapped.ensures.value ∙ ap (λ l. weight_of l c.args.cluster) c.deref-3.ensures.value) (c.weight_from-copied.ensures.value ∙ ap (λ l. weight_of l c.args.cluster) c.deref-4.ensures.value)

pub returns-clause-along : goal.returns-clause-along
returns-clause-along c = c.way_of.ensures (c.args.cluster + 1) (record {
  structure_cut = subst (λ l. IsCut l (c.args.cluster + 1) (Some (c.args.cluster + 1)) c.weight_from-structure.new.cut) c.deref-2.ensures.value c.weight_from-structure.ensures.cut;
  mapped_cut = subst (λ l. IsCut l (c.args.cluster + 1) (Some (c.args.cluster + 1)) c.weight_from-mapped.new.cut) c.deref-3.ensures.value c.weight_from-mapped.ensures.cut;
  copied_cut = subst (λ l. IsCut l (c.args.cluster + 1) (Some (c.args.cluster + 1)) c.weight_from-copied.new.cut) c.deref-4.ensures.value c.weight_from-copied.ensures.cut;
})
