use Rattle.std.proofs.Common.{subst}
use Rattle.std.specs.Prelude.{Some}
use Rattle.qimg_core.specs.Searches.{IsCut}
use Rattle.qimg_core.proofs.check.search.way_from.Goals as goal

pub returns : goal.returns
returns c = c.way_of.ensures c.args.low (record {
  structure_cut = subst (λ l. IsCut l c.args.low (Some c.args.low) c.cut_at-structure.result) c.deref.ensures.value c.cut_at-structure.ensures;
  mapped_cut = subst (λ l. IsCut l c.args.low (Some c.args.low) c.cut_at-mapped.result) c.deref-2.ensures.value c.cut_at-mapped.ensures;
  copied_cut = subst (λ l. IsCut l c.args.low (Some c.args.low) c.cut_at-copied.result) c.deref-3.ensures.value c.cut_at-copied.ensures;
})
