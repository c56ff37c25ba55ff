use Rattle.std.proofs.Common.{subst}
use Rattle.std.specs.Prelude.{Some, IfSome}
use Rattle.qimg_core.specs.Searches.{IsListed, IsCut, IsFrom}
use Rattle.qimg_core.proofs.Names.Searches.{along-cuts}
use Rattle.qimg_core.proofs.check.search.way_of.Goals as goal

pub returns : goal.returns
returns c n cuts = along-cuts c.args.others.now n _ c.next_in-3.result c.lesser-other.result c.next_in.result c.next_in-2.result c.lesser.ensures.below c.lesser.ensures.is c.lesser-other.ensures.below c.lesser-other.ensures.is
    (subst (λ l. IsCut l n (Some n) c.args.structure → IsCut l n c.next_in-3.result c.args.structure × IsFrom n c.next_in-3.result) c.deref-3.ensures.value (c.next_in-3.ensures.next n) cuts.structure_cut)
    (subst (λ l. IsCut l n (Some n) c.args.mapped → IsCut l n c.next_in.result c.args.mapped × IsFrom n c.next_in.result) c.deref.ensures.value (c.next_in.ensures.next n) cuts.mapped_cut)
    (subst (λ l. IsCut l n (Some n) c.args.copied → IsCut l n c.next_in-2.result c.args.copied × IsFrom n c.next_in-2.result) c.deref-2.ensures.value (c.next_in-2.ensures.next n) cuts.copied_cut)
    (subst (λ l. IfSome c.next_in-3.result (IsListed l)) c.deref-3.ensures.value c.next_in-3.ensures.named)
    (subst (λ l. IfSome c.next_in.result (IsListed l)) c.deref.ensures.value c.next_in.ensures.named)
    (subst (λ l. IfSome c.next_in-2.result (IsListed l)) c.deref-2.ensures.value c.next_in-2.ensures.named)
