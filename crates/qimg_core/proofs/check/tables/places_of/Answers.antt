use Rattle.std.proofs.Common.{sym, subst}
use Rattle.qimg_core.specs.CheckParts.{HasHeader}
use Rattle.qimg_core.proofs.Calls.{kept-file}
use Rattle.qimg_core.proofs.check.tables.places_of.Goals as goal

pub block_places-requires : goal.block_places-requires
block_places-requires g c = record { loads = subst (λ f. HasHeader f c.args.header.now) (sym (kept-file _ _ c.in_ok-tables.ensures.unchanged_but_faults)) c.requires.loads }
