use Rattle.std.proofs.Common.{map}
use Rattle.std.specs.Prelude.{IsOk}
use Rattle.imago_access.specs.Layers.{layers}
use Rattle.imago_access.specs.Files.{HadNoResourceError}
use Rattle.imago_access.specs.Stops.{GivesNone}
use Rattle.imago_access.proofs.Answers.{ok_holds, ok_whole}
use Rattle.imago_access.proofs.Running.{went_weaker}
use Rattle.imago_access.proofs.Untouched.{ran_kept}
use Rattle.imago_access.proofs.access.FormatAccess.flush.Goals as goal
use Rattle.imago_access.specs.Running.{below_ghosts}

pub returns-clause-range_change : goal.returns-clause-range_change
returns-clause-range_change g c = let d = g.D.DriverModel in
    let old = c.self.inside.driver in
    let new = c.flush.new.self in
    let under = layers c.self.inside.below in
    rw (← c.self.view_is) (ran_kept d (below_ghosts d) (IsOk c.flush.result) GivesNone old new under c.flush.ensures.keeps_layer_state.size (went_weaker d (HadNoResourceError c.flush.result) (HadNoResourceError c.flush.result) (IsOk c.flush.result) (IsOk c.flush.result) old new (ok_whole c.flush.result) (ok_whole c.flush.result) c.flush.ensures.mutating_call)
    (λ ok intact. (ok_holds c.flush.result _ ok (c.flush.ensures.coherent (g.met.D.FormatDriverInstance.well_formed_is_coherent old intact.is_well_formed))).0)
    (λ intact. c.flush.ensures.crash_images intact.is_well_formed (map d.layer under)))
