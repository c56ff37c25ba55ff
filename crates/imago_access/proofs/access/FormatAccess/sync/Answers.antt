use Rattle.std.proofs.Common.{◌≡◌, map}
use Rattle.std.specs.Prelude.{IsOk}
use Rattle.imago_access.specs.Layers.{layers}
use Rattle.imago_access.specs.Files.{HadNoResourceError}
use Rattle.imago_access.specs.Stops.{Left, GivesNone}
use Rattle.imago_access.proofs.Stopping.{passes_none}
use Rattle.imago_access.proofs.Answers.{ok_holds, ok_whole}
use Rattle.imago_access.proofs.Running.{went_weaker}
use Rattle.imago_access.proofs.Untouched.{ran_kept}
use Rattle.imago_access.proofs.access.FormatAccess.sync.Goals as goal
use Rattle.imago_access.specs.Running.{below_ghosts}

pub returns-clause-range_change : goal.returns-clause-range_change
returns-clause-range_change g c = let d = g.D.DriverModel in
    let old = c.self.inside.driver in
    let new = c.sync.new.self in
    let under = layers c.self.inside.below in
    rw (← c.self.view_is) (ran_kept d (below_ghosts d) (IsOk c.sync.result) GivesNone old new under c.sync.ensures.keeps_layer_state.size (went_weaker d (HadNoResourceError c.sync.result) (HadNoResourceError c.sync.result) (IsOk c.sync.result) (IsOk c.sync.result) old new (ok_whole c.sync.result) (ok_whole c.sync.result) c.sync.ensures.mutating_call)
    (λ ok intact. ok_holds c.sync.result (d.layer new ≡ d.layer old) ok c.sync.ensures.same)
    (λ intact. let kept = c.sync.ensures.unchanged_but_faults.0.0 in passes_none (Left (map d.layer under) (d.layer old) (d.image old).bytes d.sound (d.layer old).size (d.layer old).size GivesNone) (d.image old) (d.image new) kept.shape (kept.crash_image, kept.past_crash_images, kept.bytes, kept.refusals)))
