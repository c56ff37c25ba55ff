use Rattle.std.proofs.lemmas.Result.{IfErr-weaker}
use Rattle.imago_access.specs.Files.{HadNoResourceError, files_of, files}
use Rattle.imago_access.proofs.Looking.{looked_under_same}
use Rattle.imago_access.proofs.ImageCauses.{failed_left}
use Rattle.imago_access.proofs.Marking.{over_plain}
use Rattle.imago_access.proofs.access.FormatAccess.resize.Goals as goal
use Rattle.imago_access.specs.Running.{below_ghosts}

pub returns-then-size-clause-below : goal.returns-then-size-clause-below
returns-then-size-clause-below g c = let d = g.D.DriverModel in
    rw c.resize_shrink.ensures.below (looked_under_same (below_ghosts d) (HadNoResourceError c.resize_shrink.result) c.args.self.now.1)

pub returns-then-size-clause-failed : goal.returns-then-size-clause-failed
returns-then-size-clause-failed g c = let d = g.D.DriverModel in
    let old = c.args.self.now.0 in let new = c.resize_shrink.new.self.0 in let others = files_of d c.args.self.now.1 in
    rw c.resize_shrink.ensures.below (IfErr-weaker c.resize_shrink.result _ _ (λ e. failed_left (files d old) (files d new) others others e) c.resize_shrink.ensures.failed)

pub returns-then-size-clause-marks_failed : goal.returns-then-size-clause-marks_failed
returns-then-size-clause-marks_failed g c = let d = g.D.DriverModel in
    IfErr-weaker c.resize_shrink.result _ _ (over_plain d c.args.self.now.0 c.resize_shrink.new.self.0) c.resize_shrink.ensures.marks_failed
