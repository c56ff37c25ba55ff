use Rattle.std.proofs.lemmas.Result.{IfErr-weaker}
use Rattle.imago_storage.proofs.Parts.{passed}
use Rattle.imago_access.specs.Layers.{layers}
use Rattle.imago_access.specs.Files.{HadNoResourceError, files_of, files}
use Rattle.imago_access.specs.Stops.{GivesBytes}
use Rattle.imago_access.proofs.Running.{ran_same}
use Rattle.imago_access.proofs.MappingCalls.{ran_mapped, write_mapped_cause}
use Rattle.imago_access.proofs.Marking.{plain_mild}
use Rattle.imago_access.specs.Going.{MarksFailed}
use Rattle.imago_access.proofs.access.FormatAccess.write_mapped.Goals as goal
use Rattle.imago_access.specs.Running.{below_ghosts}

pub returns-in_err-check_change-clause-range_change : goal.returns-in_err-check_change-clause-range_change
returns-in_err-check_change-clause-range_change g c = let d = g.D.DriverModel in
    ran_same d (below_ghosts d) (HadNoResourceError c.from_residual.result) (GivesBytes c.args.guest c.args.bytes.now) c.args.self.now.0 c.args.self.now.1

pub returns-clause-range_change : goal.returns-clause-range_change
returns-clause-range_change g c = let d = g.D.DriverModel in
    let r = c.write_mapped in
    rw (← c.self.view_is) (ran_mapped d (below_ghosts d) r.result c.self.inside.driver r.new.self (layers c.self.inside.below) c.args.guest c.args.place c.args.bytes.now r.ensures.writes.keeps_layer_state r.ensures.writes.mutating_call
    r.ensures.writes.ok (λ well_formed. r.ensures.writes.mapped (g.met.D.FormatDriverInstance.well_formed_is_coherent c.self.inside.driver well_formed)) r.ensures.writes.err r.ensures.writes.crash_images)

pub returns-clause-cause : goal.returns-clause-cause
returns-clause-cause g c = let d = g.D.DriverModel in
    let r = c.write_mapped in
    let old = c.self.inside.driver in
    let under = layers c.self.inside.below in
    let others = files_of d under in
    rw (← c.self.view_is) (λ intact. IfErr-weaker r.result _ _
    (λ e cause. write_mapped_cause d.layer g.met.D.FormatDriverInstance.aligned old under c.args.guest c.args.place c.args.bytes.now (files d old) (files d r.new.self) others others e cause)
    (r.ensures.refused.cause intact.is_well_formed))

pub returns-in_err-check_change-clause-marks_failed : goal.returns-in_err-check_change-clause-marks_failed
returns-in_err-check_change-clause-marks_failed g c = let d = g.D.DriverModel in let a = c.args.self.now.0 in let ds = c.args.self.now.1 in
    passed c.from_residual.result (MarksFailed d a a) c.in_err-check_change.field-0.0 c.from_residual.ensures.1 (plain_mild d a a c.in_err-check_change.field-0.0 c.in_err-check_change.ensures.not_resource_error)
