use Rattle.imago_access.specs.Changes.{asking}
use Rattle.qcow2_image.proofs.Preparations.Reservations.{run-prepared, run-unfound}
use Rattle.qcow2_alloc.proofs.Faults.{handed-on}
use Rattle.qcow2_image.proofs.qcow2.Qcow2.prepare_fresh.Goals as goal

pub returns : goal.returns
returns g c =
    run-prepared g.S.Storage g.B.LayersBelowModel (asking c.args.offset c.args.length c.args.overwrite) c.in_ok-count.count c.args.self.now
    c.covered_run.new.self
    c.args.below.now c.in_ok-count.ensures c.prepare_run.result c.prepare_run.new.self c.prepare_run.new.below c.prepare_run.ensures

pub returns-in_err-count : goal.returns-in_err-count
returns-in_err-count g c = rw (handed-on _ _ c.from_residual.ensures.1) (
    run-unfound g.S.Storage g.B.LayersBelowModel (asking c.args.offset c.args.length c.args.overwrite) c.args.self.now c.covered_run.new.self
    c.args.below.now c.in_err-count.field-0.0 c.in_err-count.ensures)
