use Rattle.std.proofs.Common.{◌∙◌}
use Rattle.qcow2_alloc.proofs.Faults.{handed-on}
use Rattle.qcow2_image.proofs.Resizes.ZeroedGrowth.{grow-resized, grow-unprepared}
use Rattle.qcow2_image.proofs.qcow2.Qcow2.grow_zeroed.Goals as goal

pub returns-in_err-prepare_growth : goal.returns-in_err-prepare_growth
returns-in_err-prepare_growth g c = rw (handed-on _ _ c.from_residual.ensures.1)
    (grow-unprepared g.S.Storage c.args.size c.args.self.now c.prepare_growth.new.self c.in_err-prepare_growth.field-0.0
    c.in_err-prepare_growth.ensures.prepares)

pub resize_to-requires : goal.resize_to-requires
resize_to-requires g c = record { free = c.in_ok-prepare_growth.ensures.prepares.sets.unspent ∙ c.requires.free }

pub returns : goal.returns
returns g c = grow-resized g.S.Storage c.args.size c.args.self.now c.prepare_growth.new.self c.resize_to.new.self c.requires.fits
    c.in_ok-prepare_growth.ensures.prepares c.resize_to.result c.resize_to.ensures
