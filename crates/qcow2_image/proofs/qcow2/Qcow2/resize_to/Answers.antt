use Rattle.std.proofs.Common.{refl}
use Rattle.qcow2_image.proofs.Resizes.SizeSteps.{sizes-marked}
use Rattle.qcow2_image.proofs.qcow2.Qcow2.resize_to.Goals as goal

pub returns : goal.returns
returns g c =
    let sized = c.set_disk_size-sized in
    sizes-marked g.S.Storage c.args.size c.args.self.now c.mark_change_fault.new.self _ _ sized.result c.mark_change_fault.ensures.same
    c.mark_change_fault.ensures.marks_failed c.requires.free c.drop_cached-dropped.ensures.empty refl refl sized.ensures
