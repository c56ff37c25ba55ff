use Rattle.std.proofs.Common.{refl}
use Rattle.qcow2_image.proofs.ImageLoans.{image-lent}
use Rattle.qcow2_image.proofs.qcow2.Qcow2.image_mut.Goals as goal

pub returns : goal.returns
returns g c = ((refl, λ w. image-lent c.args.self.now w _ _), record { lends = tt; value = refl })
