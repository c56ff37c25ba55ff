use Rattle.std.proofs.Common.{refl}
use Rattle.qcow2_image.proofs.CommitsAndCancels.{drops-by}
use Rattle.qcow2_image.proofs.qcow2.Qcow2.cancel_unspent.Goals as goal

pub returns-in-Some : goal.returns-in-Some
returns-in-Some g c =
    drops-by g.S.Storage c.args.state.mapping_id c.args.self.now c.take_unspent.new.self c.in-Some.unspent c.in-Some.ensures c.give_back.new.space
    c.give_back.ensures _ refl refl refl refl refl
