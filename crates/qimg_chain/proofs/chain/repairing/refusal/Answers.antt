use Rattle.qimg_chain.proofs.Repairing.Steps.{uncounted-refusal, unusable-refusal}
use Rattle.qimg_chain.proofs.chain.repairing.refusal.Goals as goal

pub returns-in-Ok : goal.returns-in-Ok
returns-in-Ok g c = uncounted-refusal (g.D.DriverModel.layer c.args.image.now) c.in-Ok.ensures.ok c.requires

pub returns-in-Err : goal.returns-in-Err
returns-in-Err g c = unusable-refusal (g.D.DriverModel.layer c.args.image.now) c.in-Err.fault c.in-Err.ensures.err
