use Rattle.qimg_calls.proofs.Repaired.{refused-makes, repaired-makes}
use Rattle.qimg_calls.proofs.making.changing.repair_leaks.Goals as goal

pub returns-in-Ok : goal.returns-in-Ok
returns-in-Ok g c = repaired-makes g.D.DriverModel c.args.chain.now c.repair_leaks.new.chain c.in-Ok.ensures.below c.in-Ok.leaks c.in-Ok.ensures.repairs

pub returns-in-Err : goal.returns-in-Err
returns-in-Err g c = refused-makes g.D.DriverModel c.args.chain.now c.repair_leaks.new.chain c.in-Err.ensures.below c.in-Err.fault c.in-Err.ensures.repairs
