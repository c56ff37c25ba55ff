use Rattle.qimg_chain.proofs.Sessions.Saved.{none-below}
use Rattle.qimg_chain.proofs.run.saved.copy_next.Goals as goal

pub returns-in-Some-clause-ok : goal.returns-in-Some-clause-ok
returns-in-Some-clause-ok g c = rw (c.in-Some.ensures) c.copy_if_writable.ensures.ok

pub returns-in-None-clause-ok : goal.returns-in-None-clause-ok
returns-in-None-clause-ok g c = none-below g.D.DriverModel c.args.chain.now.1 c.in-None.ensures
