use Rattle.std.proofs.Common.{refl}
use Rattle.imago_access.proofs.ChangeCauses.{undeclined_cause}
use Rattle.imago_access.proofs.Discarding.{undeclined}
use Rattle.imago_access.proofs.access.zeroing.zero_by_driver.Goals as goal
use Rattle.imago_access.specs.Files.{files}

pub returns-in-Err-2-clause-cause : goal.returns-in-Err-2-clause-cause
returns-in-Err-2-clause-cause g c = λ well_formed below x call begun part is_for. let d = g.D.DriverModel in
    undeclined_cause below (d.layer c.args.driver.now) c.args.offset c.args.n (d.own_cause x below call) (files d c.args.driver.now) (files d c.zero_part.new.driver) c.in-Err.fault (λ h. absurd (cc (c.if-is_declined.ensures.1 h))) (c.in-Err.ensures.refused.cause well_formed below x call begun part is_for)

pub returns-in-Err-clause-given : goal.returns-in-Err-clause-given
returns-in-Err-clause-given g c = λ well_formed below x call began part is_for none. let d = g.D.DriverModel in
    absurd (undeclined below (d.layer c.args.driver.now) c.args.offset c.args.n (d.own_cause x below call) (files d c.args.driver.now) (files d c.zero_part.new.driver) c.in-Err.fault none (c.if-is_declined.ensures.0 refl) (c.in-Err.ensures.refused.cause well_formed below x call began part is_for))
