use Rattle.std.proofs.Common.{arith}
use Rattle.std.specs.Prelude.{⊤}
use Rattle.std.proofs.lemmas.Grind.{common_steps}
use Rattle.imago_access.specs.Layers.{chain}
use Rattle.imago_access.specs.Running.{below_ghosts}
use Rattle.imago_access.proofs.Looking.{all_looked_same}
use Rattle.imago_access.proofs.Running.{ran_same}
use Rattle.qimg_calls.specs.Flattening.{GivesRead}
use Rattle.qimg_calls.proofs.Copying.{copies_disk, no_room, no_room_cause}
use Rattle.qimg_calls.proofs.Standing.{copy_stands}
use Rattle.qimg_calls.proofs.flattening.flatten.Goals as goal

pub returns-then-size-clause-range_change : goal.returns-then-size-clause-range_change
returns-then-size-clause-range_change g c = ran_same g.T.DriverModel (below_ghosts g.T.DriverModel) ⊤ (GivesRead g.S.DriverModel c.args.source.now) c.args.target.now.0 c.args.target.now.1

pub returns-then-size-clause-source : goal.returns-then-size-clause-source
returns-then-size-clause-source g c = all_looked_same g.S.DriverModel ⊤ (chain c.args.source.now)

pub returns-in-Ok-clause-copied : goal.returns-in-Ok-clause-copied
returns-in-Ok-clause-copied g c = copies_disk g.S.DriverModel g.T.DriverModel c.copy_all.result (c.args.source.now, c.args.target.now) (c.copy_all.new.source, c.copy_all.new.target) (grind (arith, common_steps)) c.copy_all.ensures.copies

pub returns-in-Err-clause-range_change : goal.returns-in-Err-clause-range_change
returns-in-Err-clause-range_change g c = ran_same g.T.DriverModel (below_ghosts g.T.DriverModel) ⊥ (GivesRead g.S.DriverModel c.args.source.now) c.args.target.now.0 c.args.target.now.1

pub returns-in-Err-clause-source : goal.returns-in-Err-clause-source
returns-in-Err-clause-source g c = all_looked_same g.S.DriverModel ⊥ (chain c.args.source.now)

pub returns-in-Err-clause-failed : goal.returns-in-Err-clause-failed
returns-in-Err-clause-failed g c same = no_room g.S.DriverModel g.T.DriverModel (c.args.source.now, c.args.target.now)

pub returns-in-Err-clause-cause : goal.returns-in-Err-clause-cause
returns-in-Err-clause-cause g c same pair = no_room_cause g.S.DriverModel g.T.DriverModel (c.args.source.now, c.args.target.now)

pub returns-in-Ok-clause-usable : goal.returns-in-Ok-clause-usable
returns-in-Ok-clause-usable g c = c.copy_all.ensures.usable

pub returns-in-Ok-clause-since : goal.returns-in-Ok-clause-since
returns-in-Ok-clause-since g c same = let m = g.met.T.FormatDriverInstance in
    copy_stands g.S.DriverModel g.T.DriverModel m.well_formed_is_coherent m.well_formed_is_sound m.well_formed_is_usable c.copy_all.result (c.args.source.now, c.args.target.now) c.copy_all.new.target same c.copy_all.ensures.copies.range_change

pub returns-in-Err-clause-since : goal.returns-in-Err-clause-since
returns-in-Err-clause-since g c same since bytes see are ready stands whole = absurd whole
