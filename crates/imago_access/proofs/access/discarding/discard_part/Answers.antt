use Rattle.std.proofs.Common.{sym, subst}
use Rattle.imago_access.specs.Changes.{ToAny, ToBelow}
use Rattle.imago_access.specs.Stops.{KeepsCrashImages, GivesAny, GivesBelow}
use Rattle.imago_access.specs.Running.{IsBetween}
use Rattle.imago_access.specs.RangeCalls.{GivesDiscarded, discard_by}
use Rattle.imago_access.specs.PartCalls.{PartRefused}
use Rattle.imago_access.specs.RunCalls.{StaysBegun}
use Rattle.imago_access.specs.Files.{HadNoResourceError}
use Rattle.imago_access.specs.declared.access.discarding.Discarding.{Discarding}
use Rattle.imago_access.proofs.Rewriting.{result_between, any_shows, below_shows}
use Rattle.imago_access.proofs.access.discarding.discard_part.Goals as goal

pub returns-in-ToAny-clause-values : goal.returns-in-ToAny-clause-values
returns-in-ToAny-clause-values g c = λ well_formed below backed whole. let d = g.D.DriverModel in
    let done = c.discard_to_any.ensures in
    subst (λ (k : Discarding). IsBetween (GivesDiscarded k below c.args.offset c.args.length) below (d.layer c.args.driver.now) (d.layer c.discard_to_any.new.self)) (sym c.in-ToAny.is)
    (result_between ToAny (GivesAny c.args.offset c.args.length) below (d.layer c.args.driver.now) (d.layer c.discard_to_any.new.self) c.args.offset c.args.length (any_shows below c.args.offset c.args.length) c.discard_to_any.result done.part (done.does.ok well_formed) (done.does.err well_formed) whole)

pub returns-in-ToAny-clause-crash_images : goal.returns-in-ToAny-clause-crash_images
returns-in-ToAny-clause-crash_images g c = λ well_formed below backed. let d = g.D.DriverModel in
    subst (λ (k : Discarding). KeepsCrashImages d below (GivesDiscarded k below c.args.offset c.args.length) c.args.driver.now c.discard_to_any.new.self) (sym c.in-ToAny.is)
    (c.discard_to_any.ensures.does.crash_images well_formed below tt)

pub returns-in-ToBacking-clause-values : goal.returns-in-ToBacking-clause-values
returns-in-ToBacking-clause-values g c = λ well_formed below backed whole. let d = g.D.DriverModel in
    let done = c.discard_to_backing.ensures in
    subst (λ (k : Discarding). IsBetween (GivesDiscarded k below c.args.offset c.args.length) below (d.layer c.args.driver.now) (d.layer c.discard_to_backing.new.self)) (sym c.in-ToBacking.is)
    (result_between (ToBelow (d.layer c.args.driver.now).fixed.blank) (GivesBelow below c.args.offset c.args.length) below (d.layer c.args.driver.now) (d.layer c.discard_to_backing.new.self) c.args.offset c.args.length
    (below_shows below (d.layer c.args.driver.now) c.args.offset c.args.length (g.met.D.FormatDriverInstance.blanks c.args.driver.now) backed) c.discard_to_backing.result done.part (done.does.ok well_formed) (done.does.err well_formed) whole)

pub returns-in-ToBacking-clause-crash_images : goal.returns-in-ToBacking-clause-crash_images
returns-in-ToBacking-clause-crash_images g c = λ well_formed below backed. let d = g.D.DriverModel in
    subst (λ (k : Discarding). KeepsCrashImages d below (GivesDiscarded k below c.args.offset c.args.length) c.args.driver.now c.discard_to_backing.new.self) (sym c.in-ToBacking.is)
    (c.discard_to_backing.ensures.does.crash_images well_formed below backed)

pub returns-in-ToAny-clause-refused : goal.returns-in-ToAny-clause-refused
returns-in-ToAny-clause-refused g c = let d = g.D.DriverModel in let r = c.discard_to_any in
    subst (λ (k : Discarding). PartRefused (discard_by k) d c.args.offset c.args.length r.result c.args.driver.now r.new.self) (sym c.in-ToAny.is) r.ensures.refused

pub returns-in-ToBacking-clause-refused : goal.returns-in-ToBacking-clause-refused
returns-in-ToBacking-clause-refused g c = let d = g.D.DriverModel in let r = c.discard_to_backing in
    subst (λ (k : Discarding). PartRefused (discard_by k) d c.args.offset c.args.length r.result c.args.driver.now r.new.self) (sym c.in-ToBacking.is) r.ensures.refused

pub returns-in-ToAny-clause-stays_begun : goal.returns-in-ToAny-clause-stays_begun
returns-in-ToAny-clause-stays_begun g c = let d = g.D.DriverModel in let r = c.discard_to_any in
    subst (λ (k : Discarding). StaysBegun (discard_by k) d c.args.offset c.args.length (HadNoResourceError r.result) c.args.driver.now r.new.self) (sym c.in-ToAny.is) r.ensures.does.stays_begun

pub returns-in-ToBacking-clause-stays_begun : goal.returns-in-ToBacking-clause-stays_begun
returns-in-ToBacking-clause-stays_begun g c = let d = g.D.DriverModel in let r = c.discard_to_backing in
    subst (λ (k : Discarding). StaysBegun (discard_by k) d c.args.offset c.args.length (HadNoResourceError r.result) c.args.driver.now r.new.self) (sym c.in-ToBacking.is) r.ensures.does.stays_begun
