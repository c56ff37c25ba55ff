use Rattle.std.proofs.Common.{ap, inl, ◌∙◌}
use Rattle.imago_access.specs.Stops.{Left, GivesSettled}
use Rattle.imago_access.specs.declared.mapping.PreparedDataMapping.{PreparedDataMapping}
use Rattle.imago_access.proofs.Stopping.{passes_on}
use Rattle.imago_access.proofs.Marking.{alone_failed, alone_mild, given_back_mild}
use Rattle.imago_access.proofs.Untouched.{unchanged_both}
use Rattle.imago_access.proofs.access.mappings.commit_or_abandon.Goals as goal

pub returns-in-Ok-clause-crash_images : goal.returns-in-Ok-clause-crash_images
returns-in-Ok-clause-crash_images g c = λ well_formed below. c.in-Ok.ensures.commits.crash_images well_formed c.requires below

pub returns-in-Err-default-None-clause-crash_images : goal.returns-in-Err-default-None-clause-crash_images
returns-in-Err-default-None-clause-crash_images g c = λ well_formed below. c.in-Err-default-None.ensures.commits.crash_images well_formed c.requires below

pub returns-in-Err-default-Some-clause-crash_images : goal.returns-in-Err-default-Some-clause-crash_images
returns-in-Err-default-Some-clause-crash_images g c = λ well_formed below. let d = g.D.DriverModel in let l = d.layer c.args.driver.now in
    passes_on (Left below l (d.image c.args.driver.now).bytes d.sound l.size l.size (GivesSettled below l)) (d.image c.args.driver.now) (d.image c.commit_data_mapping.new.self) (d.image c.abandon.new.driver) c.abandon.ensures.none.0 (c.in-Err-default-Some.ensures.commits.crash_images well_formed c.requires below)

pub returns-in-Err-default-None-clause-marks_failed : goal.returns-in-Err-default-None-clause-marks_failed
returns-in-Err-default-None-clause-marks_failed g c = let d = g.D.DriverModel in
    alone_failed d c.args.driver.now c.commit_data_mapping.new.self c.in-Err-default-None.fault (c.in-Err-default-None.ensures.refused.spent c.in-Err-default-None.field-0-1-is).1

pub returns-in-Err-default-Some-clause-marks_failed : goal.returns-in-Err-default-Some-clause-marks_failed
returns-in-Err-default-Some-clause-marks_failed g c = let d = g.D.DriverModel in
    let back = rw c.in-Err-default-Some.field-0-1-is at c.in-Err-default-Some.ensures.refused.back in
    alone_mild d c.args.driver.now c.abandon.new.driver c.in-Err-default-Some.fault (given_back_mild d.tag c.args.mapping.state (d.layer c.args.driver.now) c.in-Err-default-Some.fault back.1)

pub returns-in-Err-default-Some-clause-unchanged : goal.returns-in-Err-default-Some-clause-unchanged
returns-in-Err-default-Some-clause-unchanged g c = λ none. let d = g.D.DriverModel in
    let back = rw c.in-Err-default-Some.field-0-1-is at c.in-Err-default-Some.ensures.refused.back in
    let state = ap (λ (m : PreparedDataMapping g.row.D-State.Denot). m.state) back.0 ∙ none in
    unchanged_both d c.args.driver.now c.commit_data_mapping.new.self c.abandon.new.driver (c.in-Err-default-Some.ensures.refused.unchanged (inl none)) (c.abandon.ensures.unchanged state)
