use Rattle.std.proofs.Common.{◌≡◌, ◌∷◌, length, refl, true, IfErr, map}
use Rattle.std.specs.Prelude.{Some}
use Rattle.std.proofs.lemmas.Result.{IfErr-weaker}
use Rattle.imago_storage.specs.Steps.{Call, write}
use Rattle.imago_storage.proofs.Parts.{passed}
use Rattle.imago_access.specs.Chain.{unit_of_chain}
use Rattle.imago_access.specs.Files.{HadNoResourceError, files_of}
use Rattle.imago_access.specs.Layers.{chain, layers}
use Rattle.imago_access.specs.Parts.{IsUncutPart, announces, PartCause}
use Rattle.imago_access.specs.Refusals.{ChangeCause}
use Rattle.imago_access.specs.Running.{IsIntact, below_ghosts}
use Rattle.imago_access.specs.Stops.{GivesBytes}
use Rattle.imago_access.proofs.ChangeCauses.{change_cause}
use Rattle.imago_access.proofs.Running.{ran_same, intact_by, ran_seen}
use Rattle.imago_access.proofs.Units.{overflows_chain}
use Rattle.imago_access.proofs.Writing.{write_ok, write_err}
use Rattle.imago_access.proofs.Uncut.{own_part}
use Rattle.imago_access.proofs.Marking.{top_mild, top_by}
use Rattle.imago_access.specs.RunCalls.{MarksTopFailed}
use Rattle.imago_access.proofs.access.FormatAccess.write.Goals as goal

pub returns-in_err-check_change-clause-range_change : goal.returns-in_err-check_change-clause-range_change
returns-in_err-check_change-clause-range_change g c = let d = g.D.DriverModel in
    ran_same d (below_ghosts d) (HadNoResourceError c.from_residual.result) (GivesBytes c.args.offset c.args.bytes.now) c.args.self.now.0 c.args.self.now.1

pub returns-clause-range_change : goal.returns-clause-range_change
returns-clause-range_change g c = let d = g.D.DriverModel in
    rw (← c.self.view_is) (ran_seen layers d (below_ghosts d) (HadNoResourceError c.write_all.result) (GivesBytes c.args.offset c.args.bytes.now) c.self.inside.driver c.write_all.new.driver c.self.inside.below c.write_all.new.below c.write_all.ensures.does.range_change)

pub returns-clause-ok : goal.returns-clause-ok
returns-clause-ok g c = let d = g.D.DriverModel in
    write_ok d g.met.D.FormatDriverInstance.free_loose c.args.self.now (c.write_all.new.driver, layers c.write_all.new.below) (unit_of_chain (map d.layer (chain c.args.self.now))) c.args.offset c.args.bytes.now c.write_all.result
    c.requires.free c.write_all.ensures.free c.in_ok-check_change.ensures.ok (rw (← c.self.view_is) (λ i. c.write_all.ensures.shown (intact_by layers d (below_ghosts d) c.self.inside.driver c.self.inside.below i))) (returns-clause-range_change g c)

pub returns-clause-err : goal.returns-clause-err
returns-clause-err g c = let d = g.D.DriverModel in
    write_err d g.met.D.FormatDriverInstance.free_loose c.args.self.now (c.write_all.new.driver, layers c.write_all.new.below) c.args.offset c.args.bytes.now c.write_all.result
    c.requires.free c.write_all.ensures.free (returns-clause-range_change g c)

pub returns-clause-cause : goal.returns-clause-cause
returns-clause-cause g c = λ i. let d = g.D.DriverModel in let a = c.args.self.now.0 in let ds = c.args.self.now.1 in let e = c.write_all.new.driver in let call = write c.args.offset c.args.bytes.now in
    let below = map d.layer ds in let olds = files_of d (chain c.args.self.now) in let news = files_of d (e ∷ layers c.write_all.new.below) in
    let told : IsIntact d (below_ghosts d) a ds → (x : g.row.D.Denot) (k : Call) → d.began x k a → IsUncutPart (d.layer a) k c.args.offset (length c.args.bytes.now) → Some true ≡ announces k
    → IfErr c.write_all.result (PartCause below (d.layer a) c.args.offset (length c.args.bytes.now) (d.own_cause x below k) olds news) = rw (← c.self.view_is) (λ i. c.write_all.ensures.refused.cause (intact_by layers d (below_ghosts d) c.self.inside.driver c.self.inside.below i)) in
    IfErr-weaker c.write_all.result (PartCause below (d.layer a) c.args.offset (length c.args.bytes.now) (d.own_cause a below call) olds news)
    (ChangeCause below (d.layer a) call (d.own_cause a below call) olds news)
    (change_cause below (d.layer a) call (d.own_cause a below call) olds news (λ some. some) (overflows_chain d.layer g.met.D.FormatDriverInstance.aligned a ds c.args.offset (length c.args.bytes.now)))
    (told i a call (g.met.D.FormatDriverInstance.begins a call) (own_part (d.layer a) call) refl)

pub returns-clause-room : goal.returns-clause-room
returns-clause-room g c = let d = g.D.DriverModel in
    rw (← c.self.view_is) (λ i whole. c.write_all.ensures.does.room (intact_by layers d (below_ghosts d) c.self.inside.driver c.self.inside.below i) whole)

pub returns-in_err-check_change-clause-marks_failed : goal.returns-in_err-check_change-clause-marks_failed
returns-in_err-check_change-clause-marks_failed g c = let d = g.D.DriverModel in let a = c.args.self.now.0 in let ds = c.args.self.now.1 in
    passed c.from_residual.result (MarksTopFailed d (below_ghosts d) (a, ds) (a, ds)) c.in_err-check_change.field-0.0 c.from_residual.ensures.1 (top_mild d (below_ghosts d) a a ds ds c.in_err-check_change.field-0.0 c.in_err-check_change.ensures.not_resource_error)

pub returns-clause-marks_failed : goal.returns-clause-marks_failed
returns-clause-marks_failed g c = let d = g.D.DriverModel in
    rw (← c.self.view_is) (IfErr-weaker c.write_all.result _ _ (top_by layers d (below_ghosts d) c.self.inside.driver c.write_all.new.driver c.self.inside.below c.write_all.new.below) c.write_all.ensures.refused.marks_failed)
