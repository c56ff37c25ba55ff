use Rattle.std.proofs.Common.{refl, inl, ◌⊎◌, ◌≡◌, ◌∷◌, arith, IfErr, map}
use Rattle.std.proofs.lemmas.Result.{IfErr-weaker}
use Rattle.imago_storage.specs.Steps.{Call, write_zeroes, IsOut}
use Rattle.std.specs.Prelude.{⊤}
use Rattle.imago_storage.proofs.Parts.{passed}
use Rattle.imago_access.specs.Chain.{unit_of_chain}
use Rattle.imago_access.specs.Files.{HadNoResourceError, files_of}
use Rattle.imago_access.specs.Layers.{chain, layers}
use Rattle.imago_access.specs.Parts.{IsUncutPart, PartCause}
use Rattle.imago_access.specs.Refusals.{ChangeCause}
use Rattle.imago_access.specs.Running.{IsIntact, below_ghosts}
use Rattle.imago_access.specs.Stops.{GivesZero}
use Rattle.imago_access.proofs.ChangeCauses.{change_cause}
use Rattle.imago_access.proofs.Discarding.{allowed_fits}
use Rattle.imago_access.specs.Room.{IsApart}
use Rattle.imago_access.specs.declared.access.zeroing.Zeroing.TheVariants as zeroing_is
use Rattle.imago_access.proofs.Room.{room_fewer}
use Rattle.imago_access.proofs.Refusing.{refusal_cause}
use Rattle.imago_access.proofs.Running.{ran_same, intact_by, ran_seen}
use Rattle.imago_access.proofs.Units.{overflows_chain, unit_aligned}
use Rattle.imago_access.proofs.Zeroing.{zero_ok, zero_err}
use Rattle.imago_access.proofs.Uncut.{own_part}
use Rattle.imago_access.proofs.Marking.{top_mild, top_by}
use Rattle.imago_access.specs.RunCalls.{MarksTopFailed, IsWorkOf, zeroing_by}
use Rattle.imago_access.proofs.access.FormatAccess.write_zeroes.Goals as goal

pub returns-in_err-check_change-clause-range_change : goal.returns-in_err-check_change-clause-range_change
returns-in_err-check_change-clause-range_change g c = let d = g.D.DriverModel in
    ran_same d (below_ghosts d) (HadNoResourceError c.from_residual.result) (GivesZero c.args.offset c.args.length) c.args.self.now.0 c.args.self.now.1

pub zero_all-requires-clause-fits : goal.zero_all-requires-clause-fits
zero_all-requires-clause-fits g c = let d = g.D.DriverModel in
    allowed_fits (unit_of_chain (map d.layer (chain c.args.self.now))) (d.layer c.args.self.now.0) c.args.offset c.args.length (unit_aligned d.layer g.met.D.FormatDriverInstance.aligned (chain c.args.self.now)).positive c.ranges.offset.fits c.in_ok-check_change.ensures.ok

pub returns-clause-range_change : goal.returns-clause-range_change
returns-clause-range_change g c = let d = g.D.DriverModel in
    rw (← c.self.view_is) (ran_seen layers d (below_ghosts d) (HadNoResourceError c.zero_all.result) (GivesZero c.args.offset c.args.length) c.self.inside.driver c.zero_all.new.driver c.self.inside.below c.zero_all.new.below c.zero_all.ensures.does.range_change)

pub returns-clause-ok : goal.returns-clause-ok
returns-clause-ok g c = let d = g.D.DriverModel in
    zero_ok d g.met.D.FormatDriverInstance.free_loose c.args.self.now (c.zero_all.new.driver, layers c.zero_all.new.below) c.args.offset c.args.length c.requires.free c.zero_all.ensures.free (unit_of_chain (map d.layer (chain c.args.self.now))) c.zero_all.result
    c.in_ok-check_change.ensures.ok (rw (← c.self.view_is) (λ i. c.zero_all.ensures.shown (intact_by layers d (below_ghosts d) c.self.inside.driver c.self.inside.below i))) (returns-clause-range_change g c)

pub returns-clause-err : goal.returns-clause-err
returns-clause-err g c = let d = g.D.DriverModel in
    zero_err d g.met.D.FormatDriverInstance.free_loose c.args.self.now (c.zero_all.new.driver, layers c.zero_all.new.below) c.args.offset c.args.length c.requires.free c.zero_all.ensures.free c.zero_all.result
    (write_zeroes c.args.offset c.args.length) refl refl (λ p was. refl) (returns-clause-range_change g c)

pub returns-clause-cause : goal.returns-clause-cause
returns-clause-cause g c = λ i. let d = g.D.DriverModel in let a = c.args.self.now.0 in let ds = c.args.self.now.1 in let e = c.zero_all.new.driver in let call = write_zeroes c.args.offset c.args.length in
    let below = map d.layer ds in let olds = files_of d (chain c.args.self.now) in let news = files_of d (e ∷ layers c.zero_all.new.below) in
    let told : IsIntact d (below_ghosts d) a ds → (x : g.row.D.Denot) (k : Call) → d.began x k a → IsUncutPart (d.layer a) k c.args.offset c.args.length → IsWorkOf (zeroing_by zeroing_is.Keep c.args.offset c.args.length) k
    → IfErr c.zero_all.result (PartCause below (d.layer a) c.args.offset c.args.length (d.own_cause x below k) olds news) = rw (← c.self.view_is) (λ i. c.zero_all.ensures.refused.cause (intact_by layers d (below_ghosts d) c.self.inside.driver c.self.inside.below i)) in
    IfErr-weaker c.zero_all.result (PartCause below (d.layer a) c.args.offset c.args.length (d.own_cause a below call) olds news)
    (ChangeCause below (d.layer a) call (d.own_cause a below call) olds news)
    (change_cause below (d.layer a) call (d.own_cause a below call) olds news (λ some. some) (overflows_chain d.layer g.met.D.FormatDriverInstance.aligned a ds c.args.offset c.args.length))
    (told i a call (g.met.D.FormatDriverInstance.begins a call) (own_part (d.layer a) call) (tt, refl))

pub returns-in_err-check_change-clause-cause : goal.returns-in_err-check_change-clause-cause
returns-in_err-check_change-clause-cause g c = λ i. let d = g.D.DriverModel in let a = c.args.self.now.0 in let ds = c.args.self.now.1 in let call = write_zeroes c.args.offset c.args.length in
    let others = files_of d (a ∷ ds) in
    passed c.from_residual.result (ChangeCause (map d.layer ds) (d.layer a) call (d.own_cause a (map d.layer ds) call) others others) c.in_err-check_change.field-0.0 c.from_residual.ensures.1
    (refusal_cause (map d.layer ds) (d.layer a) call (d.own_cause a (map d.layer ds) call) others others c.in_err-check_change.field-0.0 (λ some. some) c.in_err-check_change.ensures.err)

pub returns-clause-room : goal.returns-clause-room
returns-clause-room g c = let d = g.D.DriverModel in let old = c.self.inside.driver in
    rw (← c.self.view_is) (λ i whole. room_fewer d (λ p. (zeroing_is.Keep ≡ zeroing_is.Keep) ⊎ IsOut c.args.offset c.args.length p) (λ _. ⊤) (IsApart (d.layer old).fixed.unit c.args.offset c.args.length) old c.zero_all.new.driver
    (λ p there. inl refl) (c.zero_all.ensures.does.room (intact_by layers d (below_ghosts d) old c.self.inside.below i) whole))

pub returns-clause-zeroed : goal.returns-clause-zeroed
returns-clause-zeroed g c = let d = g.D.DriverModel in let old = c.self.inside.driver in let call = write_zeroes c.args.offset c.args.length in
    rw (← c.self.view_is) (λ i undeclined. c.zero_all.ensures.leaves (intact_by layers d (below_ghosts d) old c.self.inside.below i) old call (g.met.D.FormatDriverInstance.begins old call) (record { start = omega arith; end = omega arith }) tt undeclined)

pub returns-in_err-check_change-clause-marks_failed : goal.returns-in_err-check_change-clause-marks_failed
returns-in_err-check_change-clause-marks_failed g c = let d = g.D.DriverModel in let a = c.args.self.now.0 in let ds = c.args.self.now.1 in
    passed c.from_residual.result (MarksTopFailed d (below_ghosts d) (a, ds) (a, ds)) c.in_err-check_change.field-0.0 c.from_residual.ensures.1 (top_mild d (below_ghosts d) a a ds ds c.in_err-check_change.field-0.0 c.in_err-check_change.ensures.not_resource_error)

pub returns-clause-marks_failed : goal.returns-clause-marks_failed
returns-clause-marks_failed g c = let d = g.D.DriverModel in
    rw (← c.self.view_is) (IfErr-weaker c.zero_all.result _ _ (top_by layers d (below_ghosts d) c.self.inside.driver c.zero_all.new.driver c.self.inside.below c.zero_all.new.below) c.zero_all.ensures.refused.marks_failed)
