use Rattle.std.proofs.Common.{arith, inl, inr, refl, ◌∷◌, List, map}
use Rattle.imago_storage.specs.Steps.{discard_to_backing, ToBelow}
use Rattle.imago_storage.proofs.Parts.{passed}
use Rattle.imago_access.specs.Chain.{unit_of_chain, at}
use Rattle.imago_access.specs.Files.{HadNoResourceError, files_of}
use Rattle.imago_access.specs.Layers.{layers}
use Rattle.imago_access.specs.Refusals.{ChangeCause}
use Rattle.imago_access.specs.Stops.{GivesBelow}
use Rattle.imago_access.specs.declared.access.discarding.Discarding.TheVariants as discards
use Rattle.imago_access.proofs.Discarding.{allowed_fits, chain_ran, chain_done, chain_partly, chain_cause}
use Rattle.imago_access.proofs.Refusing.{refusal_cause}
use Rattle.imago_access.proofs.Running.{ran_same}
use Rattle.imago_access.proofs.Units.{unit_aligned}
use Rattle.imago_access.proofs.Marking.{alone_mild}
use Rattle.imago_access.specs.RunCalls.{DriverMarksFailed}
use Rattle.imago_access.proofs.access.FormatAccess.discard_to_backing.Goals as goal
use Rattle.imago_access.specs.Running.{below_ghosts}

pub returns-in_err-check_change-clause-range_change : goal.returns-in_err-check_change-clause-range_change
returns-in_err-check_change-clause-range_change g c = let d = g.D.DriverModel in
    ran_same {B = List _} d (below_ghosts d) (HadNoResourceError c.from_residual.result) (GivesBelow (map d.layer c.args.self.now.1) c.args.offset c.args.length) c.args.self.now.0 c.args.self.now.1

pub discard_all-requires-clause-fits : goal.discard_all-requires-clause-fits
discard_all-requires-clause-fits g c = let d = g.D.DriverModel in
    allowed_fits (unit_of_chain (map d.layer (c.args.self.now.0 ∷ c.args.self.now.1))) (d.layer c.args.self.now.0) c.args.offset c.args.length (unit_aligned d.layer g.met.D.FormatDriverInstance.aligned (c.args.self.now.0 ∷ c.args.self.now.1)).positive c.ranges.offset.fits c.in_ok-check_change.ensures.ok

pub returns-clause-ok : goal.returns-clause-ok
returns-clause-ok g c = let d = g.D.DriverModel in
    let free = rw (← c.self.view_is) at c.requires.free in
    let no_change_refused = rw (← c.self.view_is) at c.in_ok-check_change.ensures.ok in
    rw (← c.self.view_is) (chain_done d g.met.D.FormatDriverInstance.free_loose c.self.inside.driver c.discard_all.new.driver (layers c.self.inside.below) discards.ToBacking c.args.offset c.args.length free c.discard_all.ensures.keeps_layer_state c.discard_all.result c.discard_all.ensures.values (ToBelow (at (map d.layer (layers c.self.inside.below)))) (λ p was v how. elim how [ inl same ↦ inl same | inr gave ↦ inr gave.1 ]) (unit_of_chain (map d.layer (c.self.inside.driver ∷ layers c.self.inside.below))) no_change_refused)

pub returns-clause-err : goal.returns-clause-err
returns-clause-err g c = let d = g.D.DriverModel in
    let free = rw (← c.self.view_is) at c.requires.free in
    rw (← c.self.view_is) (chain_partly d g.met.D.FormatDriverInstance.free_loose c.self.inside.driver c.discard_all.new.driver (layers c.self.inside.below) discards.ToBacking c.args.offset c.args.length free c.discard_all.ensures.keeps_layer_state c.discard_all.result c.discard_all.ensures.values (discard_to_backing c.args.offset c.args.length) refl refl (λ p was v gave. inr gave.1))

pub returns-clause-range_change : goal.returns-clause-range_change
returns-clause-range_change g c = let d = g.D.DriverModel in
    let free = rw (← c.self.view_is) at c.requires.free in
    rw (← c.self.view_is) (chain_ran d g.met.D.FormatDriverInstance.free_loose c.self.inside.driver c.discard_all.new.driver (layers c.self.inside.below) discards.ToBacking c.args.offset c.args.length free c.discard_all.ensures.keeps_layer_state c.discard_all.result c.discard_all.ensures.values c.discard_all.ensures.mutating_call c.discard_all.ensures.crash_images)

pub returns-clause-cause : goal.returns-clause-cause
returns-clause-cause g c = let d = g.D.DriverModel in
    rw (← c.self.view_is) (λ i. chain_cause d g.met.D.FormatDriverInstance.aligned c.self.inside.driver c.discard_all.new.driver (layers c.self.inside.below) c.discard_all.result (discard_to_backing c.args.offset c.args.length) (d.own_cause c.self.inside.driver (map d.layer (layers c.self.inside.below)) (discard_to_backing c.args.offset c.args.length)) (λ some. some)
    (c.discard_all.ensures.cause i.is_well_formed (map d.layer (layers c.self.inside.below)) c.self.inside.driver (discard_to_backing c.args.offset c.args.length) (g.met.D.FormatDriverInstance.begins c.self.inside.driver (discard_to_backing c.args.offset c.args.length)) (record { start = omega arith; end = omega arith }) tt))

pub returns-in_err-check_change-clause-cause : goal.returns-in_err-check_change-clause-cause
returns-in_err-check_change-clause-cause g c = λ i. let d = g.D.DriverModel in let a = c.args.self.now.0 in let ds = c.args.self.now.1 in let call = discard_to_backing c.args.offset c.args.length in
    let others = files_of d (a ∷ ds) in
    passed c.from_residual.result (ChangeCause (map d.layer ds) (d.layer a) call (d.own_cause a (map d.layer ds) call) others others) c.in_err-check_change.field-0.0 c.from_residual.ensures.1
    (refusal_cause (map d.layer ds) (d.layer a) call (d.own_cause a (map d.layer ds) call) others others c.in_err-check_change.field-0.0 (λ some. some) c.in_err-check_change.ensures.err)

pub returns-in_err-check_change-clause-marks_failed : goal.returns-in_err-check_change-clause-marks_failed
returns-in_err-check_change-clause-marks_failed g c = let d = g.D.DriverModel in let a = c.args.self.now.0 in let ds = c.args.self.now.1 in
    passed c.from_residual.result (DriverMarksFailed d a a) c.in_err-check_change.field-0.0 c.from_residual.ensures.1 (alone_mild d a a c.in_err-check_change.field-0.0 c.in_err-check_change.ensures.not_resource_error)

pub returns-clause-gives_up : goal.returns-clause-gives_up
returns-clause-gives_up g c = let d = g.D.DriverModel in let old = c.self.inside.driver in let call = discard_to_backing c.args.offset c.args.length in
    rw (← c.self.view_is) (λ i undeclined. c.discard_all.ensures.gives_up i.is_well_formed (map d.layer (layers c.self.inside.below)) old call (g.met.D.FormatDriverInstance.begins old call) (record { start = omega arith; end = omega arith }) tt undeclined)
