use Rattle.std.specs.Prelude.{None, map, min}
use Rattle.std.proofs.Common.{arith, refl, subst, sym}
use Rattle.imago_storage.specs.Steps.{shrink}
use Rattle.imago_access.specs.Files.{HadNoResourceError}
use Rattle.imago_access.specs.Going.{LookupCallBelow, MarksFailed}
use Rattle.imago_access.specs.Running.{below_ghosts, below_of, chain_disk}
use Rattle.imago_access.specs.Stops.{GivesBelowPast}
use Rattle.imago_access.proofs.Looking.{looked_under_same}
use Rattle.imago_access.specs.ChainCalls.{ChainFails}
use Rattle.qimg_calls.specs.Calls.{GoesOn}
use Rattle.qimg_calls.specs.Held.{chain_with_mapping}
use Rattle.qimg_calls.specs.Making.{done_or_refused}
use Rattle.qimg_calls.specs.declared.call.Call.TheVariants as calls
use Rattle.qimg_calls.proofs.EarlyEnds.{top-stays-failed}
use Rattle.qimg_calls.proofs.Leading.{fewer-stops, step-leads}
use Rattle.qimg_calls.proofs.Moving.{top-refused, not-cut, nothing-named, told-fits, told-idle, told-marks, told-moves, told-refused}
use Rattle.qimg_calls.proofs.Resizing.{resize-refused, resize-untouched, shrunk-between}
use Rattle.qimg_calls.proofs.making.changing.resize_shrink.Goals as goal

pub returns : goal.returns
returns g c =
    let d = g.D.DriverModel in
    let old = c.args.chain.now in
    let new = c.resize_shrink.new.self in
    let r = c.resize_shrink.result in
    let e = c.resize_shrink.ensures in
    rw (c.told.ensures) (record {
      fits = told-fits (calls.ResizeShrink c.args.size) r refl;
      early_outcome = λ f is. told-refused r f (resize-refused d (d.layer old.0).size c.args.size r old.0 new.0 f e.resizes is);
      idle = λ nothing usable. told-idle r (e.resizes.early_outcome.idle nothing usable);
      untouched = λ early. (resize-untouched d (d.layer old.0).size c.args.size r old.0 new.0 e.resizes early, e.below);
      stays_kept = λ some. refl;
      room = λ intact on. tt;
      units = λ intact may was. tt;
      marks_failed = told-marks (MarksFailed d old.0 new.0) r e.marks_failed;
      stays_failed = top-stays-failed d old new e.mutating_call.failed e.below;
      failed = told-marks (ChainFails d old new) r (top-refused d old new r e.failed);
      cancels = λ is. absurd (cc is);
      moves = λ intact. told-moves d (calls.ResizeShrink c.args.size) r (chain_with_mapping old None) (chain_with_mapping new None) refl
          (e.ok intact) (nothing-named r) (e.cause intact) (e.err intact);
      leads = step-leads d old new (GoesOn (done_or_refused r)) (HadNoResourceError r) (shrink c.args.size) g.met.D.FormatDriverInstance.well_formed_is_usable e.mutating_call
          (subst (LookupCallBelow (below_ghosts d) (HadNoResourceError r) old.1) (sym e.below) (looked_under_same (below_ghosts d) (HadNoResourceError r) old.1))
          (λ on ready. not-cut r on) (λ on ready. e.mutating_call.excess_refcount (not-cut r on) ready.intact.is_well_formed) (λ on ready. e.intact (not-cut r on) ready.intact)
          (λ on ready. shrunk-between (below_of d.layer old) (below_of d.layer old) (chain_disk d.layer old) (chain_disk d.layer new) c.args.size r on (e.ok ready.intact) (e.err ready.intact))
          (λ ready. fewer-stops d (map d.layer old.1) c.args.size (min (d.layer old.0).size c.args.size) (d.layer old.0).size (d.layer old.0).size (GivesBelowPast (map d.layer old.1) c.args.size) (GivesBelowPast (map d.layer old.1) c.args.size) old.0 new.0
          (omega arith) (omega arith) (λ p v gave. gave) (e.crash_images ready.intact));
      mapping_prepared = λ kept. record { mine = tt; free = λ none. e.free };
      same = λ _. refl;
    })
