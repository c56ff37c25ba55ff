use Rattle.std.specs.Prelude.{None, map, max}
use Rattle.std.proofs.Common.{arith, refl}
use Rattle.imago_storage.specs.Steps.{grow}
use Rattle.imago_access.specs.Files.{HadNoResourceError}
use Rattle.imago_access.specs.Resizes.{fill_of}
use Rattle.imago_access.specs.Running.{chain_disk, below_of}
use Rattle.imago_access.specs.Going.{MarksFailedOver}
use Rattle.imago_access.specs.Stops.{GivesPast}
use Rattle.imago_access.specs.ChainCalls.{ChainFails}
use Rattle.qimg_calls.specs.Calls.{GoesOn}
use Rattle.qimg_calls.specs.Held.{chain_with_mapping}
use Rattle.qimg_calls.specs.Making.{done_or_refused}
use Rattle.qimg_calls.specs.declared.call.Call.TheVariants as calls
use Rattle.qimg_calls.proofs.EarlyEnds.{stays-failed}
use Rattle.qimg_calls.proofs.Leading.{fewer-stops, step-leads}
use Rattle.qimg_calls.proofs.Moving.{not-cut, nothing-named, told-fits, told-idle, told-marks, told-moves, told-refused}
use Rattle.qimg_calls.proofs.Resizing.{grown-between, growth-unread, resize-refused, resize-untouched}
use Rattle.qimg_calls.proofs.making.changing.resize_grow.Goals as goal

pub returns : goal.returns
returns g c =
    let d = g.D.DriverModel in
    let old = c.args.chain.now in
    let new = c.resize_grow.new.self in
    let r = c.resize_grow.result in
    let e = c.resize_grow.ensures in
    let call = grow c.args.size (fill_of c.args.mode) in
    rw (c.told.ensures) (record {
      fits = told-fits (calls.ResizeGrow c.args.size c.args.mode) r refl;
      early_outcome = λ f is. told-refused r f (resize-refused d c.args.size (d.layer old.0).size r old.0 new.0 f e.resizes is);
      idle = λ nothing usable. told-idle r (e.resizes.early_outcome.idle nothing usable);
      untouched = λ early. (resize-untouched d c.args.size (d.layer old.0).size r old.0 new.0 e.resizes early, e.unread (growth-unread (d.layer old.0) c.args.size early));
      stays_kept = λ some. refl;
      room = λ intact on. tt;
      units = λ intact may was. tt;
      marks_failed = told-marks (MarksFailedOver d old.0 new.0) r e.marks_failed;
      stays_failed = stays-failed d old new e.mutating_call.failed e.below.keeps_layer_state;
      failed = told-marks (ChainFails d old new) r e.failed;
      cancels = λ is. absurd (cc is);
      moves = λ intact. told-moves d (calls.ResizeGrow c.args.size c.args.mode) r (chain_with_mapping old None) (chain_with_mapping new None) refl
          (e.ok intact) (nothing-named r) (e.cause intact) (e.err intact);
      leads = step-leads d old new (GoesOn (done_or_refused r)) (HadNoResourceError r) call g.met.D.FormatDriverInstance.well_formed_is_usable e.mutating_call e.below
          (λ on ready. not-cut r on) (λ on ready. e.mutating_call.excess_refcount (not-cut r on, ready.intact.is_coherent) ready.intact.is_well_formed) (λ on ready. e.intact (not-cut r on) ready.intact)
          (λ on ready. grown-between (below_of d.layer old) (below_of d.layer old) (chain_disk d.layer old) (chain_disk d.layer new) c.args.size (fill_of c.args.mode) r on (e.ok ready.intact) (e.err ready.intact))
          (λ ready. fewer-stops d (map d.layer old.1) (d.layer old.0).size (d.layer old.0).size (max (d.layer old.0).size c.args.size) (max (d.layer old.0).size c.args.size) (GivesPast (d.layer old.0).size) (GivesPast (d.layer old.0).size) old.0 new.0
          (omega arith) (omega arith) (λ p v gave. gave) (e.crash_images ready.intact));
      mapping_prepared = λ kept. record { mine = tt; free = λ none. e.free };
      same = λ _. refl;
    })
