use Rattle.std.specs.Prelude.{None}
use Rattle.std.proofs.Common.{arith, refl}
use Rattle.imago_storage.specs.Steps.{discard_to_any}
use Rattle.imago_access.specs.Files.{HadNoResourceError}
use Rattle.imago_access.specs.RunCalls.{DriverMarksFailed}
use Rattle.imago_access.specs.Stops.{GivesAny}
use Rattle.imago_access.specs.ChainCalls.{ChainFails}
use Rattle.qimg_calls.specs.Calls.{GoesOn}
use Rattle.qimg_calls.specs.Held.{chain_with_mapping}
use Rattle.qimg_calls.specs.Making.{done_or_refused}
use Rattle.qimg_calls.specs.RoomTaken.{SettlesUnits}
use Rattle.qimg_calls.specs.declared.call.Call.TheVariants as calls
use Rattle.qimg_calls.proofs.EarlyEnds.{all-unchanged, stays-failed}
use Rattle.qimg_calls.proofs.Leading.{ran-leads}
use Rattle.qimg_calls.proofs.Moving.{top-refused, not-cut, nothing-named, told-done, told-fits, told-idle, told-marks, told-moves, told-refused}
use Rattle.qimg_calls.proofs.making.changing.discard_to_any.Goals as goal

pub returns : goal.returns
returns g c =
    let d = g.D.DriverModel in
    let old = c.args.chain.now in
    let new = c.discard_to_any.new.self in
    let r = c.discard_to_any.result in
    let e = c.discard_to_any.ensures in
    rw (c.told.ensures) (record {
      fits = told-fits (calls.DiscardToAny c.args.offset c.args.length) r refl;
      early_outcome = λ f is. told-refused r f (e.early_outcome f is);
      idle = λ nothing usable. told-idle r (e.idle nothing usable);
      untouched = λ early. all-unchanged d old new (e.untouched early);
      stays_kept = λ some. refl;
      room = λ intact on. e.room intact (not-cut r on);
      units = λ intact may was. told-done (SettlesUnits d (calls.DiscardToAny c.args.offset c.args.length) old.0 new.0) r was (e.gives_up intact may);
      marks_failed = told-marks (DriverMarksFailed d old.0 new.0) r e.marks_failed;
      stays_failed = stays-failed d old new e.range_change.mutating_call.failed e.range_change.lookup_call.keeps_layer_state;
      failed = told-marks (ChainFails d old new) r (top-refused d old new r e.failed);
      cancels = λ is. absurd (cc is);
      moves = λ intact. told-moves d (calls.DiscardToAny c.args.offset c.args.length) r (chain_with_mapping old None) (chain_with_mapping new None) refl
          (e.ok intact) (nothing-named r) (e.cause intact) (e.err intact);
      leads = ran-leads d old new (GoesOn (done_or_refused r)) (HadNoResourceError r) (discard_to_any c.args.offset c.args.length) g.met.D.FormatDriverInstance.well_formed_is_usable
          (GivesAny c.args.offset c.args.length) e.range_change (λ on ready. not-cut r on) (λ p v gave. gave) (omega arith) (omega arith);
      mapping_prepared = λ kept. record { mine = tt; free = λ none. rw (e.keeps_layer_state.unspent) (kept.free refl) };
      same = λ _. refl;
    })
