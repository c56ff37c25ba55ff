use Rattle.std.proofs.Common.{arith, inl, inr, refl}
use Rattle.std.specs.Prelude.{IsOk}
use Rattle.imago_storage.specs.Steps.{flush}
use Rattle.imago_access.specs.Files.{files}
use Rattle.imago_access.specs.Going.{MarksFailed}
use Rattle.imago_access.specs.Stops.{GivesNone}
use Rattle.imago_access.specs.ChainCalls.{ChainFails}
use Rattle.qimg_calls.specs.Calls.{GoesOn}
use Rattle.qimg_calls.specs.Held.{chain_with_mapping}
use Rattle.qimg_calls.specs.Making.{done_or_refused}
use Rattle.qimg_calls.specs.declared.call.Call.TheVariants as calls
use Rattle.qimg_calls.proofs.EarlyEnds.{stays-failed}
use Rattle.qimg_calls.proofs.Leading.{ran-leads, whole-ok, like-kept}
use Rattle.qimg_calls.proofs.Moving.{top-refused, not-cut, told-fits, told-marks, told-moves, told-refused, refused-stays, flush-names}
use Rattle.qimg_calls.proofs.making.looking.flush.Goals as goal

pub returns : goal.returns
returns g c kept is =
    let d = g.D.DriverModel in
    let m = g.met.D.FormatDriverInstance in
    let old = c.args.chain.now in
    let new = c.flush.new.self in
    let r = c.flush.result in
    let e = c.flush.ensures in
    rw (c.told.ensures) (record {
      fits = told-fits calls.Flush r refl;
      early_outcome = λ f is. told-refused r f (e.unusable f is);
      idle = λ nothing usable. absurd nothing;
      untouched = λ early. elim early [ inl nothing ↦ absurd nothing | inr some ↦ (e.unchanged some, e.below) ];
      stays_kept = λ some. refl;
      room = λ intact on. tt;
      units = λ intact may was. tt;
      marks_failed = told-marks (MarksFailed d old.0 new.0) r e.marks_failed;
      stays_failed = stays-failed d old new e.range_change.mutating_call.failed e.range_change.lookup_call.keeps_layer_state;
      failed = told-marks (ChainFails d old new) r (top-refused d old new r e.failed);
      cancels = λ is. absurd (cc is);
      moves = λ intact. told-moves d calls.Flush r (chain_with_mapping old kept) (chain_with_mapping new kept) refl (e.ok intact) (flush-names d old new r (e.same intact) (e.written intact) (e.counted intact)) (e.cause intact.is_well_formed)
          (refused-stays d old new (files d old.0) (files d new.0) r (e.cause intact.is_well_formed));
      leads = ran-leads d old new (GoesOn (done_or_refused r)) (IsOk r) flush m.well_formed_is_usable GivesNone e.range_change
          (λ on ready. whole-ok (d.layer old.0) (files d old.0) (files d new.0) r (not-cut r on) ready.usable.0 (e.cause ready.intact.is_well_formed)) (λ p v none. absurd none) (omega arith) (omega arith);
      mapping_prepared = like-kept d old new kept e.keeps_layer_state;
      same = λ _. refl;
    })
