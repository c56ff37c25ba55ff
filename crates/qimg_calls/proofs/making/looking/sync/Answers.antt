use Rattle.std.proofs.Common.{arith, inl, inr, refl}
use Rattle.std.specs.Prelude.{IsOk}
use Rattle.imago_storage.specs.Steps.{sync}
use Rattle.imago_access.specs.Files.{Pairs, UnchangedButMoreFaults, files}
use Rattle.imago_access.specs.Going.{MarksFailed}
use Rattle.imago_access.specs.Stops.{GivesNone}
use Rattle.imago_access.specs.ChainCalls.{ChainFails}
use Rattle.qimg_calls.specs.Calls.{GoesOn}
use Rattle.qimg_calls.specs.Held.{chain_with_mapping}
use Rattle.qimg_calls.specs.Making.{done_or_refused}
use Rattle.qimg_calls.specs.declared.call.Call.TheVariants as calls
use Rattle.qimg_calls.proofs.EarlyEnds.{stays-failed}
use Rattle.qimg_calls.proofs.Leading.{ran-leads, whole-ok, like-kept}
use Rattle.qimg_calls.specs.Moves.{TopStays}
use Rattle.qimg_calls.proofs.Moving.{plainly-refused, both-named, not-cut, on-ok, told-fits, told-marks, told-moves, told-refused, refused-stays}
use Rattle.qimg_calls.proofs.making.looking.sync.Goals as goal

pub returns : goal.returns
returns g c kept is =
    let d = g.D.DriverModel in
    let m = g.met.D.FormatDriverInstance in
    let old = c.args.chain.now in
    let new = c.sync.new.self in
    let r = c.sync.result in
    let e = c.sync.ensures in
    rw (c.told.ensures) (record {
      fits = told-fits calls.Sync r refl;
      early_outcome = λ f is. told-refused r f (e.unusable f is);
      idle = λ nothing usable. absurd nothing;
      untouched = λ early. elim early [ inl nothing ↦ absurd nothing | inr some ↦ (e.unchanged some, e.below) ];
      stays_kept = λ some. refl;
      room = λ intact on. tt;
      units = λ intact may was. tt;
      marks_failed = told-marks (MarksFailed d old.0 new.0) r e.marks_failed;
      stays_failed = stays-failed d old new e.range_change.mutating_call.failed e.range_change.lookup_call.keeps_layer_state;
      failed = told-marks (ChainFails d old new) r (plainly-refused d old new r e.cause);
      cancels = λ is. absurd (cc is);
      moves = λ intact. told-moves d calls.Sync r (chain_with_mapping old kept) (chain_with_mapping new kept) refl e.ok (both-named (TopStays d old new) (Pairs UnchangedButMoreFaults (files d old.0) (files d new.0)) r e.same (on-ok r e.unchanged_but_faults)) e.cause
          (refused-stays d old new (files d old.0) (files d new.0) r e.cause);
      leads = ran-leads d old new (GoesOn (done_or_refused r)) (IsOk r) sync m.well_formed_is_usable GivesNone e.range_change
          (λ on ready. whole-ok (d.layer old.0) (files d old.0) (files d new.0) r (not-cut r on) ready.usable.0 e.cause) (λ p v none. absurd none) (omega arith) (omega arith);
      mapping_prepared = like-kept d old new kept e.keeps_layer_state;
      same = λ _. refl;
    })
