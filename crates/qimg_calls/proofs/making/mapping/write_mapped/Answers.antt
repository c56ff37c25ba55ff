use Rattle.std.proofs.Common.{◌≡◌, length, arith, refl}
use Rattle.imago_storage.specs.Steps.{write_mapped}
use Rattle.imago_access.specs.ChainCalls.{ChainFails, IsMappedFor}
use Rattle.imago_access.specs.Files.{HadNoResourceError}
use Rattle.imago_access.specs.Going.{MarksFailed}
use Rattle.imago_access.specs.Stops.{GivesBytes}
use Rattle.qimg_calls.specs.Calls.{GoesOn}
use Rattle.qimg_calls.specs.Held.{chain_with_mapping}
use Rattle.qimg_calls.specs.Making.{done_or_refused}
use Rattle.qimg_calls.specs.declared.call.Call.TheVariants as calls
use Rattle.qimg_calls.proofs.EarlyEnds.{stays-failed}
use Rattle.qimg_calls.proofs.Leading.{ran-leads, like-kept}
use Rattle.qimg_calls.proofs.Moving.{top-refused, both-named, not-cut, same-stays, told-fits, told-idle, told-marks, told-moves, told-refused}
use Rattle.qimg_calls.proofs.making.mapping.write_mapped.Goals as goal

pub returns : goal.returns
returns g c kept is =
    let d = g.D.DriverModel in
    let m = g.met.D.FormatDriverInstance in
    let old = c.args.chain.now in
    let new = c.write_mapped.new.self in
    let r = c.write_mapped.result in
    let e = c.write_mapped.ensures in
    let call = calls.WriteMapped c.args.guest c.args.place c.args.bytes.now in
    rw (c.told.ensures) (record {
      fits = told-fits call r refl;
      early_outcome = λ f is. told-refused r f ((rw (c.deref.ensures.value) at e.early_outcome) f is);
      idle = λ nothing usable. told-idle r ((rw (c.deref.ensures.value) at e.idle) nothing usable);
      untouched = λ early. ((rw (c.deref.ensures.value) at e.unchanged) early, e.below);
      stays_kept = λ some. refl;
      room = λ intact on. tt;
      units = λ intact may was. tt;
      marks_failed = told-marks (MarksFailed d old.0 new.0) r e.marks_failed;
      stays_failed = stays-failed d old new e.range_change.mutating_call.failed e.range_change.lookup_call.keeps_layer_state;
      failed = told-marks (ChainFails d old new) r (top-refused d old new r e.failed);
      cancels = λ is. absurd (cc is);
      moves = λ intact. told-moves d call r (chain_with_mapping old kept) (chain_with_mapping new kept) refl
          (rw (c.deref.ensures.value) at e.ok intact)
          (both-named (IsMappedFor (d.layer old.0) c.args.guest c.args.place (length c.args.bytes.now.items)) ((d.layer new.0).writable_location ≡ (d.layer old.0).writable_location) r (rw (c.deref.ensures.value) at e.mapped (m.well_formed_is_coherent old.0 intact.is_well_formed)) (e.writable_location intact))
          (rw (c.deref.ensures.value) at e.cause intact) (same-stays d old new r e.below (e.err intact));
      leads = ran-leads d old new (GoesOn (done_or_refused r)) (HadNoResourceError r) (write_mapped c.args.guest c.args.bytes.now.items) m.well_formed_is_usable (GivesBytes c.args.guest c.args.bytes.now.items) (rw (c.deref.ensures.value) at e.range_change)
          (λ on ready. not-cut r on) (λ p v gave. gave) (omega arith) (omega arith);
      mapping_prepared = like-kept d old new kept e.keeps_layer_state;
      same = λ _. refl;
    })
