use Rattle.std.proofs.Common.{ap, arith, refl}
use Rattle.imago_storage.specs.Steps.{lookup, found}
use Rattle.imago_access.specs.Kinds.{kind_of}
use Rattle.qimg_calls.specs.Calls.{GoesOn}
use Rattle.qimg_calls.specs.declared.call.Answer.TheVariants as told
use Rattle.qimg_calls.proofs.EarlyEnds.{look-stays-failed}
use Rattle.qimg_calls.proofs.Leading.{look-leads, like-kept, looked-stays}
use Rattle.qimg_calls.proofs.Moving.{top-failed}
use Rattle.qimg_calls.proofs.making.looking.get_shallow_mapping.Goals as goal

pub returns-in-Ok : goal.returns-in-Ok
returns-in-Ok g c kept is =
    let d = g.D.DriverModel in
    let m = g.met.D.FormatDriverInstance in
    let old = c.args.chain.now in
    let new = c.get_shallow_mapping.new.self in
    let e = c.in-Ok.ensures in
    record {
      fits = tt;
      early_outcome = λ f is. absurd (cc (e.unusable f is));
      idle = λ nothing usable. tt;
      untouched = λ early. (e.unchanged early, e.below);
      stays_kept = λ some. refl;
      room = λ intact on. tt;
      units = λ intact may was. tt;
      marks_failed = tt;
      stays_failed = look-stays-failed d old new _ e.lookup_call;
      failed = tt;
      cancels = λ is. absurd (cc is);
      moves = λ coherent. ((found (kind_of c.in-Ok.mapping) c.in-Ok.count, refl, e.ok coherent.0, (e.looks coherent.0, (e.lookup_call.0.stays tt coherent.0).0, e.storage_exists, e.room coherent.0, e.explicit_zero coherent.0)), refl);
      leads = look-leads d old new (GoesOn (told.Shallow c.in-Ok.mapping c.in-Ok.count)) _ (lookup c.args.offset c.args.length) m.well_formed_is_coherent e.lookup_call (λ on. tt) (omega arith) (omega arith);
      mapping_prepared = like-kept d old new kept e.lookup_call.0.keeps_layer_state;
      same = λ _. refl;
    }

pub returns-in-Err : goal.returns-in-Err
returns-in-Err g c kept is =
    let d = g.D.DriverModel in
    let m = g.met.D.FormatDriverInstance in
    let old = c.args.chain.now in
    let new = c.get_shallow_mapping.new.self in
    let e = c.in-Err.ensures in
    record {
      fits = tt;
      early_outcome = λ f is. ap told.Refused (cc (e.unusable f is));
      idle = λ nothing usable. absurd (cc (e.idle nothing usable));
      untouched = λ early. (e.unchanged early, e.below);
      stays_kept = λ some. refl;
      room = λ intact on. tt;
      units = λ intact may was. tt;
      marks_failed = e.marks_failed;
      stays_failed = look-stays-failed d old new _ e.lookup_call;
      failed = top-failed d old new c.in-Err.fault e.failed;
      cancels = λ is. absurd (cc is);
      moves = λ coherent. (e.cause coherent.0, λ not_resource_error. (((e.lookup_call.0.stays not_resource_error coherent.0).0, looked-stays d old new _ not_resource_error e.lookup_call coherent), refl));
      leads = look-leads d old new (GoesOn (told.Refused c.in-Err.fault)) _ (lookup c.args.offset c.args.length) m.well_formed_is_coherent e.lookup_call (λ on. on) (omega arith) (omega arith);
      mapping_prepared = like-kept d old new kept e.lookup_call.0.keeps_layer_state;
      same = λ _. refl;
    }
