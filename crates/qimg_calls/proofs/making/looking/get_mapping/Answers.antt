use Rattle.std.proofs.Common.{ap, arith, refl}
use Rattle.imago_storage.specs.Steps.{lookup, found}
use Rattle.imago_access.specs.Kinds.{deep_kind_of}
use Rattle.qimg_calls.specs.Calls.{GoesOn}
use Rattle.qimg_calls.specs.declared.call.Answer.TheVariants as told
use Rattle.qimg_calls.proofs.EarlyEnds.{look-stays-failed}
use Rattle.qimg_calls.proofs.Leading.{look-leads, like-kept, looked-stays}
use Rattle.qimg_calls.proofs.making.looking.get_mapping.Goals as goal

pub returns-in-Ok : goal.returns-in-Ok
returns-in-Ok g c kept is =
    let d = g.D.DriverModel in
    let m = g.met.D.FormatDriverInstance in
    let old = c.args.chain.now in
    let new = c.get_mapping.new.self in
    let e = c.in-Ok.ensures in
    record {
      fits = tt;
      early_outcome = λ f is. absurd (cc (e.unusable f is));
      idle = λ nothing usable. tt;
      untouched = λ early. e.unchanged early;
      stays_kept = λ some. refl;
      room = λ intact on. tt;
      units = λ intact may was. tt;
      marks_failed = tt;
      stays_failed = look-stays-failed d old new _ e.lookup_call;
      failed = tt;
      cancels = λ is. absurd (cc is);
      moves = λ rests. (
        (
          found (deep_kind_of c.in-Ok.mapping) c.in-Ok.count,
          refl,
          e.ok rests.1 rests.0,
          (e.names rests.1 rests.0, e.writable_location rests.0.0, (e.lookup_call.0.stays tt rests.0.0).0, record { layer = e.deep rests.1; storage = e.storage_exists rests.1; writable = e.writable rests.1 rests.0 }, e.explicit_zero rests.0.0),
        ),
        refl,
      );
      leads = look-leads d old new (GoesOn (told.Mapped c.in-Ok.mapping c.in-Ok.count)) _ (lookup c.args.offset c.args.length) m.well_formed_is_coherent e.lookup_call (λ on. tt) (omega arith) (omega arith);
      mapping_prepared = like-kept d old new kept e.lookup_call.0.keeps_layer_state;
      same = λ _. refl;
    }

pub returns-in-Err : goal.returns-in-Err
returns-in-Err g c kept is =
    let d = g.D.DriverModel in
    let m = g.met.D.FormatDriverInstance in
    let old = c.args.chain.now in
    let new = c.get_mapping.new.self in
    let e = c.in-Err.ensures in
    record {
      fits = tt;
      early_outcome = λ f is. ap told.Refused (cc (e.unusable f is));
      idle = λ nothing usable. absurd (cc (e.idle nothing usable));
      untouched = λ early. e.unchanged early;
      stays_kept = λ some. refl;
      room = λ intact on. tt;
      units = λ intact may was. tt;
      marks_failed = e.marks_failed;
      stays_failed = look-stays-failed d old new _ e.lookup_call;
      failed = e.failed;
      cancels = λ is. absurd (cc is);
      moves = λ rests. (e.cause rests.0, λ not_resource_error. (((e.lookup_call.0.stays not_resource_error rests.0.0).0, looked-stays d old new _ not_resource_error e.lookup_call rests.0), refl));
      leads = look-leads d old new (GoesOn (told.Refused c.in-Err.fault)) _ (lookup c.args.offset c.args.length) m.well_formed_is_coherent e.lookup_call (λ on. on) (omega arith) (omega arith);
      mapping_prepared = like-kept d old new kept e.lookup_call.0.keeps_layer_state;
      same = λ _. refl;
    }
