use Rattle.std.specs.Prelude.{Bool, true, false}
use Rattle.std.proofs.Common.{ℕ, ap, arith, refl}
use Rattle.imago_storage.specs.Disk.{Value, Disk}
use Rattle.imago_storage.specs.Steps.{ensure, run}
use Rattle.imago_access.specs.Running.{below_of, chain_disk}
use Rattle.imago_access.specs.Stops.{GivesAnnounced}
use Rattle.qimg_calls.specs.Calls.{GoesOn}
use Rattle.qimg_calls.specs.Since.{Begun}
use Rattle.qimg_calls.specs.declared.call.Answer.TheVariants as told
use Rattle.qimg_calls.proofs.EarlyEnds.{stays-failed}
use Rattle.qimg_calls.proofs.Leading.{ran-leads}
use Rattle.qimg_calls.proofs.making.changing.ensure_data_mapping.Goals as goal

-- The values that an ensured mapping may give are those of the call.
announced : (below : ℕ → Value) (disk : Disk) (offset n : ℕ) (overwrite : Bool) (p : ℕ) (v : Value) → GivesAnnounced overwrite offset n p v → Begun below disk (ensure offset n overwrite) p v
announced below disk offset n true p v gave = gave
announced below disk offset n false p v gave = gave

pub returns-in-Ok : goal.returns-in-Ok
returns-in-Ok g c =
    let d = g.D.DriverModel in
    let old = c.args.chain.now in
    let new = c.ensure_data_mapping.new.self in
    let r = c.ensure_data_mapping.result in
    let e = c.in-Ok.ensures in
    record {
      fits = tt;
      early_outcome = λ f is. absurd (cc (e.early_outcome f is));
      idle = λ nothing usable. tt;
      untouched = λ early. e.unchanged early;
      stays_kept = λ some. refl;
      room = λ intact on. tt;
      units = λ intact may was. tt;
      marks_failed = tt;
      stays_failed = stays-failed d old new e.range_change.mutating_call.failed e.range_change.lookup_call.keeps_layer_state;
      failed = tt;
      cancels = λ is. absurd (cc is);
      moves = λ intact. ((run c.in-Ok.count, refl, e.ok intact, (e.writable_location intact, λ none. (ap (λ r. r.0) (e.empty none).0, ap (λ r. r.1) (e.empty none).0))), refl);
      leads = ran-leads d old new (GoesOn (told.Mapped c.in-Ok.mapping c.in-Ok.count)) _ (ensure c.args.offset c.args.length c.args.overwrite) g.met.D.FormatDriverInstance.well_formed_is_usable
          (GivesAnnounced c.args.overwrite c.args.offset c.args.length) e.range_change (λ on ready. tt)
          (announced (below_of d.layer old) (chain_disk d.layer old) c.args.offset c.args.length c.args.overwrite) (omega arith) (omega arith);
      mapping_prepared = λ kept. record { mine = tt; free = λ none. rw (e.keeps_layer_state.unspent) (kept.free refl) };
      same = λ _. refl;
    }

pub returns-in-Err : goal.returns-in-Err
returns-in-Err g c =
    let d = g.D.DriverModel in
    let old = c.args.chain.now in
    let new = c.ensure_data_mapping.new.self in
    let e = c.in-Err.ensures in
    record {
      fits = tt;
      early_outcome = λ f is. ap told.Refused (cc (e.early_outcome f is));
      idle = λ nothing usable. absurd (cc (e.idle nothing usable));
      untouched = λ early. e.unchanged early;
      stays_kept = λ some. refl;
      room = λ intact on. tt;
      units = λ intact may was. tt;
      marks_failed = e.marks_failed;
      stays_failed = stays-failed d old new e.range_change.mutating_call.failed e.range_change.lookup_call.keeps_layer_state;
      failed = e.failed;
      cancels = λ is. absurd (cc is);
      moves = λ intact. (e.cause intact, λ not_resource_error. (e.err intact not_resource_error, refl));
      leads = ran-leads d old new (GoesOn (told.Refused c.in-Err.fault)) _ (ensure c.args.offset c.args.length c.args.overwrite) g.met.D.FormatDriverInstance.well_formed_is_usable
          (GivesAnnounced c.args.overwrite c.args.offset c.args.length) e.range_change (λ on ready. on)
          (announced (below_of d.layer old) (chain_disk d.layer old) c.args.offset c.args.length c.args.overwrite) (omega arith) (omega arith);
      mapping_prepared = λ kept. record { mine = tt; free = λ none. rw (e.keeps_layer_state.unspent) (kept.free refl) };
      same = λ _. refl;
    }
