use Rattle.std.specs.Prelude.{is_some, not}
use Rattle.std.proofs.Common.{◌≡◌, ◌∙◌, ap, arith, refl, sym}
use Rattle.imago_storage.specs.Steps.{prepare, prepared}
use Rattle.imago_access.specs.ChainCalls.{chain_refusal}
use Rattle.imago_access.specs.Stops.{GivesNone}
use Rattle.qimg_calls.specs.declared.call.Answer.TheVariants as told
use Rattle.qimg_calls.proofs.EarlyEnds.{stays-failed, value-of}
use Rattle.qimg_calls.proofs.Leading.{ran-leads}
use Rattle.qimg_calls.proofs.Spending.{some-or-none}
use Rattle.qimg_calls.proofs.making.mapping.prepare.Goals as goal

pub returns-in-Ok : goal.returns-in-Ok
returns-in-Ok g c =
    let d = g.D.DriverModel in
    let old = c.args.chain.now in
    let new = c.prepare_data_mapping.new.self in
    let e = c.in-Ok.ensures in
    let m = c.in-Ok.mapping in
    let state : is_some m.state ≡ _ = some-or-none m.state ∙ ap not (sym c.is_nonblocking.ensures) in
    record {
      fits = tt;
      early_outcome = λ f is. absurd (cc (e.early_outcome f is));
      idle = λ nothing usable. tt;
      untouched = λ early. e.unchanged early;
      stays_kept = λ some. let f = value-of (chain_refusal d old c.args.offset c.args.length) some in absurd (cc (e.early_outcome f.0 f.1));
      room = λ intact on. tt;
      units = λ intact may was. tt;
      marks_failed = tt;
      stays_failed = stays-failed d old new e.range_change.mutating_call.failed e.range_change.lookup_call.keeps_layer_state;
      failed = tt;
      cancels = λ is. absurd (cc is);
      moves = λ intact. (
        (prepared _ _, refl, rw (c.length.ensures, sym state) (e.ok intact), tt),
        (m, refl, record { storage_is = sym c.storage.ensures; place_is = sym c.offset.ensures; length_is = sym c.length.ensures; state_is = state }, e.writable_location intact, λ none. (e.empty none).0),
      );
      leads = ran-leads d old new _ _ (prepare c.args.offset c.args.length c.args.overwrite) g.met.D.FormatDriverInstance.well_formed_is_usable GivesNone e.range_change (λ on ready. tt) (λ p v none. absurd none) (omega arith) (omega arith);
      mapping_prepared = λ kept. record { mine = e.mine; free = λ none. e.stateless none };
      same = λ no. absurd (cc no);
    }

pub returns-in-Err : goal.returns-in-Err
returns-in-Err g c =
    let d = g.D.DriverModel in
    let old = c.args.chain.now in
    let new = c.prepare_data_mapping.new.self in
    let e = c.in-Err.ensures in
    record {
      fits = tt;
      early_outcome = λ f is. ap told.Refused (cc (e.early_outcome f is));
      idle = λ nothing usable. absurd (cc (e.idle nothing usable));
      untouched = λ early. e.unchanged early;
      stays_kept = λ some. refl;
      room = λ intact on. tt;
      units = λ intact may was. tt;
      marks_failed = e.marks_failed;
      stays_failed = stays-failed d old new e.range_change.mutating_call.failed e.range_change.lookup_call.keeps_layer_state;
      failed = e.failed;
      cancels = λ is. absurd (cc is);
      moves = λ intact. (e.cause intact, λ not_resource_error. (e.err intact not_resource_error, refl));
      leads = ran-leads d old new _ _ (prepare c.args.offset c.args.length c.args.overwrite) g.met.D.FormatDriverInstance.well_formed_is_usable GivesNone e.range_change (λ on ready. on) (λ p v none. absurd none) (omega arith) (omega arith);
      mapping_prepared = λ kept. record { mine = tt; free = λ none. e.free refl };
      same = λ no. absurd (cc no);
    }
