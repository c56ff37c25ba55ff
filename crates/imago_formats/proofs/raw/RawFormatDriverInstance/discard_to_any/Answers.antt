use Rattle.std.proofs.Common.{rules, ℕ, ◌≤◌, ap, refl, subst, sym}
use Rattle.imago_storage.specs.State.{Shape}
use Rattle.imago_storage.proofs.Composing.{keeps_on}
use Rattle.imago_formats.specs.RawLayer.{raw_fixed}
use Rattle.imago_formats.proofs.RawSteps.{raw_like, given_any, given_stops, ungiven_same, ungiven_long, same_faultless}
use Rattle.imago_formats.proofs.raw.RawFormatDriverInstance.discard_to_any.Goals as goal

pub returns-in-Ok-clause-does : goal.returns-in-Ok-clause-does
returns-in-Ok-clause-does g c =
    let r = c.args.self.now in
    let old = g.S.Storage.state r.storage in
    let new = g.S.Storage.state c.discard.new.self in
    record {
      ok = λ well_formed. given_any old new r.size r.writable c.args.offset c.args.length c.discard.ensures.unit.positive c.size-bytes.ensures.bytes well_formed.1 c.in_ok-check_change.ensures.inside well_formed.0 c.in-Ok.ensures.ok;
      err = λ well_formed. tt;
      reach = λ well_formed. search rules;
      given = λ well_formed p within. tt;
      room = λ well_formed whole. search rules;
      keeps_layer_state = search rules;
      mutating_call = search rules;
      stays_begun = λ d whole began part kind same. tt;
      crash_images = λ well_formed below told. given_stops old new r.size r.writable c.args.offset c.args.length c.discard.ensures.unit.positive c.size-bytes.ensures.bytes below well_formed.1 c.in-Ok.ensures.ok;
    }

pub returns-in-Err-clause-does : goal.returns-in-Err-clause-does
returns-in-Err-clause-does g c =
    let r = c.args.self.now in
    let old = g.S.Storage.state r.storage in
    let new = g.S.Storage.state c.discard.new.self in
    let refused = c.in-Err.ensures.err in
    let shape = c.discard.ensures.shape in
    record {
      ok = λ well_formed. tt;
      err = λ well_formed. search rules;
      reach = λ well_formed. tt;
      given = λ well_formed. tt;
      room = λ well_formed whole. search rules;
      keeps_layer_state = raw_like old new r.size r.writable shape;
      mutating_call = record {
        fixed = ap (λ (s : Shape). raw_fixed s r.writable) shape;
        failed = λ failed. failed;
        counts_not_fallen = ((shape, c.discard.ensures.counts_not_fallen), tt);
        faults = λ not_resource_error. (same_faultless old new (ungiven_same old new c.args.offset c.args.length c.in-Err.fault refused not_resource_error), tt);
        safely = λ not_resource_error well_formed. (keeps_on old new shape well_formed.0, subst (λ (n : ℕ). r.size ≤ n) (sym (ungiven_long old new c.args.offset c.args.length c.in-Err.fault refused)) well_formed.1);
        stays_stable = λ stable. subst (λ (n : ℕ). r.size ≤ n) (sym (ungiven_long old new c.args.offset c.args.length c.in-Err.fault refused)) stable;
        excess_refcount = λ whole well_formed c. refl;
      };
      stays_begun = λ d whole began part kind same. tt;
      crash_images = λ well_formed below told. search rules;
    }
