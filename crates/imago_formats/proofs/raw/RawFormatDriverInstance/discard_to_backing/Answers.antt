use Rattle.std.proofs.Common.{rules}
use Rattle.imago_access.specs.PartCalls.{discards_to_backing}
use Rattle.imago_formats.proofs.RawSteps.{backed_stops, zeroed_below, partly_below}
use Rattle.imago_formats.proofs.raw.RawFormatDriverInstance.discard_to_backing.Goals as goal

pub returns-clause-does : goal.returns-clause-does
returns-clause-does g c =
    let r = c.args.self.now in
    let zeroed = c.zero.ensures.does in
    record {
      ok = λ well_formed. zeroed_below c.zero.result _ _ (zeroed.ok well_formed);
      err = λ well_formed. partly_below c.zero.result _ _ _ _ (zeroed.err well_formed);
      reach = zeroed.reach;
      given = λ well_formed. search rules;
      room = λ well_formed whole. search rules;
      keeps_layer_state = zeroed.keeps_layer_state;
      mutating_call = zeroed.mutating_call;
      stays_begun = λ d whole began part kind same. tt;
      crash_images = λ well_formed below backed. backed_stops below (g.S.Storage.state r.storage) (g.S.Storage.state c.zero.new.self.storage) r.size r.writable c.args.offset c.args.length backed (zeroed.crash_images well_formed below tt);
    }

pub returns-clause-refused : goal.returns-clause-refused
returns-clause-refused g c = c.zero.ensures.refused discards_to_backing
