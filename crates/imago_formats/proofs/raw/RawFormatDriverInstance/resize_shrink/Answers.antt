use Rattle.std.proofs.Common.{rules}
use Rattle.imago_access.specs.Stops.{GivesBelowPast}
use Rattle.imago_formats.proofs.RawSteps.{shrunk_stops}
use Rattle.imago_formats.proofs.raw.RawFormatDriverInstance.resize_shrink.Goals as goal

pub returns-clause-shrinks : goal.returns-clause-shrinks
returns-clause-shrinks g c = let r = c.args.self.now in record {
  ok = search rules;
  err = search rules;
  crash_images = λ well_formed below backed. shrunk_stops below (g.S.Storage.state r.storage) (g.S.Storage.state c.shrink_to.new.self.storage) r.size c.args.size r.writable
      (GivesBelowPast below c.args.size) well_formed.1 c.in_ok-shrink_to.ensures.ok;
  mutating_call = search rules;
}
