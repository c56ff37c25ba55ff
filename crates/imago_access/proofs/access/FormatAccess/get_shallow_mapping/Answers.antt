use Rattle.std.proofs.Common.{map, refl}
use Rattle.imago_access.specs.Layers.{layers}
use Rattle.imago_access.specs.Files.{HadNoResourceError, files, byte_in}
use Rattle.imago_access.proofs.LookedUp.{shallow_step}
use Rattle.imago_access.proofs.Looking.{all_looked_same}
use Rattle.imago_access.proofs.access.FormatAccess.get_shallow_mapping.Goals as goal

pub returns-clause-lookup_call : goal.returns-clause-lookup_call
returns-clause-lookup_call g c = let d = g.D.DriverModel in rw (← c.self.view_is) (c.get_mapping.ensures.lookup_call, all_looked_same d (HadNoResourceError c.get_mapping.result) (layers c.self.inside.below))

pub returns-clause-ok : goal.returns-clause-ok
returns-clause-ok g c = let d = g.D.DriverModel in
    rw (← c.self.view_is) (λ see. shallow_step (d.layer c.self.inside.driver) (map d.layer (layers c.self.inside.below)) (byte_in (files d c.get_mapping.new.self)) c.args.offset c.args.max_length (d.layer c.get_mapping.new.self) (map d.layer (layers c.self.inside.below)) c.get_mapping.result
    c.get_mapping.ensures.run (c.get_mapping.ensures.looks see) (λ whole. (c.get_mapping.ensures.lookup_call.stays whole see).0) refl)
