use Rattle.std.proofs.Common.{◌++◌, ◌<◌, map}
use Rattle.std.proofs.lemmas.Result.{IfErr-weaker}
use Rattle.imago_storage.specs.Steps.{shrink}
use Rattle.imago_access.specs.Files.{files_of, files}
use Rattle.imago_access.specs.Layers.{layers}
use Rattle.imago_access.specs.Parts.{ShrinkCause}
use Rattle.imago_access.proofs.ResizeCauses.{resize_cause_wider}
use Rattle.imago_access.proofs.access.FormatAccess.resize_shrink.Goals as goal

pub returns-clause-crash_images : goal.returns-clause-crash_images
returns-clause-crash_images g c = let d = g.D.DriverModel in rw (← c.self.view_is) (λ intact. c.resize_shrink.ensures.shrinks.crash_images intact.is_well_formed (map d.layer (layers c.self.inside.below)) intact.backed)

pub returns-clause-cause : goal.returns-clause-cause
returns-clause-cause g c = let d = g.D.DriverModel in
    let top = c.self.inside.driver in
    let under = layers c.self.inside.below in
    let own = d.own_cause top (map d.layer under) (shrink c.args.size) in
    let olds = files d top in
    let news = files d c.resize_shrink.new.self in
    let others = files_of d under in
    rw (← c.self.view_is) (λ intact. IfErr-weaker c.resize_shrink.result (ShrinkCause (map d.layer under) (d.layer top) c.args.size own olds news) (ShrinkCause (map d.layer under) (d.layer top) c.args.size own (olds ++ others) (news ++ others))
    (resize_cause_wider (c.args.size < (d.layer top).size) (map d.layer under) (d.layer top) own olds news others others)
    (c.resize_shrink.ensures.refused.cause intact.is_well_formed (map d.layer under)))
