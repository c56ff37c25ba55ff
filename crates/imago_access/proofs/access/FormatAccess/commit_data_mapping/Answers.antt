use Rattle.std.proofs.Common.{map}
use Rattle.std.proofs.lemmas.Result.{IfErr-weaker}
use Rattle.std.proofs.lemmas.Option.{IfSome_then}
use Rattle.imago_access.specs.Files.{files_of, files}
use Rattle.imago_access.proofs.Answers.{both_on_err}
use Rattle.imago_access.proofs.CommitCauses.{commit_cause}
use Rattle.imago_access.specs.Layers.{layers}
use Rattle.imago_access.proofs.HoldingRuns.{held_stops}
use Rattle.imago_access.proofs.access.FormatAccess.commit_data_mapping.Goals as goal

pub returns-clause-crash_images : goal.returns-clause-crash_images
returns-clause-crash_images g c = let d = g.D.DriverModel in
    let old = c.self.inside.driver in
    let under = map d.layer (layers c.self.inside.below) in
    rw (← c.self.view_is) (λ intact mine. held_stops d under old c.commit_data_mapping.new.self intact.held (c.commit_data_mapping.ensures.commits.crash_images intact.is_well_formed mine under))

pub returns-clause-cause : goal.returns-clause-cause
returns-clause-cause g c = let d = g.D.DriverModel in
    let old = c.self.inside.driver in
    let new = c.commit_data_mapping.new.self in
    let under = layers c.self.inside.below in
    let others = files_of d under in
    let told = both_on_err c.commit_data_mapping.result _ _ c.commit_data_mapping.ensures.refused.back (both_on_err c.commit_data_mapping.result _ _ c.commit_data_mapping.ensures.refused.spent c.commit_data_mapping.ensures.refused.failed) in
    rw (← c.self.view_is) (λ intact whose. IfErr-weaker c.commit_data_mapping.result _ _
    (λ e h. commit_cause d (d.layer old) (d.layer new) (map d.layer under) (files d old) (files d new) others others c.args.mapping.state e.1 (d.well_formed old) e.0 whose intact.is_well_formed (IfSome_then e.1 h.0 (λ m back. back.1)) h.1.0 h.1.1)
    told)
