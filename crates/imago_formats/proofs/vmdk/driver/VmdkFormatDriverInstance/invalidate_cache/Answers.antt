use Rattle.std.proofs.Common.{rules, ◌∷◌}
use Rattle.std.specs.Prelude.{map}
use Rattle.std.proofs.lemmas.Result.{IfErr-weaker}
use Rattle.imago_access.proofs.Running.{went_anew}
use Rattle.imago_formats.proofs.Quiet.{plain_fresh, plain_reload, quiet_went, unmarked}
use Rattle.imago_formats.proofs.VmdkSteps.{ok_whole, on_ok}
use Rattle.imago_formats.specs.VmdkLayer.{vmdk_layer}
use Rattle.imago_formats.proofs.vmdk.driver.VmdkFormatDriverInstance.invalidate_cache.Goals as goal

pub returns-clause-same : goal.returns-clause-same
returns-clause-same g c = λ keeps see has_no_dirty_data. on_ok c.keep.result _ (c.keep.ensures.keeps.layer, c.keep.ensures.keeps.coherent see)

pub returns-clause-unchanged_but_faults : goal.returns-clause-unchanged_but_faults
returns-clause-unchanged_but_faults g c = c.keep.ensures.keeps.unchanged_but_faults

pub returns-clause-mutating_call : goal.returns-clause-mutating_call
returns-clause-mutating_call g c =
    went_anew _ _ _ c.args.self.now c.keep.new.self
    (quiet_went _ _ _ c.args.self.now c.keep.new.self c.keep.ensures.keeps (λ ok. c.keep.ensures.whole (ok_whole c.keep.result ok)))

pub returns-clause-failed : goal.returns-clause-failed
returns-clause-failed g c =
    let state = g.S.Storage.state in
    let r = c.args.self.now in
    IfErr-weaker c.keep.result _ _ (λ e cause stale. absurd (plain_fresh (vmdk_layer r.disk.extents.items (state r.image) (map state r.files.items))
    (state r.image ∷ map state r.files.items) (state c.keep.new.self.image ∷ map state c.keep.new.self.files.items) e cause stale)) c.keep.ensures.err

pub returns-clause-marks_failed : goal.returns-clause-marks_failed
returns-clause-marks_failed g c = unmarked _ c.keep.result c.args.self.now c.keep.new.self (search rules)

pub returns-clause-cause : goal.returns-clause-cause
returns-clause-cause g c =
    let state = g.S.Storage.state in
    let r = c.args.self.now in
    IfErr-weaker c.keep.result _ _ (plain_reload (vmdk_layer r.disk.extents.items (state r.image) (map state r.files.items))
    (state r.image ∷ map state r.files.items) (state c.keep.new.self.image ∷ map state c.keep.new.self.files.items)) c.keep.ensures.err
