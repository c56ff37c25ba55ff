use Rattle.std.proofs.Common.{rules, ◌∷◌}
use Rattle.std.specs.Prelude.{map}
use Rattle.std.proofs.lemmas.Result.{IfErr-weaker}
use Rattle.imago_access.specs.Files.{HadNoResourceError}
use Rattle.imago_formats.proofs.Quiet.{like_same, plain_fails, quiet_looked, quiet_went, unmarked}
use Rattle.imago_formats.proofs.VmdkSteps.{on_ok}
use Rattle.imago_formats.specs.VmdkLaws.{written}
use Rattle.imago_formats.specs.VmdkLayer.{vmdk_layer}
use Rattle.imago_formats.proofs.vmdk.driver.VmdkFormatDriverInstance.flush.Goals as goal

pub returns-clause-coherent : goal.returns-clause-coherent
returns-clause-coherent g c = λ see. on_ok c.keep.result _ (c.keep.ensures.keeps.layer, c.keep.ensures.keeps.coherent see)

pub returns-clause-written : goal.returns-clause-written
returns-clause-written g c = λ well_formed free. on_ok c.keep.result _
    (written c.keep.new.self.disk.extents.items (g.S.Storage.state c.keep.new.self.image) (map g.S.Storage.state c.keep.new.self.files.items)
    (c.keep.ensures.keeps.safely well_formed).2)

pub returns-clause-crash_images : goal.returns-clause-crash_images
returns-clause-crash_images g c = λ well_formed.
    (quiet_looked _ (HadNoResourceError c.keep.result) c.args.self.now c.keep.new.self c.keep.ensures.keeps c.keep.ensures.whole).crash_images well_formed

pub returns-clause-keeps_layer_state : goal.returns-clause-keeps_layer_state
returns-clause-keeps_layer_state g c = like_same _ _ c.keep.ensures.keeps.layer

pub returns-clause-mutating_call : goal.returns-clause-mutating_call
returns-clause-mutating_call g c = quiet_went _ _ _ c.args.self.now c.keep.new.self c.keep.ensures.keeps c.keep.ensures.whole

pub returns-clause-failed : goal.returns-clause-failed
returns-clause-failed g c =
    let state = g.S.Storage.state in
    let r = c.args.self.now in
    IfErr-weaker c.keep.result _ _ (plain_fails (vmdk_layer r.disk.extents.items (state r.image) (map state r.files.items))
    (state r.image ∷ map state r.files.items) (state c.keep.new.self.image ∷ map state c.keep.new.self.files.items)) c.keep.ensures.err

pub returns-clause-marks_failed : goal.returns-clause-marks_failed
returns-clause-marks_failed g c = unmarked _ c.keep.result c.args.self.now c.keep.new.self (search rules)
