use Rattle.std.proofs.Common.{rules}
use Rattle.imago_formats.proofs.Quiet.{like_same, quiet_went, unmarked}
use Rattle.imago_formats.proofs.VmdkSteps.{on_ok}
use Rattle.imago_formats.proofs.vmdk.driver.VmdkFormatDriverInstance.sync.Goals as goal

pub returns-clause-same : goal.returns-clause-same
returns-clause-same g c = on_ok c.keep.result _ c.keep.ensures.keeps.layer

pub returns-clause-unchanged_but_faults : goal.returns-clause-unchanged_but_faults
returns-clause-unchanged_but_faults g c = c.keep.ensures.keeps.unchanged_but_faults

pub returns-clause-coherent : goal.returns-clause-coherent
returns-clause-coherent g c = c.keep.ensures.keeps.coherent

pub returns-clause-keeps_layer_state : goal.returns-clause-keeps_layer_state
returns-clause-keeps_layer_state g c = like_same _ _ c.keep.ensures.keeps.layer

pub returns-clause-mutating_call : goal.returns-clause-mutating_call
returns-clause-mutating_call g c = quiet_went _ _ _ c.args.self.now c.keep.new.self c.keep.ensures.keeps c.keep.ensures.whole

pub returns-clause-marks_failed : goal.returns-clause-marks_failed
returns-clause-marks_failed g c = unmarked _ c.keep.result c.args.self.now c.keep.new.self (search rules)
