use Rattle.std.proofs.Common.{arith, Ok}
use Rattle.qcow2_image.proofs.CallStarts.{begins-same}
use Rattle.qcow2_image.proofs.ClusterSteps.{moved-ensures}
use Rattle.qcow2_image.proofs.qcow2.Qcow2.ensure_entry.Goals as goal

pub returns-clause-raw_entry : goal.returns-clause-raw_entry
returns-clause-raw_entry g c =
    moved-ensures g.S.Storage c.args.index c.args.self.now c.move_l1.new.self
    (let behind = c.if-index-entries.false in let long = c.entries.ensures.value in omega (arith, behind, long)) c.move_l1.result
    c.move_l1.ensures.moves

pub returns-then-index-entries-clause-begins : goal.returns-then-index-entries-clause-begins
returns-then-index-entries-clause-begins g c = begins-same g.S.Storage {T = Unit} c.args.begun.now c.args.self.now (Ok tt) tt
