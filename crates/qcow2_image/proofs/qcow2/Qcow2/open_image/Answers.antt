use Rattle.std.proofs.lemmas.Result.{IfOk-weaker}
use Rattle.qcow2_image.proofs.StateAfterOpening.{opened-begins}
use Rattle.qcow2_image.proofs.qcow2.Qcow2.open_image.Goals as goal

pub returns-clause-begins : goal.returns-clause-begins
returns-clause-begins g c =
    IfOk-weaker c.open_with.result _ _ (λ d opened. opened-begins g.S.Storage (g.S.Storage.state c.args.image) c.args.writable 128 32 d opened.tables) (rw (c.usual.ensures.0, c.usual.ensures.1) at c.open_with.ensures.ok)
