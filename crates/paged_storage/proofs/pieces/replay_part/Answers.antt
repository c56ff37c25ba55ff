use Rattle.std.proofs.Common.{ℕ, List, subst, sym, take}
use Rattle.imago_storage.specs.Calls.{Reads}
use Rattle.imago_storage.specs.Log.{replay}
use Rattle.imago_storage.proofs.Replay.{replay_more}
use Rattle.paged_storage.proofs.pieces.replay_part.Goals as goal

pub loop-request-preserved : goal.loop-request-preserved
loop-request-preserved c = λ file reads.
    let i = c.loop-request.request-index in
    subst (λ (f : List ℕ). Reads f c.args.offset c.apply_part.new.buf)
    (sym (replay_more file c.args.requests.now i c.request-item.result c.loop-request-test.true c.request-item.is))
    (c.apply_part.ensures (replay file (take i c.args.requests.now)) (c.loop-request.invariant file reads))
