use Rattle.std.proofs.Common.{rules, ap, sym, ◌∙◌, ◌<◌, length}
use Rattle.imago_storage.specs.Log.{apply}
use Rattle.imago_storage.proofs.Replay.{replay_more}
use Rattle.imago_storage.proofs.log.apply_all.Goals as goal

pub loop-request-preserved : goal.loop-request-preserved
loop-request-preserved c =
    let lt : c.loop-request.request-index < length c.args.requests.now = search rules in
    c.in_ok-apply_request.ensures.ok ∙ ap (apply c.request-item.result) c.loop-request.invariant
    ∙ sym (replay_more c.args.file.now.items c.args.requests.now c.loop-request.request-index c.request-item.result lt c.request-item.is)
