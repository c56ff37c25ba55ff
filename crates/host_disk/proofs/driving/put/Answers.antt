use Rattle.std.proofs.Common.{refl}
use Rattle.host_disk.proofs.ListsDriven.{at_an_error}
use Rattle.host_disk.proofs.Putting.{put-in_part, put-whole, truthful-put}
use Rattle.host_disk.proofs.driving.put.Goals as goal

pub returns-in_err-replay-clause-err : goal.returns-in_err-replay-clause-err
returns-in_err-replay-clause-err g c =
    at_an_error c.from_residual.result _
    (put-in_part g.H.HostFile c.args.requests.now c.args.layers.now.items c.index_mut.result.now
    record { format = c.index_mut.result.now.format; file = c.replay.new.self } c.index_mut.ensures.value refl c.in_err-replay.ensures.err)

pub returns-in_err-replay-clause-truthful : goal.returns-in_err-replay-clause-truthful
returns-in_err-replay-clause-truthful g c =
    truthful-put g.H.HostFile c.args.layers.now.items c.index_mut.result.now
    record { format = c.index_mut.result.now.format; file = c.replay.new.self } c.index_mut.ensures.value c.replay.ensures.truthful

pub returns-clause-ok : goal.returns-clause-ok
returns-clause-ok g c =
    put-whole g.H.HostFile c.args.requests.now c.args.layers.now.items c.index_mut.result.now
    record { format = c.index_mut.result.now.format; file = c.replay.new.self } c.index_mut.ensures.value refl c.in_ok-replay.ensures.ok

pub returns-clause-truthful : goal.returns-clause-truthful
returns-clause-truthful g c =
    truthful-put g.H.HostFile c.args.layers.now.items c.index_mut.result.now
    record { format = c.index_mut.result.now.format; file = c.replay.new.self } c.index_mut.ensures.value c.replay.ensures.truthful
