use Rattle.imago_formats.proofs.RawSteps.{on_ok_always, raw_same}
use Rattle.imago_formats.proofs.raw.RawFormatDriverInstance.flush.Goals as goal

pub returns-clause-coherent : goal.returns-clause-coherent
returns-clause-coherent g c = λ coherent.
    let r = c.args.self.now in
    let kept = c.flush.ensures.unchanged_but_faults in
    on_ok_always c.flush.result _
    (raw_same (g.S.Storage.state r.storage) (g.S.Storage.state c.flush.new.self) r.size r.writable kept.shape kept.bytes, tt)
