use Rattle.imago_formats.proofs.RawSteps.{raw_same, on_ok_always}
use Rattle.imago_formats.proofs.raw.RawFormatDriverInstance.invalidate_cache.Goals as goal

pub returns-clause-same : goal.returns-clause-same
returns-clause-same g c = λ keeps coherent has_no_dirty_data.
    let r = c.args.self.now in
    let kept = c.invalidate_cache.ensures.unchanged_but_faults in
    on_ok_always c.invalidate_cache.result _ (raw_same (g.S.Storage.state r.storage) (g.S.Storage.state c.invalidate_cache.new.self) r.size r.writable kept.shape kept.bytes, tt)
