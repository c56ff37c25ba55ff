use Rattle.std.proofs.Common.{sym}
use Rattle.qcow2_alloc.proofs.Flushing.Turns.{last_flushed, last_there}
use Rattle.qcow2_alloc.proofs.async_lru_cache.AsyncLruCache.flush_last.Goals as goal

pub returns-in-Some-get_mut-clause-flushed : goal.returns-in-Some-get_mut-clause-flushed
returns-in-Some-get_mut-clause-flushed g c = last_flushed g.K.PartialEq.eq g.met.K.Eq.laws g.B.AsyncLruCacheBackend.flushes c.args.self.now.slots.entries c.in-Some.key.now c.in-Some.field-0-1.now c.requires.nonempty c.requires.distinct (sym c.in-Some.ensures) c.args.device.now c.flush.new.device c.in-Some-get_mut.slot.now c.flush.new.value c.flush.result (sym c.in-Some-get_mut.ensures.value) c.flush.ensures

pub returns-in-None-get_mut-clause-flushed : goal.returns-in-None-get_mut-clause-flushed
returns-in-None-get_mut-clause-flushed g c = absurd (last_there g.K.PartialEq.eq g.met.K.Eq.laws g.B.AsyncLruCacheBackend.flushes c.args.self.now.slots.entries c.in-Some.key.now c.in-Some.field-0-1.now c.requires.nonempty c.requires.distinct (sym c.in-Some.ensures) (sym c.in-None-get_mut.ensures.value))
