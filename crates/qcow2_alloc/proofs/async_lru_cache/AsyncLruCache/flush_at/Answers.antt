use Rattle.std.proofs.Common.{refl, sym}
use Rattle.qcow2_alloc.proofs.async_lru_cache.AsyncLruCache.flush_at.Goals as goal

pub returns-in-Some-clause-flushed : goal.returns-in-Some-clause-flushed
returns-in-Some-clause-flushed g c = record { slot = c.in-Some.slot.now; value = c.flush.new.value; slot_found = sym c.in-Some.ensures.value; flush = c.flush.ensures; entries = refl }
