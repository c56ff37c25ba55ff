use Rattle.std.proofs.Common.{◌≡◌, length}
use Rattle.qcow2_alloc.specs.Cache.{victim}
use Rattle.qcow2_alloc.proofs.async_lru_cache.AsyncLruCache.victim.Given as goal

abbrev pub invariant-loop-key : goal.invariant-loop-key
invariant-loop-key g l = victim l.entries ≡ victim l.fn.self.slots.entries

abbrev pub decreases-loop-key : goal.decreases-loop-key
decreases-loop-key g l = length l.entries
