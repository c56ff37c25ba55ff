use Rattle.std.proofs.Common.{◌≡◌, ◌-◌}
use Rattle.std.specs.List.{IsDistinct}
use Rattle.std.specs.Map.{keys_of}
use Rattle.qcow2_alloc.specs.Cache.{with_entries}
use Rattle.qcow2_alloc.proofs.Flushing.Turns.{Turning}
use Rattle.qcow2_alloc.proofs.async_lru_cache.AsyncLruCache.flush.Given as goal

abbrev pub invariant-loop : goal.invariant-loop
invariant-loop g l = (l.self ≡ with_entries l.fn.self l.self.slots.entries) × Turning g.B.AsyncLruCacheBackend.flushes l.fn.device l.fn.self.slots.entries (l.end - l.counter) l.fault l.device l.self.slots.entries
    × IsDistinct g.K.PartialEq.eq (keys_of l.self.slots.entries)
