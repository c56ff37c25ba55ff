use Rattle.std.proofs.Common.{◌≡◌, ◌-◌}
use Rattle.std.specs.List.{IsDistinct}
use Rattle.std.specs.Map.{keys_of}
use Rattle.qcow2_alloc.specs.Cache.{with_entries}
use Rattle.qcow2_alloc.proofs.Flushing.Turns.{Dropping}
use Rattle.qcow2_alloc.proofs.async_lru_cache.AsyncLruCache.invalidate.Given as goal

abbrev pub invariant-loop : goal.invariant-loop
invariant-loop g l = (l.self ≡ with_entries l.fn.self l.self.slots.entries) × Dropping l.fn.self.slots.entries (l.end - l.counter) l.self.slots.entries
    × IsDistinct g.K.PartialEq.eq (keys_of l.self.slots.entries)
