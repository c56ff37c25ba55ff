use Rattle.std.proofs.Common.{sym}
use Rattle.qcow2_alloc.proofs.Caching.Entries.{victim_there}
use Rattle.qcow2_alloc.proofs.async_lru_cache.AsyncLruCache.make_room.Goals as goal

pub evict_at-requires : goal.evict_at-requires
evict_at-requires g c = victim_there (g.K.PartialEq.eq) (g.met.K.Eq.laws.refl) c.in-Some.key c.args.self.now.slots.entries (sym c.in-Some.ensures)
