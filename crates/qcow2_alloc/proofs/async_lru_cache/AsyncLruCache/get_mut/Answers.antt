use Rattle.std.proofs.Common.{rules, refl, ap, sym}
use Rattle.qcow2_alloc.specs.Cache.{with_entries}
use Rattle.qcow2_alloc.proofs.Caching.Entries.{promoted_hit, hit_missed}
use Rattle.qcow2_alloc.proofs.async_lru_cache.AsyncLruCache.get_mut.Goals as goal

pub returns-in-Some : goal.returns-in-Some
returns-in-Some g c = ((refl, (λ w. ap (λ es. with_entries c.args.self.now es) (promoted_hit (g.K.PartialEq.eq c.args.key) c.args.self.now.slots.entries c.in-Some.slot.now (sym c.in-Some.ensures.value) w)), refl), record { writes_back = tt; value = search rules })

pub returns-in-None : goal.returns-in-None
returns-in-None g c = ((refl, (λ w. ap (λ es. with_entries c.args.self.now es) (sym (hit_missed (g.K.PartialEq.eq c.args.key) c.args.self.now.slots.entries (sym c.in-None.ensures.value) w))), refl), record { writes_back = tt; value = search rules })
