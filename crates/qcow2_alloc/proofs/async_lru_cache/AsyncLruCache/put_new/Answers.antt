use Rattle.std.proofs.Common.{◌-◌, ◌∷◌, ap, ◌∙◌, arith}
use Rattle.std.proofs.lemmas.List.{take_all}
use Rattle.qcow2_alloc.specs.Cache.{with_entries}
use Rattle.qcow2_alloc.proofs.Caching.Entries.{missed}
use Rattle.qcow2_alloc.proofs.async_lru_cache.AsyncLruCache.put_new.Goals as goal

pub returns-in-Ok-clause-ok : goal.returns-in-Ok-clause-ok
returns-in-Ok-clause-ok g c =
    let miss = missed (g.K.PartialEq.eq c.args.key) c.args.self.now.slots.entries c.requires.fresh in
    ap (λ s. record c.args.self.now { slots = s }) c.in-Ok.ensures.entries ∙ rw miss (ap (λ es. with_entries c.args.self.now ((c.args.key, record { value = c.args.value; pins = 0 }) ∷ es)) (take_all (c.args.self.now.slots.cap - 1) c.args.self.now.slots.entries (omega (arith, c.requires.room))))
