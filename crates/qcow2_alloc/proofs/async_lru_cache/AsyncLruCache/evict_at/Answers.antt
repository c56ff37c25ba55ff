use Rattle.std.proofs.Common.{refl, ap, ◌∙◌, arith}
use Rattle.std.specs.Map.{remove_entry}
use Rattle.qcow2_alloc.proofs.Caching.Entries.{remove_written, remove_shorter, remove_absent}
use Rattle.qcow2_alloc.proofs.async_lru_cache.AsyncLruCache.evict_at.Goals as goal

pub returns-clause-evicted : goal.returns-clause-evicted
returns-clause-evicted g c = let test = g.K.PartialEq.eq c.args.key in let f = c.in_ok-flush_at.ensures.flushed in (refl, c.flush_at.new.self.slots.entries, f, ap (λ s. s.entries) c.pop.ensures.entries ∙ ap (remove_entry test) f.entries ∙ remove_written test c.args.self.now.slots.entries (record f.slot { value = f.value }))

pub returns-clause-shorter : goal.returns-clause-shorter
returns-clause-shorter g c = let test = g.K.PartialEq.eq c.args.key in let f = c.in_ok-flush_at.ensures.flushed in let left = ap (λ s. s.entries) c.pop.ensures.entries ∙ ap (remove_entry test) f.entries ∙ remove_written test c.args.self.now.slots.entries (record f.slot { value = f.value }) in let less = remove_shorter test c.args.self.now.slots.entries c.requires in rw left (omega (arith, less))

pub returns-clause-absent : goal.returns-clause-absent
returns-clause-absent g c = λ k h. let test = g.K.PartialEq.eq c.args.key in let f = c.in_ok-flush_at.ensures.flushed in let left = ap (λ s. s.entries) c.pop.ensures.entries ∙ ap (remove_entry test) f.entries ∙ remove_written test c.args.self.now.slots.entries (record f.slot { value = f.value }) in rw left (remove_absent test (g.K.PartialEq.eq k) c.args.self.now.slots.entries h)
