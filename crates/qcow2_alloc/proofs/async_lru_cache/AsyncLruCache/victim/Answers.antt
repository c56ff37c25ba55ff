use Rattle.std.proofs.Common.{sym, ap, ◌∙◌}
use Rattle.qcow2_alloc.specs.Cache.{victim}
use Rattle.qcow2_alloc.proofs.Caching.Entries.{victim_free, victim_pinned}
use Rattle.qcow2_alloc.proofs.async_lru_cache.AsyncLruCache.victim.Goals as goal

pub returns-then-slot-eq0 : goal.returns-then-slot-eq0
returns-then-slot-eq0 g c =
    sym (victim_free c.next_back.new.self (c.in-Some.key.now, c.in-Some.slot.now) c.if-slot-eq0.true) ∙ ap (λ l. victim l) (sym c.in-Some.ensures.steps) ∙ c.loop-key.invariant

pub loop-key-preserved : goal.loop-key-preserved
loop-key-preserved g c =
    sym (victim_pinned c.next_back.new.self (c.in-Some.key.now, c.in-Some.slot.now) c.if-slot-eq0.false) ∙ ap (λ l. victim l) (sym c.in-Some.ensures.steps) ∙ c.loop-key.invariant
