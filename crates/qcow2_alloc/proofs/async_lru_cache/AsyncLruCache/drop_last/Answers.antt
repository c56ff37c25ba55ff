use Rattle.std.proofs.Common.{sym, ap, subst, List}
use Rattle.qcow2_alloc.specs.Cache.{DroppedLast}
use Rattle.qcow2_alloc.proofs.Flushing.Turns.{dropped_pinned, dropped_free}
use Rattle.qcow2_alloc.proofs.async_lru_cache.AsyncLruCache.drop_last.Goals as goal

pub returns-then-pinned-clause-dropped : goal.returns-then-pinned-clause-dropped
returns-then-pinned-clause-dropped g c =
    let es = c.args.self.now.slots.entries in
    subst (λ (l : List _). DroppedLast es l) (sym (ap (λ s. s.entries) c.promote.ensures.entries))
    (dropped_pinned g.K.PartialEq.eq g.met.K.Eq.laws g.B.AsyncLruCacheBackend.flushes es c.in-Some.key.now c.in-Some.slot.now c.requires.nonempty c.requires.distinct (sym c.in-Some.ensures) c.if-pinned.true)

pub returns-in-Some-pop_lru-clause-dropped : goal.returns-in-Some-pop_lru-clause-dropped
returns-in-Some-pop_lru-clause-dropped g c =
    let es = c.args.self.now.slots.entries in
    subst (λ (l : List _). DroppedLast es l) (sym (ap (λ s. s.entries) c.pop_lru.ensures.entries))
    (dropped_free g.K.PartialEq.eq g.met.K.Eq.laws g.B.AsyncLruCacheBackend.flushes es c.in-Some.key.now c.in-Some.slot.now c.requires.nonempty c.requires.distinct (sym c.in-Some.ensures) c.if-pinned.false)
