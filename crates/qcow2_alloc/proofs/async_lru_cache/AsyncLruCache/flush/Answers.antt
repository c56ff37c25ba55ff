use Rattle.std.proofs.Common.{◌≡◌, ◌-◌, ◌+◌, arith, ap, subst, ◌∙◌, ℕ}
use Rattle.qcow2_alloc.specs.Cache.{with_entries, latest}
use Rattle.qcow2_alloc.proofs.Flushing.Turns.{Turning, flushed-distinct, turn_step}
use Rattle.qcow2_alloc.proofs.async_lru_cache.AsyncLruCache.flush.Goals as goal

pub loop-preserved : goal.loop-preserved
loop-preserved g c =
    let es = c.args.self.now.slots.entries in
    let now' = c.flush_last-flushed.new.self.slots.entries in
    let step = turn_step g.B.AsyncLruCacheBackend.flushes c.args.device.now c.loop.device c.flush_last-flushed.new.device es c.loop.self.slots.entries now' (c.len-end.result - c.loop.counter) c.loop.fault c.flush_last-flushed.result (omega (arith, c.loop-test.true)) c.loop.invariant.1 c.flush_last-flushed.ensures.flushed in
    let left : c.len-end.result - c.loop.counter - 1 ≡ c.len-end.result - (c.loop.counter + 1) = omega arith in (
      c.flush_last-flushed.ensures.others ∙ ap (λ s. with_entries s now') c.loop.invariant.0,
      rw c.latest-fault.ensures (subst (λ (n : ℕ). Turning g.B.AsyncLruCacheBackend.flushes c.args.device.now es n (latest c.loop.fault c.flush_last-flushed.result) c.flush_last-flushed.new.device now') left step),
      flushed-distinct g.K.PartialEq.eq g.met.K.Eq.laws g.B.AsyncLruCacheBackend.flushes c.loop.device c.flush_last-flushed.new.device c.loop.self.slots.entries now' c.flush_last-flushed.result c.flush_last-flushed.ensures.flushed c.loop.invariant.2,
    )
