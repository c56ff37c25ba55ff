use Rattle.std.proofs.Common.{◌≡◌, ◌-◌, ◌+◌, arith, ap, subst, ◌∙◌, ℕ}
use Rattle.qcow2_alloc.specs.Cache.{with_entries}
use Rattle.qcow2_alloc.proofs.Flushing.Turns.{Dropping, dropped-distinct, drop_step}
use Rattle.qcow2_alloc.proofs.async_lru_cache.AsyncLruCache.invalidate.Goals as goal

pub loop-preserved : goal.loop-preserved
loop-preserved g c =
    let es = c.args.self.now.slots.entries in
    let now' = c.drop_last.new.self.slots.entries in
    let step = drop_step es c.loop.self.slots.entries now' (c.len-end.result - c.loop.counter) (omega (arith, c.loop-test.true)) c.loop.invariant.1 c.drop_last.ensures.dropped in
    let left : c.len-end.result - c.loop.counter - 1 ≡ c.len-end.result - (c.loop.counter + 1) = omega arith in (
      c.drop_last.ensures.others ∙ ap (λ s. with_entries s now') c.loop.invariant.0,
      subst (λ (n : ℕ). Dropping es n now') left step,
      dropped-distinct g.K.PartialEq.eq g.met.K.Eq.laws c.loop.self.slots.entries now' c.drop_last.ensures.dropped c.loop.invariant.2,
    )
