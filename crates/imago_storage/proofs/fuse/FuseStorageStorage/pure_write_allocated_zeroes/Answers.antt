use Rattle.std.proofs.Common.{ap, ◌∙◌}
use Rattle.imago_storage.specs.Fuse.{fuse_state}
use Rattle.imago_storage.proofs.Fused.{tripped-later, tripped-once, tripped-not_written, passed-later, passed-once, passed-written, passed-zeroing_refused, counted-trip, counted-pass}
use Rattle.imago_storage.proofs.fuse.FuseStorageStorage.pure_write_allocated_zeroes.Goals as goal

pub returns-then-refuses-clause-err : goal.returns-then-refuses-clause-err
unfolding fuse_state
returns-then-refuses-clause-err g c = tripped-not_written _ _ _ _ _ _ (ap g.S.Storage.state c.refuses.ensures.inner) c.if-refuses.ensures.faults c.if-refuses.ensures.refusals _ _

pub returns-then-refuses-clause-shape : goal.returns-then-refuses-clause-shape
unfolding fuse_state
returns-then-refuses-clause-shape g c = ap (λ s. (g.S.Storage.state s).shape) c.refuses.ensures.inner

pub returns-then-refuses-clause-counts_not_fallen : goal.returns-then-refuses-clause-counts_not_fallen
unfolding fuse_state
returns-then-refuses-clause-counts_not_fallen g c = tripped-later _ _ _ _ _ _ (ap g.S.Storage.state c.refuses.ensures.inner) c.if-refuses.ensures.faults c.if-refuses.ensures.refusals

pub returns-then-refuses-clause-single_request : goal.returns-then-refuses-clause-single_request
unfolding fuse_state
returns-then-refuses-clause-single_request g c = tripped-once _ _ _ _ _ _ (ap g.S.Storage.state c.refuses.ensures.inner) c.if-refuses.ensures.faults c.if-refuses.ensures.refusals

pub returns-then-refuses-clause-counted : goal.returns-then-refuses-clause-counted
returns-then-refuses-clause-counted g c = counted-trip c.args.self.now c.refuses.new.self c.refuses.ensures.count c.refuses.ensures.call c.if-refuses.ensures.nth c.refuses.ensures.inner

pub returns-clause-ok : goal.returns-clause-ok
unfolding fuse_state
returns-clause-ok g c = passed-written _ _ _ _ _ _ _ (ap g.S.Storage.state c.refuses.ensures.inner) c.if-refuses.ensures.faults c.if-refuses.ensures.refusals _ _ _ c.pure_write_allocated_zeroes.ensures.ok

pub returns-clause-err : goal.returns-clause-err
unfolding fuse_state
returns-clause-err g c = passed-zeroing_refused _ _ _ _ _ _ _ (ap g.S.Storage.state c.refuses.ensures.inner) c.if-refuses.ensures.faults c.if-refuses.ensures.refusals _ _ _ c.pure_write_allocated_zeroes.ensures.err

pub returns-clause-shape : goal.returns-clause-shape
unfolding fuse_state
returns-clause-shape g c = c.pure_write_allocated_zeroes.ensures.shape ∙ ap (λ s. (g.S.Storage.state s).shape) c.refuses.ensures.inner

pub returns-clause-counts_not_fallen : goal.returns-clause-counts_not_fallen
unfolding fuse_state
returns-clause-counts_not_fallen g c = passed-later _ _ _ _ _ _ _ (ap g.S.Storage.state c.refuses.ensures.inner) c.if-refuses.ensures.faults c.if-refuses.ensures.refusals c.pure_write_allocated_zeroes.ensures.counts_not_fallen

pub returns-clause-single_request : goal.returns-clause-single_request
unfolding fuse_state
returns-clause-single_request g c = passed-once _ _ _ _ _ _ (g.S.Storage.state c.pure_write_allocated_zeroes.new.self) (ap g.S.Storage.state c.refuses.ensures.inner) c.if-refuses.ensures.faults c.if-refuses.ensures.refusals _ c.pure_write_allocated_zeroes.ensures.single_request

pub returns-clause-counted : goal.returns-clause-counted
returns-clause-counted g c = counted-pass c.args.self.now _ c.refuses.ensures.count c.refuses.ensures.call _ c.if-refuses.ensures.nth c.if-refuses.ensures.faults c.if-refuses.ensures.refusals
