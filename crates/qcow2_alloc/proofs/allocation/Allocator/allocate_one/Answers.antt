use Rattle.std.proofs.Common.{sym, ◌∙◌}
use Rattle.qcow2_alloc.specs.Allocators.{table_of, first_free_of}
use Rattle.qcow2_alloc.specs.State.{image_state, with_first_free}
use Rattle.qcow2_alloc.proofs.Handing.SingleAllocations.{search-refused, counted-already, counted-or-not, same-place, other-place}
use Rattle.qcow2_alloc.proofs.Faults.{handed-on}
use Rattle.qcow2_alloc.proofs.allocation.Allocator.allocate_one.Goals as goal

pub returns-in_err-found-clause-allocates : goal.returns-in_err-found-clause-allocates
returns-in_err-found-clause-allocates g c = rw (handed-on _ _ c.from_residual.ensures.1) (λ pending.
    search-refused g.S.Storage.state c.args.cluster (with_first_free (image_state (table_of c.args.self.now) c.args.caches.now c.args.file.now pending) (first_free_of c.args.self.now)) c.in_err-found.field-0.0 c.find_in_block.new.caches c.find_in_block.new.file c.in_err-found.ensures)

pub returns-then-ne-clause-allocates : goal.returns-then-ne-clause-allocates
returns-then-ne-clause-allocates g c = λ pending.
    counted-already g.S.Storage.state c.args.cluster (with_first_free (image_state (table_of c.args.self.now) c.args.caches.now c.args.file.now pending) (first_free_of c.args.self.now)) c.requires.block_exists c.in_ok-found.found c.find_in_block.new.caches c.find_in_block.new.file c.in_ok-found.ensures
    (other-place c.in_ok-found.found c.args.cluster (sym c.ne.ensures ∙ c.if-ne.true))

pub returns-clause-allocates : goal.returns-clause-allocates
returns-clause-allocates g c = λ pending.
    let new = c.count_one.new in
    let is = same-place c.in_ok-found.found c.args.cluster (sym c.ne.ensures ∙ c.if-ne.false) in
    counted-or-not g.S.Storage.state c.args.cluster (with_first_free (image_state (table_of c.args.self.now) c.args.caches.now c.args.file.now pending) (first_free_of c.args.self.now)) c.requires.block_exists c.in_ok-found.found c.find_in_block.new.caches c.find_in_block.new.file c.in_ok-found.ensures is c.requires.reach c.count_one.result new.caches new.file (first_free_of new.self)
    (c.count_one.ensures.counts pending) c.count_one.ensures.further c.count_one.ensures.stays
