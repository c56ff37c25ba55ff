use Rattle.qcow2_alloc.specs.Allocators.{table_of}
use Rattle.qcow2_alloc.specs.State.{image_state, allocator_state}
use Rattle.qcow2_alloc.proofs.Handing.BlocksBeforeTables.{announced}
use Rattle.qcow2_alloc.proofs.Blocks.ClusterCounts.{succeeded}
use Rattle.qcow2_alloc.proofs.Freeing.EntryFrees.{failed}
use Rattle.qcow2_alloc.proofs.Handing.AllocationsInOrder.{at-not-announced, at-announced}
use Rattle.qcow2_alloc.proofs.Faults.{handed-on}
use Rattle.qcow2_alloc.proofs.allocation.Allocator.announce_and_allocate_at.Goals as goal

pub returns-clause-allocates : goal.returns-clause-allocates
returns-clause-allocates g c =
    let state = g.S.Storage.state in
    let t = table_of c.args.self.now in
    let entries = c.args.list.now.entries in
    let a = c.l2_depends_on_rb.new in
    let new = c.allocate_at.new in
    let done = c.in_ok-l2_depends_on_rb.ensures in
    let first = announced state (image_state t c.args.caches.now c.args.file.now entries) a.self a.file done.written_value_unchanged done.blocks done.header done.room succeeded done.writes_back_cached done.announced done.well_formed done.cause done.faults in
    at-announced state c.args.cluster (allocator_state c.args.self.now c.args.caches.now c.args.file.now c.args.list.now) a.self a.file first c.allocate_at.result (allocator_state new.self new.caches new.file new.list) c.allocate_at.ensures.allocates

pub returns-in_err-l2_depends_on_rb-clause-allocates : goal.returns-in_err-l2_depends_on_rb-clause-allocates
returns-in_err-l2_depends_on_rb-clause-allocates g c = rw (handed-on _ _ c.from_residual.ensures.1) (
    let state = g.S.Storage.state in
    let t = table_of c.args.self.now in
    let entries = c.args.list.now.entries in
    let a = c.l2_depends_on_rb.new in
    let done = c.in_err-l2_depends_on_rb.ensures in
    at-not-announced state c.args.cluster (allocator_state c.args.self.now c.args.caches.now c.args.file.now c.args.list.now) a.self a.file c.in_err-l2_depends_on_rb.field-0.0
    (announced state (image_state t c.args.caches.now c.args.file.now entries) a.self a.file done.written_value_unchanged done.blocks done.header done.room (failed c.in_err-l2_depends_on_rb.field-0.0) done.writes_back_cached tt tt done.cause done.faults))
