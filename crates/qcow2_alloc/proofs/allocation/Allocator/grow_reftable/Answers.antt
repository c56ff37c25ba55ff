use Rattle.std.proofs.Common.{List, ap, sym, subst, ◌∙◌}
use Rattle.imago_storage.specs.declared.fault.Fault.{Fault}
use Rattle.imago_storage.specs.declared.fault.Fault.TheVariants.{Memory}
use Rattle.qcow2_types.specs.Header.{Header}
use Rattle.qcow2_types.specs.Pending.{FreeEntry}
use Rattle.qcow2_alloc.specs.Allocators.{table_of, first_free_of}
use Rattle.qcow2_alloc.specs.FreeList.{FreeList}
use Rattle.qcow2_alloc.specs.GrowingTables.{GrowsTable}
use Rattle.qcow2_alloc.specs.HandingOut.{GrowsReftable}
use Rattle.qcow2_alloc.specs.MovingTables.{IsGrownFor}
use Rattle.qcow2_alloc.specs.State.{image_state, with_first_free, allocator_state}
use Rattle.qcow2_alloc.proofs.Handing.BlocksBeforeTables.{announced}
use Rattle.qcow2_alloc.proofs.Blocks.ClusterCounts.{succeeded}
use Rattle.qcow2_alloc.proofs.Freeing.EntryFrees.{failed}
use Rattle.qcow2_alloc.proofs.Growth.GrowthInOrder.{not-copied, not-announced, announced-grows}
use Rattle.qcow2_alloc.proofs.Faults.{handed-on}
use Rattle.qcow2_alloc.proofs.allocation.Allocator.grow_reftable.Goals as goal

pub returns-in_err-copy-clause-grows : goal.returns-in_err-copy-clause-grows
returns-in_err-copy-clause-grows g c = rw (handed-on _ _ c.from_residual.ensures.1) (
    not-copied g.S.Storage.state c.args.index (allocator_state c.args.self.now c.args.caches.now c.args.file.now c.args.list.now) c.args.caches.now c.args.file.now c.in_err-copy.field-0.0 c.in_err-copy.ensures.err)

pub returns-in_err-hold-clause-grows : goal.returns-in_err-hold-clause-grows
returns-in_err-hold-clause-grows g c = rw (handed-on _ _ c.from_residual-in_err-hold.ensures.1) (
    let state = g.S.Storage.state in
    let t = table_of c.args.self.now in
    let entries = c.args.list.now.entries in
    let refused = c.in_err-hold.ensures.err in
    subst (λ (l : FreeList). GrowsReftable state c.args.index (allocator_state c.args.self.now c.args.caches.now c.args.file.now c.args.list.now) (failed c.in_err-hold.field-0.0) (allocator_state c.args.self.now c.args.caches.now c.args.file.now l)) (sym refused.1)
    (subst (λ (f : Fault). GrowsReftable state c.args.index (allocator_state c.args.self.now c.args.caches.now c.args.file.now c.args.list.now) (failed f) (allocator_state c.args.self.now c.args.caches.now c.args.file.now c.args.list.now)) (sym refused.0)
    (not-copied state c.args.index (allocator_state c.args.self.now c.args.caches.now c.args.file.now c.args.list.now) c.args.caches.now c.args.file.now Memory tt)))

pub place_grown-requires-clause-grown : goal.place_grown-requires-clause-grown
place_grown-requires-clause-grown g c = (c.args.index, c.requires.past, subst (λ (H : Header). IsGrownFor H.fields (table_of c.args.self.now) c.args.index c.in_ok-copy.copy) (sym c.in-Ok.ensures.header) c.in_ok-copy.ensures.ok)

pub returns-in-Ok-clause-grows : goal.returns-in-Ok-clause-grows
returns-in-Ok-clause-grows g c =
    let state = g.S.Storage.state in
    let t = table_of c.args.self.now in
    let entries = c.args.list.now.entries in
    let a = c.l2_depends_on_rb.new in
    let new = c.place_grown.new in
    let s' = allocator_state new.self new.caches new.file new.list in
    let done = c.in-Ok.ensures in
    let first = announced state (image_state t c.args.caches.now c.args.file.now entries) a.self a.file done.written_value_unchanged done.blocks done.header done.room succeeded done.writes_back_cached done.announced done.well_formed done.cause done.faults in
    let grown = subst (λ (H : Header). IsGrownFor H.fields t c.args.index c.in_ok-copy.copy) (sym done.header) c.in_ok-copy.ensures.ok in
    let grows = subst (λ (l : FreeList). GrowsTable state c.args.index (with_first_free (image_state t a.self a.file l.entries) (first_free_of c.args.self.now)) c.place_grown.result s') c.in_ok-hold.ensures.ok (c.place_grown.ensures.grows c.args.index grown) in
    announced-grows state c.args.index (allocator_state c.args.self.now c.args.caches.now c.args.file.now c.args.list.now) a.self a.file first c.place_grown.result s' grows

pub returns-in-Err-clause-grows : goal.returns-in-Err-clause-grows
returns-in-Err-clause-grows g c =
    let state = g.S.Storage.state in
    let t = table_of c.args.self.now in
    let entries = c.args.list.now.entries in
    let a = c.l2_depends_on_rb.new in
    let done = c.in-Err.ensures in
    let has_no_dirty_data = ap (λ (l : FreeList). l.entries) c.release.ensures ∙ ap (λ (l : FreeList). l.entries) c.in_ok-hold.ensures.ok in
    subst (λ (es : List FreeEntry). GrowsReftable state c.args.index (allocator_state c.args.self.now c.args.caches.now c.args.file.now c.args.list.now) (failed c.in-Err.fault) (with_first_free (image_state t a.self a.file es) (first_free_of c.args.self.now))) (sym has_no_dirty_data)
    (not-announced state c.args.index (allocator_state c.args.self.now c.args.caches.now c.args.file.now c.args.list.now) a.self a.file c.in-Err.fault
    (announced state (image_state t c.args.caches.now c.args.file.now entries) a.self a.file done.written_value_unchanged done.blocks done.header done.room (failed c.in-Err.fault) done.writes_back_cached tt tt done.cause done.faults))
