use Rattle.std.proofs.Common.{sym, subst}
use Rattle.imago_storage.specs.declared.fault.Fault.{Fault}
use Rattle.imago_storage.specs.declared.fault.Fault.TheVariants.{Memory}
use Rattle.qcow2_alloc.specs.Allocators.{table_of}
use Rattle.qcow2_alloc.specs.FreeList.{FreeList}
use Rattle.qcow2_alloc.specs.GrowingTables.{GrowsTable}
use Rattle.qcow2_alloc.specs.State.{allocator_state}
use Rattle.qcow2_alloc.proofs.Freeing.EntryFrees.{failed}
use Rattle.qcow2_alloc.proofs.Growth.TableGrowth.{no-copy}
use Rattle.qcow2_alloc.proofs.Faults.{handed-on}
use Rattle.qcow2_alloc.proofs.allocation.Allocator.grow_table.Goals as goal

pub returns-in_err-copy-clause-grows : goal.returns-in_err-copy-clause-grows
returns-in_err-copy-clause-grows g c = rw (handed-on _ _ c.from_residual.ensures.1) (
    no-copy g.S.Storage.state c.args.at (allocator_state c.args.self.now c.args.caches.now c.args.file.now c.args.list.now) c.in_err-copy.field-0.0 c.in_err-copy.ensures.err)

pub returns-in_err-hold-clause-grows : goal.returns-in_err-hold-clause-grows
returns-in_err-hold-clause-grows g c = rw (handed-on _ _ c.from_residual-in_err-hold.ensures.1) (
    let state = g.S.Storage.state in
    let t = table_of c.args.self.now in
    let refused = c.in_err-hold.ensures.err in
    subst (λ (l : FreeList). GrowsTable state c.args.at (allocator_state c.args.self.now c.args.caches.now c.args.file.now c.args.list.now) (failed c.in_err-hold.field-0.0) (allocator_state c.args.self.now c.args.caches.now c.args.file.now l)) (sym refused.1)
    (subst (λ (f : Fault). GrowsTable state c.args.at (allocator_state c.args.self.now c.args.caches.now c.args.file.now c.args.list.now) (failed f) (allocator_state c.args.self.now c.args.caches.now c.args.file.now c.args.list.now)) (sym refused.0)
    (no-copy state c.args.at (allocator_state c.args.self.now c.args.caches.now c.args.file.now c.args.list.now) Memory tt)))

pub place_grown-requires-clause-grown : goal.place_grown-requires-clause-grown
place_grown-requires-clause-grown g c = (c.args.at, c.requires.past, c.in_ok-copy.ensures.ok)

pub returns-clause-grows : goal.returns-clause-grows
returns-clause-grows g c =
    let new = c.place_grown.new in
    subst (λ (l : FreeList). GrowsTable g.S.Storage.state c.args.at (allocator_state c.args.self.now c.args.caches.now c.args.file.now l) c.place_grown.result (allocator_state new.self new.caches new.file new.list))
    c.in_ok-hold.ensures.ok (c.place_grown.ensures.grows c.args.at c.in_ok-copy.ensures.ok)
