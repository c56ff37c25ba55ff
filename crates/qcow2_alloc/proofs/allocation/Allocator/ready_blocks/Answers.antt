use Rattle.std.proofs.Common.{arith, ℕ, ◌+◌, ◌/◌, subst}
use Rattle.qcow2_alloc.specs.Allocators.{table_of, first_free_of}
use Rattle.qcow2_types.specs.Counts.{counters_of_block}
use Rattle.qcow2_alloc.specs.GrowingTables.{GrowsTable}
use Rattle.qcow2_alloc.specs.State.{allocator_state}
use Rattle.qcow2_alloc.proofs.Blocks.ClusterCounts.{succeeded}
use Rattle.qcow2_alloc.proofs.Freeing.EntryFrees.{failed}
use Rattle.qcow2_alloc.proofs.Blocks.RunProvision.{blocks-ready, table-ready, table-not-ready}
use Rattle.qcow2_alloc.proofs.Faults.{handed-on}
use Rattle.qcow2_alloc.proofs.allocation.Allocator.ready_blocks.Goals as goal

pub returns-then-last-entries-clause-readies : goal.returns-then-last-entries-clause-readies
returns-then-last-entries-clause-readies g c =
    let new = c.ensure_blocks.new in
    let inside = c.if-last-entries.true in
    let long = c.entries.ensures.value in
    blocks-ready g.S.Storage.state (c.args.last + (c.args.count / counters_of_block c.args.file.now.header.fields + 2)) c.args.first c.args.last (allocator_state c.args.self.now c.args.caches.now c.args.file.now c.args.list.now) (omega (arith, inside, long)) c.ensure_blocks.result (table_of new.self) new.caches new.file (first_free_of new.self) c.ensure_blocks.ensures.mark
    (c.ensure_blocks.ensures.makes c.args.list.now.entries) (c.ensure_blocks.ensures.fills c.args.list.now.entries)

pub returns-in_err-grow_table-clause-readies : goal.returns-in_err-grow_table-clause-readies
returns-in_err-grow_table-clause-readies g c = rw (handed-on _ _ c.from_residual.ensures.1) (
    let s = allocator_state c.args.self.now c.args.caches.now c.args.file.now c.args.list.now in
    let new = c.grow_table.new in
    let s' = allocator_state new.self new.caches new.file new.list in
    let past = c.if-last-entries.false in
    let long = c.entries.ensures.value in
    table-not-ready g.S.Storage.state (c.args.last + (c.args.count / counters_of_block c.args.file.now.header.fields + 2)) c.args.first c.args.last s (omega (arith, past, long))
    s' c.in_err-grow_table.field-0.0
    (subst (λ (x : ℕ). GrowsTable g.S.Storage.state (c.args.last + (c.args.count / x + 2)) s (failed c.in_err-grow_table.field-0.0) s') c.rb_entries.ensures.value c.in_err-grow_table.ensures.grows))

pub returns-clause-readies : goal.returns-clause-readies
returns-clause-readies g c =
    let s = allocator_state c.args.self.now c.args.caches.now c.args.file.now c.args.list.now in
    let new = c.grow_table.new in
    let s' = allocator_state new.self new.caches new.file new.list in
    let past = c.if-last-entries.false in
    let long = c.entries.ensures.value in
    table-ready g.S.Storage.state (c.args.last + (c.args.count / counters_of_block c.args.file.now.header.fields + 2)) c.args.first c.args.last s (omega (arith, past, long))
    s' (omega arith)
    (subst (λ (x : ℕ). GrowsTable g.S.Storage.state (c.args.last + (c.args.count / x + 2)) s succeeded s') c.rb_entries.ensures.value c.in_ok-grow_table.ensures.grows)
