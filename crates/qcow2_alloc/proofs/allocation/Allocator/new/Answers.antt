use Rattle.std.proofs.Common.{refl}
use Rattle.qcow2_alloc.proofs.Growth.TableLoads.{loaded-from, table-loaded, table-not-loaded}
use Rattle.qcow2_alloc.proofs.Faults.{handed-on}
use Rattle.qcow2_alloc.proofs.allocation.Allocator.new.Goals as goal

pub returns-clause-loads : goal.returns-clause-loads
returns-clause-loads g c =
    let state = g.S.Storage.state in
    let h = c.args.file.now.header.fields in
    let from = loaded-from h c.reftable_offset.result c.cluster_bits-bits.result c.in-Some.cluster c.reftable_entries-entries.result c.reftable_offset.ensures c.cluster_bits-bits.ensures.value c.reftable_entries-entries.ensures c.in-Some.ensures.0 c.in-Some.ensures.1 (c.if-not-is_addressable.ensures.0 refl) in
    table-loaded (state c.args.file.now.image) h c.in-Some.cluster c.reftable_entries-entries.result c.from_table.result c.in_ok-table.table (state c.load.new.image) from c.in_ok-table.ensures.ok c.in_ok-table.ensures.sound c.from_table.ensures.table c.from_table.ensures.mark c.load.ensures.unchanged_but_faults c.in_ok-table.ensures.faults

pub returns-in_err-table-clause-loads : goal.returns-in_err-table-clause-loads
returns-in_err-table-clause-loads g c = rw (handed-on _ _ c.from_residual.ensures.1) (
    let state = g.S.Storage.state in
    let h = c.args.file.now.header.fields in
    let from = loaded-from h c.reftable_offset.result c.cluster_bits-bits.result c.in-Some.cluster c.reftable_entries-entries.result c.reftable_offset.ensures c.cluster_bits-bits.ensures.value c.reftable_entries-entries.ensures c.in-Some.ensures.0 c.in-Some.ensures.1 (c.if-not-is_addressable.ensures.0 refl) in
    table-not-loaded (state c.args.file.now.image) h c.in-Some.cluster c.reftable_entries-entries.result c.in_err-table.field-0.0 (state c.load.new.image) from c.in_err-table.ensures.err c.load.ensures.unchanged_but_faults)
