use Rattle.std.proofs.Common.{sym}
use Rattle.qcow2_image.specs.Looking.{ReadsRun}
use Rattle.qcow2_alloc.specs.CachesLending.{of_tables}
use Rattle.qcow2_alloc.proofs.Caching.EntryLoans.{entry-used}
use Rattle.qcow2_image.proofs.lookup.run_in_table.Goals as goal

pub returns : goal.returns
returns g c =
    let bits = c.cluster_bits-cluster_bits.ensures.value in
    entry-used (of_tables g.S.Storage.state) c.args.table (ReadsRun c.args.file.now.header.fields.cluster_bits c.args.guest c.args.most)
    c.args.caches.now c.args.file.now _ c.l2_get_or_insert.new.file c.l2_get_or_insert.result c.in_ok-table.table c.run_of.result
    c.run_of.new.table c.in_ok-table.was (c.l2_get_or_insert.follows.holds c.run_of.new.table) (rw (sym bits) c.run_of.ensures)
