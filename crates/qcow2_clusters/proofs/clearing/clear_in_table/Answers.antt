use Rattle.std.proofs.Common.{sym}
use Rattle.std.specs.Prelude.{◌%◌}
use Rattle.qcow2_types.specs.Header.{entries_of_cluster}
use Rattle.qcow2_alloc.specs.CachesLending.{of_tables}
use Rattle.qcow2_alloc.proofs.Caching.EntryLoans.{entry-used}
use Rattle.qcow2_clusters.specs.Clearing.{ClearsIn}
use Rattle.qcow2_clusters.specs.Linking.{listing}
use Rattle.qcow2_clusters.proofs.clearing.clear_in_table.Goals as goal

pub returns-clause-cleared : goal.returns-clause-cleared
returns-clause-cleared g c =
    let h = c.args.file.now.header.fields in
    let bits = c.cluster_bits-cluster_bits.ensures.value in
    entry-used {T = Unit} (of_tables g.S.Storage.state) c.args.table
    (λ t r t'. ClearsIn c.args.clearing h.cluster_bits (c.args.guest % entries_of_cluster h) c.args.count (listing t c.args.to_free.now) r
    (listing t' c.clear_in.new.to_free))
    c.args.caches.now c.args.file.now _ c.l2_get_or_insert.new.file c.l2_get_or_insert.result c.in_ok-table.table c.clear_in.result c.clear_in.new.table
    c.in_ok-table.was (c.l2_get_or_insert.follows.holds c.clear_in.new.table) (rw (sym bits) c.clear_in.ensures.cleared)
