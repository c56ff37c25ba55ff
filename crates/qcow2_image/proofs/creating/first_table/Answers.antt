use Rattle.std.proofs.Common.{ap, ◌∙◌}
use Rattle.qcow2_metadata.specs.Places.{place_of}
use Rattle.qcow2_metadata.specs.Tables.{TableValue}
use Rattle.qcow2_types.specs.Header.{entries_of_cluster}
use Rattle.qcow2_alloc.proofs.Faults.{handed-on}
use Rattle.qcow2_image.proofs.Resizes.Creations.{first-enough, first-short, table-is}
use Rattle.qcow2_image.proofs.creating.first_table.Goals as goal

pub returns-in_err-table-clause-err : goal.returns-in_err-table-clause-err
returns-in_err-table-clause-err c = rw (handed-on _ _ c.from_residual.ensures.1)
    (c.in_err-table.ensures.ok_if_small (entries_of_cluster c.args.header.now.fields) (first-enough c.args.header.now.fields c.requires.shaped)
    (first-short c.args.header.now.fields c.requires.shaped))

pub returns-clause-raw_entries : goal.returns-clause-raw_entries
returns-clause-raw_entries c =
    let cluster = c.requires.cluster in
    table-is c.args.header.now.fields c.requires.shaped c.enter_refblock.new.self.raw_entries c.set_cluster.new.self.raw_entries
    c.in_ok-table.table.raw_entries c.from_data-empty.result.raw_entries (place_of c.args.block.now.cluster_bits c.args.block.now.cluster)
    (ap (λ (t : TableValue). t.raw_entries) c.enter_refblock.ensures) (ap (λ (t : TableValue). t.raw_entries) c.set_cluster.ensures)
    (ap (λ (t : TableValue). t.raw_entries) c.in_ok-table.ensures.ok)
    (ap (λ (t : TableValue). t.raw_entries) c.from_data-empty.ensures ∙ c.new.ensures.items)
    (λ i. place_of (cluster.0 i) (cluster.1 i)) c.in_ok-table.ensures.length
