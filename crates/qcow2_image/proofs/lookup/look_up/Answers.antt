use Rattle.std.proofs.Common.{refl, ◌*◌, ◌^◌, ap, sym, ◌∙◌}
use Rattle.qcow2_image.specs.Looking.{place_of_table, ReadsRun}
use Rattle.qcow2_image.proofs.WordLookups.{looks-used, looks-none, clean-used, loose-used}
use Rattle.qcow2_image.proofs.lookup.look_up.Goals as goal

pub invariant_of-tables : goal.invariant_of-tables
invariant_of-tables g c =
    let bits = c.args.tables.now.file.header.fields.cluster_bits in
    record {
      clean = clean-used g.S.Storage.state c.in-Some.table (ReadsRun bits c.args.guest c.args.most) c.args.tables.now.caches c.args.tables.now.file c.run_in_table.result c.run_in_table.new.caches c.run_in_table.new.file (λ t t' r used. used.same) c.args.tables.now.clean c.run_in_table.ensures;
      unpinned = loose-used g.S.Storage.state c.in-Some.table c.args.tables.now.caches c.args.tables.now.file (ReadsRun bits c.args.guest c.args.most) c.run_in_table.result c.run_in_table.new.caches c.run_in_table.new.file c.args.tables.now.unpinned c.run_in_table.ensures;
    }

pub returns-in-Some : goal.returns-in-Some
returns-in-Some g c =
    let b = c.cluster_bits-cluster_bits.ensures.value in
    looks-used g.S.Storage c.args.guest c.args.most c.in-Some.table c.args.tables.now _ refl refl (ap (λ x. place_of_table c.args.tables.now.l1.raw_entries x c.args.guest) (sym b) ∙ sym c.l2_cluster.ensures ∙ c.in-Some.is)
    c.run_in_table.result c.requires.one_table c.run_in_table.ensures

pub returns-in-None : goal.returns-in-None
returns-in-None g c =
    let b = c.cluster_bits-cluster_bits.ensures.value in
    looks-none g.S.Storage c.args.guest c.args.most c.backing_offset.inside.0 c.args.tables.now (c.backing_offset.view_is ∙ c.offset.ensures ∙ ap (λ x. c.args.guest * 2 ^ x) b) c.requires.limit_nonzero c.requires.one_table
    (ap (λ x. place_of_table c.args.tables.now.l1.raw_entries x c.args.guest) (sym b) ∙ sym c.l2_cluster.ensures ∙ c.in-None.is)
