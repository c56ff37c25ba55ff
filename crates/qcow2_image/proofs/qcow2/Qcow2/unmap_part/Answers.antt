use Rattle.std.proofs.Common.{◌∙◌, ap, sym, Ok}
use Rattle.qcow2_image.specs.Looking.{place_of_table}
use Rattle.qcow2_image.proofs.CallStarts.{begins-same}
use Rattle.qcow2_image.proofs.Resizes.Unmappings.{tail-part, tail-skipped}
use Rattle.qcow2_image.proofs.qcow2.Qcow2.unmap_part.Goals as goal

pub returns-in-Some-clause-unmaps : goal.returns-in-Some-clause-unmaps
returns-in-Some-clause-unmaps g c =
    let old = c.args.self.now in
    let bits = c.cluster_bits-cluster_bits.ensures.value in
    tail-part g.S.Storage c.in-Some.table c.args.guest c.args.count old c.clear_clusters.new.self c.clear_clusters.result c.clear_clusters.ensures.clears
    (ap (λ b. place_of_table old.tables.l1.raw_entries b c.args.guest) (sym bits) ∙ sym c.l2_cluster.ensures ∙ c.in-Some.is)
    c.requires.row c.requires.any c.requires.free

pub returns-in-None-clause-unmaps : goal.returns-in-None-clause-unmaps
returns-in-None-clause-unmaps g c =
    let old = c.args.self.now in
    let bits = c.cluster_bits-cluster_bits.ensures.value in
    tail-skipped g.S.Storage c.args.guest c.args.count old
    (ap (λ b. place_of_table old.tables.l1.raw_entries b c.args.guest) (sym bits) ∙ sym c.l2_cluster.ensures ∙ c.in-None.is)
    c.requires.row

pub returns-in-None-clause-begins : goal.returns-in-None-clause-begins
returns-in-None-clause-begins g c = begins-same g.S.Storage {T = Unit} c.args.begun.now c.args.self.now (Ok tt) tt
