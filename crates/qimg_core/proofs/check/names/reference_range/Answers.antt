use Rattle.std.proofs.Common.{◌<◌, ◌+◌, ◌-◌, ◌/◌, ◌^◌, arith, ap, ◌∙◌}
use Rattle.std.proofs.lemmas.Result.{on_ok_weaker}
use Rattle.qimg_core.proofs.Names.Ranges.{adds-range, cluster-small}
use Rattle.qimg_core.proofs.check.names.reference_range.Goals as goal

pub reference_clusters-requires-clause-below : goal.reference_clusters-requires-clause-below
reference_clusters-requires-clause-below c = rw (c.high.view_is ∙ c.cluster-2.ensures ∙ ap (λ k. (c.args.first + (c.args.length - 1)) / 2 ^ k) c.cluster_bits-cluster_bits.ensures.value) (cluster-small _ _ c.cluster_bits-cluster_bits.ensures.shaped.low (omega (arith, c.requires)))

pub returns-clause-ok : goal.returns-clause-ok
returns-clause-ok c =
    let some : 0 < c.args.length = omega arith in
    on_ok_weaker c.reference_clusters.result (adds-range c.args.header.now.fields c.args.names.now c.reference_clusters.new.names c.args.first c.args.length c.low.inside.0 c.high.inside.0 c.args.times some (c.low.view_is ∙ c.cluster.ensures ∙ ap (λ k. c.args.first / 2 ^ k) c.cluster_bits-cluster_bits.ensures.value) (c.high.view_is ∙ c.cluster-2.ensures ∙ ap (λ k. (c.args.first + (c.args.length - 1)) / 2 ^ k) c.cluster_bits-cluster_bits.ensures.value)) c.reference_clusters.ensures.ok
