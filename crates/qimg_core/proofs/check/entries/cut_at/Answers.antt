use Rattle.std.proofs.Common.{arith, rules, ltb, ltb-true, ltb-false}
use Rattle.std.proofs.lemmas.List.Sorted.{IsPartitionPoint-from_clause, IsPartitionedBy-ltb}
use Rattle.qimg_core.specs.Names.{cluster_of}
use Rattle.qimg_core.proofs.check.entries.cut_at.Goals as goal

pub returns : goal.returns
returns c =
    let point = IsPartitionPoint-from_clause (λ name. ltb (cluster_of name) c.args.cluster) _ _ c.partition_point.ensures.partitioned (IsPartitionedBy-ltb cluster_of _ c.args.cluster c.requires) (λ a r q k. search rules) in
    record { bound = c.partition_point.ensures.bound; before = λ i lt. ltb-true _ _ (point.0 i 0 (omega arith) lt); next_not_after = λ i le lt. ltb-false _ _ (point.1 i 0 le lt) }
