use Rattle.std.proofs.Common.{◌^◌, arith}
use Rattle.qcow2_metadata.proofs.GrowthLemmas.{clusters_fit, enough_from, enough_next, enough_here}
use Rattle.qcow2_metadata.proofs.ref_table.grown_length.Goals as goal

pub loop-clusters-init : goal.loop-clusters-init
loop-clusters-init c = record {
  first = omega arith;
  least = λ n e. enough_from c.args.cluster_words (omega arith) c.args.counters c.args.at n e;
}

pub loop-clusters-preserved : goal.loop-clusters-preserved
loop-clusters-preserved c = record {
  first = omega arith;
  least = λ n e. enough_next c.args.cluster_words (omega arith) c.args.counters c.args.at c.loop-clusters.clusters n c.if-clusters-length.false e (c.loop-clusters.invariant.least n e);
}

pub returns-then-clusters-length : goal.returns-then-clusters-length
returns-then-clusters-length c = (
  enough_here c.args.cluster_words (omega arith) c.args.counters c.args.at c.loop-clusters.clusters c.loop-clusters.invariant.first c.if-clusters-length.true c.loop-clusters.invariant.least,
  clusters_fit c.args.cluster_words (omega arith) c.loop-clusters.clusters (2 ^ 20) (rw c.MAX_ENTRIES.ensures at c.loop-clusters-test.true),
)
