use Rattle.std.proofs.Common.{ℕ, ◌+◌, ◌*◌, ◌/◌, ◌≤◌}
use Rattle.qcow2_metadata.specs.Tables.{IsEnough}
use Rattle.qcow2_metadata.proofs.ref_table.grown_length.Given as goal

-- No length of fewer clusters is enough.
abbrev pub invariant-loop-clusters : goal.invariant-loop-clusters
invariant-loop-clusters l = record {
  first : l.at / l.cluster_words + 1 ≤ l.clusters;
  least : (n : ℕ) → IsEnough l.cluster_words l.counters l.at n → l.clusters * l.cluster_words ≤ n;
}
