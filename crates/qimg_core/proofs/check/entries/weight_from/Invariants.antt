use Rattle.std.proofs.Common.{◌≡◌, ◌<◌, ◌≤◌, ℕ, take}
use Rattle.std.specs.Prelude.{slice_index}
use Rattle.std.specs.List.{sum_by}
use Rattle.qimg_core.specs.Names.{cluster_of, weight_in}
use Rattle.qimg_core.proofs.check.entries.weight_from.Given as goal

-- The items before this one are summed, and those from the cut on are of the cluster.
abbrev pub invariant-loop-i : goal.invariant-loop-i
invariant-loop-i l =
    (l.sum ≡ sum_by (weight_in l.cluster) (take l.i l.list))
    × ((k : ℕ) → l.fn.cut ≤ k → k < l.i → cluster_of (slice_index l.list k) ≡ l.cluster)
