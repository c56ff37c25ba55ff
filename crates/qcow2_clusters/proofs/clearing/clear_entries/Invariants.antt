use Rattle.std.specs.Prelude.{◌≡◌}
use Rattle.qcow2_clusters.specs.Clearing.{ClearsEntries}
use Rattle.qcow2_clusters.specs.Linking.{listing}
use Rattle.qcow2_clusters.proofs.clearing.clear_entries.Given as goal

-- The entries before this one are cleared.
abbrev pub invariant-loop-next : goal.invariant-loop-next
invariant-loop-next l = ClearsEntries l.fn.clearing l.fn.index l.next (listing l.fn.table l.fn.to_free) (listing l.table l.to_free)
    × (l.to_free.held ≡ l.fn.to_free.held)
