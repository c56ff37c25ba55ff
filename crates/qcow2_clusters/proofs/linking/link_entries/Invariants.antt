use Rattle.std.specs.Prelude.{◌≡◌}
use Rattle.qcow2_clusters.specs.Linking.{LinksEntries, listing}
use Rattle.qcow2_clusters.proofs.linking.link_entries.Given as goal

-- The entries before this one are linked.
abbrev pub invariant-loop-next : goal.invariant-loop-next
invariant-loop-next l = LinksEntries l.fn.index l.fn.cluster l.next (listing l.fn.table l.fn.to_free) (listing l.table l.to_free)
    × (l.to_free.held ≡ l.fn.to_free.held)
