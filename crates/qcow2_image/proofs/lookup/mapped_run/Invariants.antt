use Rattle.std.specs.Prelude.{◌≡◌, ◌+◌, ◌-◌, ◌*◌, ◌%◌, ◌^◌, ◌<◌, ◌≤◌, ℕ}
use Rattle.qcow2_types.specs.Entries.{l2_entries}
use Rattle.qcow2_metadata.specs.Tables.{mapping_in}
use Rattle.qcow2_metadata.specs.MappingView.{mapping_seen, IsHostAddressable, BacksAt}
use Rattle.qcow2_image.specs.Looking.{Follows}
use Rattle.qcow2_image.proofs.lookup.mapped_run.Given as goal

-- Up to `next` each mapping follows the one before, and `last` is the mapping of the last cluster.
abbrev pub invariant-loop-next : goal.invariant-loop-next
invariant-loop-next l =
    let bits = l.table.layout.cluster_bits in
    let mapped : ℕ → _ = λ g. mapping_in l.table (g % l2_entries bits) in
    (0 < l.next) × (l.next ≤ l.most)
    × (mapping_seen l.first ≡ mapped l.fn.guest) × IsHostAddressable bits l.first
    × ((k : ℕ) → k + 1 < l.next → Follows (mapped (l.fn.guest + k)) (mapped (l.fn.guest + k + 1)))
    × (mapping_seen l.last ≡ mapped (l.fn.guest + l.next - 1)) × BacksAt ((l.fn.guest + l.next - 1) * 2 ^ bits) l.last
