use Rattle.std.proofs.Common.{◌≡◌, ◌+◌, ◌-◌, ◌*◌, length}
use Rattle.qcow2_types.specs.Counts.{counters_of_block}
use Rattle.qcow2_alloc.specs.Allocators.{table_of}
use Rattle.qcow2_alloc.specs.Caches.{cached_file}
use Rattle.qcow2_alloc.specs.Growing.{needed_for}
use Rattle.qcow2_alloc.proofs.Growth.RoomSearchProgress.{RoomSearched}
use Rattle.qcow2_alloc.proofs.allocation.Allocator.find_free_area.Given as goal

abbrev pub invariant-loop-needed : goal.invariant-loop-needed
invariant-loop-needed g l = RoomSearched g.S.Storage.state (table_of l.fn.self) l.fn.from l.fn.clusters (cached_file l.fn.caches l.fn.file) l.room (cached_file l.caches l.file)
    × (l.needed ≡ needed_for (table_of l.fn.self) (counters_of_block l.fn.file.header.fields) l.fn.clusters l.room)

abbrev pub decreases-loop-needed : goal.decreases-loop-needed
decreases-loop-needed g l = (length (table_of l.fn.self).raw_entries * counters_of_block l.fn.file.header.fields + 1 - l.room.first) * (2 * l.fn.clusters + 5) + (2 * l.fn.clusters + 4 - l.room.len)
