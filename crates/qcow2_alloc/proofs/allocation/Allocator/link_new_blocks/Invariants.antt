use Rattle.std.proofs.Common.{◌≡◌, ◌≤◌, ◌<◌, ◌+◌, ◌-◌, ◌*◌, ◌/◌, ◌^◌}
use Rattle.qcow2_types.specs.Counts.{counters_of_block}
use Rattle.qcow2_alloc.specs.Allocators.{table_of}
use Rattle.qcow2_alloc.specs.MakingRoom.{rank}
use Rattle.qcow2_alloc.proofs.Blocks.NewBlockNames.{lack, NamesBefore}
use Rattle.qcow2_alloc.proofs.allocation.Allocator.link_new_blocks.Given as goal

abbrev pub invariant-loop-block : goal.invariant-loop-block
invariant-loop-block l = NamesBefore l.fn.header.fields (table_of l.fn.self) l.fn.run l.index l.fn.table l.table
    × (l.place ≡ l.fn.run.first + rank (lack l.fn.header.fields (table_of l.fn.self) l.fn.run) l.index)
    × (l.fn.run.first / counters_of_block l.fn.header.fields ≤ l.index)
    × (l.index * counters_of_block l.fn.header.fields < l.fn.run.first + l.fn.run.len + counters_of_block l.fn.header.fields)
    × (l.block.cluster_bits ≡ l.fn.header.fields.cluster_bits)

abbrev pub decreases-loop-block : goal.decreases-loop-block
decreases-loop-block l = l.fn.run.first + l.fn.run.len + 2 ^ 24 - l.index
