use Rattle.std.proofs.Common.{◌≡◌, ◌≤◌, ◌<◌, ◌+◌, ◌-◌, ◌*◌, ◌/◌, ◌^◌, Ok}
use Rattle.qcow2_types.specs.Counts.{counters_of_block}
use Rattle.qcow2_alloc.specs.Allocators.{table_of}
use Rattle.qcow2_alloc.specs.MakingRoom.{rank}
use Rattle.qcow2_alloc.proofs.Blocks.NewBlockWrites.{lack, WritesBefore}
use Rattle.qcow2_alloc.proofs.allocation.Allocator.write_new_blocks.Given as goal

abbrev pub invariant-loop-run : goal.invariant-loop-run
invariant-loop-run g l = (l.file.header ≡ l.fn.file.header)
    × WritesBefore l.fn.file.header (table_of l.fn.self) l.fn.run l.index (g.S.Storage.state l.fn.file.image) (Ok tt) (g.S.Storage.state l.file.image)
    × (l.written ≡ rank (lack l.fn.file.header (table_of l.fn.self) l.fn.run) l.index)
    × (l.fn.run.first / counters_of_block l.fn.file.header.fields ≤ l.index)
    × (l.index * counters_of_block l.fn.file.header.fields < l.fn.run.first + l.fn.run.len + counters_of_block l.fn.file.header.fields)

abbrev pub decreases-loop-run : goal.decreases-loop-run
decreases-loop-run g l = l.fn.run.first + l.fn.run.len + 2 ^ 24 - l.index
