use Rattle.std.proofs.Common.{◌≡◌, ◌≤◌, ◌-◌, ℕ, length}
use Rattle.std.specs.Prelude.{slice_index}
use Rattle.qcow2_alloc.specs.FreeList.{covers}
use Rattle.qcow2_alloc.specs.MakingRoom.{run_of}
use Rattle.qcow2_alloc.proofs.allocation.making_blocks.count_row.Given as goal

abbrev pub invariant-loop-index : goal.invariant-loop-index
invariant-loop-index l = (l.fn.from ≤ l.index) × (l.block.cluster_bits ≡ l.fn.block.cluster_bits) × (l.block.order ≡ l.fn.block.order) × (length l.block.counters ≡ length l.fn.block.counters)
    × ((j : ℕ) → slice_index l.block.counters j ≡ covers j (run_of l.fn.from (l.index - l.fn.from)))
