use Rattle.std.proofs.Common.{◌≡◌, ◌≤◌, ◌<◌, ◌+◌, ◌-◌, ◌*◌, ◌/◌, ◌^◌}
use Rattle.qcow2_alloc.specs.Allocators.{table_of}
use Rattle.qcow2_alloc.specs.Growing.{lacks}
use Rattle.qcow2_alloc.specs.MakingRoom.{rank}
use Rattle.qcow2_alloc.proofs.allocation.Allocator.lacking_for.Given as goal

abbrev pub invariant-loop-lacking : goal.invariant-loop-lacking
invariant-loop-lacking l = (l.lacking ≡ rank (lacks (table_of l.fn.self) (2 ^ l.fn.rb_bits) l.fn.run.first l.fn.run.len) l.index) × (l.lacking ≤ l.index)
    × (l.fn.run.first / 2 ^ l.fn.rb_bits ≤ l.index) × (l.index * 2 ^ l.fn.rb_bits < l.fn.run.first + l.fn.run.len + 2 ^ l.fn.rb_bits)

abbrev pub decreases-loop-lacking : goal.decreases-loop-lacking
decreases-loop-lacking l = l.fn.run.first + l.fn.run.len + 2 ^ 24 - l.index
