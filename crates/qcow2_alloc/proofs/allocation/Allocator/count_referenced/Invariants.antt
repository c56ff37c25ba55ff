use Rattle.std.proofs.Common.{List}
use Rattle.qcow2_types.specs.Pending.{FreeEntry}
use Rattle.qcow2_alloc.specs.Allocating.{CountsReferenced}
use Rattle.qcow2_alloc.specs.Allocators.{table_of}
use Rattle.qcow2_alloc.specs.State.{image_state}
use Rattle.qcow2_alloc.proofs.Blocks.ClusterCounts.{succeeded}
use Rattle.qcow2_alloc.proofs.allocation.Allocator.count_referenced.Given as goal

abbrev pub invariant-loop-index : goal.invariant-loop-index
invariant-loop-index g l = (pending : List FreeEntry) → CountsReferenced g.S.Storage.state l.fn.run.first l.index (image_state (table_of l.fn.self) l.fn.caches l.fn.file pending) succeeded (image_state (table_of l.fn.self) l.caches l.file pending)
