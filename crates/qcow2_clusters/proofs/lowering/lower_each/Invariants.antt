use Rattle.std.specs.Prelude.{List, ⊤}
use Rattle.qcow2_types.specs.Pending.{FreeEntry}
use Rattle.qcow2_alloc.specs.Allocators.{first_free_of, table_of}
use Rattle.qcow2_alloc.specs.State.{image_state, with_first_free}
use Rattle.qcow2_clusters.specs.Lowering.{LowersPart}
use Rattle.qcow2_clusters.proofs.lowering.lower_each.Given as goal

-- The pairs before this one are done.
abbrev pub invariant-loop-index : goal.invariant-loop-index
invariant-loop-index g l = (pending : List FreeEntry) → LowersPart g.S.Storage.state l.fn.pairs l.index ⊤
    (with_first_free (image_state (table_of l.fn.allocator) l.fn.caches l.fn.file pending) (first_free_of l.fn.allocator))
    (with_first_free (image_state (table_of l.allocator) l.caches l.file pending) (first_free_of l.allocator))
