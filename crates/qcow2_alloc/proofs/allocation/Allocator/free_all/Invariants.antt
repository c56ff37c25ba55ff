use Rattle.std.proofs.Common.{◌≡◌, length}
use Rattle.qcow2_alloc.specs.declared.cache.CacheDependency.TheVariants.{RbDependsOnL2}
use Rattle.qcow2_alloc.specs.Allocators.{table_of}
use Rattle.qcow2_alloc.specs.Caches.{order_of}
use Rattle.qcow2_alloc.specs.Freeing.{Frees, IsSublist}
use Rattle.qcow2_alloc.specs.State.{allocator_state}
use Rattle.qcow2_alloc.proofs.Freeing.EntryFrees.{freed}
use Rattle.qcow2_alloc.proofs.allocation.Allocator.free_all.Given as goal

abbrev pub invariant-loop-list : goal.invariant-loop-list
invariant-loop-list g l = (l.list.held ≡ l.fn.list.held) × (order_of l.caches ≡ order_of l.fn.caches) × (table_of l.self ≡ table_of l.fn.self) × IsSublist l.list.entries l.fn.list.entries
    × (order_of l.fn.caches ≡ RbDependsOnL2 → Frees g.S.Storage.state (allocator_state l.fn.self l.fn.caches l.fn.file l.fn.list) freed (allocator_state l.self l.caches l.file l.list))

abbrev pub decreases-loop-list : goal.decreases-loop-list
decreases-loop-list g l = length l.list.entries
