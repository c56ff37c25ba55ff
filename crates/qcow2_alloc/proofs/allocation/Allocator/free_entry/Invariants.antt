use Rattle.std.proofs.Common.{◌≡◌}
use Rattle.qcow2_alloc.specs.Allocators.{table_of}
use Rattle.qcow2_alloc.specs.Caches.{order_of}
use Rattle.qcow2_alloc.specs.FreeList.{entry_at, shortened}
use Rattle.qcow2_alloc.specs.Freeing.{Frees, MayFree}
use Rattle.qcow2_alloc.specs.State.{allocator_state}
use Rattle.qcow2_alloc.proofs.Freeing.EntryFrees.{freed}
use Rattle.qcow2_alloc.proofs.allocation.Allocator.free_entry.Given as goal

abbrev pub invariant-loop : goal.invariant-loop
invariant-loop g l = (l.list.entries ≡ shortened l.fn.list.entries l.fn.index l.counter)
    × (l.list.held ≡ l.fn.list.held) × (order_of l.caches ≡ order_of l.fn.caches) × (table_of l.self ≡ table_of l.fn.self)
    × (MayFree (order_of l.fn.caches) (entry_at l.fn.list.entries l.fn.index) → Frees g.S.Storage.state (allocator_state l.fn.self l.fn.caches l.fn.file l.fn.list) freed (allocator_state l.self l.caches l.file l.list))
