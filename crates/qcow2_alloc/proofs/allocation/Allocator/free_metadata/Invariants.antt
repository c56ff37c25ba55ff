use Rattle.std.proofs.Common.{◌≡◌, [], length}
use Rattle.qcow2_alloc.specs.Allocators.{table_of}
use Rattle.qcow2_alloc.specs.Caches.{order_of}
use Rattle.qcow2_alloc.specs.Freeing.{Frees, IsSublist, data_in}
use Rattle.qcow2_alloc.specs.GuestView.{metadata_in}
use Rattle.qcow2_alloc.specs.State.{allocator_state}
use Rattle.qcow2_alloc.proofs.Freeing.EntryFrees.{freed}
use Rattle.qcow2_alloc.proofs.allocation.Allocator.free_metadata.Given as goal

abbrev pub invariant-loop-index : goal.invariant-loop-index
invariant-loop-index g l = (l.list.held ≡ l.fn.list.held) × (order_of l.caches ≡ order_of l.fn.caches) × (table_of l.self ≡ table_of l.fn.self)
    × (data_in l.list.entries ≡ data_in l.fn.list.entries) × IsSublist l.list.entries l.fn.list.entries
    × Frees g.S.Storage.state (allocator_state l.fn.self l.fn.caches l.fn.file l.fn.list) freed (allocator_state l.self l.caches l.file l.list)
    × (metadata_in l.fn.list.entries ≡ [] → (l.caches ≡ l.fn.caches) × (l.file ≡ l.fn.file) × (l.self ≡ l.fn.self) × (l.list.entries ≡ l.fn.list.entries))

abbrev pub decreases-loop-index : goal.decreases-loop-index
decreases-loop-index g l = length l.list.entries
