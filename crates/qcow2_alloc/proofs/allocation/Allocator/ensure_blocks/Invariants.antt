use Rattle.std.proofs.Common.{List, ◌≡◌}
use Rattle.qcow2_types.specs.Pending.{FreeEntry}
use Rattle.qcow2_alloc.specs.Allocating.{MakesBlocks}
use Rattle.std.specs.Prelude.{IsTrue}
use Rattle.qcow2_alloc.specs.declared.cache.CacheDependency.TheVariants.{L2DependsOnRb}
use Rattle.qcow2_alloc.specs.Allocators.{metadata_of, table_of, first_free_of}
use Rattle.qcow2_alloc.specs.Caches.{order_of}
use Rattle.qcow2_alloc.specs.FillingBlocks.{FillsFrom}
use Rattle.qcow2_alloc.specs.GuestView.{IsSound}
use Rattle.qcow2_alloc.specs.State.{image_state}
use Rattle.qcow2_alloc.proofs.Blocks.BlockRows.{so}
use Rattle.qcow2_alloc.proofs.allocation.Allocator.ensure_blocks.Given as goal

abbrev pub invariant-loop-index : goal.invariant-loop-index
invariant-loop-index g l = ((pending : List FreeEntry) → MakesBlocks g.S.Storage.state l.fn.first l.index (image_state (table_of l.fn.self) l.fn.caches l.fn.file pending) (so l.provision) (image_state (table_of l.self) l.caches l.file pending)) × (first_free_of l.self ≡ first_free_of l.fn.self)
    × ((pending : List FreeEntry) → order_of l.fn.caches ≡ L2DependsOnRb → IsTrue (g.S.Storage.state l.fn.file.image).shape.keeps → IsSound (metadata_of g.S.Storage.state l.fn.file l.fn.caches (table_of l.fn.self) pending)
    → FillsFrom (first_free_of l.fn.self) l.fn.first l.index (metadata_of g.S.Storage.state l.fn.file l.fn.caches (table_of l.fn.self) pending) (metadata_of g.S.Storage.state l.file l.caches (table_of l.self) pending))
