-- Setting the write order.
use Rattle.std.proofs.Common.{◌≡◌, refl, sym, ◌∙◌}
use Rattle.qcow2_types.specs.Bytes.{Bytes}
use Rattle.qcow2_types.specs.Header.{Header}
use Rattle.qcow2_types.specs.Versions.{KeepsSlots}
use Rattle.qcow2_types.proofs.Counting.Either.{blocks-are-written, tables-are-written}
use Rattle.qcow2_alloc.specs.declared.cache.CacheDependency.{CacheDependency}
use Rattle.qcow2_alloc.specs.declared.cache.CacheDependency.TheVariants.{Unset, L2DependsOnRb, RbDependsOnL2}
use Rattle.qcow2_alloc.specs.Memory.{Cached, memory}
use Rattle.qcow2_alloc.specs.WellFormedness.{IsOrdered, WellFormed, AreTablesClean, AreBlocksClean}
use Rattle.qcow2_alloc.proofs.Memory.Patches.{all-weaker}
use Rattle.qcow2_alloc.proofs.Memory.MemoryWords.{places-in-memory, slot-same, counts-same}

module _ (f : Bytes) (H : Header) (cached : Cached) where
  -- If all tables are clean, L2 entries mean the same in memory and in the file.
  pub clean-words : (order : CacheDependency) → WellFormed f H cached order → AreTablesClean cached → KeepsSlots f (memory f H.fields cached) H.fields
  clean-words order well_formed clean = record {
    places = places-in-memory f H well_formed.consistent cached well_formed.tables well_formed.blocks;
    slots = λ i j live. slot-same f H well_formed.consistent cached well_formed.tables well_formed.blocks i j live (all-weaker _ _ (λ e off m. absurd (let both = sym off ∙ m in cc)) cached.tables clean);
  }

  with-order : (order other : CacheDependency) → WellFormed f H cached order → IsOrdered other f (memory f H.fields cached) H.fields → WellFormed f H cached other
  with-order order other well_formed ordered = record {
    consistent = well_formed.consistent;
    tables_apart = well_formed.tables_apart;
    blocks_apart = well_formed.blocks_apart;
    tables = well_formed.tables;
    blocks = well_formed.blocks;
    apart = well_formed.apart;
    ordered = ordered;
    covered = well_formed.covered;
  }

  -- Blocks may come first once all tables are clean, if tables came first before.
  pub blocks-come-first : (order : CacheDependency) → (order ≡ RbDependsOnL2 → AreTablesClean cached) → WellFormed f H cached order → WellFormed f H cached L2DependsOnRb
  blocks-come-first Unset ready well_formed = with-order Unset L2DependsOnRb well_formed well_formed.ordered.0
  blocks-come-first L2DependsOnRb ready well_formed = well_formed
  blocks-come-first RbDependsOnL2 ready well_formed = with-order RbDependsOnL2 L2DependsOnRb well_formed
      (tables-are-written f (memory f H.fields cached) H.fields well_formed.ordered (clean-words RbDependsOnL2 well_formed (ready refl)) well_formed.covered)

  -- Tables may come first once all blocks are clean, if blocks came first before.
  pub tables-come-first : (order : CacheDependency) → (order ≡ L2DependsOnRb → AreBlocksClean cached) → WellFormed f H cached order → WellFormed f H cached RbDependsOnL2
  tables-come-first Unset ready well_formed = with-order Unset RbDependsOnL2 well_formed well_formed.ordered.1
  tables-come-first L2DependsOnRb ready well_formed = with-order L2DependsOnRb RbDependsOnL2 well_formed
      (blocks-are-written f (memory f H.fields cached) H.fields well_formed.ordered (counts-same f H well_formed.consistent cached well_formed.tables well_formed.blocks (ready refl)))
  tables-come-first RbDependsOnL2 ready well_formed = well_formed
