-- Refcount blocks for contracts: the refcounts of consecutive host clusters, their changes, and how a block is loaded and written.
use Rattle.std.specs.Prelude.{ℕ, ◌*◌, Bool, true, false, List, map, slice_set, Option, Some, Result}
use Rattle.std.specs.List.{range_with_len}
use Rattle.imago_storage.specs.State.{StorageState}
use Rattle.imago_storage.specs.Through.{AtomicWriteOutcome}
use Rattle.imago_storage.specs.declared.fault.Fault.{Fault}
use Rattle.qcow2_types.specs.Bytes.{Bytes}
use Rattle.qcow2_types.specs.Header.{Fields, cluster_size}
use Rattle.qcow2_types.specs.TableBytes.{Packs}
use Rattle.qcow2_types.specs.Counts.{counter, counters_of_block}

-- A refcount block as contracts see it.
pub record Block : Type 0 where
  -- a cluster has 2 ^ cluster_bits bytes, and a refcount 2 ^ order bits
  pub cluster_bits : ℕ
  pub order : ℕ
  pub counters : List ℕ
  -- the cluster of the block in the file, if it has one
  pub cluster : Option ℕ
  -- the file may differ from the block
  pub modified : Bool

-- The block with these fields.
abbrev pub block_of : ℕ → ℕ → List ℕ → Option ℕ → Bool → Block
block_of cluster_bits order counters cluster modified = record {
  cluster_bits = cluster_bits;
  order = order;
  counters = counters;
  cluster = cluster;
  modified = modified;
}

-- The block with the refcount `n` at index `i`, now dirty.
abbrev pub with_counter : Block → ℕ → ℕ → Block
with_counter block i n = record block { counters = slice_set block.counters i n; modified = true }

-- The refcounts of the block at this offset of a file with the header `h`.
abbrev pub counters_in : Bytes → Fields → ℕ → List ℕ
counters_in f h place = map (counter f h place) (range_with_len 0 (counters_of_block h))

-- The block in this cluster of a file, as it loads.
abbrev pub block_in : Bytes → Fields → ℕ → Block
block_in f h cluster = record {
  cluster_bits = h.cluster_bits;
  order = h.refcount_order;
  counters = counters_in f h (cluster * cluster_size h);
  cluster = Some cluster;
  modified = false;
}

-- The bytes of a block are written at this offset in one request that ends with `result`.
pub record BlockPut {T : Type 0} (block : Block) (place : ℕ) (old new : StorageState) (result : Result T Fault) : Type 0 where
  pub bytes : List ℕ
  pub packs : Packs block.order block.counters bytes
  pub put : AtomicWriteOutcome old new place bytes result
