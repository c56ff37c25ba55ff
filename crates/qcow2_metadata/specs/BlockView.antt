-- The value that contracts use for a refcount block in memory, and its invariant.
use Rattle.std.specs.Prelude.{◌≡◌, ◌^◌, ◌≤◌, length}
use Rattle.qcow2_metadata.specs.Cells.{counters_of}
use Rattle.qcow2_metadata.specs.Blocks.{Block}
use Rattle.qcow2_metadata.specs.declared.refblock.RefBlock.TheInside.{Inside}

abbrev pub seen_block : Inside → Block
seen_block b = record {
  cluster_bits = b.cluster_bits;
  order = b.refcount_order;
  counters = counters_of b.refcount_order b.bytes.items;
  cluster = b.cluster;
  modified = b.modified;
}

-- The invariant of a block: it fills one cluster.
pub record IsBlock (b : Inside) : Type 0 where
  pub order : b.refcount_order ≤ 6
  pub low : 9 ≤ b.cluster_bits
  pub high : b.cluster_bits ≤ 21
  pub whole : length b.bytes.items ≡ 2 ^ b.cluster_bits
