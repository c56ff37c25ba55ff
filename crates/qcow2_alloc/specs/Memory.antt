-- The image in memory: cached tables and blocks, and the file with the dirty ones written over it.
use Rattle.std.specs.Prelude.{ℕ, ◌*◌, ◌++◌, List, map, Option, Some, None, false, if◌then◌else◌}
use Rattle.std.specs.List.{filter_map}
use Rattle.qcow2_types.specs.Bytes.{Bytes, Patch, over}
use Rattle.qcow2_types.specs.Header.{Fields, cluster_size}
use Rattle.qcow2_types.specs.TableBytes.{table_bytes, block_bytes}
use Rattle.qcow2_metadata.specs.Tables.{TableValue}
use Rattle.qcow2_metadata.specs.Blocks.{Block}
use Rattle.qcow2_alloc.specs.declared.async_lru_cache.Slot.{Slot}

-- The cached L2 tables and blocks, by their cluster, the most recently used first.
pub record Cached : Type 0 where
  pub tables : List (ℕ × Slot TableValue)
  pub blocks : List (ℕ × Slot Block)

-- The bytes to write for a table or a block that is dirty, if clusters have `size` bytes.
abbrev pub table_patch : ℕ → ℕ × Slot TableValue → Option Patch
table_patch size e = if e.1.value.modified then Some (e.0 * size, table_bytes e.1.value.raw_entries) else None

abbrev pub block_patch : ℕ → ℕ × Slot Block → Option Patch
block_patch size e = if e.1.value.modified then Some (e.0 * size, block_bytes e.1.value.order e.1.value.counters) else None

abbrev pub patches : Fields → Cached → List Patch
patches h c = filter_map (table_patch (cluster_size h)) c.tables ++ filter_map (block_patch (cluster_size h)) c.blocks

-- The file with each dirty table and block at its cluster.
abbrev pub memory : Bytes → Fields → Cached → Bytes
memory f h c = over f (patches h c)

-- A cached table or block after it is written.
abbrev pub written_table : ℕ × Slot TableValue → ℕ × Slot TableValue
written_table e = (e.0, record e.1 { value = record e.1.value { cluster = Some e.0; modified = false } })

abbrev pub written_block : ℕ × Slot Block → ℕ × Slot Block
written_block e = (e.0, record e.1 { value = record e.1.value { cluster = Some e.0; modified = false } })

-- All cached entries after they are written. If this is the same before and after a call, so are the entries, their order of use and their
-- pins. Only the dirty flags may differ.
abbrev pub written : Cached → Cached
written c = record { tables = map written_table c.tables; blocks = map written_block c.blocks }
