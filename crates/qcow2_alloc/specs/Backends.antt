-- Specifies how cached L2 tables and refcount blocks are loaded from the image file, and written to it.
use Rattle.std.specs.Prelude.{◌≡◌, ℕ, ◌*◌, ◌^◌, ◌<◌, ◌≤◌, slice_index, Bool, true, false, Some, List, Result, Ok, Err, OnOk, OnErr, IfOk, IfErr}
use Rattle.imago_storage.specs.State.{StorageState}
use Rattle.imago_storage.specs.Calls.{CountsFaults, UnchangedButFaults}
use Rattle.imago_storage.specs.Through.{AtomicWriteOutcome}
use Rattle.imago_storage.specs.declared.fault.Fault.{Fault}
use Rattle.imago_storage.specs.declared.fault.Fault.TheVariants.{DamagedTable}
use Rattle.qcow2_types.specs.Bytes.{bytes_of}
use Rattle.qcow2_types.specs.Header.{Fields, cluster_size, entries_of_cluster, layout_of}
use Rattle.qcow2_types.specs.TableBytes.{table_bytes}
use Rattle.qcow2_metadata.specs.Places.{IsAddressable}
use Rattle.qcow2_metadata.specs.Tables.{TableValue, IsTable, l2_table_kind, WhyNotLoaded, raw_entries_in, table_in}
use Rattle.qcow2_metadata.specs.Blocks.{Block, BlockPut, block_in}

-- The raw entries of an L2 table in a cluster of a file.
abbrev pub l2_words_in : StorageState → Fields → ℕ → List ℕ
l2_words_in file h key = raw_entries_in (bytes_of file.bytes) (key * cluster_size h) (entries_of_cluster h)

-- An L2 table is loaded from its cluster, if that is addressable.
pub record TableLoaded (h : Fields) (key : ℕ) (old : StorageState) (result : Result TableValue Fault) (new : StorageState) : Type 0 where
  pub ok : IfOk result (λ table. IsAddressable h.cluster_bits key × (table ≡ table_in (bytes_of old.bytes) h key (entries_of_cluster h))
      × IsTable l2_table_kind table)
  pub out : (IsAddressable h.cluster_bits key → ⊥) → (result ≡ Err DamagedTable) × (new ≡ old)
  pub narrow : h.cluster_bits ≤ 21
  pub err : IsAddressable h.cluster_bits key → IfErr result (WhyNotLoaded l2_table_kind (layout_of h) (l2_words_in old h key) old.faults new.faults)
  pub unchanged_but_faults : UnchangedButFaults old new
  pub counts_not_fallen : old.faults ≤ new.faults
  pub faults : OnOk result (new.faults ≡ old.faults)

-- A block is loaded from its cluster, if that is addressable.
pub record BlockLoaded (h : Fields) (key : ℕ) (old : StorageState) (result : Result Block Fault) (new : StorageState) : Type 0 where
  pub ok : IfOk result (λ block. IsAddressable h.cluster_bits key × (block ≡ block_in (bytes_of old.bytes) h key)
      × ((i : ℕ) → slice_index block.counters i < 2 ^ 2 ^ block.order))
  pub out : (IsAddressable h.cluster_bits key → ⊥) → (result ≡ Err DamagedTable) × (new ≡ old)
  pub err : IsAddressable h.cluster_bits key → IfErr result (λ fault. CountsFaults {T = Block} old.faults new.faults (Err fault))
  pub unchanged_but_faults : UnchangedButFaults old new
  pub counts_not_fallen : old.faults ≤ new.faults
  pub faults : OnOk result (new.faults ≡ old.faults)

-- A kind of cached values that are written: their cluster size, whether they are dirty, their state after a write, and the request that
-- writes them.
pub record WrittenKind (V : Type 0) : Type 1 where
  pub cluster_bits : V → ℕ
  pub modified : V → Bool
  pub marked : V → ℕ → Bool → V
  pub Puts : V → ℕ → StorageState → StorageState → Result Unit Fault → Type 0

-- A dirty value is written to its cluster by one request. A clean one isn't.
pub record Flushed {V : Type 0} (kind : WrittenKind V) (old : StorageState) (key : ℕ) (v : V) (result : Result Unit Fault)
    (new : StorageState) (v' : V) : Type 0 where
  pub clean : kind.modified v ≡ false → (result ≡ Ok tt) × (new ≡ old) × (v' ≡ v)
  pub out : kind.modified v ≡ true → (IsAddressable (kind.cluster_bits v) key → ⊥) → (result ≡ Err DamagedTable) × (new ≡ old) × (v' ≡ v)
  pub written : kind.modified v ≡ true → IsAddressable (kind.cluster_bits v) key
      → kind.Puts v (key * 2 ^ kind.cluster_bits v) old new result
  pub ok : kind.modified v ≡ true → OnOk result (v' ≡ kind.marked v key false)
  pub err : kind.modified v ≡ true → IsAddressable (kind.cluster_bits v) key → OnErr result (v' ≡ kind.marked v key true)

-- L2 tables: their raw entries are written.
abbrev pub written_tables : WrittenKind TableValue
written_tables = record {
  cluster_bits = λ t. t.layout.cluster_bits;
  modified = λ t. t.modified;
  marked = λ t key modified. record t { cluster = Some key; modified = modified };
  Puts = λ t place old new result. AtomicWriteOutcome old new place (table_bytes t.raw_entries) result;
}

-- Refcount blocks: their refcounts are written.
abbrev pub written_blocks : WrittenKind Block
written_blocks = record {
  cluster_bits = λ b. b.cluster_bits;
  modified = λ b. b.modified;
  marked = λ b key modified. record b { cluster = Some key; modified = modified };
  Puts = λ b place old new result. BlockPut b place old new result;
}

-- An L2 table is flushed.
abbrev pub TableFlushed : StorageState → ℕ → TableValue → Result Unit Fault → StorageState → TableValue → Type 0
TableFlushed = Flushed written_tables

-- A refcount block is flushed.
abbrev pub BlockFlushed : StorageState → ℕ → Block → Result Unit Fault → StorageState → Block → Type 0
BlockFlushed = Flushed written_blocks
