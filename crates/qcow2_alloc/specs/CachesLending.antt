-- Specifies references into the caches of L2 tables and refcount blocks: the state of both caches after a reference has ended. `OneCache`
-- is either cache.
use Rattle.std.specs.Prelude.{◌≡◌, ℕ, List, Some, Result, Ok, Err, IfOk, IfErr, nat_eq}
use Rattle.std.specs.Option.{option_map}
use Rattle.std.specs.Map.{lookup}
use Rattle.std.specs.Borrow.{Fml, RattleType, MutBor, LendsSoOk}
use Rattle.imago_storage.specs.State.{StorageState}
use Rattle.imago_storage.specs.declared.fault.Fault.{Fault}
use Rattle.qcow2_metadata.specs.Tables.{TableValue}
use Rattle.qcow2_metadata.specs.Blocks.{Block}
use Rattle.qcow2_alloc.specs.declared.async_lru_cache.Slot.{Slot}
use Rattle.qcow2_alloc.specs.declared.cache.L2CacheBackend.{L2CacheBackend}
use Rattle.qcow2_alloc.specs.declared.cache.MetadataCaches.{MetadataCaches}
use Rattle.qcow2_alloc.specs.declared.cache.RefBlockCacheBackend.{RefBlockCacheBackend}
use Rattle.qcow2_alloc.specs.declared.file.ImageFile.{ImageFile}
use Rattle.qcow2_alloc.specs.contracts.cache.MetadataCaches.{the_row}
use Rattle.qcow2_metadata.specs.contracts.entries.L2Entry.{the_row as entry_row}
use Rattle.qcow2_metadata.specs.contracts.entries.L2EntryTableEntry.TheImpl.{ghosts}
use Rattle.qcow2_metadata.specs.contracts.entry_table.EntryTable.{the_row as table_row}
use Rattle.qcow2_metadata.specs.contracts.refblock.RefBlock.{the_row as block_row}
use Rattle.qcow2_alloc.specs.Cache.{CacheKind, cache_kind, hit, with_entries}
use Rattle.qcow2_alloc.specs.CachedKinds.{Beside, CachedKind, block_entries, by_blocks, by_tables, flushes_of, loads_of, table_entries}
use Rattle.qcow2_alloc.specs.Finding.{EntryFound}

module _ {S : Type 0} where
  -- The caches with other tables, or with other blocks.
  abbrev pub with_tables : MetadataCaches S → List (ℕ × Slot TableValue) → MetadataCaches S
  with_tables caches es = record caches { l2 = with_entries caches.l2 es }

  abbrev pub with_blocks : MetadataCaches S → List (ℕ × Slot Block) → MetadataCaches S
  with_blocks caches es = record caches { rb = with_entries caches.rb es }

  module _ (state : S → StorageState) where
    -- The kind of a cache of at most `cap` tables, or blocks.
    abbrev pub table_kind : ℕ → CacheKind ℕ TableValue (ImageFile S)
    table_kind cap = cache_kind nat_eq (loads_of (table_entries state)) (flushes_of (table_entries state)) cap

    abbrev pub block_kind : ℕ → CacheKind ℕ Block (ImageFile S)
    block_kind cap = cache_kind nat_eq (loads_of (block_entries state)) (flushes_of (block_entries state)) cap

-- One of the two caches: the kind of its entries, its view of both caches, and both caches with other entries in it.
pub record OneCache (S V W A B : Type 0) : Type 1 where
  pub kind : CachedKind S V W
  pub see : MetadataCaches S → Beside S V W A B
  pub put : MetadataCaches S → List (ℕ × Slot V) → MetadataCaches S

module _ {S : Type 0} (state : S → StorageState) where
  abbrev pub of_tables : OneCache S TableValue Block (L2CacheBackend S) (RefBlockCacheBackend S)
  of_tables = record { kind = table_entries state; see = by_tables; put = with_tables }

  abbrev pub of_blocks : OneCache S Block TableValue (RefBlockCacheBackend S) (L2CacheBackend S)
  of_blocks = record { kind = block_entries state; see = by_blocks; put = with_blocks }

module _ (S V : RattleType) {W A B : Type 0} (cache : OneCache S.Denot V.Denot W A B) where
  -- The entry is found or loaded, and r has its value. It becomes the first entry, with the last value that is written through r.
  abbrev pub lends_entry : MutBor (MetadataCaches S.Denot) → ImageFile S.Denot → ImageFile S.Denot → ℕ
      → Result (MutBor V.Denot) Fault → Fml
  lends_entry c before after cluster r = LendsSoOk (the_row S) V c r
      (λ n w. (mid : MetadataCaches S.Denot) × EntryFound cache.kind cluster (cache.see c.now) before (Ok tt) (cache.see mid) after
      × IfOk r (λ v. option_map (λ s. s.value) (lookup (nat_eq cluster) (cache.see mid).own.slots.entries) ≡ Some v.now)
      × (n ≡ cache.put mid (hit (nat_eq cluster) (cache.see mid).own.slots.entries w)))
      (λ n. IfErr r (λ fault. EntryFound cache.kind cluster (cache.see c.now) before (Err fault) (cache.see n) after))

module _ (S : RattleType) (state : S.Denot → StorageState) where
  -- Like `lends_entry`, for an L2 table.
  abbrev pub lends_table : MutBor (MetadataCaches S.Denot) → ImageFile S.Denot → ImageFile S.Denot → ℕ
      → Result (MutBor TableValue) Fault → Fml
  lends_table = lends_entry S (table_row entry_row ghosts) (of_tables state)

  -- Like `lends_entry`, for a refcount block.
  abbrev pub lends_block : MutBor (MetadataCaches S.Denot) → ImageFile S.Denot → ImageFile S.Denot → ℕ → Result (MutBor Block) Fault → Fml
  lends_block = lends_entry S block_row (of_blocks state)
