-- Flushing a cached L2 table.
use Rattle.std.proofs.Common.{◌≡◌, ℕ, ◌^◌, refl, ap, sym, ◌∙◌, List, true, false, Result, Option, Some, Bool}
use Rattle.imago_storage.specs.State.{StorageState}
use Rattle.imago_storage.specs.declared.fault.Fault.{Fault}
use Rattle.qcow2_types.specs.Bytes.{bytes_of}
use Rattle.qcow2_types.specs.Words.{Layout}
use Rattle.qcow2_types.specs.Header.{Header}
use Rattle.qcow2_metadata.specs.Tables.{TableValue}
use Rattle.qcow2_metadata.specs.Blocks.{Block}
use Rattle.qcow2_alloc.specs.declared.async_lru_cache.Slot.{Slot}
use Rattle.qcow2_alloc.specs.declared.cache.CacheDependency.{CacheDependency}
use Rattle.qcow2_alloc.specs.Backends.{TableFlushed, written_tables}
use Rattle.qcow2_alloc.specs.Going.{WritesBackCached, ReadyTables, HadNoResourceError}
use Rattle.qcow2_alloc.proofs.Caching.SingleEntries.{table-kind-laws}
use Rattle.qcow2_alloc.proofs.Flushing.EntryFlushes.{done_so, entry-clean, kind-flushed}
use Rattle.qcow2_alloc.proofs.Flushing.TableWriteBacks.{cached-table-written}
use Rattle.qcow2_alloc.proofs.Memory.EntryKinds.{table_kind, tables_with}

-- A failed write leaves a dirty table unchanged.
noted : (t : TableValue) (key : ℕ) → t.cluster ≡ Some key → t.modified ≡ true → record t { cluster = Some key; modified = true } ≡ t
noted t key placed modified = ap (λ (c : Option ℕ). record t { cluster = c; modified = true }) (sym placed) ∙ ap (λ (m : Bool). record t { modified = m }) (sym modified)

-- The flush of any table, dirty or clean.
pub table-flushed : (H : Header) (order : CacheDependency) (front : List (ℕ × Slot TableValue)) (key : ℕ) (here : Slot TableValue) (back : List (ℕ × Slot TableValue)) (blocks : List (ℕ × Slot Block)) (old new : StorageState)
    → (result : Result Unit Fault) (value : TableValue) → TableFlushed old key here.value result new value
    → WritesBackCached H order (ReadyTables order) (HadNoResourceError result) old (tables_with front key here back blocks) new (tables_with front key (record here { value = value }) back blocks)
table-flushed H order front key here back blocks old new =
    kind-flushed table_kind table-kind-laws H order (ReadyTables order) blocks front key here back old new (λ slot r. r)
    (λ modified is. noted here.value key is.placed modified) (λ is. ap (λ (l : Layout). 2 ^ l.cluster_bits) is.layout) (λ result put. put)
    (λ modified put well_formed ready. cached-table-written (bytes_of old.bytes) H front key here back blocks order well_formed modified ready
    (record here { value = record here.value { cluster = Some key; modified = false } }) refl refl refl refl)

pub flushed-clean : (key : ℕ) (t : TableValue) (old new : StorageState) (t' : TableValue) → TableFlushed old key t done_so new t' → t'.modified ≡ false
flushed-clean = entry-clean written_tables (λ t key. refl)
