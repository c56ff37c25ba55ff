-- Flushing a cached refcount block.
use Rattle.std.proofs.Common.{◌≡◌, ℕ, ◌*◌, ◌^◌, ◌<◌, refl, ap, sym, subst, ◌∙◌, List, true, false, length, Result, Option, Some, Bool}
use Rattle.std.specs.Prelude.{slice_index}
use Rattle.imago_storage.specs.State.{StorageState}
use Rattle.imago_storage.specs.Through.{AtomicWriteOutcome}
use Rattle.imago_storage.specs.declared.fault.Fault.{Fault}
use Rattle.qcow2_types.specs.Bytes.{bytes_of}
use Rattle.qcow2_types.specs.TableBytes.{block_bytes}
use Rattle.qcow2_types.specs.Counts.{counter_of}
use Rattle.qcow2_types.specs.Header.{Header}
use Rattle.qcow2_types.proofs.Numbers.BlockBytes.{bytes-only}
use Rattle.qcow2_metadata.specs.Tables.{TableValue}
use Rattle.qcow2_metadata.specs.Blocks.{Block, BlockPut}
use Rattle.qcow2_alloc.specs.declared.async_lru_cache.Slot.{Slot}
use Rattle.qcow2_alloc.specs.declared.cache.CacheDependency.{CacheDependency}
use Rattle.qcow2_alloc.specs.Backends.{BlockFlushed, written_blocks}
use Rattle.qcow2_alloc.specs.Going.{WritesBackCached, ReadyBlocks, HadNoResourceError}
use Rattle.qcow2_alloc.proofs.Caching.SingleEntries.{block-kind-laws}
use Rattle.qcow2_alloc.proofs.Flushing.EntryFlushes.{done_so, entry-clean, kind-flushed}
use Rattle.qcow2_alloc.proofs.Flushing.BlockWriteBacks.{cached-block-written}
use Rattle.qcow2_alloc.proofs.Memory.EntryKinds.{block_kind, blocks_with}

-- A failed write leaves a dirty block unchanged.
noted : (b : Block) (key : ℕ) → b.cluster ≡ Some key → b.modified ≡ true → record b { cluster = Some key; modified = true } ≡ b
noted b key placed modified = ap (λ (c : Option ℕ). record b { cluster = c; modified = true }) (sym placed) ∙ ap (λ (m : Bool). record b { modified = m }) (sym modified)

-- The flush of any block, dirty or clean.
pub block-flushed : (H : Header) (order : CacheDependency) (tables : List (ℕ × Slot TableValue)) (front : List (ℕ × Slot Block)) (key : ℕ) (here : Slot Block) (back : List (ℕ × Slot Block)) (old new : StorageState)
    → (result : Result Unit Fault) (value : Block) → BlockFlushed old key here.value result new value
    → WritesBackCached H order (ReadyBlocks order) (HadNoResourceError result) old (blocks_with tables front key here back) new (blocks_with tables front key (record here { value = value }) back)
block-flushed H order tables front key here back old new =
    kind-flushed block_kind block-kind-laws H order (ReadyBlocks order) tables front key here back old new (λ slot r. r)
    (λ modified is. noted here.value key is.placed modified) (λ is. ap (λ (n : ℕ). 2 ^ n) is.cluster_bits)
    (λ result done. subst (λ (l : List ℕ). AtomicWriteOutcome old new (key * 2 ^ here.value.cluster_bits) l result) (is-bytes result done) done.put)
    (λ modified done well_formed ready. cached-block-written (bytes_of old.bytes) H tables front key here back order well_formed modified ready
    (subst (λ (l : List ℕ). (k : ℕ) → k < length here.value.counters → counter_of (bytes_of l) (2 ^ here.value.order) 0 k ≡ slice_index here.value.counters k) (is-bytes done_so done) done.packs.each)
    (record here { value = record here.value { cluster = Some key; modified = false } }) refl refl refl refl refl)
  where
    is-bytes : (result : Result Unit Fault) (done : BlockPut here.value (key * 2 ^ here.value.cluster_bits) old new result) → done.bytes ≡ block_bytes here.value.order here.value.counters
    is-bytes result done = bytes-only here.value.order here.value.counters done.bytes done.packs

pub flushed-clean : (key : ℕ) (b : Block) (old new : StorageState) (b' : Block) → BlockFlushed old key b done_so new b' → b'.modified ≡ false
flushed-clean = entry-clean written_blocks (λ b key. refl)
