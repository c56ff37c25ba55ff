-- The kinds of cached entries: L2 tables and refcount blocks. Lemmas on entries in memory are stated once, for both kinds.
use Rattle.std.proofs.Common.{◌≡◌, ℕ, ◌*◌, ◌≤◌, List, [], ◌∷◌, ◌++◌, Option, Some, None, refl, true, false, inl, inr}
use Rattle.std.specs.Prelude.{nat_eq, if◌then◌else◌}
use Rattle.std.specs.List.{AllByRecursion, IsDistinct, filter_map}
use Rattle.std.specs.Map.{keys_of}
use Rattle.std.proofs.lemmas.Bool.{cases_Bool}
use Rattle.qcow2_types.specs.Bytes.{Bytes, Patch}
use Rattle.qcow2_types.specs.TableBytes.{block_bytes, table_bytes}
use Rattle.qcow2_types.specs.Consistency.{IsConsistent}
use Rattle.qcow2_types.specs.Counts.{count}
use Rattle.qcow2_types.specs.Header.{Fields, Header}
use Rattle.qcow2_types.specs.References.{refs}
use Rattle.qcow2_types.specs.Versions.{ReferencedOnce}
use Rattle.qcow2_metadata.specs.Blocks.{Block}
use Rattle.qcow2_metadata.specs.Tables.{TableValue}
use Rattle.qcow2_alloc.specs.declared.async_lru_cache.Slot.{Slot}
use Rattle.qcow2_alloc.specs.declared.cache.CacheDependency.{CacheDependency}
use Rattle.qcow2_alloc.specs.Backends.{WrittenKind, written_tables, written_blocks}
use Rattle.qcow2_alloc.specs.Memory.{Cached, table_patch, block_patch, memory}
use Rattle.qcow2_alloc.specs.WellFormedness.{IsCachedTable, IsCachedBlock, IsOrdered, WellFormed}

-- The bytes of an entry, when the entry fits the file, and the order of its patches and those of the other kind.
pub record EntryKind (V W : Type 0) : Type 1 where
  pub writes : WrittenKind V
  pub bytes : V → List ℕ
  pub Fits : Bytes → Fields → ℕ → V → Type 0
  pub OtherFits : Bytes → Fields → ℕ → W → Type 0
  pub put : List (ℕ × Slot W) → List (ℕ × Slot V) → Cached
  pub ahead : ℕ → List (ℕ × Slot W) → List Patch
  pub behind : ℕ → List (ℕ × Slot W) → List Patch

-- Patches of L2 tables come before those of blocks.
abbrev pub table_kind : EntryKind TableValue Block
table_kind = record {
  writes = written_tables;
  bytes = λ t. table_bytes t.raw_entries;
  Fits = IsCachedTable;
  OtherFits = IsCachedBlock;
  put = λ blocks es. record { tables = es; blocks = blocks };
  ahead = λ size blocks. [];
  behind = λ size blocks. filter_map (block_patch size) blocks;
}

-- Patches of blocks come after those of L2 tables.
abbrev pub block_kind : EntryKind Block TableValue
block_kind = record {
  writes = written_blocks;
  bytes = λ b. block_bytes b.order b.counters;
  Fits = IsCachedBlock;
  OtherFits = IsCachedTable;
  put = λ tables es. record { tables = tables; blocks = es };
  ahead = λ size tables. filter_map (table_patch size) tables;
  behind = λ size tables. [];
}

-- All cached entries, with one table given separately.
abbrev pub tables_with : List (ℕ × Slot TableValue) → ℕ → Slot TableValue → List (ℕ × Slot TableValue) → List (ℕ × Slot Block) → Cached
tables_with front key slot back blocks = record { tables = front ++ (key, slot) ∷ back; blocks = blocks }

-- All cached entries, with one block given separately.
abbrev pub blocks_with : List (ℕ × Slot TableValue) → List (ℕ × Slot Block) → ℕ → Slot Block → List (ℕ × Slot Block) → Cached
blocks_with tables front key slot back = record { tables = tables; blocks = front ++ (key, slot) ∷ back }

-- Entries with distinct keys that fit.
pub record AreEntries {V : Type 0} (Fits : ℕ → V → Type 0) (es : List (ℕ × Slot V)) : Type 0 where
  pub apart : IsDistinct nat_eq (keys_of es)
  pub fit : AllByRecursion (λ (e : ℕ × Slot V). Fits e.0 e.1.value) es

-- The parts of `WellFormed` that depend only on the file and on memory.
pub record IsSafeMemory (f g : Bytes) (H : Header) (order : CacheDependency) : Type 0 where
  pub apart : ReferencedOnce f g H.fields
  pub ordered : IsOrdered order f g H.fields
  pub covered : (c : ℕ) → refs g H.fields c ≤ count g H.fields c

pub safe-in-memory : (f : Bytes) (H : Header) (cached : Cached) (order : CacheDependency) → WellFormed f H cached order
    → IsSafeMemory f (memory f H.fields cached) H order
safe-in-memory f H cached order well_formed = record { apart = well_formed.apart; ordered = well_formed.ordered; covered = well_formed.covered }

pub safe-of : (f : Bytes) (H : Header) (order : CacheDependency) (cached : Cached) → IsConsistent f H → AreEntries (IsCachedTable f H.fields) cached.tables
    → AreEntries (IsCachedBlock f H.fields) cached.blocks → IsSafeMemory f (memory f H.fields cached) H order → WellFormed f H cached order
safe-of f H order cached was tables blocks m = record {
  consistent = was;
  tables_apart = tables.apart;
  blocks_apart = blocks.apart;
  tables = tables.fit;
  blocks = blocks.fit;
  apart = m.apart;
  ordered = m.ordered;
  covered = m.covered;
}

module _ {V W : Type 0} (kind : EntryKind V W) where
  -- The patch of a dirty entry, for this cluster size.
  abbrev pub patch_of : ℕ → ℕ × Slot V → Option Patch
  patch_of size e = if kind.writes.modified e.1.value then Some (e.0 * size, kind.bytes e.1.value) else None

  pub patches-all : (P : Patch → Type 0) (size : ℕ) (es : List (ℕ × Slot V))
      → AllByRecursion (λ e. kind.writes.modified e.1.value ≡ true → P (e.0 * size, kind.bytes e.1.value)) es
      → AllByRecursion P (filter_map (patch_of size) es)
  patches-all P size [] all = tt
  patches-all P size (e ∷ es) all = elim (cases_Bool (kind.writes.modified e.1.value)) [
    | inl t ↦ rw t (all.0 t, patches-all P size es all.1)
    | inr t ↦ rw t (patches-all P size es all.1)
  ]

  pub no-patches : (size : ℕ) (es : List (ℕ × Slot V)) → AllByRecursion (λ e. kind.writes.modified e.1.value ≡ false) es → filter_map (patch_of size) es ≡ []
  no-patches size [] clean = refl
  no-patches size (e ∷ es) clean = rw clean.0 (no-patches size es clean.1)
