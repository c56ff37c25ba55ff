-- Specifies how the L1 entry is made to reference a new L2 table: an empty table, or a copy of the old one.
use Rattle.std.specs.Prelude.{◌≡◌, ◌≢◌, ◌+◌, ◌*◌, ◌^◌, ◌<◌, ℕ, List, length, [], ◌∷◌, ◌++◌, Option, Some, None, true}
use Rattle.std.specs.Prelude.{Result, Ok, Err, OnOk, OnErr, IfOk, IfErr, IsTrue, slice_set}
use Rattle.std.specs.Int.{w64, to_be_bytes}
use Rattle.imago_storage.specs.State.{StorageState}
use Rattle.imago_storage.specs.Calls.{Reads}
use Rattle.imago_storage.specs.Through.{AtomicWriteOutcome}
use Rattle.imago_storage.specs.declared.fault.Fault.{Fault}
use Rattle.imago_storage.specs.declared.fault.Fault.TheVariants.{DamagedTable}
use Rattle.qcow2_types.specs.Bytes.{bytes_of, raw_entry}
use Rattle.qcow2_types.specs.Entries.{l2_mapping, l2_table}
use Rattle.qcow2_types.specs.Header.{Fields, cluster_size, layout_of, entries_of_cluster}
use Rattle.qcow2_types.specs.Pending.{FreeEntry}
use Rattle.qcow2_types.specs.Words.{is_copied, is_cluster_offset, table_offset}
use Rattle.qcow2_metadata.specs.Places.{IsAddressable}
use Rattle.qcow2_metadata.specs.Tables.{TableValue, IsPlacedTable, table_start}
use Rattle.qcow2_alloc.specs.declared.file.ImageFile.{ImageFile}
use Rattle.qcow2_alloc.specs.Causes.{HasCause}
use Rattle.qcow2_alloc.specs.Crowding.{room_for}
use Rattle.qcow2_alloc.specs.Going.{HadNoResourceError}
use Rattle.qcow2_alloc.specs.Opening.{IsL1Of}
use Rattle.qcow2_alloc.specs.GuestView.{Metadata, referenced_at_all}
use Rattle.qcow2_steps.specs.NewTables.{old_table, slot_or_none}
use Rattle.qcow2_clusters.specs.Progress.{Kind, Progresses, handing}
use Rattle.qcow2_clusters.specs.Flushed.{Clusters, IsReady, flushed_metadata, storage}
use Rattle.qcow2_clusters.specs.Room.{IsFull, KeepsNoneFreeBefore, LeavesRoom, first_free_in}
use Rattle.qcow2_clusters.specs.Storing.{Rests, handed_by, held_by, storing_causes}

-- The cluster of the replaced table, which nothing references after success.
abbrev pub replaced_table : Metadata → ℕ → Result ℕ Fault → ℕ → ℕ
replaced_table m i (Ok t) c = old_table m i c
replaced_table m i (Err fault) c = 0

-- The excess refcount of the new table's cluster grows when it is allocated. The cluster is taken when it is linked. No
-- entry changes its meaning.
abbrev pub making : Result ℕ Fault → Kind
making result = handing (handed_by result) (handed_by result)

-- Like `making`, and the excess refcount of the replaced table's cluster grows, as nothing references it any more.
abbrev pub replacing : Metadata → ℕ → Result ℕ Fault → Kind
replacing m i result = handing (λ c. handed_by result c + replaced_table m i result c) (handed_by result)

-- Like `replacing`, and the cluster of the replaced table is taken: it becomes pending.
abbrev pub copying : Metadata → ℕ → Result ℕ Fault → Kind
copying m i result =
    handing (λ c. handed_by result c + replaced_table m i result c) (λ c. handed_by result c + replaced_table m i result c)

-- The L1 table in memory is the file's, and has an entry at index `i`.
pub record IsTopRawEntry {S : Type 0} (state : S → StorageState) (top : TableValue) (i : ℕ) (c : Clusters S) : Type 0 where
  pub l1 : IsL1Of (flushed_metadata state c).file c.file.header.fields top
  pub inside : i < c.file.header.fields.l1_entries

-- The L1 entry `i` in memory is the file's, and references no table.
pub record IsTableless {S : Type 0} (state : S → StorageState) (top : TableValue) (i : ℕ) (c : Clusters S) : Type 0 where
  pub top_word : IsTopRawEntry state top i c
  pub none : l2_table (flushed_metadata state c).file c.file.header.fields i ≡ 0

-- The L1 entry `i` in memory is the file's, and references a table.
pub record HasTable {S : Type 0} (state : S → StorageState) (top : TableValue) (i : ℕ) (c : Clusters S) : Type 0 where
  pub top_word : IsTopRawEntry state top i c
  pub table_exists : l2_table (flushed_metadata state c).file c.file.header.fields i ≢ 0

-- The bytes decode to the same meanings as the table of entry `i`. Without a table, nothing is mapped.
pub record IsContent {S : Type 0} (state : S → StorageState) (content : List ℕ) (top : TableValue) (i : ℕ) (c : Clusters S)
    : Type 0 where
  pub top_word : IsTopRawEntry state top i c
  pub raw_entries : let h = c.file.header.fields in (j : ℕ) → j < entries_of_cluster h
      → l2_mapping (bytes_of content) h 0 j ≡ slot_or_none (flushed_metadata state c).file h i j

-- The raw L1 entry `w` references the table in an addressable cluster, or none with a valid offset.
abbrev pub FindsTable : (cluster_bits w : ℕ) → Option ℕ → Type 0
FindsTable cluster_bits w None = table_offset w ≢ 0 → IsTrue (is_cluster_offset cluster_bits (table_offset w)) → ⊥
FindsTable cluster_bits w (Some t) = (t ≢ 0) × IsAddressable cluster_bits t × (table_offset w ≡ t * 2 ^ cluster_bits)

-- These are the bytes of a cluster of a file.
pub record IsClusterOf (file : List ℕ) (h : Fields) (cluster : ℕ) (bytes : List ℕ) : Type 0 where
  pub whole : length bytes ≡ cluster_size h
  pub reads : Reads file (cluster * cluster_size h) bytes

-- Both tables have the same layout and entries.
pub record HasEntriesOf (l1 l1' : TableValue) : Type 0 where
  pub layout : l1'.layout ≡ l1.layout
  pub raw_entries : l1'.raw_entries ≡ l1.raw_entries

-- The L1 table in memory gets the cluster that the header gives. That fails only if the table doesn't belong to an image
-- with this header.
pub record PlacesL1 (h : Fields) (l1 : TableValue) (result : Result Unit Fault) (l1' : TableValue) : Type 0 where
  pub same : HasEntriesOf l1 l1'
  pub bits : OnOk result (l1.layout.cluster_bits ≡ h.cluster_bits)
  pub placed : OnOk result (IsPlacedTable l1')
  pub place : OnOk result (table_start l1' ≡ h.l1_offset)
  pub err : OnErr result (result ≡ Err DamagedTable)
  pub cause : OnErr result (l1.layout ≡ layout_of h → IsTrue (is_cluster_offset h.cluster_bits h.l1_offset) → ⊥)

-- The L1 entry `i` references the table, with the COPIED flag, in memory and, in one request, in the file.
pub record EntersTable {S : Type 0} (state : S → StorageState) (i : ℕ) (table l1 : TableValue) (before : ImageFile S)
    (result : Result Unit Fault) (l1' : TableValue) (after : ImageFile S) : Type 0 where
  pub layout : l1'.layout ≡ l1.layout
  pub raw_entries : l1'.raw_entries ≡ slice_set l1.raw_entries i (2 ^ 63 + table_start table)
  pub header : after.header ≡ before.header
  pub put : AtomicWriteOutcome (state before.image) (state after.image) (table_start l1 + 8 * i) (to_be_bytes w64 (2 ^ 63 + table_start table))
      result

-- If the image is as `asked`, the L1 entry `i` references a new table, with the COPIED flag, in the file and in memory.
pub record NamesNewTable {S : Type 0} (state : S → StorageState) (asked : Type 0) (kind : Kind) (i : ℕ) (c : Clusters S)
    (result : Result ℕ Fault) (top' : TableValue) (c' : Clusters S) : Type 0 where
  pub progress : asked → Progresses (HadNoResourceError result) kind (storage state c) (flushed_metadata state c) (storage state c') (flushed_metadata state c')
  pub rests : Rests state c result c'
  pub l1 : IsReady state c → asked → HadNoResourceError result → IsL1Of (flushed_metadata state c').file c.file.header.fields top'
  pub table_linked : IsReady state c → asked
      → IfOk result (λ t. (t ≢ 0) × (l2_table (flushed_metadata state c').file c.file.header.fields i ≡ t * cluster_size c.file.header.fields))
  pub copied : IsReady state c → asked
      → IfOk result (λ t. is_copied (raw_entry (flushed_metadata state c').file c.file.header.fields.l1_offset i) ≡ true)
  pub leaves : IsReady state c → asked → OnOk result (LeavesRoom (room_for c.file.header.fields 1) (flushed_metadata state c) (first_free_in c)
      (flushed_metadata state c') (first_free_in c'))
  pub marked : asked → KeepsNoneFreeBefore state c result c'
  pub cause : IfErr result (HasCause (storing_causes (IsReady state c × asked)
      (IsFull 1 (flushed_metadata state c) (first_free_in c) (flushed_metadata state c') (first_free_in c')) (storage state c).faults (storage state c').faults))

-- A table of these bytes replaces the table of entry `i`, if any. Nothing references the old table, and a slot of the
-- free list is reserved for it.
pub record PlacesTable {S : Type 0} (state : S → StorageState) (content : List ℕ) (top : TableValue) (i : ℕ) (c : Clusters S)
    (result : Result ℕ Fault) (top' : TableValue) (c' : Clusters S) : Type 0 where
  pub named : NamesNewTable state (IsContent state content top i c) (replacing (flushed_metadata state c) i result) i c result top' c'
  pub held : c'.space.to_free.held ≡ held_by result c.space.to_free.held
  pub raw_entries : IfOk result (λ t. top'.raw_entries ≡ slice_set top.raw_entries i (2 ^ 63 + t * cluster_size c.file.header.fields))
  pub old : IsReady state c → IsContent state content top i c → IfOk result (λ t. let h = c.file.header.fields in
      (d : ℕ) → d ≢ 0 → l2_table (flushed_metadata state c).file h i ≡ d * cluster_size h → referenced_at_all (flushed_metadata state c') d ≡ 0)

-- A new L2 table maps nothing, and the guest reads the same bytes as before.
pub record MakesTable {S : Type 0} (state : S → StorageState) (top : TableValue) (i : ℕ) (c : Clusters S) (result : Result ℕ Fault)
    (top' : TableValue) (c' : Clusters S) : Type 0 where
  pub named : NamesNewTable state (IsTableless state top i c) (making result) i c result top' c'
  pub held : c'.space.to_free.held ≡ c.space.to_free.held

-- A table in this cluster, as an entry of the free list.
abbrev pub table_entry : ℕ → FreeEntry
table_entry cluster = record { first = cluster; count = 1; metadata = true }

-- A copy replaces the table of entry `i`. No L2 entry changes its meaning or its COPIED flag, and no other L1 entry
-- changes. The old table is at the end of the free list.
pub record CopiesTable {S : Type 0} (state : S → StorageState) (top : TableValue) (i : ℕ) (c : Clusters S) (result : Result ℕ Fault)
    (top' : TableValue) (c' : Clusters S) : Type 0 where
  pub named : NamesNewTable state (HasTable state top i c) (copying (flushed_metadata state c) i result) i c result top' c'
  pub held : c'.space.to_free.held ≡ c.space.to_free.held
  pub raw_entries : IfOk result (λ t. top'.raw_entries ≡ slice_set top.raw_entries i (2 ^ 63 + t * cluster_size c.file.header.fields))
  pub waits : HasTable state top i c → IfOk result (λ t. let h = c.file.header.fields in (old : ℕ) × (before : List FreeEntry)
      × (l2_table (flushed_metadata state c).file h i ≡ old * cluster_size h) × (c'.space.to_free.entries ≡ before ++ table_entry old ∷ []))
