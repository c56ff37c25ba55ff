-- Specifies how the L1 table becomes longer: a longer copy is written to new clusters, and the header references it.
use Rattle.std.specs.Prelude.{◌≡◌, ◌+◌, ◌-◌, ◌*◌, ◌/◌, ◌^◌, ◌<◌, ◌≤◌, ◌⊎◌, ◌==◌, ℕ, List, length, [], ◌∷◌, ◌++◌, if◌then◌else◌}
use Rattle.std.specs.Prelude.{max, min, slice_index, EachIndex, None, Result, Ok, Err, OnOk, OnErr, IfOk, IfErr}
use Rattle.imago_storage.specs.State.{StorageState}
use Rattle.imago_storage.specs.Calls.{IsFaultless, CountsNotFallen}
use Rattle.imago_storage.specs.Through.{AtomicWriteOutcome}
use Rattle.imago_storage.specs.declared.fault.Fault.{Fault}
use Rattle.imago_storage.specs.declared.fault.Fault.TheVariants.{Limit}
use Rattle.qcow2_types.specs.Header.{Fields, Header, cluster_size, first_fault, rules_of_size}
use Rattle.qcow2_types.specs.HeaderBytes.{first_bytes}
use Rattle.qcow2_types.specs.Pending.{FreeEntry}
use Rattle.qcow2_types.specs.Switched.{with_l1_table}
use Rattle.qcow2_metadata.specs.Tables.{TableValue, IsPlacedTable, padded, table_start}
use Rattle.qcow2_alloc.specs.declared.file.ImageFile.{ImageFile}
use Rattle.qcow2_alloc.specs.Caches.{HasRoomOf}
use Rattle.qcow2_alloc.specs.Causes.{HasCause}
use Rattle.qcow2_alloc.specs.Crowding.{room_for}
use Rattle.qcow2_alloc.specs.Going.{HadNoResourceError}
use Rattle.qcow2_alloc.specs.MakingRoom.{run_of}
use Rattle.qcow2_alloc.specs.Opening.{IsL1Of}
use Rattle.qcow2_alloc.specs.GuestView.{Metadata}
use Rattle.qcow2_steps.specs.Advancing.{KeepsHeader}
use Rattle.qcow2_steps.specs.LongerL1.{old_l1}
use Rattle.qcow2_clusters.specs.Progress.{Kind, Progresses, handing}
use Rattle.qcow2_clusters.specs.Flushed.{AreEmpty, Clusters, IsReady, flushed_metadata, storage}
use Rattle.qcow2_clusters.specs.Room.{IsFull, KeepsNoneFreeBefore, LeavesRoom, first_free_in}
use Rattle.qcow2_clusters.specs.Storing.{storing_causes}

-- The number of clusters of `n` entries. The last one may be filled in part.
abbrev pub clusters_for : Fields → ℕ → ℕ
clusters_for h n = (8 * n + (cluster_size h - 1)) / cluster_size h

-- The clusters of an L1 table with `n` entries at this offset, as an entry of the free list. A table of 0 entries has no
-- cluster.
abbrev pub l1_run : (cluster_bits place n : ℕ) → List FreeEntry
l1_run cluster_bits place n =
    if n == 0 then [] else run_of (place / 2 ^ cluster_bits) ((8 * n + (2 ^ cluster_bits - 1)) / 2 ^ cluster_bits) ∷ []

-- The table has the same entries, and starts at the cluster in `result`.
pub record StandsIn (h : Fields) (table : TableValue) (result : Result ℕ Fault) (table' : TableValue) : Type 0 where
  pub layout : table'.layout ≡ table.layout
  pub raw_entries : table'.raw_entries ≡ table.raw_entries
  pub placed : IfOk result (λ first. IsPlacedTable table' × (table_start table' ≡ first * cluster_size h))

-- The header with the offset and length of this L1 table.
abbrev pub linking_l1 : Header → TableValue → Header
linking_l1 H table = with_l1_table H (table_start table) (length table.raw_entries)

-- The header references the L1 table, in the file in one request. If that fails, the header in memory references the old
-- table.
pub record LinksL1 {S : Type 0} (state : S → StorageState) (table old : TableValue) (before : ImageFile S) (result : Result Unit Fault)
    (after : ImageFile S) : Type 0 where
  pub put : AtomicWriteOutcome (state before.image) (state after.image) 0 (first_bytes (linking_l1 before.header table).fields) result
  pub ok : OnOk result (after.header ≡ linking_l1 before.header table)
  pub err : OnErr result (after.header ≡ linking_l1 before.header old)
  pub bytes : EachIndex (state before.image).bytes (λ k. slice_index (state before.image).bytes k < 256)
  pub sizes : first_fault (rules_of_size before.header.fields) ≡ None
      → first_fault (rules_of_size (linking_l1 before.header table).fields) ≡ None

-- The excess refcounts of the old and the new L1 table's clusters grow, as the old ones aren't referenced any more and
-- the new ones are allocated. All are taken: the old ones become pending, and the new ones referenced.
abbrev pub lengthening : Metadata → Metadata → Result Unit Fault → Kind
lengthening m m' (Ok done) = handing (λ d. old_l1 m d + old_l1 m' d) (λ d. old_l1 m d + old_l1 m' d)
lengthening m m' (Err fault) = handing (λ _. 0) (λ _. 0)

-- The number of clusters of an L1 table that has an entry at index `i`.
abbrev pub l1_clusters : Fields → TableValue → (i : ℕ) → ℕ
l1_clusters h top i = clusters_for h (max (length top.raw_entries) (i + 1))

-- The table would have more than 2^22 entries and `number` is how many, or no run of free clusters is long enough.
abbrev pub IsTooLong : {S : Type 0} → (S → StorageState) → TableValue → (i : ℕ) → Clusters S → Clusters S → ℕ → Type 0
IsTooLong state top i c c' number = ((2 ^ 22 < i + 1) × (number ≡ min (i + 1) (2 ^ 64 - 1)))
    ⊎ ((i + 1 ≤ 2 ^ 22)
    × IsFull (l1_clusters c.file.header.fields top i) (flushed_metadata state c) (first_free_in c) (flushed_metadata state c') (first_free_in c') number)

-- The L1 table in memory is the file's.
abbrev pub IsTop : {S : Type 0} → (S → StorageState) → TableValue → Clusters S → Type 0
IsTop state top c = IsL1Of (flushed_metadata state c).file c.file.header.fields top

-- If the L1 table in memory is the file's, the header references a longer table with an entry at index `i`: the old
-- entries, followed by 0. The guest reads the same bytes as before.
pub record LengthensL1 {S : Type 0} (state : S → StorageState) (top : TableValue) (i : ℕ) (c : Clusters S) (result : Result Unit Fault)
    (top' : TableValue) (c' : Clusters S) : Type 0 where
  pub progress : IsTop state top c → Progresses (HadNoResourceError result) (lengthening (flushed_metadata state c) (flushed_metadata state c') result)
      (storage state c) (flushed_metadata state c) (storage state c') (flushed_metadata state c')
  pub empty : AreEmpty c'.caches
  pub room : HasRoomOf c.caches c'.caches
  pub header : KeepsHeader c.file.header c'.file.header
  pub shape : (storage state c').shape ≡ (storage state c).shape
  pub counts_not_fallen : CountsNotFallen (storage state c) (storage state c')
  pub faults : HadNoResourceError result → IsFaultless (storage state c) (storage state c')
  pub held : c'.space.to_free.held ≡ c.space.to_free.held
  pub l1 : IsReady state c → IsTop state top c → HadNoResourceError result → IsTop state top' c'
  pub long : OnOk result (i < c'.file.header.fields.l1_entries)
  pub raw_entries : OnOk result (top'.raw_entries ≡ padded top.raw_entries (max (length top.raw_entries) (i + 1)))
  pub waits : IsTop state top c → OnOk result (let h = c.file.header.fields in (before : List FreeEntry)
      × (c'.space.to_free.entries ≡ before ++ l1_run h.cluster_bits h.l1_offset h.l1_entries))
  pub far : IsReady state c → IsTop state top c → 2 ^ 22 < i + 1 → result ≡ Err (Limit (min (i + 1) (2 ^ 64 - 1)))
  pub leaves : IsReady state c → IsTop state top c → OnOk result ((i + 1 ≤ 2 ^ 22)
      × LeavesRoom (room_for c.file.header.fields (l1_clusters c.file.header.fields top i)) (flushed_metadata state c) (first_free_in c) (flushed_metadata state c')
      (first_free_in c'))
  pub marked : IsTop state top c → KeepsNoneFreeBefore state c result c'
  pub cause : IfErr result (HasCause (storing_causes (IsReady state c × IsTop state top c) (IsTooLong state top i c c')
      (storage state c).faults (storage state c').faults))
