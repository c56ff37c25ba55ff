-- Runs of free clusters: how many of their clusters a call takes, and why an allocation finds no run.
use Rattle.std.specs.Prelude.{◌≡◌, ◌⊎◌, ◌+◌, ◌-◌, ◌/◌, ◌^◌, ◌<◌, ◌≤◌, ℕ, min, false, Option, Some, None}
use Rattle.imago_storage.specs.declared.storage.Storage.{Ghosts}
use Rattle.qcow2_types.specs.Bytes.{raw_entry}
use Rattle.qcow2_types.specs.Counts.{count}
use Rattle.qcow2_types.specs.Entries.{l2_table}
use Rattle.qcow2_types.specs.Header.{entries_of_cluster}
use Rattle.qcow2_types.specs.Words.{is_copied}
use Rattle.qcow2_alloc.specs.Allocators.{first_free_of}
use Rattle.qcow2_alloc.specs.Crowding.{room_for, space}
use Rattle.qcow2_alloc.specs.ReadyingRuns.{IsRunTold}
use Rattle.qcow2_clusters.specs.Lengthening.{clusters_for, l1_clusters}
use Rattle.qcow2_clusters.specs.Room.{HasFree}
use Rattle.qcow2_clusters.specs.declared.space.Space.{Space}
use Rattle.qcow2_image.specs.Rooms.{rest_of}
use Rattle.qcow2_image.specs.Seen.{file_of}
use Rattle.qcow2_image.specs.declared.tables.Tables.{Tables}

-- The file has `total` consecutive clusters with refcount 0, among all that such a file can have.
abbrev pub HasFreeRun : {S : Type 0} (g : Ghosts S) → Tables S g → ℕ → Type 0
HasFreeRun g t total = let h = t.file.header.fields in HasFree (count (file_of g t) h) 0 (space h) total

-- The call takes at most `taken` clusters of any free run.
pub record LeavesFree {S : Type 0} (g : Ghosts S) (taken : ℕ) (old new : Tables S g) : Type 0 where
  pub as_large : space new.file.header.fields ≡ space old.file.header.fields
  pub left : (total : ℕ) → 0 < total → HasFreeRun g old (taken + total) → HasFreeRun g new total

-- The length of a free run that suffices to allocate `n` clusters, with the blocks and tables that this may need.
abbrev pub enough_for_run : {S : Type 0} {g : Ghosts S} → Tables S g → (n : ℕ) → ℕ
enough_for_run t n = room_for t.file.header.fields n

-- The length of a free run that suffices to allocate one cluster.
abbrev pub enough_for_one : {S : Type 0} {g : Ghosts S} → Tables S g → ℕ
enough_for_one t = enough_for_run t 1

-- The length of a free run that suffices for an L1 table with an entry at index `i`.
abbrev pub enough_for_entry : {S : Type 0} {g : Ghosts S} → Tables S g → (i : ℕ) → ℕ
enough_for_entry t i = let h = t.file.header.fields in room_for h (l1_clusters h t.l1 i)

-- The length of a free run that suffices for an L1 table with an entry for the guest cluster, and for its L2 table.
abbrev pub enough_for_table : {S : Type 0} {g : Ghosts S} → Tables S g → (guest : ℕ) → ℕ
enough_for_table t guest = enough_for_entry t (guest / entries_of_cluster t.file.header.fields) + enough_for_one t

-- No run of `enough` clusters was free. The number says why the first free run of `asked` clusters can't be taken.
pub record LacksFreeRun {S : Type 0} (g : Ghosts S) (asked enough : ℕ) (old new : Tables S g) (number : ℕ) : Type 0 where
  pub crowded : HasFreeRun g old enough → ⊥
  pub free : Space
  pub space_known : new.space ≡ Some free
  pub told : IsRunTold (rest_of g new free) (first_free_of free.allocator) asked number

-- The guest cluster has no L2 table of its own: its L1 entry is missing, references nothing or has no COPIED flag.
abbrev pub LacksTable : {S : Type 0} (g : Ghosts S) → (guest : ℕ) → Tables S g → Type 0
LacksTable g guest t = let h = t.file.header.fields in let i = guest / entries_of_cluster h in
    (l2_table (file_of g t) h i ≡ 0) ⊎ (is_copied (raw_entry (file_of g t) h.l1_offset i) ≡ false)

-- The L1 table has no entry at index `i`, and a table with that entry takes `asked` clusters.
abbrev pub IsForRawEntry : {S : Type 0} (g : Ghosts S) → (i : ℕ) → Tables S g → (asked : ℕ) → Type 0
IsForRawEntry g i t asked = let h = t.file.header.fields in (h.l1_entries ≤ i) × (asked ≡ clusters_for h (i + 1))

-- Like `IsForRawEntry`, or one cluster is for an L2 table of the guest cluster's own.
abbrev pub IsForTable : {S : Type 0} (g : Ghosts S) → (guest : ℕ) → Tables S g → (asked : ℕ) → Type 0
IsForTable g guest t asked =
    IsForRawEntry g (guest / entries_of_cluster t.file.header.fields) t asked ⊎ (LacksTable g guest t × (asked ≡ 1))

-- Like `IsForTable`, or one cluster is for the data of a guest cluster that has no preallocated one.
abbrev pub IsForCluster : {S : Type 0} (g : Ghosts S) → (guest : ℕ) → (kept : Option ℕ) → Tables S g → (asked : ℕ) → Type 0
IsForCluster g guest kept t asked = IsForTable g guest t asked ⊎ ((kept ≡ None) × (asked ≡ 1))

-- The clusters can't be allocated. Either the L1 table would have `i + 1` entries, more than 2^22, or no run of `enough` clusters was free.
abbrev pub HasNoPlace : {S : Type 0} (g : Ghosts S) → (asked : ℕ → Type 0) → (i enough : ℕ) → (old new : Tables S g) → ℕ → Type 0
HasNoPlace g asked i enough old new number = (n : ℕ) × asked n × (((2 ^ 22 < i + 1) × (number ≡ min (i + 1) (2 ^ 64 - 1)))
    ⊎ ((i + 1 ≤ 2 ^ 22) × LacksFreeRun g n enough old new number))

-- An L2 table of the guest cluster's own can't be allocated, or the L1 table can't be longer. No run of a quarter of the space was free.
abbrev pub LacksPlaceForTable : {S : Type 0} (g : Ghosts S) → (guest : ℕ) → (old new : Tables S g) → ℕ → Type 0
LacksPlaceForTable g guest old new number = let h = old.file.header.fields in
    HasNoPlace g (IsForTable g guest old) (guest / entries_of_cluster h) (space h / 4) old new number
