-- Specifies the calls of `allocating.rt`: how images before and after an allocation for guest clusters are related. These guest clusters
-- can't be written in place.
use Rattle.std.specs.Prelude.{◌≡◌, ◌≢◌, ⊤, ℕ, ◌+◌, ◌-◌, ◌*◌, ◌/◌, ◌<◌, ◌≤◌, ◌==◌, Bool, true, false, not, List, max, slice_index, length, Option, Some, None, IsSome, IfSome, is_some, Result, Ok, Err, IfOk, IfErr, OnOk, OnErr}
use Rattle.imago_storage.specs.Calls.{Cause}
use Rattle.imago_storage.specs.declared.fault.Fault.{Fault}
use Rattle.imago_storage.specs.declared.fault.Fault.TheVariants.{Limit, Memory, Storage}
use Rattle.imago_storage.specs.declared.storage.Storage.{Ghosts}
use Rattle.imago_storage.specs.Disk.{barred, byte}
use Rattle.imago_access.specs.Layer.{Cell, own, unmapped}
use Rattle.imago_access.specs.Files.{HadNoResourceError}
use Rattle.qcow2_types.specs.Bytes.{Bytes, raw_entry}
use Rattle.qcow2_types.specs.Entries.{entry, l2_table}
use Rattle.qcow2_types.specs.Header.{Fields, cluster_size, entries_of_cluster}
use Rattle.qcow2_types.specs.Words.{Mapping, damaged, data_at, is_copied, packed, zeroes}
use Rattle.qcow2_types.specs.Words as mappings
use Rattle.qcow2_metadata.specs.Places.{IsAddressable}
use Rattle.qcow2_metadata.specs.Tables.{padded}
use Rattle.qcow2_alloc.specs.Causes.{HasCause, Causes}
use Rattle.qcow2_alloc.specs.Going.{IsNoShorter, writing_causes}
use Rattle.qcow2_clusters.specs.Freeing.{releasing_causes}
use Rattle.qcow2_clusters.specs.Storing.{AreReserved, ReachesEnd, run_handed_by, storing_causes}
use Rattle.qcow2_image.specs.FreeSpace.{HasNoPlace, IsForTable, IsForRawEntry, LacksFreeRun, LeavesFree, enough_for_run, enough_for_entry}
use Rattle.qcow2_image.specs.Holding.{AreOwnAs, place_in}
use Rattle.qcow2_image.specs.KeepsDisk.{KeepsDisk, KeepsDiskWhere}
use Rattle.qcow2_image.specs.Leaking.{KeepsLeaks, KeepsLeaksBut, reserved_by}
use Rattle.qcow2_image.specs.Looking.{looking_causes}
use Rattle.qcow2_image.specs.Rooms.{IsWellFormed, IsUntouched, rest_of}
use Rattle.qcow2_image.specs.Seen.{IsCacheCoherent, file_of}
use Rattle.qcow2_image.specs.Steps.{KeepsImage}
use Rattle.qcow2_image.specs.declared.allocating.Placed.{Placed}
use Rattle.qcow2_image.specs.declared.allocating.Shown.{Shown}
use Rattle.qcow2_image.specs.declared.allocating.Shown.TheVariants as shown
use Rattle.qcow2_image.specs.declared.qcow2.Qcow2.{Qcow2}
use Rattle.qcow2_image.specs.declared.tables.Tables.{Tables}
use Rattle.qcow2_clusters.specs.declared.space.Space.{Space}

-- True if an image has failed after a change. If memory runs out after the change has begun, the image fails too, as a part may have been
-- done.
abbrev pub failed_by_resource_error : {T : Type 0} → Result T Fault → (begun : Bool) → Bool → Bool
failed_by_resource_error (Err Memory) true failed = true
failed_by_resource_error (Err Storage) begun failed = true
failed_by_resource_error result begun failed = failed

-- The flag `now` is set once this call, or one before it, has begun to change anything. While it isn't set, the call writes nothing, and
-- only a storage fault sets the image to failed. Afterwards running out of memory sets it to failed too.
pub record Begins {S T : Type 0} (g : Ghosts S) (was : Bool) (old : Qcow2 S g) (result : Result T Fault) (now : Bool) (new : Qcow2 S g)
    : Type 0 where
  pub left_untouched : now ≡ false → (was ≡ false) × KeepsImage g old result new
  pub marked : now ≡ true → new.failed ≡ failed_by_resource_error result true old.failed

-- The source of the data of an unallocated guest cluster: the layers below (the backing chain) if the image has any, otherwise zeroes.
abbrev pub shown_blank : Bool → Shown
shown_blank true = shown.Below
shown_blank false = shown.Zeroes

-- The source of the data of a guest cluster with this mapping. A preallocated zero cluster reads as zeroes. An invalid entry has no source.
abbrev pub shown_of : Bool → Mapping → Option Shown
shown_of backing mappings.unmapped = Some (shown_blank backing)
shown_of backing (zeroes cluster copied) = Some shown.Zeroes
shown_of backing (packed offset length) = Some shown.Barred
shown_of backing (data_at cluster copied) = Some (shown.Data cluster)
shown_of backing damaged = None

-- The cell of a byte (its value, or a gap that the layers below fill), given where its guest cluster is read from and the bytes of the
-- file.
abbrev pub shown_cell : Bytes → Fields → ℕ → Shown → Cell
shown_cell file h p shown.Zeroes = own (byte 0)
shown_cell file h p shown.Below = unmapped
shown_cell file h p shown.Barred = own barred
shown_cell file h p (shown.Data cluster) = own (byte (file (place_in h cluster p)))

-- If the guest cluster is read from a host cluster, the offset of that host cluster fits an entry.
abbrev pub IsShownAddressable : ℕ → Shown → Type 0
IsShownAddressable cluster_bits (shown.Data cluster) = IsAddressable cluster_bits cluster
IsShownAddressable cluster_bits shown = ⊤

-- A lookup returns where the guest cluster is read from. Nothing else happens.
pub record TellsShown {S : Type 0} (g : Ghosts S) (guest : ℕ) (old : Qcow2 S g) (result : Result Shown Fault)
    (new : Qcow2 S g) : Type 0 where
  pub keeps : KeepsImage g old result new
  pub reach : IfOk result (IsShownAddressable old.tables.file.header.fields.cluster_bits)
  pub shown : IsCacheCoherent g old.tables → IfOk result (λ is.
      Some is ≡ shown_of old.mode.backing (entry (file_of g old.tables) old.tables.file.header.fields guest))
  pub cause : IfErr result (HasCause (looking_causes ⊤ (g.state old.tables.file.image).faults (g.state new.tables.file.image).faults))
  pub known_cause : IsCacheCoherent g old.tables → IfErr result (HasCause (looking_causes
      (entry (file_of g old.tables) old.tables.file.header.fields guest ≡ damaged)
      (g.state old.tables.file.image).faults (g.state new.tables.file.image).faults))

-- The preallocated zero cluster of a mapping, if its entry has the COPIED flag.
abbrev pub kept_by : Mapping → Option ℕ
kept_by (zeroes (Some cluster) true) = Some cluster
kept_by mapping = None

-- The preallocated zero cluster of a guest cluster of an image.
abbrev pub kept_for : {S : Type 0} (g : Ghosts S) → (guest : ℕ) → Tables S g → Option ℕ
kept_for g guest t = kept_by (entry (file_of g t) t.file.header.fields guest)

-- A lookup returns the preallocated zero cluster of a guest cluster. Nothing else happens.
pub record TellsKept {S : Type 0} (g : Ghosts S) (guest : ℕ) (old : Qcow2 S g) (result : Result (Option ℕ) Fault)
    (new : Qcow2 S g) : Type 0 where
  pub keeps : KeepsImage g old result new
  pub reach : IfOk result (λ o. IfSome o (IsAddressable old.tables.file.header.fields.cluster_bits))
  pub kept_host : IsCacheCoherent g old.tables → IfOk result (λ o. o ≡ kept_for g guest old.tables)
  pub cause : IfErr result (HasCause (looking_causes ⊤ (g.state old.tables.file.image).faults (g.state new.tables.file.image).faults))
  pub known_cause : IsCacheCoherent g old.tables → IfErr result (HasCause (looking_causes
      (entry (file_of g old.tables) old.tables.file.header.fields guest ≡ damaged)
      (g.state old.tables.file.image).faults (g.state new.tables.file.image).faults))

-- The image is well-formed, and `kept` is the preallocated zero cluster of the guest cluster, or `None` if it has none.
pub record HasKept {S : Type 0} (g : Ghosts S) (guest : ℕ) (kept : Option ℕ) (d : Qcow2 S g) : Type 0 where
  pub well_formed : IsWellFormed g d
  pub is : kept ≡ kept_for g guest d.tables

-- The causes for which clusters aren't reserved. In a well-formed image these are resource errors, and `Fault::Limit` with a number for
-- which `full` holds.
abbrev pub reserving_causes : {S : Type 0} (g : Ghosts S) → (full : ℕ → Type 0) → Qcow2 S g → Qcow2 S g → Causes
reserving_causes g full old new = storing_causes (IsWellFormed g old) full (g.state old.tables.file.image).faults
    (g.state new.tables.file.image).faults

-- Like `reserving_causes`, but it needs a well-formed image with loaded free space.
abbrev pub allocation_causes : {S : Type 0} (g : Ghosts S) → (full : ℕ → Type 0) → Qcow2 S g → Qcow2 S g → Causes
allocation_causes g full old new = record (reserving_causes g full old new) {
  damaged = IsWellFormed g old × IsSome old.tables.space → ⊥;
  counter = IsWellFormed g old × IsSome old.tables.space → ⊥;
}

-- The free space is loaded. On error nothing changes, except that a storage fault sets the image to failed. If it was loaded before,
-- nothing changes.
pub record LoadsSpace {S : Type 0} (g : Ghosts S) (old : Qcow2 S g) (result : Result Unit Fault) (new : Qcow2 S g) : Type 0 where
  pub keeps : KeepsDisk g (HadNoResourceError result) old new
  pub leaks : KeepsLeaks g old new
  pub known : OnOk result (IsSome new.tables.space)
  pub stays : IsSome old.tables.space → new ≡ old
  pub same : OnErr result (KeepsImage g old result new)
  pub top : OnOk result ((new.tables.l1 ≡ old.tables.l1) × (new.tables.file.header ≡ old.tables.file.header))
  pub leaves : OnOk result (LeavesFree g 0 old.tables new.tables)
  pub cause : IfErr result (HasCause (allocation_causes g (λ number. ⊥) old new))
  pub known_cause : IsWellFormed g old → IfErr result (Cause (g.state old.tables.file.image).faults (g.state new.tables.file.image).faults)
  pub faults : OnOk result (new.failed ≡ old.failed)
  pub idle : IsUntouched g old → IsUntouched g new

-- The L1 entry of the guest cluster has the COPIED flag: nothing else references its L2 table.
abbrev pub HasOwnTable : {S : Type 0} (g : Ghosts S) → ℕ → Tables S g → Type 0
HasOwnTable g guest t = let h = t.file.header.fields in
    is_copied (raw_entry (file_of g t) h.l1_offset (guest / entries_of_cluster h)) ≡ true

-- The L1 table has an entry at this index. If it had none, it has become longer by entries that reference nothing.
pub record EnsuresEntry {S : Type 0} (g : Ghosts S) (i : ℕ) (old : Qcow2 S g) (result : Result Unit Fault) (new : Qcow2 S g) : Type 0 where
  pub keeps : KeepsDisk g (HadNoResourceError result) old new
  pub leaks : IsWellFormed g old → HadNoResourceError result → KeepsLeaks g old new
  pub known : IsSome old.tables.space → IsSome new.tables.space
  pub inside : OnOk result (i < length new.tables.l1.raw_entries)
  pub raw_entries : OnOk result (new.tables.l1.raw_entries ≡ padded old.tables.l1.raw_entries (max (length old.tables.l1.raw_entries) (i + 1)))
  pub leaves : IsWellFormed g old → OnOk result (LeavesFree g (enough_for_entry old.tables i) old.tables new.tables)
  pub cause : IfErr result (HasCause (allocation_causes g
      (HasNoPlace g (IsForRawEntry g i old.tables) i (enough_for_entry old.tables i) old.tables new.tables) old new))

-- The guest cluster has an L2 table of its own, and the L1 table is no longer than its entry needs. `enough` consecutive free clusters
-- suffice for that.
pub record EnsuresTable {S : Type 0} (g : Ghosts S) (enough guest : ℕ) (old : Qcow2 S g) (result : Result ℕ Fault) (new : Qcow2 S g)
    : Type 0 where
  pub keeps : KeepsDisk g (HadNoResourceError result) old new
  pub leaks : IsWellFormed g old → HadNoResourceError result → KeepsLeaks g old new
  pub known : IsSome old.tables.space → IsSome new.tables.space
  pub table_linked : IsWellFormed g old → IsSome old.tables.space → let h = new.tables.file.header.fields in
      IfOk result (λ t. (t ≢ 0) × (guest / entries_of_cluster h < h.l1_entries)
      × (l2_table (file_of g new.tables) h (guest / entries_of_cluster h) ≡ t * cluster_size h))
  pub own : IsWellFormed g old → IsSome old.tables.space → IfOk result (λ t. HasOwnTable g guest new.tables)
  pub long : IsWellFormed g old → let i = guest / entries_of_cluster old.tables.file.header.fields in
      OnOk result (length new.tables.l1.raw_entries ≡ max (length old.tables.l1.raw_entries) (i + 1))
  pub leaves : IsWellFormed g old → OnOk result (LeavesFree g enough old.tables new.tables)
  pub cause : let i = guest / entries_of_cluster old.tables.file.header.fields in
      IfErr result (HasCause (allocation_causes g (HasNoPlace g (IsForTable g guest old.tables) i enough old.tables new.tables) old new))

-- The L1 table is unchanged, and the L2 tables keep their offsets.
pub record KeepsTop {S : Type 0} (g : Ghosts S) (sure : Type 0) (old new : Qcow2 S g) : Type 0 where
  pub l1 : new.tables.l1 ≡ old.tables.l1
  pub entries : new.tables.file.header.fields.l1_entries ≡ old.tables.file.header.fields.l1_entries
  pub tables : sure → (i : ℕ)
      → l2_table (file_of g new.tables) new.tables.file.header.fields i ≡ l2_table (file_of g old.tables) old.tables.file.header.fields i

-- Bytes are stored in the first of `n` newly allocated, consecutive and addressable clusters. The file reaches at least the end of the last
-- one.
pub record StoresContent {S : Type 0} (g : Ghosts S) (n : ℕ) (bytes : List ℕ) (old : Qcow2 S g) (result : Result ℕ Fault) (new : Qcow2 S g)
    : Type 0 where
  pub keeps : KeepsDisk g (HadNoResourceError result) old new
  pub leaks : IsWellFormed g old → HadNoResourceError result → KeepsLeaksBut g (run_handed_by n result) old new
  pub top : KeepsTop g (IsWellFormed g old × HadNoResourceError result) old new
  pub named : IfOk result (λ x. (x ≢ 0) × IsAddressable old.tables.file.header.fields.cluster_bits (x + (n - 1)))
  pub reserved : IsWellFormed g old → IfOk result (λ x. (space : Space) × (new.tables.space ≡ Some space)
      × AreReserved n (rest_of g new.tables space) x × (0 < space.to_free.held))
  pub reaches : IfOk result (λ x. ReachesEnd g.state x n old.tables.file new.tables.file)
  pub content : IsWellFormed g old → IfOk result (λ x. (i : ℕ) → i < length bytes
      → file_of g new.tables (x * cluster_size old.tables.file.header.fields + i) ≡ slice_index bytes i)
  pub cause : IfErr result (HasCause (allocation_causes g (LacksFreeRun g n (enough_for_run old.tables n) old.tables new.tables) old new))

-- No free run was found for what should be stored.
abbrev pub full_by : Result ℕ Fault → Bool
full_by (Err (Limit number)) = true
full_by result = false

-- The result of storing in `n` newly allocated clusters.
abbrev pub placed_by : (n : ℕ) → Result ℕ Fault → Result Placed Fault
placed_by n (Ok host) = Ok (record { host = host; count = n; is_kept = false })
placed_by n (Err fault) = Err fault

-- Like `StoresContent`, but a single cluster is allocated if no run of `n` is free.
pub record StoresMost {S : Type 0} (g : Ghosts S) (n : ℕ) (bytes : List ℕ) (old : Qcow2 S g) (result : Result Placed Fault)
    (new : Qcow2 S g) : Type 0 where
  pub keeps : KeepsDisk g (HadNoResourceError result) old new
  pub leaks : IsWellFormed g old → HadNoResourceError result → KeepsLeaksBut g (reserved_by result) old new
  pub top : KeepsTop g (IsWellFormed g old × HadNoResourceError result) old new
  pub unkept : IfOk result (λ r. r.is_kept ≡ false)
  pub many : IfOk result (λ r. (0 < r.count) × (r.count ≤ n))
  pub named : IfOk result (λ r. (r.host ≢ 0) × IsAddressable old.tables.file.header.fields.cluster_bits (r.host + (r.count - 1)))
  pub reserved : IsWellFormed g old → IfOk result (λ r. (space : Space) × (new.tables.space ≡ Some space)
      × AreReserved r.count (rest_of g new.tables space) r.host × (0 < space.to_free.held))
  pub reaches : IfOk result (λ r. ReachesEnd g.state r.host r.count old.tables.file new.tables.file)
  pub content : IsWellFormed g old → IfOk result (λ r. (i : ℕ) → i < length bytes
      → file_of g new.tables (r.host * cluster_size old.tables.file.header.fields + i) ≡ slice_index bytes i)
  pub cause : IfErr result (HasCause (allocation_causes g (LacksFreeRun g 1 (enough_for_run old.tables n) old.tables new.tables) old new))

-- The causes for which a preallocated zero cluster isn't filled. If a well-formed image has loaded its free space, these are resource
-- errors.
abbrev pub filling_causes : {S : Type 0} (g : Ghosts S) → Qcow2 S g → Qcow2 S g → Causes
filling_causes g old new = writing_causes (IsWellFormed g old × IsSome old.tables.space)
    (g.state old.tables.file.image).faults (g.state new.tables.file.image).faults

-- Bytes are written to the preallocated zero cluster of a guest cluster, which stays preallocated. The free space is unchanged.
pub record FillsContent {S : Type 0} (g : Ghosts S) (guest host : ℕ) (bytes : List ℕ) (old : Qcow2 S g) (result : Result Unit Fault)
    (new : Qcow2 S g) : Type 0 where
  pub keeps : KeepsDiskWhere g (HasKept g guest (Some host) old) (HadNoResourceError result) old new
  pub leaks : HasKept g guest (Some host) old → HadNoResourceError result → KeepsLeaks g old new
  pub top : KeepsTop g (HasKept g guest (Some host) old × HadNoResourceError result) old new
  pub space : new.tables.space ≡ old.tables.space
  pub known : OnOk result (IsSome new.tables.space)
  pub reaches : OnOk result (ReachesEnd g.state host 1 old.tables.file new.tables.file)
  pub content : HasKept g guest (Some host) old → OnOk result ((i : ℕ) → i < length bytes
      → file_of g new.tables (host * cluster_size old.tables.file.header.fields + i) ≡ slice_index bytes i)
  pub cause : IfErr result (HasCause (filling_causes g old new))

-- The data of a guest cluster is put in its preallocated zero cluster, if it has one. Otherwise it is put in the first of at most `n` newly
-- allocated, consecutive clusters.
pub record PlacesContent {S : Type 0} (g : Ghosts S) (guest : ℕ) (kept : Option ℕ) (n : ℕ) (bytes : List ℕ) (old : Qcow2 S g)
    (result : Result Placed Fault) (new : Qcow2 S g) : Type 0 where
  pub keeps : KeepsDiskWhere g (HasKept g guest kept old) (HadNoResourceError result) old new
  pub leaks : HasKept g guest kept old → HadNoResourceError result → KeepsLeaksBut g (reserved_by result) old new
  pub top : KeepsTop g (HasKept g guest kept old × HadNoResourceError result) old new
  pub many : IfOk result (λ r. (0 < r.count) × (r.count ≤ n))
  pub host_addressable : IfOk result (λ r. IsAddressable old.tables.file.header.fields.cluster_bits (r.host + (r.count - 1)))
  pub which : IfOk result (λ r. (r.is_kept ≡ is_some kept)
      × IfSome kept (λ host. (r.host ≡ host) × (new.tables.space ≡ old.tables.space)))
  pub own : HasKept g guest kept old → IfOk result (λ r. (space : Space) × (new.tables.space ≡ Some space) × (r.host ≢ 0)
      × AreOwnAs r.is_kept r.count (rest_of g new.tables space) guest r.host × (r.is_kept ≡ false → 0 < space.to_free.held))
  pub reaches : IfOk result (λ r. ReachesEnd g.state r.host r.count old.tables.file new.tables.file)
  pub content : HasKept g guest kept old → IfOk result (λ r. (i : ℕ) → i < length bytes
      → file_of g new.tables (r.host * cluster_size old.tables.file.header.fields + i) ≡ slice_index bytes i)
  pub cause : IfErr result (HasCause (allocation_causes g
      (λ number. (kept ≡ None) × LacksFreeRun g 1 (enough_for_run old.tables n) old.tables new.tables number) old new))

-- The causes for which the free list isn't emptied. In a well-formed image these are resource errors.
abbrev pub pending_causes : {S : Type 0} (g : Ghosts S) → Qcow2 S g → Qcow2 S g → Causes
pending_causes g old new = releasing_causes (IsWellFormed g old) (g.state old.tables.file.image).faults (g.state new.tables.file.image).faults

-- The free list isn't empty.
abbrev pub waits_in : Option Space → Bool
waits_in None = false
waits_in (Some space) = not (length space.to_free.entries == 0)

-- The free list is emptied. If it is empty already, nothing is done. In every case the file gets no shorter.
pub record FreesPending {S : Type 0} (g : Ghosts S) (old : Qcow2 S g) (result : Result Unit Fault) (new : Qcow2 S g) : Type 0 where
  pub keeps : KeepsDisk g (HadNoResourceError result) old new
  pub leaks : IsWellFormed g old → HadNoResourceError result → KeepsLeaks g old new
  pub marks_failed : new.failed ≡ failed_by_resource_error result true old.failed
  pub no_shorter : IsNoShorter (g.state old.tables.file.image) (g.state new.tables.file.image)
  pub idle : IsUntouched g old → (result ≡ Ok tt) × (new ≡ old)
  pub emptied : OnOk result (waits_in new.tables.space ≡ false)
  pub header : new.tables.file.header ≡ old.tables.file.header
  pub cause : IfErr result (HasCause (pending_causes g old new))

-- The free list is emptied, and then the file is flushed. The file gets no shorter.
pub record FlushesFreed {S : Type 0} (g : Ghosts S) (old : Qcow2 S g) (result : Result Unit Fault) (new : Qcow2 S g) : Type 0 where
  pub keeps : KeepsDisk g (HadNoResourceError result) old new
  pub leaks : IsWellFormed g old → HadNoResourceError result → KeepsLeaks g old new
  pub marks_failed : new.failed ≡ failed_by_resource_error result true old.failed
  pub no_shorter : IsNoShorter (g.state old.tables.file.image) (g.state new.tables.file.image)
  pub emptied : OnOk result (waits_in new.tables.space ≡ false)
  pub header : new.tables.file.header ≡ old.tables.file.header
  pub cause : IfErr result (HasCause (pending_causes g old new))
