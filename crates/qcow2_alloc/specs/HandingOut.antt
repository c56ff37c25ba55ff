-- Specifies the public calls that allocate clusters and grow the refcount table. `mark` is the first-free hint, where searches for free
-- clusters start, and s and s' are the states before and after.
use Rattle.std.specs.Prelude.{◌≡◌, ◌≢◌, ⊤, ◌⊎◌, ◌==◌, ℕ, ◌+◌, ◌-◌, ◌/◌, ◌<◌, ◌≤◌, ◌++◌, [], if◌then◌else◌, Bool, false, List, Option, Some, None, Result, OnOk, OnErr, IfOk, IfErr, Ok, Err, length}
use Rattle.imago_storage.specs.State.{StorageState}
use Rattle.imago_storage.specs.Calls.{IsFaultless}
use Rattle.imago_storage.specs.declared.fault.Fault.{Fault}
use Rattle.imago_storage.specs.declared.fault.Fault.TheVariants.{Limit}
use Rattle.qcow2_types.specs.Header.{entries_of_cluster}
use Rattle.qcow2_types.specs.Counts.{counters_of_block}
use Rattle.qcow2_types.specs.Pending.{FreeEntry}
use Rattle.qcow2_types.specs.References.{structure, meets}
use Rattle.qcow2_metadata.specs.Tables.{IsGrownLength}
use Rattle.qcow2_metadata.specs.Places.{IsAddressable}
use Rattle.qcow2_alloc.specs.declared.cache.CacheDependency.TheVariants.{L2DependsOnRb}
use Rattle.qcow2_alloc.specs.declared.cache.MetadataCaches.{MetadataCaches}
use Rattle.qcow2_alloc.specs.declared.file.ImageFile.{ImageFile}
use Rattle.qcow2_alloc.specs.Allocating.{MovedTable, OnlyIncremented, allocating_causes}
use Rattle.qcow2_alloc.specs.Caches.{order_of, KeepsTables}
use Rattle.qcow2_alloc.specs.Causes.{FailsFor}
use Rattle.qcow2_alloc.specs.Crowding.{IsCrowded, TakesLittle}
use Rattle.qcow2_alloc.specs.Freeing.{Frees, HasUnpinnedRoom, NoneFreeBefore, IsRestInTurn}
use Rattle.qcow2_alloc.specs.Going.{HadNoResourceError, IsNotResourceError}
use Rattle.qcow2_alloc.specs.GrowingTables.{IsLengthenedByTable, IsTakenFor, Leaks, NoPlaceToGrow, TableGrown, table_run}
use Rattle.qcow2_alloc.specs.GuestView.{Metadata, IsSound, GuestUnchanged, PreservesGuest, counted, referenced_at_all, waiting, one_at}
use Rattle.qcow2_alloc.specs.ReadyingRuns.{allocated_by, first_free_after, IsRunCounted, IsRunTold}
use Rattle.qcow2_alloc.specs.State.{AllocatorState, ImageState, MetadataWithFirstFree, image_state, metadata_with_first_free, metadata, with_first_free, KeepsWritesAndSound, WhereKept}

-- The header differs at most in the refcount table's offset and length, and the caches keep their capacities and L2 tables. If the cache of
-- blocks had unpinned space (`HasUnpinnedRoom`), it still has.
pub record StaysInShape {S : Type 0} (s s' : ImageState S) : Type 0 where
  pub moved : MovedTable s.file.header s'.file.header
  pub keeps_unpinned_room : (any : Bool) → HasUnpinnedRoom s.table s.caches any → HasUnpinnedRoom s'.table s'.caches any
  pub room : KeepsTables s.caches s'.caches

-- The refcount table grows until it holds an index, after L2 tables were made to depend on blocks. The old table's clusters are added to
-- the list. A consistent image stays consistent, and the guest unchanged, in crash images, too.
--
-- After an error that isn't a resource error, table, header and list are unchanged. Refcounts are unchanged, too, unless the cache is full
-- of pinned blocks.
pub record GrowsReftable {S : Type 0} (state : S → StorageState) (at : ℕ) (s : AllocatorState S) (result : Result Unit Fault)
    (s' : AllocatorState S) : Type 0 where
  pub faults : HadNoResourceError result → IsFaultless (state s.file.image) (state s'.file.image)
  pub leaked : ℕ → ℕ
  pub leaks : Leaks (KeepsWritesAndSound state s.image) (HasUnpinnedRoom s.table s.caches) result leaked
  pub guest_unchanged : PreservesGuest (HadNoResourceError result) leaked (λ _. 0) (state s.file.image) (metadata state s.image) (state s'.file.image)
      (metadata state s'.image)
  pub raised : WhereKept state s.image (HadNoResourceError result → OnlyIncremented (metadata state s.image) (metadata state s'.image))
  pub grown : WhereKept state s.image (OnOk result (TableGrown s.mark at (metadata state s.image) (metadata state s'.image)))
  pub enough : OnOk result
      (IsGrownLength (entries_of_cluster s.file.header.fields) (counters_of_block s.file.header.fields) at (length s'.table.raw_entries))
  pub order : OnOk result (order_of s'.caches ≡ L2DependsOnRb)
  pub mark : s'.mark ≡ s.mark
  pub shape : StaysInShape s.image s'.image
  pub waits : OnOk result (s'.pending ≡ s.pending ++ table_run s.file.header.fields)
  pub unchanged_on_error : OnErr result (s'.pending ≡ s.pending)
  pub stays : IfErr result (λ fault. IsNotResourceError fault → (s'.table ≡ s.table) × (s'.file.header ≡ s.file.header))
  pub cause : FailsFor (allocating_causes (KeepsWritesAndSound state s.image) (HasUnpinnedRoom s.table s.caches)
      (λ number. WhereKept state s.image (NoPlaceToGrow (metadata state s.image) s.mark at number))
      (state s.file.image).faults (state s'.file.image).faults) result

-- The image after some clusters on the list were freed: no refcount is greater. If no cluster before the old first-free hint was free, none
-- before the new hint is.
pub record IsFreed (m m' : MetadataWithFirstFree) : Type 0 where
  pub sound : IsSound m'.image
  pub guest_unchanged : GuestUnchanged (λ _. 0) (λ _. 0) m.image m'.image
  pub header : m'.header ≡ m.header
  pub table : m'.table ≡ m.table
  pub fewer : (c : ℕ) → counted m'.image c ≤ counted m.image c
  pub lower : m'.mark ≤ m.mark
  pub marked : NoneFreeBefore m.image m.mark → NoneFreeBefore m'.image m'.mark

-- A result of the search: clusters, or a limit.
abbrev pub IsSearched : Result FreeEntry Fault → Type 0
IsSearched (Ok entry) = ⊤
IsSearched (Err (Limit number)) = ⊤
IsSearched (Err fault) = ⊥

-- Allocated clusters have no references, in the file or in memory, and are on no list entry.
abbrev pub AreUnreferenced : Metadata → FreeEntry → Type 0
AreUnreferenced m entry = (c : ℕ) → entry.first ≤ c → c < entry.first + entry.count → (referenced_at_all m c ≡ 0) × (waiting m c ≡ 0)

-- Consecutive clusters are allocated: the list is freed, L2 tables are made to depend on blocks, and the first free run of n clusters is
-- taken. The search starts at the first-free hint. A consistent image stays consistent, and the guest unchanged, in crash images, too.
pub record AllocatesClusters {S : Type 0} (state : S → StorageState) (n : ℕ) (is_metadata : Bool) (s : AllocatorState S)
    (result : Result FreeEntry Fault) (s' : AllocatorState S) : Type 0 where
  pub faults : HadNoResourceError result → IsFaultless (state s.file.image) (state s'.file.image)
  pub leaked : ℕ → ℕ
  pub leaks : Leaks (KeepsWritesAndSound state s.image) (HasUnpinnedRoom s.table s.caches) result leaked
  pub guest_unchanged : PreservesGuest (HadNoResourceError result) (allocated_by result leaked) (λ _. 0) (state s.file.image) (metadata state s.image)
      (state s'.file.image) (metadata state s'.image)
  pub run : IfOk result
      (λ entry. (entry.count ≡ n) × (entry.metadata ≡ is_metadata)
      × (0 < n → (entry.first ≢ 0) × IsAddressable s.file.header.fields.cluster_bits (entry.first + (n - 1))))
  pub not_referenced : WhereKept state s.image (IfOk result (AreUnreferenced (metadata state s'.image)))
  -- The list is freed. If that fails, nothing else is done.
  pub answer : Result Unit Fault
  pub between : MetadataCaches S
  pub at : ImageFile S
  pub left : List FreeEntry
  -- the image after the write order was set
  pub mid : MetadataWithFirstFree
  pub frees : Frees state s answer (with_first_free (image_state s.table between at left) mid.mark)
  pub remains_in_turn : IsRestInTurn s.pending left
  pub halted : (fault : Fault) → answer ≡ Err fault → (result ≡ Err fault) × (s'.caches ≡ between) × (s'.file ≡ at) × (s'.table ≡ s.table)
      × (s'.pending ≡ left)
  pub mid_left : mid.pending ≡ left
  pub freed : WhereKept state s.image (HadNoResourceError result → IsFreed (metadata_with_first_free state s) mid)
  pub emptied : OnOk answer (left ≡ [])
  pub searched : IsSearched result → (answer ≡ Ok tt) × (mid.order ≡ L2DependsOnRb)
  pub fresh : WhereKept state s.image (IfOk result (λ entry. (c : ℕ) → entry.first ≤ c → c < entry.first + n → counted mid.image c ≡ 0))
  pub taken : WhereKept state s.image (IfOk result (IsRunCounted mid.mark n (metadata state s'.image)))
  pub little : WhereKept state s.image (IfOk result (λ _. TakesLittle mid.mark n mid.image (metadata state s'.image)))
  pub raised : WhereKept state s.image (HadNoResourceError result → OnlyIncremented mid.image (metadata state s'.image))
  pub marked : WhereKept state s.image (HadNoResourceError result
      → NoneFreeBefore (metadata state s.image) s.mark → NoneFreeBefore (metadata state s'.image) s'.mark)
  pub further : IfOk result (λ entry. s'.mark ≡ first_free_after mid.mark n entry.first)
  -- If the call fails, the first-free hint stays where the freeing left it.
  pub stays : OnErr result (s'.mark ≡ mid.mark)
  pub order : OnOk result (order_of s'.caches ≡ L2DependsOnRb)
  pub shape : StaysInShape s.image s'.image
  pub list : IsLengthenedByTable s.file.header.fields s.table s'.table left s'.pending
  pub cause : FailsFor (allocating_causes (KeepsWritesAndSound state s.image) (HasUnpinnedRoom s.table s.caches)
      (λ number. WhereKept state s.image (IsCrowded mid.image mid.mark n × IsRunTold (metadata state s'.image) mid.mark n number))
      (state s.file.image).faults (state s'.file.image).faults) result

-- The excess refcounts that a call adds. It may allocate nothing.
abbrev pub handed_at : Result (Option FreeEntry) Fault → (ℕ → ℕ) → ℕ → ℕ
handed_at (Ok (Some entry)) leaked c = one_at entry.first c
handed_at (Ok None) leaked c = 0
handed_at (Err fault) leaked c = leaked c

-- The reserved slots after a call: one more if clusters were allocated.
abbrev pub held_at : Result (Option FreeEntry) Fault → ℕ → ℕ
held_at (Ok (Some entry)) held = held + 1
held_at result held = held

abbrev pub held_by : Result FreeEntry Fault → ℕ → ℕ
held_by (Ok entry) held = held + 1
held_by (Err fault) held = held

-- A cluster isn't addressable, or the refcount table has no entry for its block and can't grow that far.
abbrev pub IsBarred : Metadata → (mark cluster : ℕ) → Type 0
IsBarred m mark cluster = (IsAddressable m.header.fields.cluster_bits cluster → ⊥)
    ⊎ ((length m.table.raw_entries ≤ cluster / counters_of_block m.header.fields) × (number : ℕ)
    × NoPlaceToGrow m mark (cluster / counters_of_block m.header.fields) number)

-- The result for one cluster: it was free and is allocated now; or it wasn't free, a table or a block is there now, or it is barred.
abbrev pub IsAllocatedAt : Type 0 → ℕ → Metadata → Metadata → Option FreeEntry → Type 0
IsAllocatedAt barred cluster m m' (Some entry) = (counted m cluster ≡ 0) × (counted m' cluster ≡ 1) × (referenced_at_all m' cluster ≡ 0)
    × (waiting m' cluster ≡ 0)
IsAllocatedAt barred cluster m m' None = (0 < counted m cluster)
    ⊎ ((0 < structure m'.file m'.header.fields (meets m'.header.fields cluster)) ⊎ barred)

-- The entry is one given cluster of guest data.
abbrev pub IsOneAt : ℕ → ℕ → Option FreeEntry → Type 0
IsOneAt cluster bits (Some entry) = (entry ≡ record { first = cluster; count = 1; metadata = false }) × (cluster ≢ 0)
    × IsAddressable bits cluster
IsOneAt cluster bits None = ⊤

-- The first-free hint after one cluster was allocated, or none.
abbrev pub first_free_past : ℕ → ℕ → Option FreeEntry → ℕ
first_free_past mark cluster (Some entry) = if cluster == mark then cluster + 1 else mark
first_free_past mark cluster None = mark

-- One cluster is allocated if it is free, after L2 tables were made to depend on blocks. A consistent image stays consistent, and the guest
-- unchanged, in crash images, too. The clusters on the list aren't freed.
pub record AllocatesClusterAt {S : Type 0} (state : S → StorageState) (cluster : ℕ) (s : AllocatorState S)
    (result : Result (Option FreeEntry) Fault) (s' : AllocatorState S) : Type 0 where
  pub faults : HadNoResourceError result → IsFaultless (state s.file.image) (state s'.file.image)
  pub leaked : ℕ → ℕ
  pub leaks : Leaks (KeepsWritesAndSound state s.image) (HasUnpinnedRoom s.table s.caches) result leaked
  pub guest_unchanged : PreservesGuest (HadNoResourceError result) (handed_at result leaked) (λ _. 0) (state s.file.image) (metadata state s.image)
      (state s'.file.image) (metadata state s'.image)
  pub raised : WhereKept state s.image (HadNoResourceError result → OnlyIncremented (metadata state s.image) (metadata state s'.image))
  pub one : IfOk result (IsOneAt cluster s.file.header.fields.cluster_bits)
  pub answer : WhereKept state s.image
      (IfOk result (IsAllocatedAt (IsBarred (metadata state s.image) s.mark cluster) cluster (metadata state s.image)
      (metadata state s'.image)))
  pub taken_up_to_cluster : WhereKept state s.image (IfOk result (λ _. IsTakenFor s.mark cluster (metadata state s.image) (metadata state s'.image)))
  pub further : IfOk result (λ found. s'.mark ≡ first_free_past s.mark cluster found)
  pub stays : OnErr result (s'.mark ≡ s.mark)
  pub marked : WhereKept state s.image (HadNoResourceError result
      → NoneFreeBefore (metadata state s.image) s.mark → NoneFreeBefore (metadata state s'.image) s'.mark)
  pub order : OnOk result (order_of s'.caches ≡ L2DependsOnRb)
  pub shape : StaysInShape s.image s'.image
  pub list : IsLengthenedByTable s.file.header.fields s.table s'.table s.pending s'.pending
  pub cause : FailsFor (allocating_causes (KeepsWritesAndSound state s.image) (HasUnpinnedRoom s.table s.caches) (λ _. ⊥) (state s.file.image).faults
      (state s'.file.image).faults) result
