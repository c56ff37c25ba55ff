-- Specifies the search for a run of free clusters, the refcount blocks made for it, and its allocation. `mark` is the first-free hint,
-- where searches for free clusters start.
use Rattle.std.specs.Prelude.{◌≡◌, ◌≢◌, ◌⊎◌, ◌==◌, ℕ, ◌+◌, ◌-◌, ◌/◌, ◌<◌, ◌≤◌, if◌then◌else◌, Bool, false, Result, OnErr, IfOk, Ok, Err, length, slice_index}
use Rattle.imago_storage.specs.State.{StorageState}
use Rattle.imago_storage.specs.declared.fault.Fault.{Fault}
use Rattle.qcow2_types.specs.Words.{block_offset}
use Rattle.qcow2_types.specs.Counts.{counters_of_block}
use Rattle.qcow2_types.specs.Pending.{FreeEntry}
use Rattle.qcow2_metadata.specs.Places.{IsAddressable}
use Rattle.qcow2_alloc.specs.declared.allocation.Allocator.{Allocator}
use Rattle.qcow2_alloc.specs.Allocating.{Allocating, allocating_causes}
use Rattle.qcow2_alloc.specs.Caches.{cached_file}
use Rattle.qcow2_alloc.specs.Causes.{FailsFor}
use Rattle.qcow2_alloc.specs.Crowding.{IsCrowded, IsRoomy, TakesLittle, room_for}
use Rattle.qcow2_alloc.specs.FreeList.{covers}
use Rattle.qcow2_alloc.specs.Freeing.{HasUnpinnedRoom, NoneFreeBefore}
use Rattle.qcow2_alloc.specs.Going.{HadNoResourceError}
use Rattle.qcow2_alloc.specs.GrowingTables.{IsLengthenedByTable, Leaks, NoPlaceToGrow}
use Rattle.qcow2_alloc.specs.GuestView.{Metadata, counted}
use Rattle.qcow2_alloc.specs.ReadyingBlocks.{last_number}
use Rattle.qcow2_alloc.specs.SearchingClusters.{IsFirstRun, KeepsClean}
use Rattle.qcow2_alloc.specs.State.{AllocatorState, ImageState, metadata, IsGuarded, WhereGuarded}

-- If the flag `begun` isn't set, nothing has changed: the allocator, the list and the header are the same. If the caches were clean, they
-- still are, and no byte of the file has changed.
abbrev pub LeavesUntouched : {S : Type 0} → (S → StorageState) → (was now : Bool) → Allocator → ImageState S → Allocator → ImageState S → Type 0
LeavesUntouched state was now a s a' s' = now ≡ false → (was ≡ false) × (a' ≡ a) × (s'.pending ≡ s.pending) × (s'.file.header ≡ s.file.header)
    × KeepsClean state (cached_file s.caches s.file) (cached_file s'.caches s'.file)

-- The cause of a limit for the first free run of n clusters. `number` is its last cluster, which isn't addressable or has no entry in the
-- refcount table; or the number of a failed growth of the table.
pub record IsRunTold (m : Metadata) (mark n number : ℕ) : Type 0 where
  pub first : ℕ
  pub run : IsFirstRun (counted m) mark n first
  pub told : ((number ≡ last_number first n)
      × (IsAddressable m.header.fields.cluster_bits (first + (n - 1))
      → length m.table.raw_entries ≤ (first + (n - 1)) / counters_of_block m.header.fields))
      ⊎ NoPlaceToGrow m mark ((first + (n - 1)) / counters_of_block m.header.fields + (n / counters_of_block m.header.fields + 2)) number

-- The first free run of n clusters from the first-free hint on is prepared: it is addressable, and the refcount table references a block
-- for each cluster.
pub record ReadiesRun {S : Type 0} (state : S → StorageState) (n : ℕ) (s : AllocatorState S) (result : Result ℕ Fault)
    (s' : AllocatorState S) : Type 0 where
  pub leaked : ℕ → ℕ
  pub leaks : Leaks (IsGuarded state s.image) (HasUnpinnedRoom s.table s.caches) result leaked
  pub step : Allocating state (HadNoResourceError result) leaked s.image s'.image
  pub found : WhereGuarded state s.image (IfOk result (IsFirstRun (counted (metadata state s'.image)) s.mark n))
  pub little : WhereGuarded state s.image (IfOk result (λ first. TakesLittle s.mark n (metadata state s.image) (metadata state s'.image)
      × ((roomy : IsRoomy (metadata state s.image) s.mark n) → first + n ≤ roomy.first + room_for s.file.header.fields n)))
  pub ready : IfOk result
      (λ first. (c : ℕ) → first ≤ c → c < first + n
      → block_offset (slice_index s'.table.raw_entries (c / counters_of_block s.file.header.fields)) ≢ 0)
  pub reach : IfOk result (λ first. IsAddressable s.file.header.fields.cluster_bits (first + (n - 1)))
  pub start_nonzero : IfOk result (λ first. first ≢ 0)
  pub mark : s'.mark ≡ s.mark
  pub list : IsLengthenedByTable s.file.header.fields s.table s'.table s.pending s'.pending
  pub cause : FailsFor (allocating_causes (IsGuarded state s.image) (HasUnpinnedRoom s.table s.caches)
      (λ number. WhereGuarded state s.image (IsCrowded (metadata state s.image) s.mark n
      × IsRunTold (metadata state s'.image) s.mark n number))
      (state s.file.image).faults (state s'.file.image).faults) result

-- The first-free hint after a run is allocated. No cluster before it is free if that was so before.
abbrev pub first_free_after : ℕ → ℕ → ℕ → ℕ
first_free_after mark n first = if first == mark then first + n else if n == 1 then first + 1 else mark

-- The excess refcounts that a call adds: the result's clusters, or after an error what has leaked.
abbrev pub allocated_by : Result FreeEntry Fault → (ℕ → ℕ) → ℕ → ℕ
allocated_by (Ok entry) leaked c = covers c entry
allocated_by (Err fault) leaked c = leaked c

-- The allocated clusters are the first free run of n clusters from the first-free hint on. Their refcounts are 1 now.
pub record IsRunCounted (mark n : ℕ) (m' : Metadata) (entry : FreeEntry) : Type 0 where
  pub not_before_start : mark ≤ entry.first
  pub once : (c : ℕ) → entry.first ≤ c → c < entry.first + n → counted m' c ≡ 1
  pub least : (z : ℕ) → mark ≤ z → z < entry.first → (c : ℕ) × (z ≤ c) × (c < z + n) × (covers c entry ≡ 0) × (0 < counted m' c)

-- A run of n clusters is allocated, while blocks are written before tables. An empty run starts at the first-free hint.
pub record Allocates {S : Type 0} (state : S → StorageState) (n : ℕ) (is_metadata : Bool) (s : AllocatorState S)
    (result : Result FreeEntry Fault) (s' : AllocatorState S) : Type 0 where
  pub leaked : ℕ → ℕ
  pub leaks : Leaks (IsGuarded state s.image) (HasUnpinnedRoom s.table s.caches) result leaked
  pub step : Allocating state (HadNoResourceError result) (allocated_by result leaked) s.image s'.image
  pub run : IfOk result
      (λ entry. (entry.count ≡ n) × (entry.metadata ≡ is_metadata)
      × (0 < n → (entry.first ≢ 0) × IsAddressable s.file.header.fields.cluster_bits (entry.first + (n - 1))))
  pub taken : WhereGuarded state s.image (IfOk result (IsRunCounted s.mark n (metadata state s'.image)))
  pub fresh : WhereGuarded state s.image
      (IfOk result (λ entry. (c : ℕ) → entry.first ≤ c → c < entry.first + n → counted (metadata state s.image) c ≡ 0))
  pub little : WhereGuarded state s.image (IfOk result (λ _. TakesLittle s.mark n (metadata state s.image) (metadata state s'.image)))
  pub moved : IfOk result (λ entry. s'.mark ≡ first_free_after s.mark n entry.first)
  pub stays : OnErr result (s'.mark ≡ s.mark)
  pub marked : WhereGuarded state s.image (HadNoResourceError result
      → NoneFreeBefore (metadata state s.image) s.mark → NoneFreeBefore (metadata state s'.image) s'.mark)
  pub list : IsLengthenedByTable s.file.header.fields s.table s'.table s.pending s'.pending
  pub cause : FailsFor (allocating_causes (IsGuarded state s.image) (HasUnpinnedRoom s.table s.caches)
      (λ number. WhereGuarded state s.image (IsCrowded (metadata state s.image) s.mark n
      × IsRunTold (metadata state s'.image) s.mark n number))
      (state s.file.image).faults (state s'.file.image).faults) result
