-- Specifies the allocation of one given cluster, and how the block that has its refcount is made. `mark` is the first-free hint, where
-- searches for free clusters start.
use Rattle.std.specs.Prelude.{◌≡◌, ◌≢◌, ℕ, ◌/◌, ◌<◌, Bool, false, true, Option, Some, Result, OnOk, OnErr, IfOk, Ok, Err, length, slice_index}
use Rattle.imago_storage.specs.State.{StorageState}
use Rattle.imago_storage.specs.declared.fault.Fault.{Fault}
use Rattle.imago_storage.specs.declared.fault.Fault.TheVariants.{Limit}
use Rattle.qcow2_types.specs.Counts.{counters_of_block}
use Rattle.qcow2_types.specs.Pending.{FreeEntry}
use Rattle.qcow2_types.specs.Words.{block_offset}
use Rattle.qcow2_alloc.specs.declared.allocation.handing_out.Readiness.{Readiness}
use Rattle.qcow2_alloc.specs.declared.allocation.handing_out.Readiness.TheVariants.{Ready, NoPlace}
use Rattle.qcow2_alloc.specs.Allocating.{Allocating, CountsRun, allocating_causes}
use Rattle.qcow2_alloc.specs.Causes.{FailsFor}
use Rattle.qcow2_alloc.specs.Freeing.{HasUnpinnedRoom, NoneFreeBefore}
use Rattle.qcow2_alloc.specs.Going.{HadNoResourceError}
use Rattle.qcow2_alloc.specs.GrowingTables.{IsLengthenedByTable, IsTakenFor, Leaks}
use Rattle.qcow2_alloc.specs.HandingOut.{handed_at, first_free_past, IsBarred, IsAllocatedAt, IsOneAt}
use Rattle.qcow2_alloc.specs.GuestView.{Metadata}
use Rattle.qcow2_alloc.specs.State.{AllocatorState, ImageState, metadata, IsGuarded, WhereGuarded}

-- The fault is a limit.
abbrev pub tells_limit : Fault → Bool
tells_limit (Limit number) = true
tells_limit fault = false

-- A result without clusters allocates none; an error may have leaked some.
abbrev pub leaked_by : {T : Type 0} → Result T Fault → (ℕ → ℕ) → ℕ → ℕ
leaked_by (Ok done) leaked c = 0
leaked_by (Err fault) leaked c = leaked c

-- A call increments refcounts, while blocks are written before tables, and allocates what its result has. An old refcount table's clusters
-- may be added to the list.
pub record AllocatesByAnswer {S T : Type 0} (state : S → StorageState) (handed : Result T Fault → (ℕ → ℕ) → ℕ → ℕ) (s : ImageState S)
    (result : Result T Fault) (s' : ImageState S) : Type 0 where
  pub leaked : ℕ → ℕ
  pub leaks : Leaks (IsGuarded state s) (HasUnpinnedRoom s.table s.caches) result leaked
  pub step : Allocating state (HadNoResourceError result) (handed result leaked) s s'
  pub list : IsLengthenedByTable s.file.header.fields s.table s'.table s.pending s'.pending
  pub cause : FailsFor (allocating_causes (IsGuarded state s) (HasUnpinnedRoom s.table s.caches) (λ _. ⊥) (state s.file.image).faults
      (state s'.file.image).faults) result

-- The refcount table has an entry for a cluster, or it can't grow that far.
pub record ReadiesRawEntry {S : Type 0} (state : S → StorageState) (cluster : ℕ) (s : AllocatorState S) (result : Result Readiness Fault)
    (s' : AllocatorState S) : Type 0 where
  pub did : AllocatesByAnswer state leaked_by s.image result s'.image
  pub mark : s'.mark ≡ s.mark
  pub ready_covers_cluster : IfOk result (λ answer. answer ≡ Ready → cluster / counters_of_block s.file.header.fields < length s'.table.raw_entries)
  pub barred : WhereGuarded state s.image (IfOk result (λ answer. answer ≡ NoPlace → IsBarred (metadata state s.image) s.mark cluster))
  pub taken_up_to_cluster : WhereGuarded state s.image (IfOk result (λ _. IsTakenFor s.mark cluster (metadata state s.image) (metadata state s'.image)))

-- The refcount table references the block of a cluster, or it can't grow that far.
pub record ReadiesCounter {S : Type 0} (state : S → StorageState) (cluster : ℕ) (s : AllocatorState S) (result : Result Readiness Fault)
    (s' : AllocatorState S) : Type 0 where
  pub did : AllocatesByAnswer state leaked_by s.image result s'.image
  pub mark : s'.mark ≡ s.mark
  pub ready_covers_cluster : IfOk result
      (λ answer. answer ≡ Ready → block_offset (slice_index s'.table.raw_entries (cluster / counters_of_block s.file.header.fields)) ≢ 0)
  pub barred : WhereGuarded state s.image (IfOk result (λ answer. answer ≡ NoPlace → IsBarred (metadata state s.image) s.mark cluster))
  pub taken_up_to_cluster : WhereGuarded state s.image (IfOk result (λ _. IsTakenFor s.mark cluster (metadata state s.image) (metadata state s'.image)))

-- The result without its cluster.
abbrev pub counting_of : Result (Option FreeEntry) Fault → Result Unit Fault
counting_of (Ok found) = Ok tt
counting_of (Err fault) = Err fault

-- The refcount of one free cluster becomes 1.
pub record CountsOne {S : Type 0} (state : S → StorageState) (cluster : ℕ) (s : ImageState S) (result : Result (Option FreeEntry) Fault)
    (s' : ImageState S) : Type 0 where
  pub counts : CountsRun state cluster 1 s (counting_of result) s'
  pub exact : OnErr result (counts.part ≡ 0)
  pub entry : IfOk result (λ found. found ≡ Some (record { first = cluster; count = 1; metadata = false }))
  pub cluster_nonzero : OnOk result (cluster ≢ 0)

-- A cluster is allocated if it is free and not barred, while blocks are written before tables.
pub record AllocatesAt {S : Type 0} (state : S → StorageState) (barred : Metadata → Type 0) (cluster : ℕ) (s : AllocatorState S)
    (result : Result (Option FreeEntry) Fault) (s' : AllocatorState S) : Type 0 where
  pub did : AllocatesByAnswer state handed_at s.image result s'.image
  pub one : IfOk result (IsOneAt cluster s.file.header.fields.cluster_bits)
  pub answer : WhereGuarded state s.image
      (IfOk result (IsAllocatedAt (barred (metadata state s.image)) cluster (metadata state s.image) (metadata state s'.image)))
  pub taken_up_to_cluster : WhereGuarded state s.image (IfOk result (λ _. IsTakenFor s.mark cluster (metadata state s.image) (metadata state s'.image)))
  pub further : IfOk result (λ found. s'.mark ≡ first_free_past s.mark cluster found)
  pub stays : OnErr result (s'.mark ≡ s.mark)
  pub marked : WhereGuarded state s.image (HadNoResourceError result
      → NoneFreeBefore (metadata state s.image) s.mark → NoneFreeBefore (metadata state s'.image) s'.mark)
