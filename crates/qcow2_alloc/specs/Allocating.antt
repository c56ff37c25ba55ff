-- Specifies how refcounts of free clusters are incremented, and how the missing refcount blocks for them are made.
use Rattle.std.specs.Prelude.{⊤, ◌==◌, if◌then◌else◌, Bool, IfOk, ◌≡◌, ◌≢◌, ◌⊎◌, ℕ, ◌+◌, ◌*◌, ◌/◌, ◌%◌, ◌<◌, ◌≤◌, IsTrue, Result, OnOk, Ok, Err, MatchOption, length, slice_index}
use Rattle.std.specs.List.{sum_by}
use Rattle.imago_storage.specs.State.{StorageState}
use Rattle.imago_storage.specs.Calls.{CountsNotFallen, IsFaultless}
use Rattle.imago_storage.specs.declared.fault.Fault.{Fault}
use Rattle.imago_storage.specs.declared.fault.Fault.TheVariants.{DamagedTable, Counter}
use Rattle.qcow2_types.specs.Words.{block_offset}
use Rattle.qcow2_types.specs.Counts.{counters_of_block}
use Rattle.qcow2_types.specs.Header.{Header}
use Rattle.qcow2_types.specs.Switched.{with_refcount_table}
use Rattle.qcow2_metadata.specs.Tables.{TableValue}
use Rattle.qcow2_metadata.specs.Blocks.{Block, with_counter}
use Rattle.qcow2_metadata.specs.Places.{IsAddressable}
use Rattle.qcow2_alloc.specs.declared.allocation.readying_runs.Provision.{Provision}
use Rattle.qcow2_alloc.specs.declared.allocation.readying_runs.Provision.TheVariants.{Complete, Extended}
use Rattle.qcow2_alloc.specs.declared.cache.CacheDependency.TheVariants.{L2DependsOnRb}
use Rattle.qcow2_alloc.specs.Allocators.{referenced_block, UsesBlock}
use Rattle.qcow2_alloc.specs.Caches.{CachedFile, order_of, KeepsTables}
use Rattle.qcow2_alloc.specs.FreeList.{covers}
use Rattle.qcow2_alloc.specs.Causes.{Causes, FailsFor}
use Rattle.qcow2_alloc.specs.Freeing.{HasUnpinnedRoom, counting_causes}
use Rattle.qcow2_alloc.specs.Going.{HadNoResourceError}
use Rattle.qcow2_alloc.specs.MakingRoom.{run_of}
use Rattle.qcow2_alloc.specs.GuestView.{Metadata, IsSound, PreservesGuest, counted}
use Rattle.qcow2_alloc.specs.State.{ImageState, metadata, IsGuarded, WhereGuarded}

-- A refcount of a block is incremented from 0 to 1. The call fails if the block has no such refcount, or if the refcount isn't 0.
pub record IncrementsCounter (index : ℕ) (block : Block) (result : Result Unit Fault) (block' : Block) : Type 0 where
  pub out : length block.counters ≤ index → (result ≡ Err DamagedTable) × (block' ≡ block)
  pub if_counted : index < length block.counters → 0 < slice_index block.counters index → (result ≡ Err Counter) × (block' ≡ block)
  pub none : index < length block.counters → slice_index block.counters index ≡ 0 → (result ≡ Ok tt) × (block' ≡ with_counter block index 1)

-- A free cluster's refcount is incremented, in the block that the refcount table references for it. Without such a block the table is
-- damaged.
abbrev pub IncrementsCluster : {S : Type 0} → (S → StorageState) → TableValue → ℕ → CachedFile S → Result Unit Fault → CachedFile S → Type 0
IncrementsCluster state table cluster old result new = MatchOption
    (referenced_block table (cluster / counters_of_block old.file.header.fields))
    ((result ≡ Err DamagedTable) × (new.caches ≡ old.caches) × (new.file ≡ old.file))
    (λ key. UsesBlock state key (IncrementsCounter (cluster % counters_of_block old.file.header.fields)) old result new)

-- Refcounts only change from 0 to 1.
abbrev pub OnlyIncremented : Metadata → Metadata → Type 0
OnlyIncremented m m' = (c : ℕ) → (counted m' c ≡ counted m c) ⊎ ((counted m c ≡ 0) × (counted m' c ≡ 1))

-- The causes of a failed allocation: those of `counting_causes`, or a limit. `full` states what the limit's number means. No storage fault
-- comes before a limit.
abbrev pub allocating_causes : (sound : Type 0) → (loose : Bool → Type 0) → (full : ℕ → Type 0) → (before after : ℕ) → Causes
allocating_causes sound loose full before after =
    record (counting_causes sound loose before after) { limit = λ number. full number × (after ≡ before) }

-- Refcounts of a run of n clusters are incremented, while blocks are written before tables. `handed part` are the incremented clusters
-- among the first `part`, which is n on success. If no cluster of the run has a refcount and each is ready, no refcount of a consistent
-- image makes the call fail.
pub record CountsPart {S : Type 0} (state : S → StorageState) (handed : ℕ → ℕ → ℕ) (ready : ℕ → Type 0) (first n : ℕ) (s : ImageState S)
    (result : Result Unit Fault) (s' : ImageState S) : Type 0 where
  pub part : ℕ
  pub inside : part ≤ n
  pub whole : OnOk result (part ≡ n)
  pub shape : (state s'.file.image).shape ≡ (state s.file.image).shape
  pub counts_not_fallen : CountsNotFallen (state s.file.image) (state s'.file.image)
  pub faults : HadNoResourceError result → IsFaultless (state s.file.image) (state s'.file.image)
  pub guest_unchanged : order_of s.caches ≡ L2DependsOnRb
      → (IsSound (metadata state s) → (c : ℕ) → first ≤ c → c < first + n → counted (metadata state s) c ≡ 0)
      → PreservesGuest (HadNoResourceError result) (handed part) (λ _. 0) (state s.file.image) (metadata state s) (state s'.file.image)
      (metadata state s')
  pub raised : WhereGuarded state s (((c : ℕ) → first ≤ c → c < first + n → counted (metadata state s) c ≡ 0) → HadNoResourceError result
      → (c : ℕ) → counted (metadata state s') c ≡ counted (metadata state s) c + handed part c)
  pub order : order_of s'.caches ≡ order_of s.caches
  pub header : s'.file.header ≡ s.file.header
  pub keeps_unpinned_room : (any : Bool) → HasUnpinnedRoom s.table s.caches any → HasUnpinnedRoom s.table s'.caches any
  pub room : KeepsTables s.caches s'.caches
  pub cause : FailsFor (counting_causes (IsTrue (state s.file.image).shape.keeps × (order_of s.caches ≡ L2DependsOnRb)
      × IsSound (metadata state s) × ((c : ℕ) → first ≤ c → c < first + n → (counted (metadata state s) c ≡ 0) × ready c))
      (HasUnpinnedRoom s.table s.caches) (state s.file.image).faults (state s'.file.image).faults) result

-- The refcounts of a run of n clusters are incremented. The refcount table must reference a block for each.
abbrev pub CountsRun : {S : Type 0} → (S → StorageState) → (first n : ℕ) → ImageState S → Result Unit Fault → ImageState S → Type 0
CountsRun state first n s result s' = CountsPart state (λ part c. covers c (run_of first part))
    (λ c. block_offset (slice_index s.table.raw_entries (c / counters_of_block s.file.header.fields)) ≢ 0) first n s result s'

-- 1 if cluster c is one of the first `part` clusters of a run and the refcount table references its block; else 0. Blocks have k refcounts.
abbrev pub named_part : TableValue → ℕ → ℕ → ℕ → ℕ → ℕ
named_part table k first part c = if block_offset (slice_index table.raw_entries (c / k)) == 0 then 0 else covers c (run_of first part)

-- In a run of n clusters, the refcounts of those clusters are incremented for which the refcount table references a block. The others are
-- skipped.
abbrev pub CountsReferenced : {S : Type 0} → (S → StorageState) → (first n : ℕ) → ImageState S → Result Unit Fault → ImageState S → Type 0
CountsReferenced state first n s result s' = CountsPart state (named_part s.table (counters_of_block s.file.header.fields) first)
    (λ _. ⊤) first n s result s'

-- The number of entries of a refcount table that reference no block.
abbrev pub missing : TableValue → ℕ
missing table = sum_by (λ w. if block_offset w == 0 then 1 else 0) table.raw_entries

-- The offset and length of the refcount table may differ, and nothing else in the header.
abbrev pub MovedTable : Header → Header → Type 0
MovedTable H H' = (offset : ℕ) × (clusters : ℕ) × (H' ≡ with_refcount_table H offset clusters)

-- A call increments refcounts, while blocks are written before tables. It allocates each cluster as often as `handed` says. Refcounts only
-- change from 0 to 1. If `ok` holds, the call had no resource error.
pub record Allocating {S : Type 0} (state : S → StorageState) (ok : Type 0) (handed : ℕ → ℕ) (s s' : ImageState S) : Type 0 where
  pub faults : ok → IsFaultless (state s.file.image) (state s'.file.image)
  pub guest_unchanged : order_of s.caches ≡ L2DependsOnRb → PreservesGuest ok handed (λ _. 0) (state s.file.image) (metadata state s) (state s'.file.image)
      (metadata state s')
  pub raised : WhereGuarded state s (ok
      → OnlyIncremented (metadata state s) (metadata state s'))
  pub order : order_of s'.caches ≡ order_of s.caches
  pub moved : MovedTable s.file.header s'.file.header
  pub longer : length s.table.raw_entries ≤ length s'.table.raw_entries
  pub keeps_unpinned_room : (any : Bool) → HasUnpinnedRoom s.table s.caches any → HasUnpinnedRoom s'.table s'.caches any
  pub room : KeepsTables s.caches s'.caches

-- A missing block is made, while blocks are written before tables. `IsBlockPlaced` limits where its cluster is. After a resource error the
-- table in memory may already reference the block. No excess refcount changes.
pub record MakesBlock {S : Type 0} (state : S → StorageState) (index : ℕ) (s : ImageState S) (result : Result Unit Fault)
    (s' : ImageState S) : Type 0 where
  pub step : Allocating state (HadNoResourceError result) (λ _. 0) s s'
  pub named : OnOk result (block_offset (slice_index s'.table.raw_entries index) ≢ 0)
  pub others : (i : ℕ) → i ≢ index → slice_index s'.table.raw_entries i ≡ slice_index s.table.raw_entries i
  pub long : length s'.table.raw_entries ≡ length s.table.raw_entries
  pub layout : s'.table.layout ≡ s.table.layout
  pub placed : s'.table.cluster ≡ s.table.cluster
  pub header : s'.file.header ≡ s.file.header
  pub cause : FailsFor (allocating_causes (IsGuarded state s) (HasUnpinnedRoom s.table s.caches)
      (λ number. (number ≤ index * counters_of_block s.file.header.fields) × (IsAddressable s.file.header.fields.cluster_bits number → ⊥))
      (state s.file.image).faults (state s'.file.image).faults) result

-- The missing blocks from index `first` to before index `end` are made. Entries that referenced a block stay the same.
pub record MakesBlocks {S : Type 0} (state : S → StorageState) (first end : ℕ) (s : ImageState S)
    (result : Result Provision Fault) (s' : ImageState S) : Type 0 where
  pub step : Allocating state (HadNoResourceError result) (λ _. 0) s s'
  pub named : OnOk result ((i : ℕ) → first ≤ i → i < end → block_offset (slice_index s'.table.raw_entries i) ≢ 0)
  pub entries_unchanged : (i : ℕ) → block_offset (slice_index s.table.raw_entries i) ≢ 0 → slice_index s'.table.raw_entries i ≡ slice_index s.table.raw_entries i
  pub idle : IfOk result (λ provision. provision ≡ Complete → (s'.table ≡ s.table) × (s'.caches ≡ s.caches) × (s'.file ≡ s.file))
  pub fewer : IfOk result (λ provision. provision ≡ Extended → missing s'.table < missing s.table)
  pub long : length s'.table.raw_entries ≡ length s.table.raw_entries
  pub layout : s'.table.layout ≡ s.table.layout
  pub placed : s'.table.cluster ≡ s.table.cluster
  pub header : s'.file.header ≡ s.file.header
  pub cause : FailsFor (allocating_causes (IsGuarded state s) (HasUnpinnedRoom s.table s.caches)
      (λ number. (i : ℕ) × (first ≤ i) × (i < end) × (number ≤ i * counters_of_block s.file.header.fields)
      × (IsAddressable s.file.header.fields.cluster_bits number → ⊥)) (state s.file.image).faults (state s'.file.image).faults) result
