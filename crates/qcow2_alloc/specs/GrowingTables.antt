-- Specifies how the refcount table grows. `mark` is the first-free hint, where searches for free clusters start, and `at` the index for
-- which the table grows.
use Rattle.std.specs.Prelude.{◌≡◌, ◌⊎◌, ℕ, ◌+◌, ◌-◌, ◌*◌, ◌/◌, ◌^◌, ◌<◌, ◌≤◌, ◌==◌, ◌++◌, ◌∷◌, [], min, true, if◌then◌else◌, List, Some, Result, Err, OnOk, OnErr, IfErr, length, slice_index, Bool}
use Rattle.imago_storage.specs.State.{StorageState}
use Rattle.imago_storage.specs.declared.fault.Fault.{Fault}
use Rattle.imago_storage.specs.declared.fault.Fault.TheVariants.{CacheFull, Limit}
use Rattle.qcow2_types.specs.Header.{Fields, cluster_size, entries_of_cluster}
use Rattle.qcow2_types.specs.Words.{block_offset}
use Rattle.qcow2_types.specs.Counts.{counters_of_block}
use Rattle.qcow2_types.specs.Pending.{FreeEntry}
use Rattle.qcow2_metadata.specs.Tables.{IsEnough, IsGrownLength, TableValue}
use Rattle.qcow2_metadata.specs.Places.{IsAddressable}
use Rattle.qcow2_alloc.specs.Allocating.{Allocating, allocating_causes}
use Rattle.qcow2_alloc.specs.Causes.{FailsFor}
use Rattle.qcow2_alloc.specs.FreeList.{covers}
use Rattle.qcow2_alloc.specs.Freeing.{HasUnpinnedRoom}
use Rattle.qcow2_alloc.specs.Going.{HadNoResourceError, IsNotResourceError}
use Rattle.qcow2_alloc.specs.Growing.{lacks, lacking, IsFirstFreeArea}
use Rattle.qcow2_alloc.specs.MakingRoom.{run_of, rank}
use Rattle.qcow2_alloc.specs.GuestView.{Metadata, counted}
use Rattle.qcow2_alloc.specs.State.{AllocatorState, metadata, IsGuarded, WhereGuarded}

-- The clusters of an image's refcount table, if it has any.
abbrev pub table_run : Fields → List FreeEntry
table_run h = if h.refcount_table_clusters == 0 then [] else run_of
    (h.refcount_table_offset / cluster_size h) h.refcount_table_clusters ∷ []

-- The list is unchanged; or the refcount table became longer, and the old one's clusters were added to the list.
abbrev pub IsLengthenedByTable : Fields → TableValue → TableValue → List FreeEntry → List FreeEntry → Type 0
IsLengthenedByTable h table table' old new = (new ≡ old) ⊎ ((length table.raw_entries < length table'.raw_entries) × (new ≡ old ++ table_run h))

-- The start of the search for a free area: the first-free hint, or the end of the clusters that the table can count if that is less.
abbrev pub free_area_from : Metadata → ℕ → ℕ
free_area_from m mark = min mark (length m.table.raw_entries * counters_of_block m.header.fields)

-- The area of `total` clusters from `first` on is the first free area for the table, grown to `clusters` clusters for an index.
pub record IsFreeAreaToGrow (m : Metadata) (mark at first total clusters : ℕ) : Type 0 where
  pub long : IsGrownLength (entries_of_cluster m.header.fields) (counters_of_block m.header.fields) at
      (clusters * entries_of_cluster m.header.fields)
  pub room : IsFirstFreeArea m.table (counters_of_block m.header.fields) (counted m) (free_area_from m mark) clusters first total

-- The clusters of the area are addressable, and the grown table can reference a block for each.
pub record IsAreaAddressable (m : Metadata) (first total clusters : ℕ) : Type 0 where
  pub reach : IsAddressable m.header.fields.cluster_bits (first + (total - 1))
  pub inside : first + total ≤ clusters * entries_of_cluster m.header.fields * counters_of_block m.header.fields

-- A table can't grow to hold an index, and `number` is what the limit reports. Either the table would have too many entries: the number is
-- the first length that is too long. Or the free area isn't addressable: the number is its last cluster.
abbrev pub NoPlaceToGrow : Metadata → (mark at number : ℕ) → Type 0
NoPlaceToGrow m mark at number =
    (((n : ℕ) → IsEnough (entries_of_cluster m.header.fields) (counters_of_block m.header.fields) at n → 2 ^ 20 < n)
    × (number ≡ 2 ^ 20 + entries_of_cluster m.header.fields))
    ⊎ ((first : ℕ) × (total : ℕ) × (clusters : ℕ) × IsFreeAreaToGrow m mark at first total clusters
    × (IsAreaAddressable m first total clusters → ⊥) × (number ≡ first + (total - 1)))

-- Cluster c is in the free area that the table takes to hold an index for which it has no entry.
abbrev pub IsInFreeAreaToGrow : Metadata → (mark at c : ℕ) → Type 0
IsInFreeAreaToGrow m mark at c = (length m.table.raw_entries ≤ at) × (first : ℕ) × (total : ℕ) × (clusters : ℕ)
    × IsFreeAreaToGrow m mark at first total clusters × (first ≤ c) × (c < first + total)

-- Newly allocated clusters aren't after `cluster`, or they are in the free area of a table that grows for its block.
abbrev pub IsTakenFor : (mark cluster : ℕ) → Metadata → Metadata → Type 0
IsTakenFor mark cluster m m' = (c : ℕ) → counted m c ≡ 0 → 0 < counted m' c
    → (c ≤ cluster) ⊎ IsInFreeAreaToGrow m mark (cluster / counters_of_block m.header.fields) c

-- The table has grown for an index. It is in its free area, after the blocks that were missing for the area, in the order of their indices.
-- Its entries reference these blocks, and those that they referenced before. The refcount of each cluster of the area increases by 1, and
-- no other.
pub record TableGrown (mark at : ℕ) (m m' : Metadata) : Type 0 where
  pub first : ℕ
  pub total : ℕ
  pub clusters : ℕ
  pub room : IsFreeAreaToGrow m mark at first total clusters
  pub reach : IsAreaAddressable m first total clusters
  pub long : length m'.table.raw_entries ≡ clusters * entries_of_cluster m.header.fields
  pub placed : m'.table.cluster ≡ Some (first + lacking m.table (counters_of_block m.header.fields) first total)
  pub news : (i : ℕ) → lacks m.table (counters_of_block m.header.fields) first total i ≡ true
      → block_offset (slice_index m'.table.raw_entries i) ≡ (first + rank
      (lacks m.table (counters_of_block m.header.fields) first total) i) * cluster_size m.header.fields
  pub olds : (i : ℕ) → (lacks m.table (counters_of_block m.header.fields) first total i ≡ true → ⊥)
      → block_offset (slice_index m'.table.raw_entries i) ≡ block_offset (slice_index m.table.raw_entries i)
  pub counts : (c : ℕ) → counted m' c ≡ counted m c + covers c (run_of first total)

-- Clusters that a failed call has leaked. Only a call that found the cache full leaks any. In a consistent image (`sound`) it leaks none if
-- the cache isn't full of pinned blocks (`loose`).
pub record Leaks {T : Type 0} (sound : Type 0) (loose : Bool → Type 0) (result : Result T Fault) (leaked : ℕ → ℕ) : Type 0 where
  pub none : (result ≡ Err CacheFull → ⊥) → (c : ℕ) → leaked c ≡ 0
  pub pinned : sound → loose true → (c : ℕ) → leaked c ≡ 0

-- The refcount table grows until it holds an index, while blocks are written before tables. The old table's clusters are added to the list.
--
-- After an error that isn't a resource error, table, header and list are unchanged. In a consistent image refcounts are unchanged, too,
-- unless the cache is full of pinned blocks.
pub record GrowsTable {S : Type 0} (state : S → StorageState) (at : ℕ) (s : AllocatorState S) (result : Result Unit Fault)
    (s' : AllocatorState S) : Type 0 where
  pub leaked : ℕ → ℕ
  pub leaks : Leaks (IsGuarded state s.image) (HasUnpinnedRoom s.table s.caches) result leaked
  pub step : Allocating state (HadNoResourceError result) leaked s.image s'.image
  pub grown : WhereGuarded state s.image (OnOk result (TableGrown s.mark at (metadata state s.image) (metadata state s'.image)))
  pub barred : WhereGuarded state s.image
      ((number : ℕ) → result ≡ Err (Limit number) → (c : ℕ) → counted (metadata state s'.image) c ≡ counted (metadata state s.image) c)
  pub enough : OnOk result
      (IsGrownLength (entries_of_cluster s.file.header.fields) (counters_of_block s.file.header.fields) at (length s'.table.raw_entries))
  pub mark : s'.mark ≡ s.mark
  pub waits : OnOk result (s'.pending ≡ s.pending ++ table_run s.file.header.fields)
  pub unchanged_on_error : OnErr result (s'.pending ≡ s.pending)
  pub stays : IfErr result (λ fault. IsNotResourceError fault → (s'.table ≡ s.table) × (s'.file.header ≡ s.file.header))
  pub cause : FailsFor (allocating_causes (IsGuarded state s.image) (HasUnpinnedRoom s.table s.caches)
      (λ number. WhereGuarded state s.image (NoPlaceToGrow (metadata state s.image) s.mark at number))
      (state s.file.image).faults (state s'.file.image).faults) result
