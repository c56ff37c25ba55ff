-- Specifies how the refcount blocks are made that a run of clusters needs before its refcounts can be set. `mark` is the first-free hint,
-- where searches for free clusters start.
use Rattle.std.specs.Prelude.{◌≡◌, ◌≢◌, ◌⊎◌, ℕ, min, ◌+◌, ◌-◌, ◌*◌, ◌/◌, ◌^◌, ◌<◌, ◌≤◌, ◌++◌, Result, Err, IfOk, OnOk, OnErr, length, slice_index}
use Rattle.imago_storage.specs.State.{StorageState}
use Rattle.imago_storage.specs.declared.fault.Fault.{Fault}
use Rattle.imago_storage.specs.declared.fault.Fault.TheVariants.{Limit}
use Rattle.qcow2_types.specs.Counts.{counters_of_block}
use Rattle.qcow2_types.specs.Header.{Fields}
use Rattle.qcow2_types.specs.Words.{block_offset}
use Rattle.qcow2_metadata.specs.Places.{IsAddressable}
use Rattle.qcow2_metadata.specs.Tables.{TableValue}
use Rattle.qcow2_alloc.specs.declared.allocation.readying_runs.Provision.{Provision}
use Rattle.qcow2_alloc.specs.declared.allocation.readying_runs.Provision.TheVariants.{Complete, Extended}
use Rattle.qcow2_alloc.specs.Allocating.{Allocating, missing, allocating_causes}
use Rattle.qcow2_alloc.specs.Causes.{Causes, FailsFor, bare_causes}
use Rattle.qcow2_alloc.specs.FillingBlocks.{FillsFrom}
use Rattle.qcow2_alloc.specs.Freeing.{HasUnpinnedRoom}
use Rattle.qcow2_alloc.specs.Going.{HadNoResourceError}
use Rattle.qcow2_alloc.specs.GrowingTables.{Leaks, NoPlaceToGrow, TableGrown, table_run}
use Rattle.qcow2_alloc.specs.GuestView.{Metadata, counted}
use Rattle.qcow2_alloc.specs.State.{AllocatorState, metadata, IsGuarded, WhereGuarded}

-- The last cluster of a run, or 2^64 - 1 if that is less.
abbrev pub last_number : (first n : ℕ) → ℕ
last_number first n = min (first + (n - 1)) (2 ^ 64 - 1)

-- The causes of a failure to prepare a run: it starts at cluster 0, which holds the header, or it ends too far away. The limit's number is
-- its last cluster.
abbrev pub fitting_causes : Fields → (n first : ℕ) → Causes
fitting_causes h n first = bare_causes (first ≡ 0) (λ number. (number ≡ last_number first n)
    × (IsAddressable h.cluster_bits (first + (n - 1)) → 2 ^ 20 ≤ (first + (n - 1)) / counters_of_block h))

-- A refcount table became longer, or it has the same length and fewer blocks are missing.
abbrev pub HasMore : TableValue → TableValue → Type 0
HasMore table table' = (length table.raw_entries < length table'.raw_entries)
    ⊎ ((length table'.raw_entries ≡ length table.raw_entries) × (missing table' < missing table))

-- If the table has entries for the missing blocks of a run, they were made. Otherwise the table has grown.
abbrev pub HasMade : (mark at first last : ℕ) → Metadata → Metadata → Type 0
HasMade mark at first last m m' =
    ((last < length m.table.raw_entries) × (length m'.table.raw_entries ≡ length m.table.raw_entries) × FillsFrom mark first (last + 1) m m')
    ⊎ ((length m.table.raw_entries ≤ last) × TableGrown mark at m m')

-- The cause of a limit: the first cluster that one of the blocks counts isn't addressable, or the table can't grow. `number` is what the
-- limit reports.
abbrev pub NoneCanBeMade : (mark at first last number : ℕ) → Metadata → Type 0
NoneCanBeMade mark at first last number m =
    (((i : ℕ) → first ≤ i → i ≤ last → IsAddressable m.header.fields.cluster_bits (i * counters_of_block m.header.fields)) → ⊥)
    ⊎ ((length m.table.raw_entries ≤ last) × NoPlaceToGrow m mark at number)

-- The image has the same header, refcount table and refcounts.
pub record CountsAsBefore (m m' : Metadata) : Type 0 where
  pub header : m'.header ≡ m.header
  pub table : m'.table ≡ m.table
  pub counts : (c : ℕ) → counted m' c ≡ counted m c

-- The refcount table has a block at each index from `first` to `last`, or has more than before. If it has no entry at `last`, it grows
-- until it holds the index `at`.
pub record ReadiesBlocks {S : Type 0} (state : S → StorageState) (at first last : ℕ) (s : AllocatorState S)
    (result : Result Provision Fault) (s' : AllocatorState S) : Type 0 where
  pub leaked : ℕ → ℕ
  pub leaks : Leaks (IsGuarded state s.image) (HasUnpinnedRoom s.table s.caches) result leaked
  pub step : Allocating state (HadNoResourceError result) leaked s.image s'.image
  pub mark : s'.mark ≡ s.mark
  pub idle : IfOk result (λ provision. provision ≡ Complete → (s'.table ≡ s.table) × (s'.caches ≡ s.caches) × (s'.file ≡ s.file))
  pub ready : IfOk result (λ provision. provision ≡ Complete
      → (i : ℕ) → first ≤ i → i ≤ last → block_offset (slice_index s'.table.raw_entries i) ≢ 0)
  pub further : IfOk result (λ provision. provision ≡ Extended → HasMore s.table s'.table)
  pub made : WhereGuarded state s.image (IfOk result (λ provision. provision ≡ Extended
      → HasMade s.mark at first last (metadata state s.image) (metadata state s'.image)))
  -- The table grows only if it has no entry at `last`.
  pub once : last < length s.table.raw_entries → (s'.pending ≡ s.pending) × (s'.file.header ≡ s.file.header)
      × (length s'.table.raw_entries ≡ length s.table.raw_entries)
  pub grew : length s.table.raw_entries ≤ last
      → OnOk result ((length s.table.raw_entries < length s'.table.raw_entries) × (s'.pending ≡ s.pending ++ table_run s.file.header.fields))
  pub unchanged_on_error : length s.table.raw_entries ≤ last → OnErr result (s'.pending ≡ s.pending)
  pub barred : length s.table.raw_entries ≤ last
      → WhereGuarded state s.image ((number : ℕ) → result ≡ Err (Limit number)
      → CountsAsBefore (metadata state s.image) (metadata state s'.image))
  pub cause : FailsFor (allocating_causes (IsGuarded state s.image) (HasUnpinnedRoom s.table s.caches)
      (λ number. WhereGuarded state s.image (NoneCanBeMade s.mark at first last number (metadata state s.image)))
      (state s.file.image).faults (state s'.file.image).faults) result
