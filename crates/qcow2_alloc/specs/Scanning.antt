-- Specifies the search for free clusters within one refcount block.
use Rattle.std.specs.Prelude.{◌≡◌, ◌≢◌, ℕ, ◌+◌, ◌*◌, ◌/◌, ◌<◌, ◌≤◌, Result, Err, IfOk, MatchResult, Option, MatchOption, List, length, slice_index}
use Rattle.imago_storage.specs.State.{StorageState}
use Rattle.imago_storage.specs.declared.fault.Fault.{Fault}
use Rattle.imago_storage.specs.declared.fault.Fault.TheVariants.{DamagedTable}
use Rattle.qcow2_types.specs.Counts.{counters_of_block}
use Rattle.qcow2_metadata.specs.Tables.{TableValue}
use Rattle.qcow2_metadata.specs.Blocks.{Block}
use Rattle.qcow2_alloc.specs.declared.allocation.searching.Run.{Run}
use Rattle.qcow2_alloc.specs.Caches.{CachedFile}
use Rattle.qcow2_alloc.specs.SearchingClusters.{counts_in, IsSafeWith, Looked}

-- The cluster after a run.
abbrev pub next_of : Run → ℕ
next_of run = run.first + run.len

-- The state of a search for n free clusters from `from` on: the run is free, and no free run of n clusters starts before it.
pub record IsRunSoFar (counts : ℕ → ℕ) (from n : ℕ) (run : Run) : Type 0 where
  pub not_before_start : from ≤ run.first
  pub free : (c : ℕ) → run.first ≤ c → c < next_of run → counts c ≡ 0
  pub least : (z : ℕ) → from ≤ z → z < run.first → (c : ℕ) × (z ≤ c) × (c < z + n) × (0 < counts c)

-- The refcounts of a block, which start with that of cluster `base`, are those of the clusters.
abbrev pub AreCounted : (ℕ → ℕ) → ℕ → List ℕ → Type 0
AreCounted counts base counters = (j : ℕ) → j < length counters → counts (base + j) ≡ slice_index counters j

-- The refcounts of a block from index to `scan_end` were scanned, starting with the cluster after a run.
pub record Scans (counters : List ℕ) (n index scan_end : ℕ) (was now : Run) : Type 0 where
  pub moved : next_of now + index ≡ next_of was + scan_end
  pub rising : was.first ≤ now.first
  pub so_far : (counts : ℕ → ℕ) (from base : ℕ) → next_of was ≡ base + index → AreCounted counts base counters
      → IsRunSoFar counts from n was → IsRunSoFar counts from n now

-- Like `Scans`, and at least one refcount was scanned.
pub record ScansSome (counters : List ℕ) (n index : ℕ) (was now : Run) : Type 0 where
  pub scan_end : ℕ
  pub more : index < scan_end
  pub inside : scan_end ≤ length counters
  pub scans : Scans counters n index scan_end was now

-- The first refcount from an index on that is 0, if any.
abbrev pub FindsZero : ℕ → List ℕ → Option ℕ → Type 0
FindsZero index counters found = MatchOption found ((j : ℕ) → index ≤ j → j < length counters → 0 < slice_index counters j)
    (λ i. (index ≤ i) × (i < length counters) × (slice_index counters i ≡ 0) × ((j : ℕ) → index ≤ j → j < i → 0 < slice_index counters j))

-- A block of k refcounts is read and unchanged. For a block of another length the call fails with `DamagedTable`.
pub record Reads {T : Type 0} (k : ℕ) (P : List ℕ → T → Type 0) (block : Block) (result : Result T Fault) (block' : Block) : Type 0 where
  pub same : block' ≡ block
  pub odd : length block.counters ≢ k → result ≡ Err DamagedTable
  pub even : length block.counters ≡ k → MatchResult result (P block.counters) (λ fault. ⊥)

-- A run is extended, from the cluster after it on, by clusters of one block.
pub record ExtendsRun {S : Type 0} (state : S → StorageState) (table : TableValue) (n : ℕ) (was : Run) (old : CachedFile S)
    (result : Result Run Fault) (new : CachedFile S) : Type 0 where
  pub looked : Looked state table old result new
  pub more : IfOk result (λ now. next_of was < next_of now)
  pub rising : IfOk result (λ now. was.first ≤ now.first)
  pub end_in_block : IfOk result (λ now. next_of now ≤ (next_of was / counters_of_block old.file.header.fields + 1) * counters_of_block
      old.file.header.fields)
  pub so_far : IsSafeWith state table old.caches old.file
      → IfOk result (λ now. (from : ℕ) → IsRunSoFar (counts_in state old.caches old.file) from n was
      → IsRunSoFar (counts_in state old.caches old.file) from n now)
