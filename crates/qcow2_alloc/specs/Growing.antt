-- The free area for a grown refcount table: a free run for the blocks that are missing for the area itself, and then for the table. `k` is
-- the number of refcounts of a block.
use Rattle.std.specs.Prelude.{◌≡◌, ◌⊎◌, max, length, ◌+◌, ◌*◌, ◌/◌, ◌<◌, ◌≤◌, ◌==◌, ◌&&◌, ℕ, Bool, nat_le, nat_lt, Result, IfOk, slice_index}
use Rattle.imago_storage.specs.State.{StorageState}
use Rattle.imago_storage.specs.declared.fault.Fault.{Fault}
use Rattle.qcow2_types.specs.Words.{block_offset}
use Rattle.qcow2_types.specs.Counts.{counters_of_block}
use Rattle.qcow2_metadata.specs.Tables.{TableValue}
use Rattle.qcow2_alloc.specs.declared.allocation.searching.Run.{Run}
use Rattle.qcow2_alloc.specs.Caches.{CachedFile}
use Rattle.qcow2_alloc.specs.MakingRoom.{rank}
use Rattle.qcow2_alloc.specs.SearchingClusters.{Looked, IsSafeWith, counts_in}

-- Block i is missing for a run of n clusters: it would have the refcount of one of them, and the table doesn't reference it.
abbrev pub lacks : TableValue → ℕ → ℕ → ℕ → ℕ → Bool
lacks table k first n i = (block_offset (slice_index table.raw_entries i) == 0) && (nat_le (first / k) i && nat_lt (i * k) (first + n))

-- The number of blocks that are missing for a run.
abbrev pub lacking : TableValue → ℕ → ℕ → ℕ → ℕ
lacking table k first n = rank (lacks table k first n) (first + n)

-- A free run of `total` clusters is long enough for the blocks that are missing for it and n more clusters.
pub record IsFreeArea (table : TableValue) (k : ℕ) (counts : ℕ → ℕ) (n first total : ℕ) : Type 0 where
  pub enough : total ≡ n + lacking table k first total
  pub free : (c : ℕ) → first ≤ c → c < first + total → counts c ≡ 0

-- The first free area from `from` on, and the shortest one that starts there.
pub record IsFirstFreeArea (table : TableValue) (k : ℕ) (counts : ℕ → ℕ) (from n first total : ℕ) : Type 0 where
  pub not_before_start : from ≤ first
  pub room : IsFreeArea table k counts n first total
  pub least : (z t : ℕ) → from ≤ z → z < first → IsFreeArea table k counts n z t → ⊥
  pub short : (t : ℕ) → IsFreeArea table k counts n first t → total ≤ t

-- The state of a search for a free area: none starts before the run, the run is free, and an area that starts with it is at least as long.
pub record IsFreeAreaSoFar (table : TableValue) (k : ℕ) (counts : ℕ → ℕ) (from n : ℕ) (run : Run) : Type 0 where
  pub not_before_start : from ≤ run.first
  pub free : (c : ℕ) → run.first ≤ c → c < run.first + run.len → counts c ≡ 0
  pub least : (z t : ℕ) → from ≤ z → z < run.first → IsFreeArea table k counts n z t → ⊥
  pub short : (t : ℕ) → IsFreeArea table k counts n run.first t → run.len ≤ t

-- The length of a free area that starts with a run.
abbrev pub needed_for : TableValue → ℕ → ℕ → Run → ℕ
needed_for table k n run = n + lacking table k run.first run.len

module _ {S : Type 0} (state : S → StorageState) where
  -- One step of the search: the run gets the length that it needs, if that is free. Otherwise the search continues after its first cluster.
  pub record GrowsFreeArea (table : TableValue) (n : ℕ) (was : Run) (old : CachedFile S) (result : Result Run Fault)
      (new : CachedFile S) : Type 0 where
    pub looked : Looked state table old result new
    pub further : IfOk result (λ now.
        ((now.first ≡ was.first) × (now.len ≡ needed_for table (counters_of_block old.file.header.fields) n was))
        ⊎ ((was.first < now.first) × (was.first < length table.raw_entries * counters_of_block old.file.header.fields) × (now.len ≡ n)))
    pub start_bounded : IfOk result (λ now. now.first ≤ max (was.first + 1) (length table.raw_entries * counters_of_block old.file.header.fields))
    pub so_far : IsSafeWith state table old.caches old.file → IfOk result (λ now. (from : ℕ)
        → IsFreeAreaSoFar table (counters_of_block old.file.header.fields) (counts_in state old.caches old.file) from n was
        → IsFreeAreaSoFar table (counters_of_block old.file.header.fields) (counts_in state old.caches old.file) from n now)

  -- A search for the first free area.
  pub record LooksForFreeArea (table : TableValue) (from n : ℕ) (old : CachedFile S) (result : Result Run Fault)
      (new : CachedFile S) : Type 0 where
    pub looked : Looked state table old result new
    pub found : IsSafeWith state table old.caches old.file → IfOk result (λ room. IsFirstFreeArea table
        (counters_of_block old.file.header.fields) (counts_in state old.caches old.file) from n room.first room.len)
