-- The clusters in which missing refcount blocks are made. `mark` is the first-free hint, where searches for free clusters start.
use Rattle.std.specs.Prelude.{◌≡◌, ◌≢◌, ℕ, ◌+◌, ◌-◌, ◌*◌, ◌/◌, ◌<◌, ◌≤◌, slice_index}
use Rattle.qcow2_types.specs.Counts.{counters_of_block}
use Rattle.qcow2_types.specs.Words.{block_offset}
use Rattle.qcow2_alloc.specs.Growing.{lacking}
use Rattle.qcow2_alloc.specs.GuestView.{Metadata, counted, one_at}

-- A block is made for an entry of the refcount table: the refcount of one more cluster is above 0. That cluster is at most the first one
-- that the block counts itself, and at most any free one from the hint on that an earlier block counts.
pub record IsBlockPlaced (mark index : ℕ) (m m' : Metadata) : Type 0 where
  pub place : ℕ
  pub raised : (c : ℕ) → counted m' c ≡ counted m c + one_at place c
  pub first : (c : ℕ) → mark ≤ c → c < index * counters_of_block m.header.fields
      → block_offset (slice_index m.table.raw_entries (c / counters_of_block m.header.fields)) ≢ 0 → counted m c ≡ 0 → place ≤ c
  pub own : place ≤ index * counters_of_block m.header.fields

-- The number of blocks that were missing for a run and aren't any more.
abbrev pub made_for : Metadata → Metadata → ℕ → ℕ → ℕ
made_for m m' first n = lacking m.table (counters_of_block m.header.fields) first n - lacking m'.table
    (counters_of_block m.header.fields) first n

-- Blocks are made for a run, at most one for each index of a range. If enough consecutive clusters are free from a cluster z of the range's
-- first block on, the new blocks take no cluster past these. No new block is after the first cluster that it counts.
pub record FillsFrom (mark index end : ℕ) (m m' : Metadata) : Type 0 where
  pub fewer : (first n : ℕ) → lacking m'.table (counters_of_block m.header.fields) first n
      ≤ lacking m.table (counters_of_block m.header.fields) first n
  pub fewer_by_range : (first n : ℕ) → lacking m.table (counters_of_block m.header.fields) first n
      ≤ lacking m'.table (counters_of_block m.header.fields) first n + (end - index)
  pub taken_before_end : (first n z : ℕ) → first / counters_of_block m.header.fields ≤ index
      → ((i : ℕ) → i < end → i * counters_of_block m.header.fields < first + n) → mark ≤ z → z / counters_of_block m.header.fields ≡ index
      → ((c : ℕ) → z ≤ c → c < z + made_for m m' first n → counted m c ≡ 0) → (c : ℕ) → counted m' c ≢ counted m c
      → c < z + made_for m m' first n
  pub own : (c : ℕ) → counted m' c ≢ counted m c → (i : ℕ) × (index ≤ i) × (i < end) × (c ≤ i * counters_of_block m.header.fields)
