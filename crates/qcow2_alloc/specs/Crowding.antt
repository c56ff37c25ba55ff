-- The free clusters that an allocation needs, and those that it takes. `mark` is the first-free hint, where searches for free clusters
-- start.
use Rattle.std.specs.Prelude.{◌≡◌, ℕ, ◌+◌, ◌*◌, ◌/◌, ◌^◌, ◌<◌, ◌≤◌, min}
use Rattle.qcow2_types.specs.Header.{Fields, cluster_size}
use Rattle.qcow2_types.specs.Words.{max_offset}
use Rattle.qcow2_types.specs.Counts.{counters_of_block}
use Rattle.qcow2_alloc.specs.GuestView.{Metadata, counted}

-- The number of clusters that a file can have: a refcount table has at most 2^20 entries, and clusters past the greatest offset aren't
-- addressable.
abbrev pub space : Fields → ℕ
space h = min (2 ^ 20 * counters_of_block h) (max_offset / cluster_size h + 1)

-- The number of consecutive free clusters that is enough to allocate n, with the blocks and the refcount table that may be made for them.
abbrev pub room_for : Fields → ℕ → ℕ
room_for h n = space h / 16 + 3 * n

-- There are enough consecutive free clusters, from the first-free hint on.
pub record IsRoomy (m : Metadata) (mark n : ℕ) : Type 0 where
  pub first : ℕ
  pub total : ℕ
  pub not_before_start : mark ≤ first
  pub below : first + total ≤ space m.header.fields
  pub free : (c : ℕ) → first ≤ c → c < first + total → counted m c ≡ 0
  pub enough : room_for m.header.fields n ≤ total

-- There aren't enough consecutive free clusters: an allocation may fail with `Limit`.
abbrev pub IsCrowded : Metadata → ℕ → ℕ → Type 0
IsCrowded m mark n = IsRoomy m mark n → ⊥

-- Newly allocated clusters leave no free cluster between the first-free hint and them.
abbrev pub IsGapless : ℕ → Metadata → Metadata → Type 0
IsGapless mark m m' = (c : ℕ) → counted m c ≡ 0 → 0 < counted m' c → (d : ℕ) → mark ≤ d → d < c → 0 < counted m' d

-- An allocation of n clusters takes little space. In a large enough free run it takes only clusters of the part that is enough. A single
-- cluster, with all that is made for it, leaves no gap.
pub record TakesLittle (mark n : ℕ) (m m' : Metadata) : Type 0 where
  pub early : (roomy : IsRoomy m mark n) → (c : ℕ) → roomy.first + room_for m.header.fields n ≤ c → c < roomy.first + roomy.total
      → counted m' c ≡ 0
  pub gapless : n ≤ 1 → IsGapless mark m m'
