-- The clusters of a file that can hold tables and refcount blocks: their offsets fit an entry.
use Rattle.std.specs.Prelude.{ℕ, ◌*◌, ◌^◌, ◌≤◌, Option, Some, None}
use Rattle.qcow2_types.specs.Words.{max_offset}

-- The offset of the cluster fits an entry.
abbrev pub IsAddressable : ℕ → ℕ → Type 0
IsAddressable cluster_bits cluster = cluster * 2 ^ cluster_bits ≤ max_offset

-- There is a cluster, and it is addressable.
abbrev pub IsPlaced : ℕ → Option ℕ → Type 0
IsPlaced cluster_bits None = ⊥
IsPlaced cluster_bits (Some cluster) = IsAddressable cluster_bits cluster

-- The host offset of the cluster, or 0 without a cluster.
abbrev pub place_of : ℕ → Option ℕ → ℕ
place_of cluster_bits None = 0
place_of cluster_bits (Some cluster) = cluster * 2 ^ cluster_bits
