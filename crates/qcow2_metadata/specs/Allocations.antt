-- The host clusters that an L2 entry references, and those that must be freed when the entry changes.
use Rattle.std.specs.Prelude.{◌≡◌, ⊤, ℕ, ◌+◌, ◌-◌, ◌*◌, ◌/◌, ◌^◌, Bool, false, not, ◌&&◌, ◌==◌, nat_le, nat_lt, if◌then◌else◌, Option, Some, None}
use Rattle.qcow2_types.specs.Words.{Mapping, data_at, zeroes, packed}
use Rattle.qcow2_types.specs.Header.{Fields}
use Rattle.qcow2_types.specs.References.{of_mapping, meets}
use Rattle.qcow2_types.specs.Pending.{FreeEntry}
use Rattle.qcow2_metadata.specs.Places.{IsAddressable}
use Rattle.qcow2_metadata.specs.Tables.{zero_raw_entry}

-- The first cluster of a range of bytes that isn't empty, and the number of its clusters.
abbrev pub clusters_of_range : ℕ → ℕ → ℕ → ℕ × ℕ
clusters_of_range cluster_bits offset length =
    (offset / 2 ^ cluster_bits, (offset + length - 1) / 2 ^ cluster_bits - offset / 2 ^ cluster_bits + 1)

-- The host clusters that a mapping references: its own, or those of its compressed bytes.
abbrev pub allocation_of : ℕ → Mapping → Option (ℕ × ℕ)
allocation_of cluster_bits (data_at cluster copied) = Some (cluster, 1)
allocation_of cluster_bits (zeroes (Some cluster) copied) = Some (cluster, 1)
allocation_of cluster_bits (packed offset length) = Some (clusters_of_range cluster_bits offset length)
allocation_of cluster_bits _ = None

-- These clusters, as an entry of the free list.
abbrev pub freed : Option (ℕ × ℕ) → Option FreeEntry
freed None = None
freed (Some clusters) = Some (record { first = clusters.0; count = clusters.1; metadata = false })

-- The allocation is exactly this cluster.
abbrev pub is_just : ℕ → Option (ℕ × ℕ) → Bool
is_just cluster (Some clusters) = (clusters.0 == cluster) && (clusters.1 == 1)
is_just cluster None = false

-- The clusters to free when `cluster` replaces an allocation: none if the allocation is exactly that cluster.
abbrev pub replaced : ℕ → Option (ℕ × ℕ) → Option (ℕ × ℕ)
replaced cluster allocation = if is_just cluster allocation then None else allocation

-- 1 if the clusters contain cluster c, otherwise 0.
abbrev pub holds : ℕ → Option FreeEntry → ℕ
holds c None = 0
holds c (Some entry) = if nat_le entry.first c && nat_lt c (entry.first + entry.count) then 1 else 0

-- The cluster that a zeroed guest cluster can keep, with its COPIED flag.
abbrev pub kept_for_zero : Mapping → Option (ℕ × Bool)
kept_for_zero (data_at cluster copied) = Some (cluster, copied)
kept_for_zero (zeroes (Some cluster) copied) = Some (cluster, copied)
kept_for_zero mapping = None

-- The kept cluster, if any, is addressable.
abbrev pub IsKeptAddressable : ℕ → Option (ℕ × Bool) → Type 0
IsKeptAddressable cluster_bits None = ⊤
IsKeptAddressable cluster_bits (Some kept) = IsAddressable cluster_bits kept.0

-- The raw entry of a zeroed guest cluster that keeps this cluster, if any.
abbrev pub zeroed_raw_entry : ℕ → Option (ℕ × Bool) → ℕ
zeroed_raw_entry cluster_bits None = 1
zeroed_raw_entry cluster_bits (Some kept) = zero_raw_entry (kept.0 * 2 ^ cluster_bits) kept.1

-- The clusters to free of an allocation: none if it is kept.
abbrev pub unkept : Bool → Option (ℕ × ℕ) → Option (ℕ × ℕ)
unkept is_kept allocation = if is_kept then None else allocation

-- The cluster that a zeroed guest cluster keeps, if it may keep one.
abbrev pub kept_where : Bool → Mapping → Option (ℕ × Bool)
kept_where keep mapping = if keep then kept_for_zero mapping else None

-- For each host cluster, the references by the new entry plus the frees are the references by the old entry plus
-- `named`. It holds in images with clusters of this size.
abbrev pub Conserves : ℕ → Mapping → Mapping → Option FreeEntry → (ℕ → ℕ) → Type 0
Conserves cluster_bits old new freed named = (h : Fields) → h.cluster_bits ≡ cluster_bits → (c : ℕ)
    → of_mapping h (meets h c) new + holds c freed ≡ of_mapping h (meets h c) old + named c

-- 1 for a cluster that is newly referenced, unless the old allocation was exactly that cluster; otherwise 0.
abbrev pub newly : ℕ → Option (ℕ × ℕ) → ℕ → ℕ
newly cluster allocation c = if (c == cluster) && not (is_just cluster allocation) then 1 else 0

-- The offset of a compressed cluster's data, and its length in bytes up to the end of the last sector.
abbrev pub packed_part : Mapping → Option (ℕ × ℕ)
packed_part (packed offset length) = Some (offset, length)
packed_part _ = None
