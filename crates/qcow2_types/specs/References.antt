-- The number of references to each host cluster. It is a sum over the host ranges that an image references, where a weight gives each range
-- a number.
use Rattle.std.specs.Prelude.{ℕ, ◌+◌, ◌*◌, true, ◌&&◌, ◌==◌, nat_lt, if◌then◌else◌, Some, None}
use Rattle.qcow2_types.specs.Bytes.{Bytes, sum_below}
use Rattle.qcow2_types.specs.Words.{Mapping, data_at, zeroes, packed, unmapped, damaged}
use Rattle.qcow2_types.specs.Header.{Fields, cluster_size, entries_of_cluster, refcount_table_entries}
use Rattle.qcow2_types.specs.Entries.{l2_table, l2_mapping}
use Rattle.qcow2_types.specs.Counts.{block_at}

-- a weight of a range of a file, which is given by its first offset and its length
abbrev pub Weight : Type 0
Weight = ℕ → ℕ → ℕ

-- the weight of the cluster at this offset; 0 if the offset is 0
abbrev pub of_cluster : Fields → Weight → ℕ → ℕ
of_cluster h weight offset = if offset == 0 then 0 else weight offset (cluster_size h)

-- The sum of weights over the structure: the first cluster, the L1 table, the refcount table, each block and each L2 table.
unfoldable pub structure : Bytes → Fields → Weight → ℕ
structure f h weight =
    weight 0 (cluster_size h)
    + weight h.l1_offset (h.l1_entries * 8)
    + weight h.refcount_table_offset (h.refcount_table_clusters * cluster_size h)
    + sum_below (refcount_table_entries h) (λ i. of_cluster h weight (block_at f h i))
    + sum_below h.l1_entries (λ i. of_cluster h weight (l2_table f h i))

-- the sum over the mappings of the L2 table at this offset
unfoldable pub of_table : Bytes → Fields → (Mapping → ℕ) → ℕ → ℕ
of_table f h of table = sum_below (entries_of_cluster h) (λ i. of (l2_mapping f h table i))

-- like `of_table`, but 0 if the offset is 0
abbrev pub of_table_or_none : Bytes → Fields → (Mapping → ℕ) → ℕ → ℕ
of_table_or_none f h of table = if table == 0 then 0 else of_table f h of table

-- The sum over the mappings of all L2 tables.
unfoldable pub contents : Bytes → Fields → (Mapping → ℕ) → ℕ
contents f h of = sum_below h.l1_entries (λ i. of_table_or_none f h of (l2_table f h i))

-- the weight of the host range that a mapping references, if any
abbrev pub of_mapping : Fields → Weight → Mapping → ℕ
of_mapping h weight (data_at cluster copied) = weight (cluster * cluster_size h) (cluster_size h)
of_mapping h weight (zeroes (Some cluster) copied) = weight (cluster * cluster_size h) (cluster_size h)
of_mapping h weight (zeroes None copied) = 0
of_mapping h weight (packed offset length) = weight offset length
of_mapping h weight unmapped = 0
of_mapping h weight damaged = 0

-- the weight of the host range that a mapping references with the COPIED flag, if any
abbrev pub of_copied : Fields → Weight → Mapping → ℕ
of_copied h weight (data_at cluster true) = weight (cluster * cluster_size h) (cluster_size h)
of_copied h weight (zeroes (Some cluster) true) = weight (cluster * cluster_size h) (cluster_size h)
of_copied h weight _ = 0

-- 1 if the range has a byte in cluster c, otherwise 0
abbrev pub meets : Fields → ℕ → Weight
meets h c first length = if nat_lt 0 length && nat_lt first ((c + 1) * cluster_size h) && nat_lt (c * cluster_size h)
    (first + length) then 1 else 0

-- the references to cluster c: the number of ranges that the image references and that have a byte in c
unfoldable pub refs : Bytes → Fields → ℕ → ℕ
refs f h c = structure f h (meets h c) + contents f h (of_mapping h (meets h c))
