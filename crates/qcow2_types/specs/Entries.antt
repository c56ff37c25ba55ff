-- The mapping of a guest cluster (where its bytes are), by the L1 table and an L2 table.
use Rattle.std.specs.Prelude.{ℕ, ◌/◌, ◌%◌, Bool, not, ◌==◌, nat_lt, if◌then◌else◌, ◌^◌}
use Rattle.qcow2_types.specs.Bytes.{Bytes, raw_entry, all_below}
use Rattle.qcow2_types.specs.Words.{Mapping, damaged, unmapped, mapping_of, is_damaged, l1_entry_valid, table_offset}
use Rattle.qcow2_types.specs.Header.{Fields, entries_of_cluster, layout_of}

-- the offset of the L2 table that L1 entry i references; 0 if it references none, or if i is past the table's end
abbrev pub l2_table : Bytes → Fields → ℕ → ℕ
l2_table f h i = if nat_lt i h.l1_entries then table_offset (raw_entry f h.l1_offset i) else 0

-- the mapping of entry i of the L2 table at this offset
abbrev pub l2_mapping : Bytes → Fields → ℕ → ℕ → Mapping
l2_mapping f h table i = mapping_of (layout_of h) (raw_entry f table i)

-- Each L1 entry is valid. If one isn't, the whole table is damaged.
unfoldable pub l1_table_sound : Bytes → Fields → Bool
l1_table_sound f h = all_below h.l1_entries (λ i. l1_entry_valid h.cluster_bits (raw_entry f h.l1_offset i))

-- Each entry of the L2 table at this offset is valid. If one isn't, the whole table is damaged.
unfoldable pub l2_table_sound : Bytes → Fields → ℕ → Bool
l2_table_sound f h table = all_below (entries_of_cluster h) (λ i. not (is_damaged (l2_mapping f h table i)))

-- the mapping of entry i of the L2 table at this offset; damaged if any entry of the table is invalid
abbrev pub entry_of_table : Bytes → Fields → ℕ → ℕ → Mapping
entry_of_table f h table i = if l2_table_sound f h table then l2_mapping f h table i else damaged

-- like `entry_of_table`, but unmapped if the offset is 0
abbrev pub entry_through : Bytes → Fields → ℕ → ℕ → Mapping
entry_through f h table i = if table == 0 then unmapped else entry_of_table f h table i

-- the mapping of guest cluster g: entry g mod e of the L2 table that L1 entry g / e references, with e entries to a table
unfoldable pub entry : Bytes → Fields → ℕ → Mapping
entry f h g = let e = entries_of_cluster h in if l1_table_sound f h then entry_through f h (l2_table f h (g / e)) (g % e) else damaged

-- the number of entries of an L2 table: 8 bytes each, in one cluster of 2^cluster_bits bytes
abbrev pub l2_entries : ℕ → ℕ
l2_entries cluster_bits = 2 ^ cluster_bits / 8
