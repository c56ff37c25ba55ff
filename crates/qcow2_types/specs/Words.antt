-- The meaning of the 64-bit entries of tables. Bit 0 is the lowest; bits i up to j are `w / 2 ^ i % 2 ^ (j - i)`.
use Rattle.std.specs.Prelude.{ℕ, ◌+◌, ◌-◌, ◌*◌, ◌/◌, ◌%◌, ◌^◌, Bool, true, false, ◌&&◌, ◌||◌, not, ◌==◌, nat_le, if◌then◌else◌, Option, Some, None}

-- n bits of a number, from bit i on
abbrev pub bits_at : ℕ → ℕ → ℕ → ℕ
bits_at w i n = w / 2 ^ i % 2 ^ n

-- Bit i is set.
abbrev pub has_bit : ℕ → ℕ → Bool
has_bit w i = w / 2 ^ i % 2 == 1

-- the largest valid offset of a table or a data cluster, in bytes
abbrev pub max_offset : ℕ
max_offset = 0x00ff_ffff_ffff_fe00

-- The offset is one of a cluster: a multiple of the cluster size, and at most the largest valid offset.
abbrev pub is_cluster_offset : ℕ → ℕ → Bool
is_cluster_offset cluster_bits offset = (offset % 2 ^ cluster_bits == 0) && nat_le offset max_offset

-- the offset in bits 9 to 55 of an L1 entry or a standard L2 entry; 0 is none
abbrev pub table_offset : ℕ → ℕ
table_offset w = bits_at w 9 47 * 2 ^ 9

-- the offset in bits 9 to 63 of a refcount table entry; 0 is none
abbrev pub block_offset : ℕ → ℕ
block_offset w = bits_at w 9 55 * 2 ^ 9

-- Bit 63, the COPIED flag: the refcount of the cluster is exactly 1.
abbrev pub is_copied : ℕ → Bool
is_copied w = has_bit w 63

-- An L1 entry is valid: bits 0 to 8 and 56 to 62 are clear, and its offset is one of a cluster.
abbrev pub l1_entry_valid : ℕ → ℕ → Bool
l1_entry_valid cluster_bits w = (bits_at w 0 9 == 0) && (bits_at w 56 7 == 0) && is_cluster_offset cluster_bits (table_offset w)

-- A refcount table entry is valid: bits 0 to 8 are clear, and its offset is one of a cluster.
abbrev pub reftable_entry_valid : ℕ → ℕ → Bool
reftable_entry_valid cluster_bits w = (bits_at w 0 9 == 0) && is_cluster_offset cluster_bits (block_offset w)

-- the mapping of a guest cluster by its L2 entry
pub data Mapping : Type 0 where
  -- no data: read from the backing file, at the same guest offset
  unmapped : Mapping
  -- data in this host cluster
  data_at : (cluster : ℕ) (copied : Bool) → Mapping
  -- zeroes, with a preallocated zero cluster or none
  zeroes : (cluster : Option ℕ) (copied : Bool) → Mapping
  -- a compressed cluster, in these bytes of the file
  packed : (offset length : ℕ) → Mapping
  -- an invalid entry
  damaged : Mapping

-- the fields that the meaning of L2 entries depends on
pub record Layout : Type 0 where
  pub cluster_bits : ℕ
  pub version : ℕ
  pub external_data : Bool

-- the offset of the first byte of a compressed range: the low 70 - cluster_bits bits of the entry
abbrev pub compressed_offset : ℕ → ℕ → ℕ
compressed_offset cluster_bits w = w % 2 ^ (70 - cluster_bits)

-- the number of sectors of 512 bytes after the one that has this offset: the bits above, up to bit 61
abbrev pub compressed_sectors : ℕ → ℕ → ℕ
compressed_sectors cluster_bits w = bits_at w (70 - cluster_bits) (cluster_bits - 8)

-- the end of the last sector, in bytes
abbrev pub compressed_end : ℕ → ℕ → ℕ
compressed_end cluster_bits w = (compressed_offset cluster_bits w / 512 + compressed_sectors cluster_bits w + 1) * 512

-- A compressed entry (bit 62) references the bytes from its offset to the end of its last sector.
abbrev pub compressed_mapping : ℕ → ℕ → Mapping
compressed_mapping cluster_bits w =
    if has_bit w 63 || nat_le (2 ^ 56) (compressed_offset cluster_bits w) then damaged
    else packed (compressed_offset cluster_bits w) (compressed_end cluster_bits w - compressed_offset cluster_bits w)

-- A standard entry is valid: bits 1 to 8 and 56 to 61 are clear, in version 2 also bit 0, and its offset is one of a cluster.
abbrev pub standard_entry_valid : Layout → ℕ → Bool
standard_entry_valid layout w = (bits_at w 1 8 == 0) && (bits_at w 56 6 == 0) &&
    (not (has_bit w 0) || (layout.version == 3)) && is_cluster_offset layout.cluster_bits (table_offset w)

-- A standard entry references a host cluster: its offset isn't 0. In an external data file, offset 0 with the COPIED flag is cluster 0.
abbrev pub names_cluster : Layout → ℕ → Bool
names_cluster layout w = not (table_offset w == 0) || (layout.external_data && is_copied w)

-- the mapping of an entry without bit 62
abbrev pub standard_mapping : Layout → ℕ → Mapping
standard_mapping layout w =
    if not (standard_entry_valid layout w) then damaged
    else if has_bit w 0 then zeroes (if names_cluster layout w then Some (table_offset w / 2 ^ layout.cluster_bits) else None) (is_copied w)
    else if names_cluster layout w then data_at (table_offset w / 2 ^ layout.cluster_bits) (is_copied w)
    else unmapped

-- the mapping of an L2 entry
unfoldable pub mapping_of : Layout → ℕ → Mapping
mapping_of layout w = if has_bit w 62 then compressed_mapping layout.cluster_bits w else standard_mapping layout w

-- The mapping is that of an invalid entry.
abbrev pub is_damaged : Mapping → Bool
is_damaged damaged = true
is_damaged _ = false

-- the mapping without the COPIED flag, which doesn't affect what the guest reads
abbrev pub mapping_without_copied : Mapping → Mapping
mapping_without_copied (data_at cluster copied) = data_at cluster false
mapping_without_copied (zeroes cluster copied) = zeroes cluster false
mapping_without_copied mapping = mapping
