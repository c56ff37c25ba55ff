-- The meaning of an `L2Mapping` by the format, and when one mapping continues that of the guest cluster before.
use Rattle.std.specs.Prelude.{◌≡◌, Bool, true, false, not, ◌&&◌, ◌==◌, if◌then◌else◌, ◌≤◌, ◌<◌, ◌+◌, ◌*◌, ◌^◌, ⊤, ℕ, Some, None, Result, Ok, Err}
use Rattle.qcow2_types.specs.Words.{max_offset, Mapping, unmapped, data_at, zeroes, packed, damaged}
use Rattle.imago_storage.specs.declared.fault.Fault.{Fault}
use Rattle.qcow2_metadata.specs.declared.mapping.L2Mapping.{L2Mapping}
use Rattle.qcow2_metadata.specs.declared.mapping.L2Mapping.TheVariants.{DataFile, Backing, Zero, Compressed}

-- The meaning of the program's mapping.
abbrev pub mapping_seen : L2Mapping → Mapping
mapping_seen (DataFile cluster copied) = data_at cluster copied
mapping_seen (Backing offset) = unmapped
mapping_seen (Zero cluster copied) = zeroes cluster copied
mapping_seen (Compressed offset length) = packed offset length

-- The meaning of a decoder's result, where an error is a damaged entry.
abbrev pub seen : Result L2Mapping Fault → Mapping
seen (Ok mapping) = mapping_seen mapping
seen (Err fault) = damaged

-- A mapping to the backing file has this offset there.
abbrev pub BacksAt : ℕ → L2Mapping → Type 0
BacksAt place (Backing offset) = offset ≡ place
BacksAt place mapping = ⊤

-- The host range of a mapping, if any, is addressable.
abbrev pub IsHostAddressable : ℕ → L2Mapping → Type 0
IsHostAddressable cluster_bits (DataFile cluster copied) = cluster * 2 ^ cluster_bits ≤ max_offset
IsHostAddressable cluster_bits (Backing offset) = ⊤
IsHostAddressable cluster_bits (Zero None copied) = ⊤
IsHostAddressable cluster_bits (Zero (Some cluster) copied) = cluster * 2 ^ cluster_bits ≤ max_offset
IsHostAddressable cluster_bits (Compressed offset length) = (0 < length) × (offset + length < 2 ^ 57)

-- Both flags are equal.
abbrev pub same_copied : Bool → Bool → Bool
same_copied a b = if a then b else not b

-- The second mapping continues the first. Both are of one kind, at the next host cluster or the next offset of the backing file. The COPIED
-- flags of their clusters are equal. Compressed mappings never continue.
abbrev pub follows : ℕ → L2Mapping → L2Mapping → Bool
follows cluster_bits (DataFile a x) (DataFile b y) = (b == a + 1) && same_copied x y
follows cluster_bits (Backing a) (Backing b) = b == a + 2 ^ cluster_bits
follows cluster_bits (Zero None x) (Zero None y) = true
follows cluster_bits (Zero (Some a) x) (Zero (Some b) y) = (b == a + 1) && same_copied x y
follows cluster_bits _ _ = false
