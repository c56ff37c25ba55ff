-- The value of each guest byte in the image itself, by the file's metadata and by the cached metadata. `None`: the byte is read from the
-- backing file.
use Rattle.std.specs.Prelude.{ℕ, ◌+◌, ◌*◌, ◌/◌, ◌%◌, Option, Some, None}
use Rattle.imago_storage.specs.Disk.{Value, byte, barred, damaged_place}
use Rattle.qcow2_types.specs.Bytes.{Bytes}
use Rattle.qcow2_types.specs.Entries.{entry}
use Rattle.qcow2_types.specs.Header.{Fields, cluster_size}
use Rattle.qcow2_types.specs.Words.{Mapping, data_at, zeroes, packed, unmapped, damaged}
use Rattle.qcow2_alloc.specs.GuestView.{Metadata, in_memory}

-- the value at offset p by the mapping of its guest cluster, with the bytes of this file
abbrev pub own_value_by : Bytes → Fields → ℕ → Mapping → Option Value
own_value_by file h p (data_at cluster copied) = Some (byte (file (cluster * cluster_size h + p % cluster_size h)))
own_value_by file h p (zeroes cluster copied) = Some (byte 0)
own_value_by file h p (packed offset length) = Some barred
own_value_by file h p unmapped = None
own_value_by file h p damaged = Some damaged_place

-- the value at offset p by these entries
abbrev pub own_value : Bytes → Bytes → Fields → ℕ → Option Value
own_value raw_entries file h p = own_value_by file h p (entry raw_entries h (p / cluster_size h))

-- the value at each offset by the entries of the file
abbrev pub file_value : Metadata → ℕ → Option Value
file_value m = own_value m.file m.file m.header.fields

-- the value at each offset by the entries in memory
abbrev pub memory_value : Metadata → ℕ → Option Value
memory_value m = own_value (in_memory m) m.file m.header.fields
