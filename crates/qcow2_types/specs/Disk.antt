-- The bytes that a guest reads from an image and its backing files, of the formats raw, qcow2 and VMDK.
use Rattle.std.specs.Prelude.{ℕ, ◌+◌, ◌-◌, ◌*◌, ◌/◌, ◌%◌, false, nat_lt, if◌then◌else◌, List, [], ◌∷◌, length, slice_index, Result, Ok, Err}
use Rattle.imago_storage.specs.Disk.{Value, byte, barred, damaged_place, Disk, free}
use Rattle.qcow2_types.specs.Bytes.{Bytes}
use Rattle.qcow2_types.specs.Words.{Mapping, data_at, zeroes, packed, unmapped, damaged}
use Rattle.qcow2_types.specs.Header.{Fields, Header, header_of, cluster_size, has_external_data}
use Rattle.qcow2_types.specs.Entries.{entry}
use Rattle.imago_storage.specs.declared.fault.Fault.{Fault}

-- an extent of a VMDK disk
pub data Extent : Type 0 where
  flat : (file : List ℕ) (offset size : ℕ) → Extent
  blank : (size : ℕ) → Extent
  closed : (size : ℕ) → Extent

-- an image of a chain of backing files, by its format; a qcow2 layer also has the bytes of its external data file
pub data Layer : Type 0 where
  raw : (file : List ℕ) → Layer
  qcow2 : (file external : Bytes) → Layer
  vmdk : (extents : List Extent) → Layer

-- the size of an extent, in bytes
abbrev pub extent_size : Extent → ℕ
extent_size (flat file offset size) = size
extent_size (blank size) = size
extent_size (closed size) = size

-- the size of all extents, in bytes
abbrev pub extents_size : List Extent → ℕ
extents_size [] = 0
extents_size (x ∷ xs) = extent_size x + extents_size xs

-- the value at offset p of an extent
abbrev pub in_extent : Extent → ℕ → Value
in_extent (flat file offset size) p = byte (slice_index file (offset + p))
in_extent (blank size) p = byte 0
in_extent (closed size) p = barred

-- the value at offset p of extents that follow one another
abbrev pub in_extents : List Extent → ℕ → Value
in_extents [] p = byte 0
in_extents (x ∷ xs) p = let later = in_extents xs (p - extent_size x) in if nat_lt p (extent_size x) then in_extent x p else later

-- the disk size in a header
abbrev pub size_in_header : Result Header Fault → ℕ
size_in_header (Ok h) = h.fields.size
size_in_header (Err e) = 0

-- the disk size of a layer
abbrev pub size_of : Layer → ℕ
size_of (raw file) = length file
size_of (qcow2 file external) = size_in_header (header_of false file)
size_of (vmdk extents) = extents_size extents

-- The disk size of a chain is that of its top layer.
abbrev pub chain_size : List Layer → ℕ
chain_size [] = 0
chain_size (layer ∷ rest) = size_of layer

-- Data is the cluster's byte, zeroes are 0, and compressed bytes can't be read. Unmapped bytes are those of the layers below (the backing
-- files).
abbrev pub shown_by : Mapping → (ℕ → Value) → Value → Value
shown_by (data_at cluster copied) host below = host cluster
shown_by (zeroes cluster copied) host below = byte 0
shown_by (packed offset size) host below = barred
shown_by unmapped host below = below
shown_by damaged host below = damaged_place

-- the byte of a host cluster at guest offset p, in the image or in the external data file
abbrev pub host_byte : Bytes → Bytes → Fields → ℕ → ℕ → Value
host_byte file external h p cluster = byte ((if has_external_data h then external else file)
    (cluster * cluster_size h + p % cluster_size h))

-- the value at offset p of a qcow2 image, where `below` is the value of the layers below
abbrev pub in_qcow2 : Bytes → Bytes → Result Header Fault → ℕ → Value → Value
in_qcow2 file external (Ok h) p below = shown_by (entry file h.fields (p / cluster_size h.fields))
    (host_byte file external h.fields p) below
in_qcow2 file external (Err e) p below = damaged_place

-- the value at offset p of a layer, where `below` is the value of the layers below
abbrev pub in_layer : Layer → ℕ → Value → Value
in_layer (raw file) p below = byte (slice_index file p)
in_layer (qcow2 file external) p below = in_qcow2 file external (header_of false file) p below
in_layer (vmdk extents) p below = in_extents extents p

-- The value at offset p of a chain, the top layer first. Past the size of the layers below, and without any, their value is 0.
abbrev pub at : List Layer → ℕ → Value
at [] p = byte 0
at (layer ∷ rest) p = let below = at rest p in let shown = if nat_lt p (chain_size rest) then below else byte 0 in in_layer layer p shown

-- the guest's disk: its size and the value at each offset; no byte is held (in a mapping that is written and not yet committed)
abbrev pub disk_of : List Layer → Disk
disk_of chain = record { size = chain_size chain; value = at chain; hold = λ _. free }

-- the value at offset p of an image whose header has fields h, where `below` is the value of the layers below
abbrev pub shown : Bytes → Bytes → Fields → ℕ → Value → Value
shown file external h p below = shown_by (entry file h (p / cluster_size h)) (host_byte file external h p) below
