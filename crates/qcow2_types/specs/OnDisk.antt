-- The bytes of the two header parts of fixed size: big-endian numbers, in the order of the fields.
use Rattle.std.specs.Prelude.{◌≡◌, ℕ, ◌+◌, ◌<◌, List, ◌++◌, length, slice_index}
use Rattle.std.specs.Int.{w32, w64, to_be_bytes}
use Rattle.qcow2_types.specs.Bytes.{Bytes}
use Rattle.qcow2_types.specs.declared.on_disk.V2Header.{V2Header}
use Rattle.qcow2_types.specs.declared.on_disk.V3HeaderBase.{V3HeaderBase}

-- bytes 0 to 71 of an image, which both versions have
unfoldable pub v2_bytes : V2Header → List ℕ
v2_bytes h =
    to_be_bytes w32 h.magic
    ++ to_be_bytes w32 h.version
    ++ to_be_bytes w64 h.backing_filename_offset
    ++ to_be_bytes w32 h.backing_filename_size
    ++ to_be_bytes w32 h.cluster_bits
    ++ to_be_bytes w64 h.size
    ++ to_be_bytes w32 h.crypt_method
    ++ to_be_bytes w32 h.l1_size
    ++ to_be_bytes w64 h.l1_table_offset
    ++ to_be_bytes w64 h.refcount_table_offset
    ++ to_be_bytes w32 h.refcount_table_clusters
    ++ to_be_bytes w32 h.nb_snapshots
    ++ to_be_bytes w64 h.snapshots_offset

-- bytes 72 to 103, which only version 3 has
unfoldable pub v3_bytes : V3HeaderBase → List ℕ
v3_bytes h =
    to_be_bytes w64 h.incompatible_features
    ++ to_be_bytes w64 h.compatible_features
    ++ to_be_bytes w64 h.autoclear_features
    ++ to_be_bytes w32 h.refcount_order
    ++ to_be_bytes w32 h.header_length

-- The file has these bytes at this offset.
abbrev pub Holds : Bytes → ℕ → List ℕ → Type 0
Holds f at bytes = (k : ℕ) → k < length bytes → f (at + k) ≡ slice_index bytes k
