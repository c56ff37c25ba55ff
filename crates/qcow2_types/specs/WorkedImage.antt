-- The worked image, an example for laws, by its nonzero bytes. Its disk has 65,536 bytes, in clusters of 512, and 01 02 03 was written at
-- offset 510.
use Rattle.std.specs.Prelude.{ℕ, ◌+◌, ◌-◌, List, [], ◌∷◌, length, nat_lt, nat_le, slice_index, if◌then◌else◌, ◌&&◌, None, codes}
use Rattle.imago_storage.specs.Disk.{Value, byte}
use Rattle.qcow2_types.specs.Bytes.{Bytes, splice}
use Rattle.qcow2_types.specs.Header.{Fields, Header}

-- a file given by pieces of bytes at offsets: the first piece that covers an offset counts, and other bytes are 0
abbrev pub Pieces : Type 0
Pieces = List (ℕ × List ℕ)

-- the bytes of the file that these pieces make
unfoldable pub of_pieces : Pieces → Bytes
of_pieces [] i = 0
of_pieces (piece ∷ rest) i = let later = of_pieces rest i in let here = slice_index piece.1 (i - piece.0) in if nat_le piece.0 i && nat_lt i
    (piece.0 + length piece.1) then here else later

-- the worked image
unfoldable pub image : Pieces
image =
    (0, 81 ∷ 70 ∷ 73 ∷ 251 ∷ 0 ∷ 0 ∷ 0 ∷ 3 ∷ [])
    ∷ (
      16,
      0 ∷ 0 ∷ 0 ∷ 0 ∷ 0 ∷ 0 ∷ 0 ∷ 9 ∷ 0 ∷ 0 ∷ 0 ∷ 0 ∷ 0 ∷ 1 ∷ 0 ∷ 0 ∷ 0 ∷ 0 ∷ 0 ∷ 0 ∷ 0 ∷ 0 ∷ 0 ∷ 2 ∷ 0 ∷ 0 ∷ 0 ∷ 0 ∷ 0 ∷ 0 ∷ 6 ∷ 0 ∷ 0
          ∷ 0 ∷ 0 ∷ 0 ∷ 0 ∷ 0 ∷ 2 ∷ 0 ∷ 0 ∷ 0 ∷ 0 ∷ 1 ∷ 0 ∷ 0 ∷ 0 ∷ 0 ∷ [],
    )
    ∷ (
      96,
      0 ∷ 0 ∷ 0 ∷ 4 ∷ 0 ∷ 0 ∷ 0 ∷ 104 ∷ 104 ∷ 3 ∷ 248 ∷ 87 ∷ 0 ∷ 0 ∷ 0 ∷ 144 ∷ 0 ∷ 0 ∷ 100 ∷ 105 ∷ 114 ∷ 116 ∷ 121 ∷ 32 ∷ 98 ∷ 105 ∷ 116
          ∷ 0 ∷ 0 ∷ 0 ∷ 0 ∷ 0 ∷ [],
    )
    ∷
    (160, 0 ∷ 1 ∷ 99 ∷ 111 ∷ 114 ∷ 114 ∷ 117 ∷ 112 ∷ 116 ∷ 32 ∷ 98 ∷ 105 ∷ 116 ∷ 0 ∷ 0 ∷ 0 ∷ [])
    ∷
    (208, 0 ∷ 2 ∷ 101 ∷ 120 ∷ 116 ∷ 101 ∷ 114 ∷ 110 ∷ 97 ∷ 108 ∷ 32 ∷ 100 ∷ 97 ∷ 116 ∷ 97 ∷ 32 ∷ 102 ∷ 105 ∷ 108 ∷ 101 ∷ 0 ∷ 0 ∷ 0 ∷ 0 ∷ [])
    ∷
    (512, 0 ∷ 0 ∷ 0 ∷ 0 ∷ 0 ∷ 0 ∷ 4 ∷ 0 ∷ [])
    ∷
    (1024, 0 ∷ 1 ∷ 0 ∷ 1 ∷ 0 ∷ 1 ∷ 0 ∷ 1 ∷ 0 ∷ 1 ∷ 0 ∷ 1 ∷ 0 ∷ 1 ∷ 0 ∷ 0 ∷ [])
    ∷
    (1536, 128 ∷ 0 ∷ 0 ∷ 0 ∷ 0 ∷ 0 ∷ 8 ∷ 0 ∷ [])
    ∷
    (2048, 128 ∷ 0 ∷ 0 ∷ 0 ∷ 0 ∷ 0 ∷ 10 ∷ 0 ∷ 128 ∷ 0 ∷ 0 ∷ 0 ∷ 0 ∷ 0 ∷ 12 ∷ 0 ∷ [])
    ∷
    (3064, 0 ∷ 0 ∷ 0 ∷ 0 ∷ 0 ∷ 0 ∷ 1 ∷ 2 ∷ 3 ∷ 0 ∷ 0 ∷ 0 ∷ 0 ∷ 0 ∷ 0 ∷ 0 ∷ [])
    ∷
    []

-- the worked image with these bytes at this offset
abbrev pub with_bytes : ℕ → List ℕ → Bytes
with_bytes place bytes = of_pieces ((place, bytes) ∷ image)

-- The worked image with a refcount block in cluster 256, which nothing references. The refcounts of clusters 256 to 258 are 1.
unfoldable pub block_written : Bytes
block_written = splice (of_pieces image) 131072 (0 ∷ 1 ∷ 0 ∷ 1 ∷ 0 ∷ 1 ∷ [])

-- `block_written` with a refcount table in clusters 257 and 258. It references the image's block, and as the second the new block.
unfoldable pub table_written : Bytes
table_written = splice block_written 131584 (0 ∷ 0 ∷ 0 ∷ 0 ∷ 0 ∷ 0 ∷ 4 ∷ 0 ∷ 0 ∷ 0 ∷ 0 ∷ 0 ∷ 0 ∷ 2 ∷ 0 ∷ 0 ∷ [])

-- `table_written` with a header that references the new table
unfoldable pub grown : Bytes
grown = splice table_written 48 (0 ∷ 0 ∷ 0 ∷ 0 ∷ 0 ∷ 2 ∷ 2 ∷ 0 ∷ 0 ∷ 0 ∷ 0 ∷ 2 ∷ [])

-- the fields of the worked image's header
unfoldable pub image_fields : Fields
image_fields = record {
  version = 3;
  backing_offset = 0;
  backing_length = 0;
  cluster_bits = 9;
  size = 65536;
  crypt_method = 0;
  l1_entries = 2;
  l1_offset = 1536;
  refcount_table_offset = 512;
  refcount_table_clusters = 1;
  snapshots = 0;
  snapshots_offset = 0;
  incompatible = 0;
  compatible = 0;
  autoclear = 0;
  refcount_order = 4;
  header_length = 104;
}

-- the worked image's header
unfoldable pub image_header : Header
image_header = record {
  fields = image_fields;
  backing_name = None;
  backing_format = None;
  data_file_name = None;
  features =
      record { kind = 0; bit = 0; name = codes "dirty bit" }
      ∷ record { kind = 0; bit = 1; name = codes "corrupt bit" }
      ∷ record { kind = 0; bit = 2; name = codes "external data file" }
      ∷ [];
}

-- the worked image's header with other incompatible feature bits
abbrev pub header_with_features : ℕ → Header
header_with_features bits = record image_header { fields = record image_fields { incompatible = bits } }

-- the worked image's fields with another refcount order
abbrev pub fields_with_order : ℕ → Fields
fields_with_order order = record image_fields { refcount_order = order }

-- the worked image's header with `many` snapshots
abbrev pub header_with_snapshots : ℕ → Header
header_with_snapshots many = record image_header { fields = record image_fields { snapshots = many } }

-- the worked image's fields as version 2, without the later fields
abbrev pub older_fields : Fields
older_fields = record image_fields { version = 2; header_length = 72 }

-- the worked image's header as version 2, without extensions
abbrev pub older_header : Header
older_header = record image_header { fields = older_fields; features = [] }

-- the guest bytes of the worked image at offsets 508 to 515
abbrev pub written_bytes : List Value
written_bytes = byte 0 ∷ byte 0 ∷ byte 1 ∷ byte 2 ∷ byte 3 ∷ byte 0 ∷ byte 0 ∷ byte 0 ∷ []
