-- The bytes of a header as it is written (the sections "Header" and "Header extensions" of the format). Numbers are big-endian.
use Rattle.std.specs.Prelude.{ℕ, ◌+◌, ◌-◌, ◌*◌, ◌/◌, Bool, ◌&&◌, nat_le, if◌then◌else◌, List, [], ◌∷◌, ◌++◌, length, take, replicate, flat_map, Option, Some, None, is_some, codes}
use Rattle.std.specs.Int.{w32, w64, to_be_bytes}
use Rattle.qcow2_types.specs.Header.{Feature, Fields, Header, Extension, cluster_size, is_version_3}

-- bytes 0 to 63, from the magic number to the number of snapshots
unfoldable pub first_bytes : Fields → List ℕ
first_bytes h =
    to_be_bytes w32 0x5146_49fb
    ++ to_be_bytes w32 h.version
    ++ to_be_bytes w64 h.backing_offset
    ++ to_be_bytes w32 h.backing_length
    ++ to_be_bytes w32 h.cluster_bits
    ++ to_be_bytes w64 h.size
    ++ to_be_bytes w32 h.crypt_method
    ++ to_be_bytes w32 h.l1_entries
    ++ to_be_bytes w64 h.l1_offset
    ++ to_be_bytes w64 h.refcount_table_offset
    ++ to_be_bytes w32 h.refcount_table_clusters
    ++ to_be_bytes w32 h.snapshots

-- bytes 72 to 103, which only version 3 has
unfoldable pub newer_bytes : Fields → List ℕ
newer_bytes h =
    to_be_bytes w64 h.incompatible
    ++ to_be_bytes w64 h.compatible
    ++ to_be_bytes w64 h.autoclear
    ++ to_be_bytes w32 h.refcount_order
    ++ to_be_bytes w32 h.header_length

-- the bytes of the fields: 104 in version 3, 72 in version 2
unfoldable pub fields_bytes : Fields → List ℕ
fields_bytes h = first_bytes h ++ to_be_bytes w64 h.snapshots_offset ++ (if is_version_3 h then newer_bytes h else [])

-- the number of bytes of the fields
abbrev pub fields_length : Fields → ℕ
fields_length h = if is_version_3 h then 104 else 72

-- zeroes that pad n bytes to a multiple of 8
unfoldable pub padding : ℕ → List ℕ
padding n = replicate ((n + 7) / 8 * 8 - n) 0

-- the bytes of an extension: its type, its length, and its data, padded
unfoldable pub extension_bytes : Extension → List ℕ
extension_bytes x = to_be_bytes w32 x.0 ++ to_be_bytes w32 (length x.1) ++ x.1 ++ padding (length x.1)

-- the 48 bytes of a feature name: its type, its bit, and its text, cut or padded with 0 to 46 bytes
unfoldable pub feature_bytes : Feature → List ℕ
feature_bytes x = x.kind ∷ x.bit ∷ take 46 x.name ++ replicate (46 - length x.name) 0

-- a list of the extension of this type, or an empty list without data
abbrev pub extension_of : ℕ → Option (List ℕ) → List Extension
extension_of kind None = []
extension_of kind (Some bytes) = (kind, bytes) ∷ []

-- the data of the feature name extension; none if the list is empty
abbrev pub names_data : List Feature → Option (List ℕ)
names_data [] = None
names_data (x ∷ xs) = Some (flat_map feature_bytes (x ∷ xs))

-- The extensions in the order in which they are written: backing format, data file name, feature names.
unfoldable pub extensions_of : Header → List Extension
extensions_of h = extension_of 0xE279_2ACA h.backing_format ++ extension_of 0x4441_5441 h.data_file_name
    ++ extension_of 0x6803_F857 (names_data h.features)

-- Only version 3 has extensions. The end marker of type 0 and length 0 is written in both versions.
unfoldable pub extensions_bytes : Header → List ℕ
extensions_bytes h = (if is_version_3 h.fields then flat_map extension_bytes (extensions_of h) else []) ++ replicate 8 0

-- the bytes of the backing file's name, if any
abbrev pub name_bytes : Option (List ℕ) → List ℕ
name_bytes None = []
name_bytes (Some name) = name

-- The offset of the backing file's name, which follows the extensions. It is 0 without a name.
abbrev pub backing_name_offset : Header → Option (List ℕ) → ℕ
backing_name_offset h None = 0
backing_name_offset h (Some name) = fields_length h.fields + length (extensions_bytes h)

-- the fields as they are written: with the name's offset and length, and the length of a header without further fields
unfoldable pub written_fields : Header → Fields
written_fields h = record h.fields {
  backing_offset = backing_name_offset h h.backing_name;
  backing_length = length (name_bytes h.backing_name);
  header_length = fields_length h.fields;
}

-- the header as it is written
abbrev pub written : Header → Header
written h = record h { fields = written_fields h }

-- the bytes of a header: its fields, its extensions and the backing file's name
unfoldable pub header_bytes : Header → List ℕ
header_bytes h = fields_bytes (written_fields h) ++ extensions_bytes h ++ name_bytes h.backing_name

-- The header fits in the first cluster, and the backing file's name has at most 1,023 bytes.
abbrev pub fits_first_cluster : Header → Bool
fits_first_cluster h = nat_le (length (header_bytes h)) (cluster_size h.fields) && nat_le (length (name_bytes h.backing_name)) 1023

-- the feature names of a new header
abbrev pub first_features : List Feature
first_features =
    record { kind = 0; bit = 0; name = codes "dirty bit" }
    ∷ record { kind = 0; bit = 1; name = codes "corrupt bit" }
    ∷ record { kind = 0; bit = 2; name = codes "external data file" }
    ∷ []

-- The fields of a new header, without size, tables and snapshots. Incompatible feature bit 2 is the external data file's.
abbrev pub new_fields : ℕ → ℕ → Bool → Fields
new_fields cluster_bits order has_data_file = record {
  version = 3;
  backing_offset = 0;
  backing_length = 0;
  cluster_bits = cluster_bits;
  size = 0;
  crypt_method = 0;
  l1_entries = 0;
  l1_offset = 0;
  refcount_table_offset = 0;
  refcount_table_clusters = 0;
  snapshots = 0;
  snapshots_offset = 0;
  incompatible = if has_data_file then 4 else 0;
  compatible = 0;
  autoclear = 0;
  refcount_order = order;
  header_length = 104;
}

-- a new header
abbrev pub new_header : ℕ → ℕ → Option (List ℕ) → Option (List ℕ) → Option (List ℕ) → Header
new_header cluster_bits order name format data_file = record {
  fields = new_fields cluster_bits order (is_some data_file);
  backing_name = name;
  backing_format = format;
  data_file_name = data_file;
  features = first_features;
}
