-- The two parts of a header (bytes 0 to 71 and 72 to 103): the bytes in which their fields are.
use Rattle.std.specs.Prelude.{◌≡◌}
use Rattle.qcow2_types.specs.Bytes.{Bytes, be}
use Rattle.qcow2_types.specs.declared.on_disk.V2Header.{V2Header}
use Rattle.qcow2_types.specs.declared.on_disk.V3HeaderBase.{V3HeaderBase}

-- The first part is at the start of these bytes.
pub record IsV2At (f : Bytes) (h : V2Header) : Type 0 where
  pub magic : h.magic ≡ be f 0 4
  pub version : h.version ≡ be f 4 4
  pub backing_filename_offset : h.backing_filename_offset ≡ be f 8 8
  pub backing_filename_size : h.backing_filename_size ≡ be f 16 4
  pub cluster_bits : h.cluster_bits ≡ be f 20 4
  pub size : h.size ≡ be f 24 8
  pub crypt_method : h.crypt_method ≡ be f 32 4
  pub l1_size : h.l1_size ≡ be f 36 4
  pub l1_table_offset : h.l1_table_offset ≡ be f 40 8
  pub refcount_table_offset : h.refcount_table_offset ≡ be f 48 8
  pub refcount_table_clusters : h.refcount_table_clusters ≡ be f 56 4
  pub nb_snapshots : h.nb_snapshots ≡ be f 60 4
  pub snapshots_offset : h.snapshots_offset ≡ be f 64 8

-- The second part is at the start of these bytes.
pub record IsV3At (f : Bytes) (h : V3HeaderBase) : Type 0 where
  pub incompatible_features : h.incompatible_features ≡ be f 0 8
  pub compatible_features : h.compatible_features ≡ be f 8 8
  pub autoclear_features : h.autoclear_features ≡ be f 16 8
  pub refcount_order : h.refcount_order ≡ be f 24 4
  pub header_length : h.header_length ≡ be f 28 4
