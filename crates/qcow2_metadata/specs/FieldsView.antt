-- The header fields for contracts, from the two parts in memory (bytes 0 to 71 and 72 to 103), and their invariant.
use Rattle.std.specs.Prelude.{◌≡◌, ◌==◌, ◌||◌, IsTrue}
use Rattle.qcow2_types.specs.Header.{Fields, Shaped}
use Rattle.qcow2_types.specs.declared.on_disk.V2Header.{V2Header}
use Rattle.qcow2_types.specs.declared.on_disk.V3HeaderBase.{V3HeaderBase}

-- The fields of the two parts.
abbrev pub seen_fields : V2Header → V3HeaderBase → Fields
seen_fields v2 v3 = record {
  version = v2.version;
  backing_offset = v2.backing_filename_offset;
  backing_length = v2.backing_filename_size;
  cluster_bits = v2.cluster_bits;
  size = v2.size;
  crypt_method = v2.crypt_method;
  l1_entries = v2.l1_size;
  l1_offset = v2.l1_table_offset;
  refcount_table_offset = v2.refcount_table_offset;
  refcount_table_clusters = v2.refcount_table_clusters;
  snapshots = v2.nb_snapshots;
  snapshots_offset = v2.snapshots_offset;
  incompatible = v3.incompatible_features;
  compatible = v3.compatible_features;
  autoclear = v3.autoclear_features;
  refcount_order = v3.refcount_order;
  header_length = v3.header_length;
}

-- The second part in version 2: no features, refcounts of 16 bits, and a header of 72 bytes.
abbrev pub older_base : V3HeaderBase
older_base = record {
  incompatible_features = 0;
  compatible_features = 0;
  autoclear_features = 0;
  refcount_order = 4;
  header_length = 72;
}

-- The invariant of the two parts of every header.
pub record IsHeader (v2 : V2Header) (v3 : V3HeaderBase) : Type 0 where
  pub magic : v2.magic ≡ 0x5146_49fb
  pub version : IsTrue ((v2.version == 2) || (v2.version == 3))
  pub shaped : Shaped (seen_fields v2 v3)
  pub older : v2.version ≡ 2 → v3 ≡ older_base
