-- The fields of a header in a file that has the bytes of its two parts.
use Rattle.std.proofs.Common.{◌≡◌, ◌<◌, ◌^◌, refl}
use Rattle.qcow2_types.specs.Bytes.{Bytes}
use Rattle.qcow2_types.specs.Header.{Fields, fields_of}
use Rattle.qcow2_types.specs.OnDisk.{v2_bytes, v3_bytes, Holds}
use Rattle.qcow2_types.specs.declared.on_disk.V2Header.{V2Header}
use Rattle.qcow2_types.specs.declared.on_disk.V3HeaderBase.{V3HeaderBase}
use Rattle.qcow2_types.proofs.Fields.HeaderFields.{v2-version, v2-backing_filename_offset, v2-backing_filename_size, v2-cluster_bits, v2-size, v2-crypt_method, v2-l1_size, v2-l1_table_offset, v2-refcount_table_offset, v2-refcount_table_clusters, v2-nb_snapshots, v2-snapshots_offset, v3-incompatible_features, v3-compatible_features, v3-autoclear_features, v3-refcount_order, v3-header_length}

-- each field fits its type
pub record V2InRange (h : V2Header) : Type 0 where
  pub version : h.version < 2 ^ 32
  pub backing_filename_offset : h.backing_filename_offset < 2 ^ 64
  pub backing_filename_size : h.backing_filename_size < 2 ^ 32
  pub cluster_bits : h.cluster_bits < 2 ^ 32
  pub size : h.size < 2 ^ 64
  pub crypt_method : h.crypt_method < 2 ^ 32
  pub l1_size : h.l1_size < 2 ^ 32
  pub l1_table_offset : h.l1_table_offset < 2 ^ 64
  pub refcount_table_offset : h.refcount_table_offset < 2 ^ 64
  pub refcount_table_clusters : h.refcount_table_clusters < 2 ^ 32
  pub nb_snapshots : h.nb_snapshots < 2 ^ 32
  pub snapshots_offset : h.snapshots_offset < 2 ^ 64

-- each field of the second part fits its type
pub record V3InRange (h : V3HeaderBase) : Type 0 where
  pub incompatible_features : h.incompatible_features < 2 ^ 64
  pub compatible_features : h.compatible_features < 2 ^ 64
  pub autoclear_features : h.autoclear_features < 2 ^ 64
  pub refcount_order : h.refcount_order < 2 ^ 32
  pub header_length : h.header_length < 2 ^ 32

abbrev pub fields_of_parts : V2Header → V3HeaderBase → Fields
fields_of_parts h n = record {
  version = h.version;
  backing_offset = h.backing_filename_offset;
  backing_length = h.backing_filename_size;
  cluster_bits = h.cluster_bits;
  size = h.size;
  crypt_method = h.crypt_method;
  l1_entries = h.l1_size;
  l1_offset = h.l1_table_offset;
  refcount_table_offset = h.refcount_table_offset;
  refcount_table_clusters = h.refcount_table_clusters;
  snapshots = h.nb_snapshots;
  snapshots_offset = h.snapshots_offset;
  incompatible = n.incompatible_features;
  compatible = n.compatible_features;
  autoclear = n.autoclear_features;
  refcount_order = n.refcount_order;
  header_length = n.header_length;
}

-- the second part that a version 2 header stands for
abbrev pub no_second_part : V3HeaderBase
no_second_part = record { incompatible_features = 0; compatible_features = 0; autoclear_features = 0; refcount_order = 4; header_length = 72 }

-- the fields of a version 3 header
pub fields-newer : (f : Bytes) (h : V2Header) (n : V3HeaderBase) → Holds f 0 (v2_bytes h) → Holds f 72 (v3_bytes n) → V2InRange h → V3InRange n → h.version ≡ 3
    → fields_of f ≡ fields_of_parts h n
unfolding fields_of
fields-newer f h n first second in-first in-second newer = rw (
  v2-version f h first in-first.version,
  v2-backing_filename_offset f h first in-first.backing_filename_offset,
  v2-backing_filename_size f h first in-first.backing_filename_size,
  v2-cluster_bits f h first in-first.cluster_bits,
  v2-size f h first in-first.size,
  v2-crypt_method f h first in-first.crypt_method,
  v2-l1_size f h first in-first.l1_size,
  v2-l1_table_offset f h first in-first.l1_table_offset,
  v2-refcount_table_offset f h first in-first.refcount_table_offset,
  v2-refcount_table_clusters f h first in-first.refcount_table_clusters,
  v2-nb_snapshots f h first in-first.nb_snapshots,
  v2-snapshots_offset f h first in-first.snapshots_offset,
  newer,
  v3-incompatible_features f n second in-second.incompatible_features,
  v3-compatible_features f n second in-second.compatible_features,
  v3-autoclear_features f n second in-second.autoclear_features,
  v3-refcount_order f n second in-second.refcount_order,
  v3-header_length f n second in-second.header_length,
) refl

-- the fields of a version 2 header
pub fields-older : (f : Bytes) (h : V2Header) → Holds f 0 (v2_bytes h) → V2InRange h → h.version ≡ 2 → fields_of f ≡ fields_of_parts h no_second_part
unfolding fields_of
fields-older f h first in-first older = rw (
  v2-version f h first in-first.version,
  v2-backing_filename_offset f h first in-first.backing_filename_offset,
  v2-backing_filename_size f h first in-first.backing_filename_size,
  v2-cluster_bits f h first in-first.cluster_bits,
  v2-size f h first in-first.size,
  v2-crypt_method f h first in-first.crypt_method,
  v2-l1_size f h first in-first.l1_size,
  v2-l1_table_offset f h first in-first.l1_table_offset,
  v2-refcount_table_offset f h first in-first.refcount_table_offset,
  v2-refcount_table_clusters f h first in-first.refcount_table_clusters,
  v2-nb_snapshots f h first in-first.nb_snapshots,
  v2-snapshots_offset f h first in-first.snapshots_offset,
  older,
) refl
