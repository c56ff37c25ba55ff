use Rattle.std.proofs.Common.{arith, sym}
use Rattle.qcow2_types.specs.Bytes.{bytes_of}
use Rattle.qcow2_types.proofs.Fields.HeaderFields.{holds-same, v2-magic, v2-version, v2-backing_filename_offset, v2-backing_filename_size, v2-cluster_bits, v2-size, v2-crypt_method, v2-l1_size, v2-l1_table_offset, v2-refcount_table_offset, v2-refcount_table_clusters, v2-nb_snapshots, v2-snapshots_offset}
use Rattle.qcow2_metadata.proofs.rules.v2_part.Goals as goal

pub returns : goal.returns
returns c =
    let held = holds-same _ _ c.from_bytes.ensures in
    record {
      magic = sym (v2-magic (bytes_of c.args.bytes.now) c.from_bytes.result held (omega arith));
      version = sym (v2-version (bytes_of c.args.bytes.now) c.from_bytes.result held (omega arith));
      backing_filename_offset = sym (v2-backing_filename_offset (bytes_of c.args.bytes.now) c.from_bytes.result held (omega arith));
      backing_filename_size = sym (v2-backing_filename_size (bytes_of c.args.bytes.now) c.from_bytes.result held (omega arith));
      cluster_bits = sym (v2-cluster_bits (bytes_of c.args.bytes.now) c.from_bytes.result held (omega arith));
      size = sym (v2-size (bytes_of c.args.bytes.now) c.from_bytes.result held (omega arith));
      crypt_method = sym (v2-crypt_method (bytes_of c.args.bytes.now) c.from_bytes.result held (omega arith));
      l1_size = sym (v2-l1_size (bytes_of c.args.bytes.now) c.from_bytes.result held (omega arith));
      l1_table_offset = sym (v2-l1_table_offset (bytes_of c.args.bytes.now) c.from_bytes.result held (omega arith));
      refcount_table_offset = sym (v2-refcount_table_offset (bytes_of c.args.bytes.now) c.from_bytes.result held (omega arith));
      refcount_table_clusters = sym (v2-refcount_table_clusters (bytes_of c.args.bytes.now) c.from_bytes.result held (omega arith));
      nb_snapshots = sym (v2-nb_snapshots (bytes_of c.args.bytes.now) c.from_bytes.result held (omega arith));
      snapshots_offset = sym (v2-snapshots_offset (bytes_of c.args.bytes.now) c.from_bytes.result held (omega arith));
    }
