use Rattle.std.proofs.Common.{arith, sym, refl}
use Rattle.qcow2_types.specs.Bytes.{bytes_of}
use Rattle.qcow2_types.specs.OnDisk.{v3_bytes}
use Rattle.qcow2_types.proofs.Fields.HeaderFields.{holds-same, number-there_4, number-there_8}
use Rattle.qcow2_metadata.proofs.rules.v3_part.Goals as goal

pub returns : goal.returns
unfolding v3_bytes
returns c =
    let held = holds-same _ _ c.from_bytes.ensures in
    let h = c.from_bytes.result in
    record {
      incompatible_features = sym (number-there_8 (bytes_of c.args.bytes.now) 0 (v3_bytes h) 0 h.incompatible_features held (omega arith) refl (omega arith));
      compatible_features = sym (number-there_8 (bytes_of c.args.bytes.now) 0 (v3_bytes h) 8 h.compatible_features held (omega arith) refl (omega arith));
      autoclear_features = sym (number-there_8 (bytes_of c.args.bytes.now) 0 (v3_bytes h) 16 h.autoclear_features held (omega arith) refl (omega arith));
      refcount_order = sym (number-there_4 (bytes_of c.args.bytes.now) 0 (v3_bytes h) 24 h.refcount_order held (omega arith) refl (omega arith));
      header_length = sym (number-there_4 (bytes_of c.args.bytes.now) 0 (v3_bytes h) 28 h.header_length held (omega arith) refl (omega arith));
    }
