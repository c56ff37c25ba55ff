-- The fields follow one another, and fill all bytes.
use Rattle.std.proofs.Common.{arith}
use Rattle.qcow2_types.specs.OnDisk.{v3_bytes}
use Rattle.qcow2_types.proofs.Numbers.NumberBytes.{then, whole}
use Rattle.qcow2_types.proofs.on_disk.V3HeaderBaseOnDiskStruct.to_bytes.Goals as goal

pub returns : goal.returns
unfolding v3_bytes
returns c =
    whole 32 _ _ (omega arith)
    (then _ _ _ _ c.put_u32-2.ensures
    (then _ _ _ _ c.put_u32.ensures
    (then _ _ _ _ c.put_u64-3.ensures
    (then _ _ _ _ c.put_u64-2.ensures c.put_u64.ensures))))
