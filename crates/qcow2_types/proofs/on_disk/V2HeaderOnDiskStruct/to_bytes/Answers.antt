-- The fields follow one another, and fill all bytes.
use Rattle.std.proofs.Common.{arith}
use Rattle.qcow2_types.specs.OnDisk.{v2_bytes}
use Rattle.qcow2_types.proofs.Numbers.NumberBytes.{then, whole}
use Rattle.qcow2_types.proofs.on_disk.V2HeaderOnDiskStruct.to_bytes.Goals as goal

pub returns : goal.returns
unfolding v2_bytes
returns c =
    whole 72 _ _ (omega arith)
    (then _ _ _ _ c.put_u64-5.ensures
    (then _ _ _ _ c.put_u32-8.ensures
    (then _ _ _ _ c.put_u32-7.ensures
    (then _ _ _ _ c.put_u64-4.ensures
    (then _ _ _ _ c.put_u64-3.ensures
    (then _ _ _ _ c.put_u32-6.ensures
    (then _ _ _ _ c.put_u32-5.ensures
    (then _ _ _ _ c.put_u64-2.ensures
    (then _ _ _ _ c.put_u32-4.ensures
    (then _ _ _ _ c.put_u32-3.ensures
    (then _ _ _ _ c.put_u64.ensures
    (then _ _ _ _ c.put_u32-2.ensures c.put_u32.ensures))))))))))))
