-- The fields follow one another, and fill all bytes.
use Rattle.std.proofs.Common.{sym}
use Rattle.qcow2_types.specs.OnDisk.{v2_bytes}
use Rattle.qcow2_types.proofs.Numbers.NumberBytes.{then, whole}
use Rattle.qcow2_types.proofs.on_disk.V2HeaderOnDiskStruct.from_bytes.Goals as goal

pub returns : goal.returns
unfolding v2_bytes
returns c =
    sym (whole 72 _ _ c.requires.size
    (then _ _ _ _ c.u64_at-5.ensures
    (then _ _ _ _ c.u32_at-8.ensures
    (then _ _ _ _ c.u32_at-7.ensures
    (then _ _ _ _ c.u64_at-4.ensures
    (then _ _ _ _ c.u64_at-3.ensures
    (then _ _ _ _ c.u32_at-6.ensures
    (then _ _ _ _ c.u32_at-5.ensures
    (then _ _ _ _ c.u64_at-2.ensures
    (then _ _ _ _ c.u32_at-4.ensures
    (then _ _ _ _ c.u32_at-3.ensures
    (then _ _ _ _ c.u64_at.ensures
    (then _ _ _ _ c.u32_at-2.ensures c.u32_at.ensures)))))))))))))
