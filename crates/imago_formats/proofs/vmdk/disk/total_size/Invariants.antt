use Rattle.std.proofs.Common.{◌≡◌, ◌-◌, ◌^◌, min, take}
use Rattle.std.specs.List.{sum_by}
use Rattle.imago_formats.proofs.vmdk.disk.total_size.Given as goal

abbrev pub invariant-loop-extent : goal.invariant-loop-extent
invariant-loop-extent l = l.sectors ≡ min (sum_by (λ x. x.sectors) (take l.extent-index l.extents)) (2 ^ 64 - 1)
