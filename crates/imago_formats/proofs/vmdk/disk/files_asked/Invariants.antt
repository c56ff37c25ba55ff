use Rattle.std.proofs.Common.{◌≡◌, take}
use Rattle.imago_formats.specs.VmdkLayer.{files_asked}
use Rattle.imago_formats.proofs.vmdk.disk.files_asked.Given as goal

abbrev pub invariant-loop-extent : goal.invariant-loop-extent
invariant-loop-extent l = l.count ≡ files_asked (take l.extent-index l.extents)
