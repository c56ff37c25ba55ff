use Rattle.imago_formats.proofs.ExtentLemmas.{StandsAt}
use Rattle.imago_formats.proofs.vmdk.disk.Disk.find.Given as goal

abbrev pub invariant-loop-extent : goal.invariant-loop-extent
invariant-loop-extent l = StandsAt l.self.extents.items l.extent-index l.start l.number l.offset
