use Rattle.std.proofs.Common.{◌≡◌, length}
use Rattle.std.specs.Str.Lines.{lines}
use Rattle.imago_formats.specs.Descriptor.{extents_of}
use Rattle.imago_formats.specs.DescriptorView.{kept_extents, after_those}
use Rattle.imago_formats.proofs.vmdk.reading.read_lines.Given as goal

abbrev pub invariant-loop-rest : goal.invariant-loop-rest
invariant-loop-rest l = after_those (kept_extents l.extents.items) (extents_of (lines l.rest)) ≡ extents_of (lines l.fn.text)

abbrev pub decreases-loop-rest : goal.decreases-loop-rest
decreases-loop-rest l = length l.rest
