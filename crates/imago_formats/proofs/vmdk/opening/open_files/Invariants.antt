use Rattle.std.proofs.Common.{◌≡◌, ◌≤◌, length, take}
use Rattle.imago_formats.specs.DescriptorView.{kept_names}
use Rattle.imago_formats.specs.VmdkLayer.{files_asked}
use Rattle.imago_formats.specs.VmdkOpening.{OpensNext}
use Rattle.imago_formats.proofs.vmdk.opening.open_files.Given as goal

abbrev pub invariant-loop-extent : goal.invariant-loop-extent
invariant-loop-extent g l = record {
  asked : l.number ≡ files_asked (take l.extent-index l.extents);
  there : l.number ≤ length l.files.items;
  opens : OpensNext g.G.ImplicitOpenGate.answers (kept_names l.extents) (l.fn.files.items, l.fn.gate) (l.files.items, l.gate);
}
