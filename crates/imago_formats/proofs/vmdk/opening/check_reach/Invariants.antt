use Rattle.std.proofs.Common.{drop}
use Rattle.imago_formats.specs.VmdkLayer.{AreInReach}
use Rattle.imago_formats.proofs.vmdk.opening.check_reach.Given as goal

abbrev pub invariant-loop-extent : goal.invariant-loop-extent
invariant-loop-extent l = record {
  so_far : AreInReach l.unit (drop l.extent-index l.extents) → AreInReach l.unit l.extents;
  rest : AreInReach l.unit l.extents → AreInReach l.unit (drop l.extent-index l.extents);
}
