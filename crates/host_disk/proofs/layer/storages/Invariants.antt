use Rattle.std.proofs.Common.{take}
use Rattle.host_disk.specs.Layers.{AreStoragesOf}
use Rattle.host_disk.proofs.layer.storages.Given as goal

abbrev pub invariant-loop-number : goal.invariant-loop-number
invariant-loop-number g l = AreStoragesOf g.H.HostFile (take l.number l.layers) l.files.items
