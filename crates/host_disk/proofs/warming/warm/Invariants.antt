use Rattle.host_disk.specs.Layers.{AreOnlyRead}
use Rattle.host_disk.proofs.warming.warm.Given as goal

abbrev pub invariant-loop-number : goal.invariant-loop-number
invariant-loop-number g l = AreOnlyRead g.H.HostFile l.fn.layers.items l.layers.items
