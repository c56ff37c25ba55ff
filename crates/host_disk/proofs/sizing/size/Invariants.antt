use Rattle.host_disk.specs.Layers.{AreOnlyRead}
use Rattle.host_disk.proofs.sizing.size.Given as goal

abbrev pub invariant-loop : goal.invariant-loop
invariant-loop g l = AreOnlyRead g.H.HostFile l.fn.layers.items l.layers.items
