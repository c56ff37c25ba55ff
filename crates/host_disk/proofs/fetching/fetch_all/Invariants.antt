use Rattle.host_disk.specs.Layers.{AreOnlyRead}
use Rattle.host_disk.proofs.fetching.fetch_all.Given as goal

abbrev pub invariant-loop-miss : goal.invariant-loop-miss
invariant-loop-miss g l = AreOnlyRead g.H.HostFile l.fn.layers.items l.layers.items
