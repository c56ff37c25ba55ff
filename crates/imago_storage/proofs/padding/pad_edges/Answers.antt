use Rattle.std.proofs.Common.{arith, ◌+◌, length}
use Rattle.imago_storage.proofs.Rounding.{round_up-le}
use Rattle.imago_storage.proofs.padding.pad_edges.Goals as goal

pub pad_edge-requires-clause-fits : goal.pad_edge-requires-clause-fits
pad_edge-requires-clause-fits g c =
    omega (arith, round_up-le c.args.unit (c.args.offset + length c.args.head.now) (c.args.behind + length c.args.tail.now) c.requires.positive (omega (arith, c.requires.before)), c.requires.fits)
