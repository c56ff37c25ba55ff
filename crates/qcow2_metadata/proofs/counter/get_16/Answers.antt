use Rattle.std.proofs.Common.{arith}
use Rattle.qcow2_metadata.proofs.Packed.{pair-counter}
use Rattle.qcow2_metadata.proofs.counter.get_16.Goals as goal

pub returns : goal.returns
returns c = omega (arith, c.from-high.ensures, c.from-low.ensures, pair-counter c.args.index c.args.bytes.now (λ k. (c.type_inv.bytes k).fits) c.requires)
