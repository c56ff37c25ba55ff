use Rattle.std.specs.Prelude.{length}
use Rattle.qimg_chain.proofs.chain.opening.+open_over.Given as goal

abbrev pub decreases-open_over : goal.decreases-open_over
decreases-open_over g l = length l.below.now.items
