use Rattle.qcow2_alloc.proofs.Memory.WordChanges.{word-drops}
use Rattle.qcow2_alloc.proofs.laws.referencing_less.Goals as goal

pub returns : goal.returns
returns c = word-drops
