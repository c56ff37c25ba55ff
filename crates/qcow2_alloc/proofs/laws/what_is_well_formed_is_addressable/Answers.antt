use Rattle.qcow2_alloc.proofs.Memory.SafeLaws.{safe-reach}
use Rattle.qcow2_alloc.proofs.laws.what_is_well_formed_is_addressable.Goals as goal

pub returns : goal.returns
returns c = safe-reach
