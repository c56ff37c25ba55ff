use Rattle.qcow2_alloc.proofs.Memory.SafeLaws.{settled-names}
use Rattle.qcow2_alloc.proofs.laws.what_is_written_back_references_no_more.Goals as goal

pub returns : goal.returns
returns c = settled-names
