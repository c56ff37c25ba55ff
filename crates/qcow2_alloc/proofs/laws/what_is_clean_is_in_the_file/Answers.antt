use Rattle.qcow2_alloc.proofs.Memory.SafeLaws.{clean-memory}
use Rattle.qcow2_alloc.proofs.laws.what_is_clean_is_in_the_file.Goals as goal

pub returns : goal.returns
returns c = clean-memory
