use Rattle.qcow2_types.proofs.Counting.Either.{named-change, refs-change}
use Rattle.qcow2_types.proofs.two_versions.changing_an_entry_in_memory.Goals as goal

pub returns : goal.returns
returns c = record { either = named-change; memory = refs-change }
