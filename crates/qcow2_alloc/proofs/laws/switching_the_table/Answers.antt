use Rattle.qcow2_alloc.proofs.Growth.TableSwitches.{switch-quietly, switch-names, pointer-loads, sound-sizes}
use Rattle.qcow2_alloc.proofs.laws.switching_the_table.Goals as goal

pub returns : goal.returns
returns c = record { preserves_guest = switch-quietly; names = switch-names; loads = pointer-loads; limits = sound-sizes }
