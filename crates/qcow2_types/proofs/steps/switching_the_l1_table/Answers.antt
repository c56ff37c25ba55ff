use Rattle.qcow2_types.proofs.Switching.L1Switch.{l1-table-switched}
use Rattle.qcow2_types.proofs.steps.switching_the_l1_table.Goals as goal

pub returns : goal.returns
returns c = l1-table-switched
