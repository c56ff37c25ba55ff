use Rattle.qcow2_types.proofs.Switching.RefcountTableSwitch.{refcount-table-switched}
use Rattle.qcow2_types.proofs.steps.switching_the_refcount_table.Goals as goal

pub returns : goal.returns
returns c = refcount-table-switched
