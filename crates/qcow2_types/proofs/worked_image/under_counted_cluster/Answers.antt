use Rattle.qcow2_types.proofs.Worked.Under.{verdict}
use Rattle.qcow2_types.proofs.worked_image.under_counted_cluster.Goals as goal

pub returns : goal.returns
returns c = verdict
