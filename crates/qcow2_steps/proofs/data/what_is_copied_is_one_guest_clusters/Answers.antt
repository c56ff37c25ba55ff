use Rattle.qcow2_steps.proofs.OwnClusters.{named-alone, unnamed-for}
use Rattle.qcow2_steps.proofs.data.what_is_copied_is_one_guest_clusters.Goals as goal

pub returns : goal.returns
returns g = record { alone = named-alone; not_referenced = unnamed-for }
