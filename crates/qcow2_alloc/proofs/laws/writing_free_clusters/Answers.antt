use Rattle.qcow2_alloc.proofs.Memory.FreeClusterWrites.{run-quietly, run-counts}
use Rattle.qcow2_alloc.proofs.laws.writing_free_clusters.Goals as goal

pub returns : goal.returns
returns c = record { preserves_guest = run-quietly; counts = run-counts }
