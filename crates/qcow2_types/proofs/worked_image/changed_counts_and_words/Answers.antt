use Rattle.qcow2_types.proofs.Worked.False as double
use Rattle.qcow2_types.proofs.Worked.Leak9 as counted
use Rattle.qcow2_types.proofs.Worked.Leak6 as twice
use Rattle.qcow2_types.proofs.Worked.Packed as packed_cluster
use Rattle.qcow2_types.proofs.worked_image.changed_counts_and_words.Goals as goal

pub returns : goal.returns
returns c = record { false_copied = double.verdict; counted_only = counted.verdict; shared = twice.verdict; compressed = packed_cluster.verdict }
