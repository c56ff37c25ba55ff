use Rattle.qcow2_types.proofs.Numbers.WordLemmas.{zero-word}
use Rattle.qcow2_metadata.proofs.Conservation.{kept_means, zero_means}
use Rattle.qcow2_metadata.proofs.laws.zeroed_and_discarded_clusters_are_decoded.Goals as goal

pub returns : goal.returns
returns c = record { zeroed = zero_means; kept_host = kept_means; discarded = zero-word }
