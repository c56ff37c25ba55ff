use Rattle.qcow2_types.proofs.Worked.Headers as headers
use Rattle.qcow2_types.proofs.worked_image.refused_headers.Goals as goal

pub returns : goal.returns
returns c = record { version = headers.version; small_clusters = headers.small_clusters; large_clusters = headers.large_clusters; order = headers.order; features = headers.features; size = headers.size; l1_entries = headers.l1_entries; l1_place = headers.l1_place }
