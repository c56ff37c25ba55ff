use Rattle.qcow2_types.proofs.Worked.More.{one_sector, two_sectors}
use Rattle.qcow2_types.proofs.worked_image.compressed_ranges.Goals as goal

pub returns : goal.returns
returns c = record { one_sector = one_sector; two_sectors = two_sectors }
