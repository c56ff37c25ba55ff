use Rattle.qcow2_types.proofs.Worked.Tables.{entries}
use Rattle.qcow2_types.proofs.Worked.Counts.{counts, references}
use Rattle.qcow2_types.proofs.worked_image.tables.Goals as goal

pub returns : goal.returns
returns c = record { entries = entries; counts = counts; references = references }
