use Rattle.qcow2_types.proofs.Worked.Verdicts.{header_refused, snapshot, external_data, damaged_table, shared_l1}
use Rattle.qcow2_types.proofs.worked_image.changed_structure.Goals as goal

pub returns : goal.returns
returns c = record { header = header_refused; snapshots = snapshot; external = external_data; table = damaged_table; shared_table = shared_l1 }
