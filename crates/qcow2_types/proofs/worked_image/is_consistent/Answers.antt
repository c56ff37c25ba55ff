use Rattle.qcow2_types.proofs.Worked.Consistent.{consistent, no_leaks, verdict}
use Rattle.qcow2_types.proofs.worked_image.is_consistent.Goals as goal

pub returns : goal.returns
returns c = record { consistent = consistent; leaks = no_leaks; verdict = verdict }
