use Rattle.qcow2_types.proofs.Counting.OneVerdict.{verdict-unique}
use Rattle.qcow2_types.proofs.laws.image_has_one_verdict.Goals as goal

pub returns : goal.returns
returns c = verdict-unique
