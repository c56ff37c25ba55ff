use Rattle.qcow2_types.proofs.Fields.HeaderLimits.{place-low}
use Rattle.qcow2_types.proofs.laws.place_is_within_limit.Goals as goal

pub returns : goal.returns
returns c = place-low
