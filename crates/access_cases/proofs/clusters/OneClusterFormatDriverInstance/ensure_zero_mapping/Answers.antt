use Rattle.imago_access.specs.PartCalls.{ensures_zero}
use Rattle.access_cases.proofs.clusters.OneClusterFormatDriverInstance.ensure_zero_mapping.Goals as goal

pub returns-clause-refused : goal.returns-clause-refused
returns-clause-refused g c = c.change.ensures.refused ensures_zero
