use Rattle.imago_access.specs.PartCalls.{discards_to_backing}
use Rattle.access_cases.proofs.clusters.OneClusterFormatDriverInstance.discard_to_backing.Goals as goal

pub returns-clause-refused : goal.returns-clause-refused
returns-clause-refused g c = c.change.ensures.refused discards_to_backing
