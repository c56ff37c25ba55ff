use Rattle.imago_access.specs.PartCalls.{ensures_zero}
use Rattle.imago_formats.proofs.raw.RawFormatDriverInstance.ensure_zero_mapping.Goals as goal

pub returns-clause-refused : goal.returns-clause-refused
returns-clause-refused g c = c.zero.ensures.refused ensures_zero
