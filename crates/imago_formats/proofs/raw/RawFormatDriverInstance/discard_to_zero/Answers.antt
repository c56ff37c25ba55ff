use Rattle.imago_access.specs.PartCalls.{discards_to_zero}
use Rattle.imago_formats.proofs.raw.RawFormatDriverInstance.discard_to_zero.Goals as goal

pub returns-clause-refused : goal.returns-clause-refused
returns-clause-refused g c = c.zero.ensures.refused discards_to_zero
