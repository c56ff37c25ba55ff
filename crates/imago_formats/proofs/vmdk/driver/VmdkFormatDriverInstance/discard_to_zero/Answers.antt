use Rattle.imago_access.specs.PartCalls.{discards_to_zero}
use Rattle.imago_formats.proofs.vmdk.driver.VmdkFormatDriverInstance.discard_to_zero.Goals as goal

pub returns-clause-does : goal.returns-clause-does
returns-clause-does g c = c.no_part.ensures.does discards_to_zero

pub returns-clause-refused : goal.returns-clause-refused
returns-clause-refused g c = c.no_part.ensures.refused discards_to_zero
