use Rattle.imago_access.specs.PartCalls.{ensures_zero}
use Rattle.imago_formats.proofs.vmdk.driver.VmdkFormatDriverInstance.ensure_zero_mapping.Goals as goal

pub returns-clause-does : goal.returns-clause-does
returns-clause-does g c = c.no_part.ensures.does ensures_zero

pub returns-clause-refused : goal.returns-clause-refused
returns-clause-refused g c = c.no_part.ensures.refused ensures_zero
