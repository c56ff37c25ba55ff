use Rattle.imago_formats.proofs.WorkedDescriptors as worked
use Rattle.imago_formats.proofs.descriptor_rules.refused_extents.Goals as goal

pub returns : goal.returns
returns c = record { other_type = worked.other_type; count = worked.count; more = worked.more; unquoted = worked.unquoted; largest = worked.largest; too_large = worked.too_large }
