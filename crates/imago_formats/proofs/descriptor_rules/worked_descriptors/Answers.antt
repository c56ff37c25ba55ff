use Rattle.std.proofs.Common.{refl}
use Rattle.imago_formats.proofs.WorkedDescriptors as worked
use Rattle.imago_formats.proofs.descriptor_rules.worked_descriptors.Goals as goal

pub returns : goal.returns
returns c = record { size = refl; two = worked.two; other = worked.other; none = worked.none }
