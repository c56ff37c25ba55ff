use Rattle.imago_formats.proofs.WorkedDescriptors as worked
use Rattle.imago_formats.proofs.descriptor_rules.refused_settings.Goals as goal

pub returns : goal.returns
returns c = record { first_line = worked.first_line; version = worked.version; in_quotes = worked.in_quotes; parent = worked.parent; neither = worked.neither }
