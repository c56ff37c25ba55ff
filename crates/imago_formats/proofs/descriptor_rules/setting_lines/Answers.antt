use Rattle.imago_formats.proofs.SettingLines.{carried, neither, silent, uncarried}
use Rattle.imago_formats.proofs.descriptor_rules.setting_lines.Goals as goal

pub returns : goal.returns
returns c = record { silent = silent; carried = carried; uncarried = uncarried; neither = neither }
