use Rattle.imago_formats.proofs.ExtentLines.{made, read}
use Rattle.imago_formats.proofs.RefusedLines.{damaged, uncarried}
use Rattle.imago_formats.proofs.descriptor_rules.extent_lines.Goals as goal

pub returns : goal.returns
returns c = record { read = read; made = made; uncarried = uncarried; damaged = damaged }
