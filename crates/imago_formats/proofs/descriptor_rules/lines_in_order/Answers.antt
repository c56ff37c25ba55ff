use Rattle.imago_formats.proofs.LineOrder.{all, first}
use Rattle.imago_formats.proofs.descriptor_rules.lines_in_order.Goals as goal

pub returns : goal.returns
returns c = record { all = all; first = first }
