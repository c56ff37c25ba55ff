use Rattle.qcow2_types.proofs.Worked.More.{one_bit, two_bits, four_bits}
use Rattle.qcow2_types.proofs.worked_image.narrow_counters.Goals as goal

pub returns : goal.returns
returns c = record { one_bit = one_bit; two_bits = two_bits; four_bits = four_bits }
