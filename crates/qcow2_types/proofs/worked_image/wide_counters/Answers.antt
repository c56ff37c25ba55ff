use Rattle.qcow2_types.proofs.Worked.More.{eight_bits, bits_32, bits_64}
use Rattle.qcow2_types.proofs.worked_image.wide_counters.Goals as goal

pub returns : goal.returns
returns c = record { eight_bits = eight_bits; bits_32 = bits_32; bits_64 = bits_64 }
