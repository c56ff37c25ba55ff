use Rattle.std.proofs.Common.{refl}
use Rattle.qcow2_types.specs.TableBytes.{block_bytes}
use Rattle.qcow2_types.specs.Bytes.{sum_below}
use Rattle.qcow2_types.proofs.laws.bytes_of_some_counters.Goals as goal

pub returns : goal.returns
unfolding block_bytes sum_below
returns c = record { bits_64 = refl; bits_16 = refl; bits_8 = refl; two_bits = refl; one_bit = refl }
