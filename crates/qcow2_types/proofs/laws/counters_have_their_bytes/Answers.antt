use Rattle.qcow2_types.proofs.Numbers.BlockBytes.{bytes-pack, counters-packable, bytes-only}
use Rattle.qcow2_types.proofs.laws.counters_have_their_bytes.Goals as goal

pub returns : goal.returns
returns c = record { packed = bytes-pack; packable = counters-packable; only = bytes-only }
