use Rattle.std.proofs.Common.{◌≡◌, take}
use Rattle.qcow2_metadata.specs.Cells.{big_endian}
use Rattle.qcow2_metadata.proofs.endian.read_be.Given as goal

abbrev pub invariant-loop-byte : goal.invariant-loop-byte
invariant-loop-byte l = l.value ≡ big_endian (take l.byte-index l.bytes)
