use Rattle.std.proofs.Common.{◌≡◌, ◌<◌, ◌^◌}
use Rattle.qcow2_types.specs.Bytes.{be, bytes_of}
use Rattle.qcow2_metadata.proofs.words.raw_entry_at_end.Given as goal

-- The number is that of the bytes before index `i`, and it fits their bits.
abbrev pub invariant-loop-i : goal.invariant-loop-i
invariant-loop-i l = (l.number ≡ be (bytes_of l.bytes) l.at l.i) × (l.number < 256 ^ l.i)
