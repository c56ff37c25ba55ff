use Rattle.std.proofs.Common.{◌≡◌, ℕ, ◌<◌, ◌↔◌}
use Rattle.std.specs.Prelude.{slice_index}
use Rattle.qcow2_metadata.proofs.table.is_clear.Given as goal

-- No bit is set exactly if the bytes before this one are 0.
abbrev pub invariant-loop-byte : goal.invariant-loop-byte
invariant-loop-byte l = (l.bits ≡ 0) ↔ ((k : ℕ) → k < l.byte-index → slice_index l.bytes k ≡ 0)
