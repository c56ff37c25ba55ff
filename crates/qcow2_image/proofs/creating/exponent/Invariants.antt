use Rattle.std.proofs.Common.{◌≡◌, ◌^◌, ◌<◌, ◌≤◌, ℕ}
use Rattle.qcow2_image.proofs.creating.exponent.Given as goal

abbrev pub invariant-loop-bits : goal.invariant-loop-bits
invariant-loop-bits l = (k : ℕ) → l.fn.least ≤ k → k < l.bits → l.fn.value ≡ 2 ^ k → ⊥
