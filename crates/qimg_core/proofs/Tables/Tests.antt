-- Tests over a range of numbers: if one fails, not all pass.
use Rattle.std.proofs.Common.{◌≡◌, ◌≢◌, ℕ, ◌<◌, refl, arith}
use Rattle.std.specs.Prelude.{Bool, true, false, ◌==◌}
use Rattle.std.proofs.lemmas.Bool.Decides.{nat_tests}
use Rattle.qcow2_types.specs.Bytes.{all_below}
use Rattle.qcow2_types.proofs.Counting.Bounded.{all-below}

pub tests-miss : (n i : ℕ) (p : ℕ → Bool) → i < n → p i ≡ false → all_below n p ≡ false
tests-miss n i p lt miss = pick (all_below n p) refl
  where
    pick : (b : Bool) → all_below n p ≡ b → b ≡ false
    pick false e = refl
    pick true e = let here : p i ≡ true = all-below n p e i lt in cc

pub not-same : (a b : ℕ) → a ≢ b → (a == b) ≡ false
not-same a b apart = grind (arith, nat_tests)
