-- The index of the first element that passes a test.
use Rattle.std.proofs.Common.{◌≡◌, ℕ, ◌≤◌, refl, arith, List, length}
use Rattle.std.specs.Prelude.{Bool, true, false, nat_lt, cond, Some, None, unwrap_or}
use Rattle.std.specs.List.{position, position_or_len}
use Rattle.std.proofs.lemmas.List.Sums.{prefix_len-le-length}
use Rattle.std.proofs.lemmas.Bool.Decides.{nat_tests}

at-or-end : (n m : ℕ) → n ≤ m → unwrap_or (cond (nat_lt n m) (Some n) None) m ≡ n
at-or-end n m le = split (nat_lt n m) (λ e. grind (arith, nat_tests))
  where
    split : (b : Bool) → (b ≡ false → m ≡ n) → unwrap_or (cond b (Some n) None) m ≡ n
    split true past = refl
    split false past = past refl

-- The index, or the length if no element passes.
pub place-or-end : {X : Type 0} (p : X → Bool) (xs : List X) → unwrap_or (position p xs) (length xs) ≡ position_or_len p xs
place-or-end p xs = at-or-end (position_or_len p xs) (length xs) (prefix_len-le-length _ xs)
