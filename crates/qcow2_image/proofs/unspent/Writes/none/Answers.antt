use Rattle.std.proofs.Common.{ℕ, ◌+◌, ◌∙◌, ap, refl, arith, false, None}
use Rattle.std.specs.Prelude.{Bool, ltb, nat_le}
use Rattle.std.proofs.lemmas.Bool.{and_right, le-ltb, or_from}
use Rattle.qcow2_image.specs.Unspent.{covered_by, covers, here}
use Rattle.qcow2_image.specs.declared.unspent.Writes.TheFolds.{fold-roll-Writes}
use Rattle.qcow2_image.proofs.unspent.Writes.none.Goals as goal

pub returns : goal.returns
unfolding covers
returns c = λ p.
    ap (λ (f : ℕ → Bool). f p) (fold-roll-Writes (ℕ → Bool) covered_by (record { before = None; at = 0; length = 0 }))
    ∙ or_from (here 0 0 p) false (and_right (nat_le 0 p) (ltb p (0 + 0)) (le-ltb p (0 + 0) (omega arith))) refl
