use Rattle.std.proofs.Common.{ℕ, ◌∙◌, ap, Some}
use Rattle.std.specs.Prelude.{Bool, ◌||◌}
use Rattle.qcow2_image.specs.Unspent.{covered_by, covers, here}
use Rattle.qcow2_image.specs.declared.unspent.Writes.TheFolds.{fold-roll-Writes}
use Rattle.qcow2_image.proofs.unspent.Writes.note.Goals as goal

pub returns : goal.returns
unfolding covers
returns c = λ p.
    ap (λ (f : ℕ → Bool). f p) (fold-roll-Writes (ℕ → Bool) covered_by (record { before = Some c.of-before.result; at = c.args.at; length = c.args.length }))
    ∙ ap (λ (was : ℕ → Bool). here c.args.at c.args.length p || was p) (ap covers c.of-before.ensures)
