use Rattle.std.proofs.Common.{rules, refl}
use Rattle.imago_storage.proofs.Zeroes.{copied_out}
use Rattle.imago_storage.proofs.edits.copy_out.Goals as goal

pub returns : goal.returns
returns c = λ k below. copied_out _ _ _ _ _ _ _ _ _ _ c.min-start.ensures c.min-end.ensures (search rules) refl c.copy_in.ensures c.zero_in.ensures k (search rules)
