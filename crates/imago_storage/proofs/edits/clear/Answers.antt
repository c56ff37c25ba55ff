use Rattle.std.proofs.Common.{rules}
use Rattle.imago_storage.proofs.Zeroes.{cleared_outside, cleared_inside}
use Rattle.imago_storage.proofs.edits.clear.Goals as goal

pub returns-then-at-end-clause-outside : goal.returns-then-at-end-clause-outside
returns-then-at-end-clause-outside c = cleared_outside _ _ _ _ _ c.zero_part.ensures.spliced (search rules)

pub returns-then-at-end-clause-inside : goal.returns-then-at-end-clause-inside
returns-then-at-end-clause-inside c = cleared_inside _ _ _ _ _ c.zero_part.ensures.spliced (search rules)
