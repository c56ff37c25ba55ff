use Rattle.std.proofs.Common.{refl, subst, sym, ◌+◌}
use Rattle.std.specs.Option.{SomeIff}
use Rattle.imago_storage.specs.Through.{round_up, round_down, HasWholeUnits}
use Rattle.imago_storage.proofs.Wholes.{no-start, whole-found, none-found}
use Rattle.imago_storage.proofs.ext.whole_part.Goals as goal

pub returns-in_err-start : goal.returns-in_err-start
returns-in_err-start c =
    subst (λ o. SomeIff o (HasWholeUnits c.args.align c.args.offset c.args.n) (round_up c.args.align c.args.offset, round_down c.args.align (c.args.offset + c.args.n))) (sym c.from_residual.ensures)
    (no-start c.args.align c.args.offset c.args.n c.requires.fits c.in_err-start.ensures)

pub returns-then-start-end : goal.returns-then-start-end
returns-then-start-end c = whole-found c.args.align c.args.offset c.args.n _ _ c.in_ok-start.ensures.1 refl c.if-start-end.true

pub returns-else-start-end : goal.returns-else-start-end
returns-else-start-end c = none-found c.args.align c.args.offset c.args.n _ c.in_ok-start.ensures.1 c.if-start-end.false
