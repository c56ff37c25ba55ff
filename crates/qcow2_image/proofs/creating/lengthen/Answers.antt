use Rattle.std.proofs.Common.{ℕ, ◌≤◌, subst}
use Rattle.qcow2_image.proofs.Resizes.Creations.{lengthened-same, lengthens, lengthens-zeroed, unlengthened, unzeroed}
use Rattle.qcow2_image.proofs.creating.lengthen.Goals as goal

pub returns-then-size-clause-ok : goal.returns-then-size-clause-ok
returns-then-size-clause-ok g c = lengthened-same g.S.Storage c.args.size c.args.preallocate c.args.created.now
    (subst (λ (n : ℕ). c.args.size ≤ n) c.size.ensures c.if-size.true)

pub returns-in-None-clause-ok : goal.returns-in-None-clause-ok
returns-in-None-clause-ok g c = lengthens g.S.Storage c.args.size c.args.preallocate c.in-None.ensures.none c.args.created.now c.grow.new.self
    c.grow.result c.grow.ensures.grows c.grow.ensures.keeps

pub returns-in-None-clause-err : goal.returns-in-None-clause-err
returns-in-None-clause-err g c = unlengthened g.S.Storage c.args.size c.args.preallocate c.args.created.now c.grow.new.self c.in-None.ensures.none
    c.grow.result c.grow.ensures.grows.cause

pub returns-else-version-ne3-clause-ok : goal.returns-else-version-ne3-clause-ok
returns-else-version-ne3-clause-ok g c = lengthens-zeroed g.S.Storage c.args.size c.args.preallocate c.in-Some.ensures.none c.args.created.now
    c.grow_zeroed.new.self c.grow_zeroed.result c.grow_zeroed.ensures

pub returns-else-version-ne3-clause-err : goal.returns-else-version-ne3-clause-err
returns-else-version-ne3-clause-err g c = unzeroed g.S.Storage c.args.size c.args.preallocate c.args.created.now c.grow_zeroed.new.self
    c.in-Some.ensures.none c.grow_zeroed.result c.grow_zeroed.ensures.resizes.cause
