use Rattle.std.proofs.Common.{ℕ, ◌<◌, ◌≤◌, refl, subst}
use Rattle.qcow2_image.specs.HeldHomes.{none-held, none-unspent}
use Rattle.qcow2_image.specs.Resizing.{LacksSomeTable}
use Rattle.qcow2_image.specs.Seen.{layer_of}
use Rattle.qcow2_image.specs.Unspent.{holding_in}
use Rattle.qcow2_image.proofs.CallsWithoutChanges.{failed-barrier, runs-barrier, resizes-failed, resizes-idle, resizes-declined, shrinks-idle, shrinks-refused, shrink-failed, shrink-idle, shrink-closed}
use Rattle.qcow2_image.proofs.Resizes.Shrinking.{shrink-does, shrink-refused}
use Rattle.qcow2_image.proofs.Resizes.SizeEffects.{resized-resizes}
use Rattle.qcow2_image.proofs.drivers.Qcow2FormatDriverInstance.resize_shrink.Goals as goal

pub returns-then-self-clause-resizes : goal.returns-then-self-clause-resizes
returns-then-self-clause-resizes g c =
    resizes-failed _ _ _ c.args.self.now c.requires.free (failed-barrier (layer_of g.S.Storage c.args.self.now) c.if-self.true)

pub returns-then-self-clause-shrinks : goal.returns-then-self-clause-shrinks
returns-then-self-clause-shrinks g c = shrinks-refused _ _ _ _

pub returns-then-self-clause-refused : goal.returns-then-self-clause-refused
returns-then-self-clause-refused g c =
    shrink-failed _ _ c.args.self.now (failed-barrier (layer_of g.S.Storage c.args.self.now) c.if-self.true)

pub returns-then-size-clause-resizes : goal.returns-then-size-clause-resizes
returns-then-size-clause-resizes g c =
    resizes-idle _ _ _ c.args.self.now c.requires.free (runs-barrier (layer_of g.S.Storage c.args.self.now) c.if-self.false refl)
    (subst (λ (n : ℕ). n ≤ c.args.size) c.size.ensures c.if-size.true)

pub returns-then-size-clause-shrinks : goal.returns-then-size-clause-shrinks
returns-then-size-clause-shrinks g c = shrinks-idle _ _ c.args.self.now (subst (λ (n : ℕ). n ≤ c.args.size) c.size.ensures c.if-size.true)

pub returns-then-size-clause-refused : goal.returns-then-size-clause-refused
returns-then-size-clause-refused g c = shrink-idle _ _ _

pub returns-then-not-self-clause-resizes : goal.returns-then-not-self-clause-resizes
returns-then-not-self-clause-resizes g c =
    resizes-declined _ _ _ _ c.args.self.now c.requires.free (runs-barrier (layer_of g.S.Storage c.args.self.now) c.if-self.false refl)
    (subst (λ (n : ℕ). c.args.size < n) c.size.ensures c.if-size.false) (λ closed. refl)

pub returns-then-not-self-clause-shrinks : goal.returns-then-not-self-clause-shrinks
returns-then-not-self-clause-shrinks g c = shrinks-refused _ _ _ _

pub returns-then-not-self-clause-refused : goal.returns-then-not-self-clause-refused
returns-then-not-self-clause-refused g c =
    shrink-closed _ _ c.args.self.now (subst (λ (n : ℕ). c.args.size < n) c.size.ensures c.if-size.false) c.if-not-self.true

pub shrink-requires-clause-free : goal.shrink-requires-clause-free
shrink-requires-clause-free g c =
    none-unspent g.S.Storage c.args.self.now.unspent (none-held (holding_in g.S.Storage c.args.self.now.unspent) c.requires.free)

pub returns-clause-resizes : goal.returns-clause-resizes
returns-clause-resizes g c =
    let s = c.shrink.ensures in
    resized-resizes g.row.S g.S.Storage g.S.Storage-dict g.S.Destruct-dict (λ guest. s.first ≤ guest) c.args.size
    (LacksSomeTable g.S.Storage s.first s.last c.args.self.now) c.args.self.now c.shrink.new.self c.shrink.result s.resizes
    c.args.self.now.tables.file.header.fields.size c.args.size c.requires.free (runs-barrier (layer_of g.S.Storage c.args.self.now) c.if-self.false refl)
    (subst (λ (n : ℕ). c.args.size < n) c.size.ensures c.if-size.false) c.if-not-self.false

pub returns-clause-shrinks : goal.returns-clause-shrinks
returns-clause-shrinks g c = shrink-does g.row.S g.S.Storage g.S.Storage-dict g.S.Destruct-dict c.args.size c.args.self.now c.shrink.new.self
    c.shrink.result c.shrink.ensures (subst (λ (n : ℕ). c.args.size < n) c.size.ensures c.if-size.false)

pub returns-clause-refused : goal.returns-clause-refused
returns-clause-refused g c = shrink-refused g.row.S g.S.Storage g.S.Storage-dict g.S.Destruct-dict c.args.size c.args.self.now c.shrink.new.self
    c.shrink.result c.shrink.ensures (subst (λ (n : ℕ). c.args.size < n) c.size.ensures c.if-size.false)
    (none-unspent g.S.Storage c.args.self.now.unspent (none-held (holding_in g.S.Storage c.args.self.now.unspent) c.requires.free))
