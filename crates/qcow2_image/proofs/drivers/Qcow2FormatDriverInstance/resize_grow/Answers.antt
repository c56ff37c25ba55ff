use Rattle.std.proofs.Common.{◌≡◌, ℕ, ◌<◌, ◌≤◌, refl, subst}
use Rattle.std.specs.Prelude.{⊤}
use Rattle.imago_access.specs.Files.{HadNoResourceError}
use Rattle.imago_access.proofs.Looking.{looked_under_same}
use Rattle.qcow2_alloc.proofs.Faults.{handed-on}
use Rattle.qcow2_image.specs.HeldHomes.{none-held, none-unspent}
use Rattle.qcow2_image.specs.Resizing.{LacksL1}
use Rattle.qcow2_image.specs.Seen.{layer_of}
use Rattle.qcow2_image.specs.Unspent.{holding_in}
use Rattle.qcow2_image.proofs.CallsWithoutChanges.{failed-barrier, runs-barrier, resizes-failed, resizes-idle, resizes-declined, grows-idle, grows-refused, growth-failed, growth-idle}
use Rattle.qcow2_image.proofs.Resizes.DriverGrowths.{over-does, over-early, over-refused, over-resizes, plain-early, ungrown-not}
use Rattle.qcow2_image.proofs.Resizes.Growth.{early-closed, grow-does, grow-refused, growth-early}
use Rattle.qcow2_image.proofs.Resizes.SizeEffects.{resized-resizes}
use Rattle.qcow2_image.proofs.drivers.Qcow2FormatDriverInstance.resize_grow.Goals as goal

pub returns-then-self-clause-resizes : goal.returns-then-self-clause-resizes
returns-then-self-clause-resizes g c =
    resizes-failed _ _ _ c.args.self.now c.requires.free (failed-barrier (layer_of g.S.Storage c.args.self.now) c.if-self.true)

pub returns-then-self-clause-grows : goal.returns-then-self-clause-grows
returns-then-self-clause-grows g c = grows-refused _ _ _ _ _ _ _

pub returns-then-self-clause-unread : goal.returns-then-self-clause-unread
returns-then-self-clause-unread g c = λ _. refl

pub returns-then-self-clause-below : goal.returns-then-self-clause-below
returns-then-self-clause-below g c = looked_under_same g.B.LayersBelowModel ⊤ c.args.below.now

pub returns-then-self-clause-refused : goal.returns-then-self-clause-refused
returns-then-self-clause-refused g c =
    growth-failed _ _ _ _ c.args.self.now _ (failed-barrier (layer_of g.S.Storage c.args.self.now) c.if-self.true)

pub returns-then-self-clause-early : goal.returns-then-self-clause-early
returns-then-self-clause-early g c = λ well_formed under is. (refl, refl)

pub returns-then-size-clause-resizes : goal.returns-then-size-clause-resizes
returns-then-size-clause-resizes g c =
    resizes-idle _ _ _ c.args.self.now c.requires.free (runs-barrier (layer_of g.S.Storage c.args.self.now) c.if-self.false refl)
    (subst (λ (n : ℕ). c.args.size ≤ n) c.size.ensures c.if-size.true)

pub returns-then-size-clause-grows : goal.returns-then-size-clause-grows
returns-then-size-clause-grows g c = grows-idle _ _ _ _ c.args.self.now _ (subst (λ (n : ℕ). c.args.size ≤ n) c.size.ensures c.if-size.true)

pub returns-then-size-clause-unread : goal.returns-then-size-clause-unread
returns-then-size-clause-unread g c = λ _. refl

pub returns-then-size-clause-below : goal.returns-then-size-clause-below
returns-then-size-clause-below g c = looked_under_same g.B.LayersBelowModel ⊤ c.args.below.now

pub returns-then-size-clause-refused : goal.returns-then-size-clause-refused
returns-then-size-clause-refused g c = growth-idle _ _ _ _ _ _

pub returns-then-size-clause-early : goal.returns-then-size-clause-early
returns-then-size-clause-early g c = λ well_formed under. tt

pub returns-in_err-check_growth-clause-resizes : goal.returns-in_err-check_growth-clause-resizes
returns-in_err-check_growth-clause-resizes g c = rw (handed-on _ _ c.from_residual.ensures.1)
    (resizes-declined _ _ _ _ c.args.self.now c.requires.free (runs-barrier (layer_of g.S.Storage c.args.self.now) c.if-self.false refl)
    (subst (λ (n : ℕ). n < c.args.size) c.size.ensures c.if-size.false)
    (early-closed g.row.S g.S.Storage g.S.Storage-dict g.S.Destruct-dict g.B.LayersBelowModel c.args.below.now c.args.size c.args.mode
    c.args.self.now (subst (λ (n : ℕ). n < c.args.size) c.size.ensures c.if-size.false) c.in_err-check_growth.field-0.0
    c.in_err-check_growth.ensures.err))

pub returns-in_err-check_growth-clause-grows : goal.returns-in_err-check_growth-clause-grows
returns-in_err-check_growth-clause-grows g c = rw (handed-on _ _ c.from_residual.ensures.1) (grows-refused _ _ _ _ _ _ _)

pub returns-in_err-check_growth-clause-unread : goal.returns-in_err-check_growth-clause-unread
returns-in_err-check_growth-clause-unread g c = λ _. refl

pub returns-in_err-check_growth-clause-below : goal.returns-in_err-check_growth-clause-below
returns-in_err-check_growth-clause-below g c = looked_under_same g.B.LayersBelowModel (HadNoResourceError c.from_residual.result) c.args.below.now

pub returns-in_err-check_growth-clause-refused : goal.returns-in_err-check_growth-clause-refused
returns-in_err-check_growth-clause-refused g c = rw (handed-on _ _ c.from_residual.ensures.1)
    (growth-early g.row.S g.S.Storage g.S.Storage-dict g.S.Destruct-dict g.B.LayersBelowModel c.args.below.now c.args.size c.args.mode
    c.args.self.now (subst (λ (n : ℕ). n < c.args.size) c.size.ensures c.if-size.false) c.in_err-check_growth.field-0.0
    c.in_err-check_growth.ensures.err)

pub returns-in_err-check_growth-clause-early : goal.returns-in_err-check_growth-clause-early
returns-in_err-check_growth-clause-early g c = rw (handed-on _ _ c.from_residual.ensures.1) (λ well_formed under is. (refl, refl))

pub grow-requires-clause-free : goal.grow-requires-clause-free
grow-requires-clause-free g c =
    none-unspent g.S.Storage c.args.self.now.unspent (none-held (holding_in g.S.Storage c.args.self.now.unspent) c.requires.free)

pub grow_over-requires-clause-free : goal.grow_over-requires-clause-free
grow_over-requires-clause-free g c =
    none-unspent g.S.Storage c.args.self.now.unspent (none-held (holding_in g.S.Storage c.args.self.now.unspent) c.requires.free)

pub grow_over-requires-clause-possible : goal.grow_over-requires-clause-possible
grow_over-requires-clause-possible g c = c.in-Some.ensures.possible c.args.self.now.tables.file.header.fields.version
    c.in_ok-check_growth.ensures.possible

pub returns-in-None-clause-resizes : goal.returns-in-None-clause-resizes
returns-in-None-clause-resizes g c = resized-resizes g.row.S g.S.Storage g.S.Storage-dict g.S.Destruct-dict (λ guest. ⊥) c.args.size
    (LacksL1 g.S.Storage c.args.self.now c.args.size) c.args.self.now c.grow.new.self c.grow.result c.grow.ensures.grows c.args.size
    c.args.self.now.tables.file.header.fields.size c.requires.free (runs-barrier (layer_of g.S.Storage c.args.self.now) c.if-self.false refl)
    (subst (λ (n : ℕ). n < c.args.size) c.size.ensures c.if-size.false) c.in_ok-check_growth.ensures.ok.0

pub returns-in-None-clause-grows : goal.returns-in-None-clause-grows
returns-in-None-clause-grows g c =
    grow-does g.row.S g.S.Storage g.S.Storage-dict g.S.Destruct-dict g.B.LayersBelowModel c.args.below.now c.args.size
    c.args.mode c.args.self.now c.grow.new.self c.grow.result c.grow.ensures.grows
    (subst (λ (n : ℕ). n < c.args.size) c.size.ensures c.if-size.false) c.in-None.ensures.none

pub returns-in-None-clause-unread : goal.returns-in-None-clause-unread
returns-in-None-clause-unread g c = λ _. refl

pub returns-in-None-clause-below : goal.returns-in-None-clause-below
returns-in-None-clause-below g c = looked_under_same g.B.LayersBelowModel (HadNoResourceError c.grow.result) c.args.below.now

pub returns-in-None-clause-refused : goal.returns-in-None-clause-refused
returns-in-None-clause-refused g c =
    grow-refused g.row.S g.S.Storage g.S.Storage-dict g.S.Destruct-dict g.B.LayersBelowModel c.args.below.now
    c.args.size c.args.mode c.args.self.now c.grow.new.self c.grow.result c.grow.ensures.grows
    (subst (λ (n : ℕ). n < c.args.size) c.size.ensures c.if-size.false) c.in-None.ensures.none

pub returns-in-None-clause-early : goal.returns-in-None-clause-early
returns-in-None-clause-early g c = λ well_formed under.
    plain-early g.S.Storage (LacksL1 g.S.Storage c.args.self.now c.args.size) c.args.self.now c.grow.new.self
    ((c.grow.new.self ≡ c.args.self.now) × (c.args.below.now ≡ c.args.below.now)) c.grow.result c.grow.ensures.grows.cause

pub returns-in-Some-clause-resizes : goal.returns-in-Some-clause-resizes
returns-in-Some-clause-resizes g c =
    over-resizes g.row.S g.S.Storage g.S.Storage-dict g.S.Destruct-dict g.B.LayersBelowModel c.args.size c.args.mode
    c.args.self.now c.grow_over.new.self c.args.below.now c.grow_over.new.below c.grow_over.result c.grow_over.ensures
    (subst (λ (n : ℕ). n < c.args.size) c.size.ensures c.if-size.false) c.requires.free
    (runs-barrier (layer_of g.S.Storage c.args.self.now) c.if-self.false refl) c.in_ok-check_growth.ensures.ok.0

pub returns-in-Some-clause-grows : goal.returns-in-Some-clause-grows
returns-in-Some-clause-grows g c =
    over-does g.row.S g.S.Storage g.S.Storage-dict g.S.Destruct-dict g.B.LayersBelowModel c.args.size c.args.mode
    c.args.self.now c.grow_over.new.self c.args.below.now c.grow_over.new.below c.grow_over.result c.grow_over.ensures
    (subst (λ (n : ℕ). n < c.args.size) c.size.ensures c.if-size.false) c.in-Some.ensures.none

pub returns-in-Some-clause-unread : goal.returns-in-Some-clause-unread
returns-in-Some-clause-unread g c = λ idle. ungrown-not (layer_of g.S.Storage c.args.self.now) c.args.size
    (subst (λ (n : ℕ). n < c.args.size) c.size.ensures c.if-size.false)
    (runs-barrier (layer_of g.S.Storage c.args.self.now) c.if-self.false refl) c.in_ok-check_growth.ensures.ok.0 idle

pub returns-in-Some-clause-below : goal.returns-in-Some-clause-below
returns-in-Some-clause-below g c = c.grow_over.ensures.below

pub returns-in-Some-clause-refused : goal.returns-in-Some-clause-refused
returns-in-Some-clause-refused g c =
    over-refused g.row.S g.S.Storage g.S.Storage-dict g.S.Destruct-dict g.B.LayersBelowModel c.args.size c.args.mode
    c.args.self.now c.grow_over.new.self c.args.below.now c.grow_over.new.below c.grow_over.result c.grow_over.ensures
    (subst (λ (n : ℕ). n < c.args.size) c.size.ensures c.if-size.false) c.in-Some.ensures.none

pub returns-in-Some-clause-early : goal.returns-in-Some-clause-early
returns-in-Some-clause-early g c =
    over-early g.row.S g.S.Storage g.S.Storage-dict g.S.Destruct-dict g.B.LayersBelowModel c.args.size c.args.mode
    c.args.self.now c.grow_over.new.self c.args.below.now c.grow_over.new.below c.grow_over.result c.grow_over.ensures
    (subst (λ (n : ℕ). n < c.args.size) c.size.ensures c.if-size.false)
