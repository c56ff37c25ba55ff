-- The whole units are zeroed first, then the parts before and after them are written.
use Rattle.std.proofs.Common.{arith, ◌≡◌, ◌+◌, ◌-◌, ◌++◌, ℕ, length, replicate, subst}
use Rattle.std.proofs.lemmas.Result.{on_ok_weaker, IfErr-weaker}
use Rattle.imago_storage.specs.State.{IsUnitRange}
use Rattle.imago_storage.specs.Through.{PaddedWriteFailed}
use Rattle.imago_storage.specs.Zeroings.{UnlessLeft}
use Rattle.imago_storage.proofs.Parts.{passed}
use Rattle.imago_storage.proofs.Wholes.{between-whole, behind-whole, none-whole}
use Rattle.imago_storage.proofs.ZeroSteps.{mid-left, head-left, all-through, tail-left, front, back, parts-all, start-at, end-at}
use Rattle.imago_storage.proofs.zeroing.zero_around.Goals as goal

pub returns-in_err-zero_whole-clause-err : goal.returns-in_err-zero_whole-clause-err
returns-in_err-zero_whole-clause-err g c =
    let s = g.S.Storage.state in
    let low : c.args.middle.0 - length c.args.first.now + length c.args.first.now ≡ c.args.middle.0 = omega (arith, c.requires.low) in
    passed c.from_residual.result (UnlessLeft c.args.zeroing (s c.args.storage.now) (s c.zero_whole.new.storage)
    (PaddedWriteFailed c.args.unit (s c.args.storage.now) (s c.zero_whole.new.storage) (c.args.middle.0 - length c.args.first.now) (c.args.first.now ++ replicate {A = ℕ} (c.args.middle.1 - c.args.middle.0) 0 ++ c.args.last.now)))
    c.in_err-zero_whole.field-0.0 c.from_residual.ensures.1
    (mid-left c.args.unit c.requires.alignment.positive (c.args.middle.0 - length c.args.first.now) c.args.whole.0 c.args.whole.1 (front c.args.first.now c.args.last.now c.args.middle.0 c.args.middle.1 c.args.whole.0 c.args.whole.1 c.requires.before c.requires.nonempty c.requires.ends_inside) (replicate {A = ℕ} (c.args.whole.1 - c.args.whole.0) 0) (back c.args.first.now c.args.last.now c.args.middle.0 c.args.middle.1 c.args.whole.0 c.args.whole.1 c.requires.before c.requires.nonempty c.requires.ends_inside) (c.args.first.now ++ replicate {A = ℕ} (c.args.middle.1 - c.args.middle.0) 0 ++ c.args.last.now) (parts-all c.args.first.now c.args.last.now c.args.middle.0 c.args.middle.1 c.args.whole.0 c.args.whole.1 c.requires.before c.requires.nonempty c.requires.ends_inside) (start-at c.args.first.now c.args.last.now c.args.middle.0 c.args.middle.1 c.args.whole.0 c.args.whole.1 c.requires.before c.requires.nonempty c.requires.ends_inside (c.args.middle.0 - length c.args.first.now) low) (end-at c.args.first.now c.args.last.now c.args.middle.0 c.args.middle.1 c.args.whole.0 c.args.whole.1 c.requires.before c.requires.nonempty c.requires.ends_inside (c.args.middle.0 - length c.args.first.now) low) c.args.zeroing (s c.args.storage.now) (s c.zero_whole.new.storage) c.in_err-zero_whole.field-0.0 c.in_err-zero_whole.ensures.err)

pub write_edged-requires-clause-whole : goal.write_edged-requires-clause-whole
write_edged-requires-clause-whole g c =
    subst (λ (p : ℕ). IsUnitRange c.args.unit p (c.args.whole.0 - c.args.middle.0)) (let e : c.args.middle.0 ≡ c.args.middle.0 - length c.args.first.now + length c.args.first.now = omega (arith, c.requires.low) in e)
    (between-whole c.args.unit c.args.middle.0 c.args.whole.0 c.requires.before c.requires.middle.start c.requires.whole.start (omega (arith, c.requires.whole.fits)))

pub returns-in_err-write_edged-clause-err : goal.returns-in_err-write_edged-clause-err
returns-in_err-write_edged-clause-err g c =
    let s = g.S.Storage.state in
    let low : c.args.middle.0 - length c.args.first.now + length c.args.first.now ≡ c.args.middle.0 = omega (arith, c.requires.low) in
    passed c.from_residual-in_err-write_edged.result (UnlessLeft c.args.zeroing (s c.args.storage.now) (s c.write_edged.new.storage)
    (PaddedWriteFailed c.args.unit (s c.args.storage.now) (s c.write_edged.new.storage) (c.args.middle.0 - length c.args.first.now) (c.args.first.now ++ replicate {A = ℕ} (c.args.middle.1 - c.args.middle.0) 0 ++ c.args.last.now)))
    c.in_err-write_edged.field-0.0 c.from_residual-in_err-write_edged.ensures.1
    (head-left c.args.unit c.requires.alignment.positive (c.args.middle.0 - length c.args.first.now) c.args.whole.0 c.args.whole.1 (front c.args.first.now c.args.last.now c.args.middle.0 c.args.middle.1 c.args.whole.0 c.args.whole.1 c.requires.before c.requires.nonempty c.requires.ends_inside) (replicate {A = ℕ} (c.args.whole.1 - c.args.whole.0) 0) (back c.args.first.now c.args.last.now c.args.middle.0 c.args.middle.1 c.args.whole.0 c.args.whole.1 c.requires.before c.requires.nonempty c.requires.ends_inside) (c.args.first.now ++ replicate {A = ℕ} (c.args.middle.1 - c.args.middle.0) 0 ++ c.args.last.now) (parts-all c.args.first.now c.args.last.now c.args.middle.0 c.args.middle.1 c.args.whole.0 c.args.whole.1 c.requires.before c.requires.nonempty c.requires.ends_inside) (start-at c.args.first.now c.args.last.now c.args.middle.0 c.args.middle.1 c.args.whole.0 c.args.whole.1 c.requires.before c.requires.nonempty c.requires.ends_inside (c.args.middle.0 - length c.args.first.now) low) (end-at c.args.first.now c.args.last.now c.args.middle.0 c.args.middle.1 c.args.whole.0 c.args.whole.1 c.requires.before c.requires.nonempty c.requires.ends_inside (c.args.middle.0 - length c.args.first.now) low) c.args.zeroing (s c.args.storage.now) (s c.zero_whole.new.storage) (s c.write_edged.new.storage) c.in_ok-zero_whole.ensures.ok c.in_err-write_edged.field-0.0 c.in_err-write_edged.ensures.err)

pub write_edged-requires-2-clause-first : goal.write_edged-requires-2-clause-first
write_edged-requires-2-clause-first g c =
    none-whole c.args.unit c.args.whole.1 c.requires.alignment.positive (behind-whole c.args.unit c.args.whole.0 c.args.whole.1 c.requires.alignment.positive c.requires.nonempty c.requires.whole) (omega (arith, c.requires.whole.fits, c.requires.nonempty))

pub write_edged-requires-2-clause-whole : goal.write_edged-requires-2-clause-whole
write_edged-requires-2-clause-whole g c =
    let end = behind-whole c.args.unit c.args.whole.0 c.args.whole.1 c.requires.alignment.positive c.requires.nonempty c.requires.whole in
    subst (λ (p : ℕ). IsUnitRange c.args.unit p (c.args.middle.1 - c.args.whole.1)) (let e : c.args.whole.1 ≡ c.args.whole.1 + 0 = omega arith in e)
    (between-whole c.args.unit c.args.whole.1 c.args.middle.1 c.requires.ends_inside end c.requires.last.start (omega (arith, c.requires.last.fits)))

pub write_edged-requires-2-clause-last : goal.write_edged-requires-2-clause-last
write_edged-requires-2-clause-last g c =
    subst (λ (p : ℕ). IsUnitRange c.args.unit p (length c.args.last.now)) (let e : c.args.middle.1 ≡ c.args.whole.1 + 0 + (c.args.middle.1 - c.args.whole.1) = omega (arith, c.requires.ends_inside) in e) c.requires.last

pub returns-clause-ok : goal.returns-clause-ok
returns-clause-ok g c =
    let s = g.S.Storage.state in
    let low : c.args.middle.0 - length c.args.first.now + length c.args.first.now ≡ c.args.middle.0 = omega (arith, c.requires.low) in
    on_ok_weaker c.write_edged-2.result
    (all-through c.args.unit c.requires.alignment.positive (c.args.middle.0 - length c.args.first.now) c.args.whole.0 c.args.whole.1 (front c.args.first.now c.args.last.now c.args.middle.0 c.args.middle.1 c.args.whole.0 c.args.whole.1 c.requires.before c.requires.nonempty c.requires.ends_inside) (replicate {A = ℕ} (c.args.whole.1 - c.args.whole.0) 0) (back c.args.first.now c.args.last.now c.args.middle.0 c.args.middle.1 c.args.whole.0 c.args.whole.1 c.requires.before c.requires.nonempty c.requires.ends_inside) (c.args.first.now ++ replicate {A = ℕ} (c.args.middle.1 - c.args.middle.0) 0 ++ c.args.last.now) (parts-all c.args.first.now c.args.last.now c.args.middle.0 c.args.middle.1 c.args.whole.0 c.args.whole.1 c.requires.before c.requires.nonempty c.requires.ends_inside) (start-at c.args.first.now c.args.last.now c.args.middle.0 c.args.middle.1 c.args.whole.0 c.args.whole.1 c.requires.before c.requires.nonempty c.requires.ends_inside (c.args.middle.0 - length c.args.first.now) low) (end-at c.args.first.now c.args.last.now c.args.middle.0 c.args.middle.1 c.args.whole.0 c.args.whole.1 c.requires.before c.requires.nonempty c.requires.ends_inside (c.args.middle.0 - length c.args.first.now) low) c.args.zeroing (s c.args.storage.now) (s c.zero_whole.new.storage) (s c.write_edged.new.storage) c.in_ok-zero_whole.ensures.ok (s c.write_edged-2.new.storage) c.in_ok-write_edged.ensures.ok)
    c.write_edged-2.ensures.ok

pub returns-clause-err : goal.returns-clause-err
returns-clause-err g c =
    let s = g.S.Storage.state in
    let low : c.args.middle.0 - length c.args.first.now + length c.args.first.now ≡ c.args.middle.0 = omega (arith, c.requires.low) in
    IfErr-weaker c.write_edged-2.result _ _
    (λ fault. tail-left c.args.unit c.requires.alignment.positive (c.args.middle.0 - length c.args.first.now) c.args.whole.0 c.args.whole.1 (front c.args.first.now c.args.last.now c.args.middle.0 c.args.middle.1 c.args.whole.0 c.args.whole.1 c.requires.before c.requires.nonempty c.requires.ends_inside) (replicate {A = ℕ} (c.args.whole.1 - c.args.whole.0) 0) (back c.args.first.now c.args.last.now c.args.middle.0 c.args.middle.1 c.args.whole.0 c.args.whole.1 c.requires.before c.requires.nonempty c.requires.ends_inside) (c.args.first.now ++ replicate {A = ℕ} (c.args.middle.1 - c.args.middle.0) 0 ++ c.args.last.now) (parts-all c.args.first.now c.args.last.now c.args.middle.0 c.args.middle.1 c.args.whole.0 c.args.whole.1 c.requires.before c.requires.nonempty c.requires.ends_inside) (start-at c.args.first.now c.args.last.now c.args.middle.0 c.args.middle.1 c.args.whole.0 c.args.whole.1 c.requires.before c.requires.nonempty c.requires.ends_inside (c.args.middle.0 - length c.args.first.now) low) (end-at c.args.first.now c.args.last.now c.args.middle.0 c.args.middle.1 c.args.whole.0 c.args.whole.1 c.requires.before c.requires.nonempty c.requires.ends_inside (c.args.middle.0 - length c.args.first.now) low) c.args.zeroing (s c.args.storage.now) (s c.zero_whole.new.storage) (s c.write_edged.new.storage) c.in_ok-zero_whole.ensures.ok (s c.write_edged-2.new.storage) c.in_ok-write_edged.ensures.ok fault)
    c.write_edged-2.ensures.err
