use Rattle.std.proofs.Common.{◌≡◌, ◌+◌, ◌<◌, ◌≤◌, inl, inr, ℕ, Ok, Err, length, arith, refl, subst}
use Rattle.std.specs.Prelude.{take}
use Rattle.std.proofs.lemmas.Grind.{common_steps}
use Rattle.imago_access.proofs.Answers.{handed_on}
use Rattle.qimg_calls.specs.Flattening.{Copies, CopiesInPart, PieceCause}
use Rattle.qimg_calls.proofs.Copying.{copies_next, copies_same, copies_wider, may_before, next_more, next_piece, pair_behind, some_left}
use Rattle.qimg_calls.proofs.flattening.copy_all.Goals as goal

pub loop-done-init : goal.loop-done-init
loop-done-init g c = record {
  inside = omega arith;
  more = inl refl;
  start = (0, refl);
  copies = copies_same g.S.DriverModel g.T.DriverModel 0 (c.args.source.now, c.args.target.now);
}

pub returns-in_err-copy_piece-clause-copies : goal.returns-in_err-copy_piece-clause-copies
returns-in_err-copy_piece-clause-copies g c = rw (handed_on _ _ c.from_residual.ensures.1) (
    let l = c.loop-done.invariant in
    let n = c.min-n.result in
    let long : length (take n c.loop-done.buf) ≡ n = grind (arith, common_steps) in
    let fits : c.loop-done.done + n ≤ (g.S.DriverModel.layer c.args.source.now.0).size = grind (arith, common_steps) in
    let target : c.loop-done.done ≤ (g.T.DriverModel.layer c.args.target.now.0).size = grind (arith, common_steps) in
    copies_wider g.S.DriverModel g.T.DriverModel c.in_err-copy_piece.field-0.0 0 (c.loop-done.done + n) (g.S.DriverModel.layer c.args.source.now.0).size (c.args.source.now, c.args.target.now) (c.copy_piece.new.source, c.copy_piece.new.target) fits
    (copies_next g.S.DriverModel g.T.DriverModel g.met.S.FormatDriverInstance.well_formed_is_coherent (Err c.in_err-copy_piece.field-0.0) (c.args.source.now, c.args.target.now) (c.loop-done.source, c.loop-done.target) (c.copy_piece.new.source, c.copy_piece.new.target) c.loop-done.done n target l.copies (rw (long) at c.in_err-copy_piece.ensures.copies)))

pub returns-in_err-copy_piece-clause-cause : goal.returns-in_err-copy_piece-clause-cause
returns-in_err-copy_piece-clause-cause g c = rw (handed_on _ _ c.from_residual.ensures.1) (λ pair.
    let l = c.loop-done.invariant in
    let n = c.min-n.result in
    let long : length (take n c.loop-done.buf) ≡ n = grind (arith, common_steps) in
    let behind = pair_behind g.S.DriverModel g.T.DriverModel g.met.S.FormatDriverInstance.well_formed_is_coherent (c.args.source.now, c.args.target.now) (c.loop-done.source, c.loop-done.target) 0 c.loop-done.done l.copies pair in
    record {
      offset = c.loop-done.done;
      n = n;
      piece = record { index = l.start.0; start = l.start.1; inside = omega (arith, l.inside, c.size-size.ensures); long = rw (← c.size-size.ensures) c.min-n.ensures };
      mid = (c.loop-done.source, c.loop-done.target);
      before = l.copies;
      cause = subst (λ (m : ℕ). PieceCause g.S.DriverModel g.T.DriverModel c.loop-done.done m (c.loop-done.source, c.loop-done.target) (c.copy_piece.new.source, c.copy_piece.new.target) c.in_err-copy_piece.field-0.0) long (c.in_err-copy_piece.ensures.cause behind);
      copied_in_part = λ not_resource_error. subst (λ (m : ℕ). CopiesInPart g.S.DriverModel g.T.DriverModel c.loop-done.done m (c.loop-done.source, c.loop-done.target) c.copy_piece.new.target) long (c.in_err-copy_piece.ensures.part behind not_resource_error);
    })

pub returns-then-done-size-clause-copies : goal.returns-then-done-size-clause-copies
returns-then-done-size-clause-copies g c =
    let l = c.loop-done.invariant in
    let n = c.min-n.result in
    let long : length (take n c.loop-done.buf) ≡ n = grind (arith, common_steps) in
    let target : c.loop-done.done ≤ (g.T.DriverModel.layer c.args.target.now.0).size = grind (arith, common_steps) in
    let all : c.loop-done.done + n ≡ (g.S.DriverModel.layer c.args.source.now.0).size = grind (arith, common_steps) in
    subst (λ (m : ℕ). Copies g.S.DriverModel g.T.DriverModel 0 m (Ok tt) (c.args.source.now, c.args.target.now) (c.copy_piece.new.source, c.copy_piece.new.target)) all
    (copies_next g.S.DriverModel g.T.DriverModel g.met.S.FormatDriverInstance.well_formed_is_coherent (Ok tt) (c.args.source.now, c.args.target.now) (c.loop-done.source, c.loop-done.target) (c.copy_piece.new.source, c.copy_piece.new.target) c.loop-done.done n target l.copies (rw (long) at c.in_ok-copy_piece.ensures.copies))

pub loop-done-preserved : goal.loop-done-preserved
loop-done-preserved g c =
    let l = c.loop-done.invariant in
    let n = c.min-n.result in
    let long : length (take n c.loop-done.buf) ≡ n = grind (arith, common_steps) in
    let target : c.loop-done.done ≤ (g.T.DriverModel.layer c.args.target.now.0).size = grind (arith, common_steps) in
    record {
      inside = grind (arith, common_steps);
      more = inr (next_more c.size-size.result c.loop-done.done n l.inside c.min-n.ensures c.if-done-size.false);
      start = next_piece c.size-size.result c.loop-done.done n l.start.0 l.inside l.start.1 c.min-n.ensures c.if-done-size.false;
      copies = copies_next g.S.DriverModel g.T.DriverModel g.met.S.FormatDriverInstance.well_formed_is_coherent (Ok tt) (c.args.source.now, c.args.target.now) (c.loop-done.source, c.loop-done.target) (c.copy_piece.new.source, c.copy_piece.new.target) c.loop-done.done n target l.copies (rw (long) at c.in_ok-copy_piece.ensures.copies);
    }

pub returns-then-done-size-clause-usable : goal.returns-then-done-size-clause-usable
returns-then-done-size-clause-usable g c =
    let l = c.loop-done.invariant in
    let n = c.min-n.result in
    let long : length (take n c.loop-done.buf) ≡ n = grind (arith, common_steps) in
    let some : 0 < (g.S.DriverModel.layer c.args.source.now.0).size → 0 < n = some_left (g.S.DriverModel.layer c.args.source.now.0).size c.loop-done.done n (rw (← c.size-size.ensures) l.more) (rw (← c.size-size.ensures) c.min-n.ensures) in
    may_before g.S.DriverModel g.T.DriverModel (c.args.source.now, c.args.target.now) (c.loop-done.source, c.loop-done.target) c.loop-done.done n (g.S.DriverModel.layer c.args.source.now.0).size l.copies some (rw (long) at c.in_ok-copy_piece.ensures.usable)
