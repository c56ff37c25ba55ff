use Rattle.std.proofs.Common.{arith, refl, subst, sym, ◌∙◌, ◌+◌, Ok, Err, map}
use Rattle.std.proofs.lemmas.Grind.{common_steps}
use Rattle.imago_access.specs.Committing.{TakesOwn}
use Rattle.imago_access.specs.Layer.{Layer}
use Rattle.imago_access.specs.Layers.{chain}
use Rattle.std.specs.Prelude.{⊤}
use Rattle.imago_access.proofs.Answers.{handed_on}
use Rattle.imago_access.proofs.Committing.{copies_unwritten, copies_both, copies_ok, copies_err, may_on}
use Rattle.imago_access.proofs.Looking.{looked_same}
use Rattle.imago_access.proofs.access.committing.copy_down.Goals as goal

pub loop-done-init : goal.loop-done-init
loop-done-init g c = let d = g.D.DriverModel in record {
  inside = omega arith;
  copies = copies_unwritten d (Ok tt) c.args.driver.now c.args.driver.now c.args.next.now (looked_same d ⊤ c.args.driver.now) tt (λ see. tt);
  taken = λ may p v low is. absurd (omega (arith, low));
  begun = λ is. refl;
}

pub copy_run-requires-clause-free : goal.copy_run-requires-clause-free
copy_run-requires-clause-free g c = c.loop-done.invariant.copies.keeps_layer_state.unspent ∙ c.requires.free

pub loop-done-preserved : goal.loop-done-preserved
loop-done-preserved g c = let d = g.D.DriverModel in let m = g.met.D.FormatDriverInstance in let l = c.loop-done.invariant in let n = c.in_ok-done.field-0 in let e = c.in_ok-done.ensures in
    let a = c.args.driver.now in let x = c.args.next.now in let b = c.loop-done.driver in let y = c.loop-done.next in let z = c.copy_run.new.next in
    record {
      inside = grind (arith, common_steps);
      copies = copies_both d m.well_formed_is_coherent m.well_formed_is_usable tt (Ok tt) a b c.copy_run.new.driver x y z l.copies (copies_ok d n tt b c.copy_run.new.driver y z e.copies);
      taken = λ may.
          let on = may_on d m.well_formed_is_coherent m.well_formed_is_usable (Ok tt) a b x y tt l.copies may in
          let same = (l.copies.top.stays tt may.is_coherent).0 in
          subst (λ (layer : Layer). TakesOwn layer (c.loop-done.done + n) (map d.layer (chain z))) same
          (e.taken on (subst (λ (layer : Layer). TakesOwn layer c.loop-done.done (map d.layer (chain y))) (sym same) (l.taken may)));
      begun = λ is. let before = e.begun is in before.1 ∙ l.begun before.0;
    }

pub returns-in_err-done-clause-copies : goal.returns-in_err-done-clause-copies
returns-in_err-done-clause-copies g c = rw (handed_on _ _ c.from_residual.ensures.1) (let d = g.D.DriverModel in let m = g.met.D.FormatDriverInstance in
    copies_both d m.well_formed_is_coherent m.well_formed_is_usable tt (Err c.in_err-done.field-0.0) c.args.driver.now c.loop-done.driver c.copy_run.new.driver c.args.next.now c.loop-done.next c.copy_run.new.next c.loop-done.invariant.copies (copies_err d c.in_err-done.field-0.0 c.loop-done.driver c.copy_run.new.driver c.loop-done.next c.copy_run.new.next c.in_err-done.ensures.copies))

pub returns-in_err-done-clause-begun : goal.returns-in_err-done-clause-begun
returns-in_err-done-clause-begun g c = λ is. let before = c.in_err-done.ensures.begun is in before.1 ∙ c.loop-done.invariant.begun before.0

pub returns-clause-copies : goal.returns-clause-copies
returns-clause-copies g c = c.loop-done.invariant.copies

pub returns-clause-taken : goal.returns-clause-taken
returns-clause-taken g c = λ may p v low is. c.loop-done.invariant.taken may p v (omega (arith, low, c.loop-done-test.false, c.size-size.ensures)) is

pub returns-clause-begun : goal.returns-clause-begun
returns-clause-begun g c = c.loop-done.invariant.begun
