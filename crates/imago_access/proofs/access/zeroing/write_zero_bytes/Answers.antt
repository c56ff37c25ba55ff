use Rattle.std.proofs.Common.{◌≡◌, ◌+◌, ◌-◌, ◌∷◌, ◌++◌, ℕ, List, arith, ◌<◌, inl, inr, subst}
use Rattle.std.specs.Prelude.{⊤}
use Rattle.imago_storage.specs.Disk.{byte}
use Rattle.imago_access.specs.Layer.{Layer}
use Rattle.imago_access.specs.Chain.{at}
use Rattle.imago_access.specs.Files.{IsNotResourceError, files}
use Rattle.imago_access.specs.Running.{IsBetween}
use Rattle.imago_access.specs.Stops.{GivesZero}
use Rattle.imago_access.proofs.Answers.{handed_on}
use Rattle.imago_access.proofs.Running.{ran_same, ran_both, ran_weaker}
use Rattle.imago_access.specs.Room.{IsApart, IsUncutAt}
use Rattle.imago_access.proofs.Uncut.{uncut_start, uncut_end, uncut_later, part_within}
use Rattle.imago_access.proofs.Room.{room_same, room_then}
use Rattle.imago_access.proofs.Zeroing.{zero_wider, zeroes_more, cause_behind}
use Rattle.imago_access.proofs.ImageCauses.{failed_then}
use Rattle.imago_access.proofs.Marking.{top_behind}
use Rattle.imago_access.proofs.access.zeroing.write_zero_bytes.Goals as goal

pub loop-done-init : goal.loop-done-init
loop-done-init g c = let d = g.D.DriverModel in let b = g.B.LayersBelowModel in record {
  inside = omega arith;
  free = c.requires.free;
  uncut = λ i. subst (IsUncutAt (d.layer c.args.driver.now).fixed.unit (d.layer c.args.driver.now).size c.args.offset c.args.n) (omega arith) (uncut_start (d.layer c.args.driver.now).fixed.unit (d.layer c.args.driver.now).size c.args.offset c.args.n);
  shown = λ i p there. absurd (omega (arith, there.0, there.1));
  takes = λ i. room_same d (λ _. ⊤) (IsApart (d.layer c.args.driver.now).fixed.unit c.args.offset c.args.n) c.args.driver.now;
  range_change = ran_same d b ⊤ (GivesZero c.args.offset c.args.n) c.args.driver.now c.args.below.now;
  began = λ e call begun part. begun;
}

pub loop-done-preserved : goal.loop-done-preserved
loop-done-preserved g c = let count = c.in_ok-done.field-0 in let d = g.D.DriverModel in let b = g.B.LayersBelowModel in let l = c.loop-done.invariant in
    let done = c.loop-done.done in let rest = c.args.n - done in
    let y0 = c.args.driver.now in let y1 = c.loop-done.driver in let y2 = c.write_zero_run.new.driver in let x0 = c.args.below.now in let x1 = c.loop-done.below in let x2 = c.write_zero_run.new.below in
    let gives = zero_wider c.args.offset c.args.n (c.args.offset + done) rest (omega arith) (omega (arith, l.inside)) in
    let ran = ran_both d b ⊤ (GivesZero c.args.offset c.args.n) (GivesZero (c.args.offset + done) rest) (GivesZero c.args.offset c.args.n) y0 y1 y2 x0 x1 x2 (λ p v gave. gave) gives l.range_change
    (ran_weaker d b ⊤ ⊤ (GivesZero (c.args.offset + done) rest) y1 y2 x1 x2 (λ h. h) c.in_ok-done.ensures.does.range_change) in
    record {
      inside = omega (arith, c.in_ok-done.ensures.run.1, l.inside);
      free = c.in_ok-done.ensures.free;
      shown = λ i.
          let mid = l.range_change.intact tt i in
          let same : b.layers_below x1 ≡ b.layers_below x0 = (l.range_change.lookup_call.stays tt i.is_coherent).0 in
          let between = subst (λ (below : List Layer). IsBetween (GivesZero (c.args.offset + done) rest) below (d.layer y1) (d.layer y2)) same (c.in_ok-done.ensures.does.range_change.values tt mid) in
          zeroes_more (b.layers_below x0) (d.layer y1) (d.layer y2) c.args.offset done count c.args.offset c.args.n c.in_ok-done.ensures.does.range_change.size
          (λ p low. elim (between p low) [ inl was ↦ inl was | inr gave ↦ inr (gives p (at (d.layer y2 ∷ b.layers_below x0) p) gave) ])
          (l.shown i)
          (λ p there.
          let k = p - (c.args.offset + done) in
          let is : c.args.offset + done + k ≡ p = omega (arith, there.0) in
          subst (λ (q : ℕ). at (d.layer y2 ∷ b.layers_below x0) q ≡ byte 0) is (subst (λ (below : List Layer). (j : ℕ) → j < count → at (d.layer y2 ∷ below) (c.args.offset + done + j) ≡ byte 0) same (c.in_ok-done.ensures.shown mid) k (omega (arith, there.0, there.1))));
      uncut = λ i.
          let unit = (d.layer y0).fixed.unit in let size = (d.layer y0).size in let start = c.args.offset + done in
          let left : rest ≡ c.args.offset + c.args.n - start = omega (arith, l.inside) in
          let next : start + count ≡ c.args.offset + (done + count) = omega arith in
          subst (IsUncutAt unit size c.args.offset c.args.n) next
          (uncut_later (d.layer y0) (d.layer y1) c.args.offset c.args.n start (start + count) l.range_change.mutating_call.fixed l.range_change.size (omega arith) (l.uncut i)
          (subst (λ (m : ℕ). IsUncutAt (d.layer y1).fixed.unit (d.layer y1).size start m (start + count)) left (c.in_ok-done.ensures.uncut (l.range_change.intact tt i))));
      takes = λ i. room_then d (λ _. ⊤) (λ _. ⊤) c.args.offset c.args.n (c.args.offset + done) rest y0 y1 y2 l.range_change.mutating_call.fixed (omega arith) (omega (arith, l.inside)) (λ p there. tt) (l.takes i) (c.in_ok-done.ensures.does.room (l.range_change.intact tt i) tt);
      range_change = ran;
      began = λ e call begun part. c.in_ok-done.ensures.does.stays_begun e call (l.began e call begun part) (record { start = omega (arith, part.start); end = omega (arith, part.end, l.inside) }) tt;
    }

pub returns-in_err-done-clause-does : goal.returns-in_err-done-clause-does
returns-in_err-done-clause-does g c = rw (handed_on _ _ c.from_residual.ensures.1) (record {
  range_change = let d = g.D.DriverModel in let b = g.B.LayersBelowModel in let l = c.loop-done.invariant in
      let done = c.loop-done.done in let rest = c.args.n - done in
      let y0 = c.args.driver.now in let y1 = c.loop-done.driver in let y2 = c.write_zero_run.new.driver in let x0 = c.args.below.now in let x1 = c.loop-done.below in let x2 = c.write_zero_run.new.below in
      let gives = zero_wider c.args.offset c.args.n (c.args.offset + done) rest (omega arith) (omega (arith, l.inside)) in
      ran_both d b (IsNotResourceError c.in_err-done.field-0.0) (GivesZero c.args.offset c.args.n) (GivesZero (c.args.offset + done) rest) (GivesZero c.args.offset c.args.n) y0 y1 y2 x0 x1 x2 (λ p v gave. gave) gives l.range_change c.in_err-done.ensures.does.range_change;
  room = λ i not_resource_error. let d = g.D.DriverModel in let b = g.B.LayersBelowModel in let l = c.loop-done.invariant in
      let done = c.loop-done.done in let rest = c.args.n - done in
      let y0 = c.args.driver.now in let y1 = c.loop-done.driver in let y2 = c.write_zero_run.new.driver in let x0 = c.args.below.now in let x1 = c.loop-done.below in let x2 = c.write_zero_run.new.below in
      room_then d (λ _. ⊤) (λ _. ⊤) c.args.offset c.args.n (c.args.offset + done) rest y0 y1 y2 l.range_change.mutating_call.fixed (omega arith) (omega (arith, l.inside)) (λ p there. tt) (l.takes i) (c.in_err-done.ensures.does.room (l.range_change.intact tt i) not_resource_error);
  stays_begun = λ e call begun part kind. tt;
})

pub returns-in_err-done-clause-refused : goal.returns-in_err-done-clause-refused
returns-in_err-done-clause-refused g c = rw (handed_on _ _ c.from_residual.ensures.1) (record {
  failed = let d = g.D.DriverModel in let b = g.B.LayersBelowModel in let l = c.loop-done.invariant in
      let y0 = c.args.driver.now in let y1 = c.loop-done.driver in let y2 = c.write_zero_run.new.driver in
      failed_then (files d y0) (files d y1) (files d y2) (b.files_of_layers_below c.args.below.now) (b.files_of_layers_below c.loop-done.below) (b.files_of_layers_below c.write_zero_run.new.below) c.in_err-done.field-0.0 l.range_change.mutating_call.counts_not_fallen l.range_change.lookup_call.counts_not_fallen c.in_err-done.ensures.refused.failed;
  marks_failed = let d = g.D.DriverModel in let b = g.B.LayersBelowModel in let l = c.loop-done.invariant in
      top_behind d b c.args.driver.now c.loop-done.driver c.write_zero_run.new.driver c.args.below.now c.loop-done.below c.write_zero_run.new.below c.in_err-done.field-0.0 l.range_change.mutating_call.fixed (l.range_change.mutating_call.faults tt) (l.range_change.intact tt) c.in_err-done.ensures.refused.marks_failed;
  cause = λ i e call begun part says. let d = g.D.DriverModel in let b = g.B.LayersBelowModel in let l = c.loop-done.invariant in
      let done = c.loop-done.done in let rest = c.args.n - done in
      let y0 = c.args.driver.now in let y1 = c.loop-done.driver in let y2 = c.write_zero_run.new.driver in let x0 = c.args.below.now in let x1 = c.loop-done.below in let x2 = c.write_zero_run.new.below in
      cause_behind d b g.met.D.FormatDriverInstance.well_formed_is_usable g.met.D.FormatDriverInstance.aligned (GivesZero c.args.offset c.args.n) c.args.offset c.args.n (c.args.offset + done) rest y0 y1 x0 x1 (files d y2 ++ b.files_of_layers_below x2)
      (λ below. d.own_cause e below call) c.in_err-done.field-0.0 (omega arith) (omega (arith, l.inside)) l.range_change i
      (c.in_err-done.ensures.refused.cause (l.range_change.intact tt i) e call (l.began e call begun part.part)
      (part_within (d.layer y0) (d.layer y1) call c.args.offset c.args.n (c.args.offset + done) rest l.range_change.mutating_call.fixed l.range_change.size (omega arith) (omega (arith, l.inside)) (l.uncut i)
      (uncut_end (d.layer y0).fixed.unit (d.layer y0).size c.args.offset c.args.n (c.args.offset + done + rest) (omega (arith, l.inside))) part) says);
})

pub returns-clause-does : goal.returns-clause-does
returns-clause-does g c = record {
  range_change = c.loop-done.invariant.range_change;
  room = λ i whole. c.loop-done.invariant.takes i;
  stays_begun = λ e call begun part kind. c.loop-done.invariant.began e call begun part;
}

pub returns-clause-refused : goal.returns-clause-refused
returns-clause-refused g c = record {
  failed = tt;
  marks_failed = tt;
  cause = λ i e call begun part says. tt;
}
