use Rattle.std.proofs.Common.{◌≡◌, ◌<◌, ◌≤◌, ◌+◌, ◌∷◌, ◌++◌, ◌-◌, ℕ, List, slice_index, length, arith, refl, subst}
use Rattle.std.specs.Prelude.{⊤}
use Rattle.imago_storage.specs.Disk.{byte}
use Rattle.imago_access.specs.Layer.{Layer}
use Rattle.imago_access.specs.Chain.{at}
use Rattle.imago_access.specs.Files.{IsNotResourceError, IsLater, files}
use Rattle.imago_access.specs.Parts.{PartCause}
use Rattle.imago_access.specs.Running.{IsBetween}
use Rattle.imago_access.specs.Stops.{GivesBytes}
use Rattle.imago_access.proofs.Answers.{handed_on}
use Rattle.imago_access.proofs.ChangeCauses.{part_cause_later}
use Rattle.imago_access.proofs.FilePairs.{pairs_append}
use Rattle.imago_access.proofs.Running.{ran_same, ran_both, ran_weaker}
use Rattle.imago_access.proofs.Units.{layer_aligned}
use Rattle.imago_access.specs.Room.{IsApart, IsUncutAt}
use Rattle.imago_access.proofs.Uncut.{uncut_start, uncut_end, uncut_later, part_within}
use Rattle.imago_access.proofs.Room.{room_same, room_then}
use Rattle.imago_access.proofs.Writing.{rest_of, rest_long, gives_rest, part_rest, shown_none, shown_more}
use Rattle.imago_access.proofs.ImageCauses.{failed_then}
use Rattle.imago_access.proofs.Marking.{top_behind}
use Rattle.imago_access.proofs.access.writing.write_all.Goals as goal

pub loop-done-init : goal.loop-done-init
loop-done-init g c = let d = g.D.DriverModel in let b = g.B.LayersBelowModel in record {
  inside = omega arith;
  free = c.requires.free;
  untouched = λ none. (refl, refl);
  shown = λ i. shown_none (b.layers_below c.args.below.now) (d.layer c.args.driver.now) c.args.offset c.args.bytes.now;
  uncut = λ i. subst (IsUncutAt (d.layer c.args.driver.now).fixed.unit (d.layer c.args.driver.now).size c.args.offset (length c.args.bytes.now)) (omega arith) (uncut_start (d.layer c.args.driver.now).fixed.unit (d.layer c.args.driver.now).size c.args.offset (length c.args.bytes.now));
  room = λ i. room_same d (λ _. ⊤) (IsApart (d.layer c.args.driver.now).fixed.unit c.args.offset (length c.args.bytes.now)) c.args.driver.now;
  range_change = ran_same d b ⊤ (GivesBytes c.args.offset c.args.bytes.now) c.args.driver.now c.args.below.now;
  began = λ e call begun part. begun;
}

pub loop-done-preserved : goal.loop-done-preserved
loop-done-preserved g c = let d = g.D.DriverModel in let b = g.B.LayersBelowModel in let l = c.loop-done.invariant in let done = c.loop-done.done in let n = c.in_ok-done.field-0 in let bytes = c.args.bytes.now in
    let y0 = c.args.driver.now in let y1 = c.loop-done.driver in let y2 = c.write_run.new.driver in let x0 = c.args.below.now in let x1 = c.loop-done.below in let x2 = c.write_run.new.below in
    let fits : done + n ≤ length bytes = omega (arith, rest_long done bytes l.inside, c.in_ok-done.ensures.run.1, l.inside) in
    record {
      inside = fits;
      free = c.in_ok-done.ensures.free;
      untouched = λ none. absurd (omega (arith, none, c.loop-done-test.true));
      shown = λ i.
          let mid = l.range_change.intact tt i in
          let same : b.layers_below x1 ≡ b.layers_below x0 = (l.range_change.lookup_call.stays tt i.is_coherent).0 in
          shown_more (b.layers_below x0) (d.layer y1) (d.layer y2) c.args.offset done n bytes fits (omega (arith, c.requires.inside (omega (arith, c.loop-done-test.true)), l.range_change.size))
          (subst (λ (below : List Layer). IsBetween (GivesBytes (c.args.offset + done) (rest_of done bytes)) below (d.layer y1) (d.layer y2)) same (c.in_ok-done.ensures.does.range_change.values tt mid))
          (l.shown i)
          (subst (λ (below : List Layer). (k : ℕ) → k < n → at (d.layer y2 ∷ below) (c.args.offset + done + k) ≡ byte (slice_index (rest_of done bytes) k)) same (c.in_ok-done.ensures.shown mid));
      uncut = λ i.
          let unit = (d.layer y0).fixed.unit in let size = (d.layer y0).size in let start = c.args.offset + done in
          let rest : length (rest_of done bytes) ≡ c.args.offset + length bytes - start = omega (arith, rest_long done bytes l.inside, l.inside) in
          let next : start + n ≡ c.args.offset + (done + n) = omega arith in
          subst (IsUncutAt unit size c.args.offset (length bytes)) next
          (uncut_later (d.layer y0) (d.layer y1) c.args.offset (length bytes) start (start + n) l.range_change.mutating_call.fixed l.range_change.size (omega arith) (l.uncut i)
          (subst (λ (m : ℕ). IsUncutAt (d.layer y1).fixed.unit (d.layer y1).size start m (start + n)) rest (c.in_ok-done.ensures.uncut (l.range_change.intact tt i))));
      room = λ i. room_then d (λ _. ⊤) (λ _. ⊤) c.args.offset (length bytes) (c.args.offset + done) (length (rest_of done bytes)) y0 y1 y2 l.range_change.mutating_call.fixed (omega arith) (omega (arith, rest_long done bytes l.inside, l.inside)) (λ p there. tt) (l.room i) (c.in_ok-done.ensures.does.room (l.range_change.intact tt i) tt);
      range_change = ran_both d b ⊤ (GivesBytes c.args.offset bytes) (GivesBytes (c.args.offset + done) (rest_of done bytes)) (GivesBytes c.args.offset bytes) y0 y1 y2 x0 x1 x2 (λ p v gave. gave) (gives_rest c.args.offset done bytes l.inside) l.range_change
          (ran_weaker d b ⊤ ⊤ (GivesBytes (c.args.offset + done) (rest_of done bytes)) y1 y2 x1 x2 (λ h. h) c.in_ok-done.ensures.does.range_change);
      began = λ e call begun part. c.in_ok-done.ensures.does.stays_begun e call (l.began e call begun part) (part_rest call c.args.offset done bytes l.inside part) tt;
    }

pub returns-in_err-done-clause-does : goal.returns-in_err-done-clause-does
returns-in_err-done-clause-does g c = rw (handed_on _ _ c.from_residual.ensures.1) (record {
  range_change = let d = g.D.DriverModel in let b = g.B.LayersBelowModel in let l = c.loop-done.invariant in let done = c.loop-done.done in let bytes = c.args.bytes.now in
      ran_both d b (IsNotResourceError c.in_err-done.field-0.0) (GivesBytes c.args.offset bytes) (GivesBytes (c.args.offset + done) (rest_of done bytes)) (GivesBytes c.args.offset bytes) c.args.driver.now c.loop-done.driver c.write_run.new.driver c.args.below.now c.loop-done.below c.write_run.new.below
      (λ p v gave. gave) (gives_rest c.args.offset done bytes l.inside) l.range_change c.in_err-done.ensures.does.range_change;
  room = λ i not_resource_error. let d = g.D.DriverModel in let l = c.loop-done.invariant in let done = c.loop-done.done in let bytes = c.args.bytes.now in
      room_then d (λ _. ⊤) (λ _. ⊤) c.args.offset (length bytes) (c.args.offset + done) (length (rest_of done bytes)) c.args.driver.now c.loop-done.driver c.write_run.new.driver l.range_change.mutating_call.fixed (omega arith) (omega (arith, rest_long done bytes l.inside, l.inside)) (λ p there. tt) (l.room i) (c.in_err-done.ensures.does.room (l.range_change.intact tt i) not_resource_error);
  stays_begun = λ e call begun part kind. tt;
})

pub returns-in_err-done-clause-refused : goal.returns-in_err-done-clause-refused
returns-in_err-done-clause-refused g c = rw (handed_on _ _ c.from_residual.ensures.1) (record {
  failed = let d = g.D.DriverModel in let b = g.B.LayersBelowModel in let l = c.loop-done.invariant in
      let y0 = c.args.driver.now in let y1 = c.loop-done.driver in let y2 = c.write_run.new.driver in
      failed_then (files d y0) (files d y1) (files d y2) (b.files_of_layers_below c.args.below.now) (b.files_of_layers_below c.loop-done.below) (b.files_of_layers_below c.write_run.new.below) c.in_err-done.field-0.0 l.range_change.mutating_call.counts_not_fallen l.range_change.lookup_call.counts_not_fallen c.in_err-done.ensures.refused.failed;
  marks_failed = let d = g.D.DriverModel in let b = g.B.LayersBelowModel in let l = c.loop-done.invariant in
      top_behind d b c.args.driver.now c.loop-done.driver c.write_run.new.driver c.args.below.now c.loop-done.below c.write_run.new.below c.in_err-done.field-0.0 l.range_change.mutating_call.fixed (l.range_change.mutating_call.faults tt) (l.range_change.intact tt) c.in_err-done.ensures.refused.marks_failed;
  cause = λ i e call begun part says. let d = g.D.DriverModel in let b = g.B.LayersBelowModel in let l = c.loop-done.invariant in let done = c.loop-done.done in let bytes = c.args.bytes.now in
      let y0 = c.args.driver.now in let y1 = c.loop-done.driver in let y2 = c.write_run.new.driver in let x0 = c.args.below.now in let x1 = c.loop-done.below in let x2 = c.write_run.new.below in
      let mid = l.range_change.intact tt i in
      let same : b.layers_below x1 ≡ b.layers_below x0 = (l.range_change.lookup_call.stays tt i.is_coherent).0 in
      let long = rest_long done bytes l.inside in
      part_cause_later (b.layers_below x0) (d.layer y0) (d.layer y1) c.args.offset (length bytes) (c.args.offset + done) (length (rest_of done bytes)) (files d y0 ++ b.files_of_layers_below x0) (files d y1 ++ b.files_of_layers_below x1) (files d y2 ++ b.files_of_layers_below x2)
      l.range_change.mutating_call.fixed l.range_change.size (g.met.D.FormatDriverInstance.well_formed_is_usable y0 i.is_well_formed) (g.met.D.FormatDriverInstance.well_formed_is_usable y1 mid.is_well_formed) (layer_aligned d.layer g.met.D.FormatDriverInstance.aligned y0).positive (omega arith) (omega (arith, long, l.inside))
      (pairs_append IsLater (files d y0) (files d y1) (b.files_of_layers_below x0) (b.files_of_layers_below x1) l.range_change.mutating_call.counts_not_fallen l.range_change.lookup_call.counts_not_fallen)
      (d.own_cause e (b.layers_below x0) call) (d.own_cause e (b.layers_below x0) call) c.in_err-done.field-0.0 (λ h. h)
      (subst (λ (below : List Layer). PartCause below (d.layer y1) (c.args.offset + done) (length (rest_of done bytes)) (d.own_cause e below call) (files d y1 ++ b.files_of_layers_below x1) (files d y2 ++ b.files_of_layers_below x2) c.in_err-done.field-0.0) same
      (c.in_err-done.ensures.refused.cause mid e call (l.began e call begun part.part)
      (part_within (d.layer y0) (d.layer y1) call c.args.offset (length bytes) (c.args.offset + done) (length (rest_of done bytes)) l.range_change.mutating_call.fixed l.range_change.size (omega arith) (omega (arith, long, l.inside)) (l.uncut i)
      (uncut_end (d.layer y0).fixed.unit (d.layer y0).size c.args.offset (length bytes) (c.args.offset + done + length (rest_of done bytes)) (omega (arith, long, l.inside))) part) says));
})

pub returns-clause-does : goal.returns-clause-does
returns-clause-does g c = record {
  range_change = c.loop-done.invariant.range_change;
  room = λ i whole. c.loop-done.invariant.room i;
  stays_begun = λ e call begun part kind. c.loop-done.invariant.began e call begun part;
}

pub returns-clause-refused : goal.returns-clause-refused
returns-clause-refused g c = record {
  failed = tt;
  marks_failed = tt;
  cause = λ i e call begun part says. tt;
}
