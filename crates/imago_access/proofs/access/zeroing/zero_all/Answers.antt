use Rattle.std.proofs.Common.{refl, inl, inr, ℕ, ◌≡◌, ◌⊎◌, ◌<◌, ◌-◌, ◌+◌, ◌∷◌, ◌++◌, List, arith, sym, subst}
use Rattle.std.specs.Prelude.{⊤}
use Rattle.std.proofs.lemmas.Bool.{cases_lt}
use Rattle.imago_storage.specs.Disk.{byte}
use Rattle.imago_access.specs.Chain.{at}
use Rattle.imago_access.specs.Files.{IsNotResourceError, files}
use Rattle.imago_storage.specs.Steps.{IsOut}
use Rattle.imago_access.specs.Layer.{Layer, Fixed}
use Rattle.imago_access.specs.Room.{IsApart, IsGivenUpTo, IsUndeclined}
use Rattle.imago_access.proofs.Answers.{handed_on}
use Rattle.imago_access.proofs.Uncut.{uncut_start, uncut_end, uncut_later, part_within}
use Rattle.imago_access.specs.declared.access.zeroing.Zeroing.TheVariants as zeroing_is
use Rattle.imago_access.proofs.Room.{room_same, room_then, out_wider, given_none, given_both, ended_apart, left_on}
use Rattle.imago_access.specs.RangeCalls.{IsZeroedBy}
use Rattle.imago_access.specs.Running.{IsBetween}
use Rattle.imago_access.specs.Stops.{GivesZero}
use Rattle.imago_access.proofs.Running.{ran_same, ran_both, ran_weaker}
use Rattle.imago_access.proofs.Zeroing.{zero_wider, zero_stays, cause_behind}
use Rattle.imago_access.proofs.ImageCauses.{failed_then}
use Rattle.imago_access.proofs.Marking.{top_behind}
use Rattle.imago_access.proofs.access.zeroing.zero_all.Goals as goal

pub loop-at-init : goal.loop-at-init
loop-at-init g c = let d = g.D.DriverModel in let b = g.B.LayersBelowModel in record {
  from = omega arith;
  inside = omega arith;
  free = c.requires.free;
  untouched = λ none. (refl, refl);
  shown = λ i p from to. absurd (omega (arith, from, to));
  uncut = λ i. uncut_start (d.layer c.args.driver.now).fixed.unit (d.layer c.args.driver.now).size c.args.offset c.args.n;
  room = λ i. room_same d (λ p. (c.args.zeroing ≡ zeroing_is.Keep) ⊎ IsOut c.args.offset c.args.n p) (IsApart (d.layer c.args.driver.now).fixed.unit c.args.offset c.args.n) c.args.driver.now;
  given = λ i e call begun part is_for none. given_none (IsZeroedBy c.args.zeroing (d.unallocated c.args.driver.now) (d.zeroed c.args.driver.now)) (d.layer c.args.driver.now).fixed.unit (d.layer c.args.driver.now).size c.args.offset c.args.n;
  range_change = ran_same d b ⊤ (GivesZero c.args.offset c.args.n) c.args.driver.now c.args.below.now;
  began = λ e call begun part kind. begun;
}

pub loop-at-preserved : goal.loop-at-preserved
loop-at-preserved g c = let d = g.D.DriverModel in let b = g.B.LayersBelowModel in let l = c.loop-at.invariant in
    let y0 = c.args.driver.now in let y1 = c.loop-at.driver in let y2 = c.zero_run.new.driver in let x0 = c.args.below.now in let x1 = c.loop-at.below in let x2 = c.zero_run.new.below in
    let at_now = c.loop-at.at in let rest = c.args.offset + c.args.n - at_now in
    let gives = zero_wider c.args.offset c.args.n at_now rest l.from (omega (arith, l.inside)) in
    let done = c.in_ok-at.ensures in
    record {
      from = omega (arith, l.from, done.run.0);
      inside = omega (arith, l.inside, done.run.1);
      free = done.free;
      untouched = λ none. absurd (omega (arith, none, l.from, c.loop-at-test.true));
      shown = λ i p from to.
          let mid = l.range_change.intact tt i in
          let same : b.layers_below x1 ≡ b.layers_below x0 = (l.range_change.lookup_call.stays tt i.is_coherent).0 in
          elim (cases_lt p at_now) [
            | inl low ↦ zero_stays (b.layers_below x0) (d.layer y1) (d.layer y2) at_now rest done.does.range_change.size (subst (λ (below : List Layer). IsBetween (GivesZero at_now rest) below (d.layer y1) (d.layer y2)) same (done.does.range_change.values tt mid)) p (l.shown i p from low)
            | inr high ↦ subst (λ (below : List Layer). at (d.layer y2 ∷ below) p ≡ byte 0) same (done.shown mid p high to)
          ];
      uncut = λ i. uncut_later (d.layer y0) (d.layer y1) c.args.offset c.args.n at_now c.in_ok-at.at l.range_change.mutating_call.fixed l.range_change.size (omega (arith, done.run.0)) (l.uncut i) (done.uncut (l.range_change.intact tt i));
      room = λ i. room_then d (λ p. (c.args.zeroing ≡ zeroing_is.Keep) ⊎ IsOut c.args.offset c.args.n p) (λ p. (c.args.zeroing ≡ zeroing_is.Keep) ⊎ IsOut at_now rest p) c.args.offset c.args.n at_now rest y0 y1 y2 l.range_change.mutating_call.fixed l.from (omega (arith, l.inside)) (λ p there. elim there [ inl keep ↦ inl keep | inr out ↦ inr (out_wider c.args.offset c.args.n at_now rest p l.from (omega (arith, l.inside)) out) ]) (l.room i) (c.in_ok-at.ensures.does.room (l.range_change.intact tt i) tt);
      given = λ i e call begun part is_for none.
          let mid = l.range_change.intact tt i in
          let same : b.layers_below x1 ≡ b.layers_below x0 = (l.range_change.lookup_call.stays tt i.is_coherent).0 in
          let unit = (d.layer y0).fixed.unit in let size = (d.layer y0).size in
          let has_no_dirty_data : IsUndeclined (d.own_cause e (b.layers_below x1) call) = subst (λ (below : List Layer). IsUndeclined (d.own_cause e below call)) (sym same) none in
          let more = done.given mid e call (l.began e call begun part is_for) (record { start = omega (arith, part.start, l.from); end = omega (arith, part.end, l.inside) }) is_for has_no_dirty_data in
          let given : IsGivenUpTo (IsZeroedBy c.args.zeroing (d.unallocated y2) (d.zeroed y2)) unit size at_now rest c.in_ok-at.at = subst (λ (f : Fixed). IsGivenUpTo (IsZeroedBy c.args.zeroing (d.unallocated y2) (d.zeroed y2)) f.unit size at_now rest c.in_ok-at.at) l.range_change.mutating_call.fixed (subst (λ (z : ℕ). IsGivenUpTo (IsZeroedBy c.args.zeroing (d.unallocated y2) (d.zeroed y2)) (d.layer y1).fixed.unit z at_now rest c.in_ok-at.at) l.range_change.size more) in
          let on_disk : at_now < size = omega (arith, c.loop-at-test.true, c.requires.inside) in
          let left = done.does.room mid tt in
          given_both (IsZeroedBy c.args.zeroing (d.unallocated y2) (d.zeroed y2)) unit size c.args.offset c.args.n (IsZeroedBy c.args.zeroing (d.unallocated y1) (d.zeroed y1)) at_now c.in_ok-at.at (omega (arith, done.run.0))
          (λ p u of ended was. left_on d (λ q. (c.args.zeroing ≡ zeroing_is.Keep) ⊎ IsOut at_now rest q) (IsApart (d.layer y1).fixed.unit at_now rest) c.args.zeroing y1 y2 p (λ keep. inl keep) (subst (λ (f : Fixed). IsApart f.unit at_now rest p) (sym l.range_change.mutating_call.fixed) (ended_apart unit size at_now rest u p on_disk ended of)) left was)
          (l.given i e call begun part is_for none) given;
      range_change = ran_both d b ⊤ (GivesZero c.args.offset c.args.n) (GivesZero at_now rest) (GivesZero c.args.offset c.args.n) y0 y1 y2 x0 x1 x2 (λ p v gave. gave) gives l.range_change (ran_weaker d b ⊤ ⊤ (GivesZero at_now rest) y1 y2 x1 x2 (λ h. h) done.does.range_change);
      began = λ e call begun part kind. done.does.stays_begun e call (l.began e call begun part kind) (record { start = omega (arith, part.start, l.from); end = omega (arith, part.end, l.inside) }) kind;
    }

pub returns-in_err-at-clause-does : goal.returns-in_err-at-clause-does
returns-in_err-at-clause-does g c = rw (handed_on _ _ c.from_residual.ensures.1) (record {
  range_change = let d = g.D.DriverModel in let b = g.B.LayersBelowModel in let l = c.loop-at.invariant in
      let y0 = c.args.driver.now in let y1 = c.loop-at.driver in let y2 = c.zero_run.new.driver in let x0 = c.args.below.now in let x1 = c.loop-at.below in let x2 = c.zero_run.new.below in
      let at_now = c.loop-at.at in let rest = c.args.offset + c.args.n - at_now in
      let gives = zero_wider c.args.offset c.args.n at_now rest l.from (omega (arith, l.inside)) in
      ran_both d b (IsNotResourceError c.in_err-at.field-0.0) (GivesZero c.args.offset c.args.n) (GivesZero at_now rest) (GivesZero c.args.offset c.args.n) y0 y1 y2 x0 x1 x2 (λ p v gave. gave) gives l.range_change c.in_err-at.ensures.does.range_change;
  room = λ i not_resource_error. let d = g.D.DriverModel in let l = c.loop-at.invariant in
      let y0 = c.args.driver.now in let y1 = c.loop-at.driver in let y2 = c.zero_run.new.driver in let at_now = c.loop-at.at in let rest = c.args.offset + c.args.n - at_now in
      room_then d (λ p. (c.args.zeroing ≡ zeroing_is.Keep) ⊎ IsOut c.args.offset c.args.n p) (λ p. (c.args.zeroing ≡ zeroing_is.Keep) ⊎ IsOut at_now rest p) c.args.offset c.args.n at_now rest y0 y1 y2 l.range_change.mutating_call.fixed l.from (omega (arith, l.inside)) (λ p there. elim there [ inl keep ↦ inl keep | inr out ↦ inr (out_wider c.args.offset c.args.n at_now rest p l.from (omega (arith, l.inside)) out) ]) (l.room i) (c.in_err-at.ensures.does.room (l.range_change.intact tt i) not_resource_error);
  stays_begun = λ e call begun part kind. tt;
})

pub returns-in_err-at-clause-refused : goal.returns-in_err-at-clause-refused
returns-in_err-at-clause-refused g c = rw (handed_on _ _ c.from_residual.ensures.1) (record {
  failed = let d = g.D.DriverModel in let b = g.B.LayersBelowModel in let l = c.loop-at.invariant in
      let y0 = c.args.driver.now in let y1 = c.loop-at.driver in let y2 = c.zero_run.new.driver in
      failed_then (files d y0) (files d y1) (files d y2) (b.files_of_layers_below c.args.below.now) (b.files_of_layers_below c.loop-at.below) (b.files_of_layers_below c.zero_run.new.below) c.in_err-at.field-0.0 l.range_change.mutating_call.counts_not_fallen l.range_change.lookup_call.counts_not_fallen c.in_err-at.ensures.refused.failed;
  marks_failed = let d = g.D.DriverModel in let b = g.B.LayersBelowModel in let l = c.loop-at.invariant in
      top_behind d b c.args.driver.now c.loop-at.driver c.zero_run.new.driver c.args.below.now c.loop-at.below c.zero_run.new.below c.in_err-at.field-0.0 l.range_change.mutating_call.fixed (l.range_change.mutating_call.faults tt) (l.range_change.intact tt) c.in_err-at.ensures.refused.marks_failed;
  cause = λ i e call begun part says. let d = g.D.DriverModel in let b = g.B.LayersBelowModel in let l = c.loop-at.invariant in
      let y0 = c.args.driver.now in let y1 = c.loop-at.driver in let y2 = c.zero_run.new.driver in let x0 = c.args.below.now in let x1 = c.loop-at.below in let x2 = c.zero_run.new.below in
      let at_now = c.loop-at.at in let rest = c.args.offset + c.args.n - at_now in
      let gives = zero_wider c.args.offset c.args.n at_now rest l.from (omega (arith, l.inside)) in
      cause_behind d b g.met.D.FormatDriverInstance.well_formed_is_usable g.met.D.FormatDriverInstance.aligned (GivesZero c.args.offset c.args.n) c.args.offset c.args.n at_now rest y0 y1 x0 x1 (files d y2 ++ b.files_of_layers_below x2)
      (λ (below : List Layer). d.own_cause e below call) c.in_err-at.field-0.0 l.from (omega (arith, l.inside)) l.range_change i
      (c.in_err-at.ensures.refused.cause (l.range_change.intact tt i) e call (l.began e call begun part.part says.0)
      (part_within (d.layer y0) (d.layer y1) call c.args.offset c.args.n at_now rest l.range_change.mutating_call.fixed l.range_change.size l.from (omega (arith, l.inside)) (l.uncut i)
      (uncut_end (d.layer y0).fixed.unit (d.layer y0).size c.args.offset c.args.n (at_now + rest) (omega (arith, l.inside))) part) says);
})

pub returns-clause-does : goal.returns-clause-does
returns-clause-does g c = record {
  range_change = c.loop-at.invariant.range_change;
  room = λ i whole. c.loop-at.invariant.room i;
  stays_begun = λ e call begun part kind. c.loop-at.invariant.began e call begun part kind;
}

pub returns-clause-refused : goal.returns-clause-refused
returns-clause-refused g c = record {
  failed = tt;
  marks_failed = tt;
  cause = λ i e call begun part says. tt;
}
