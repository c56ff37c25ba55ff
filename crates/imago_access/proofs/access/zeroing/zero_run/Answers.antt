use Rattle.std.proofs.Common.{refl, ℕ, ◌≡◌, ◌⊎◌, ◌-◌, ◌+◌, ◌++◌, List, arith, inl, inr, ◌≤◌, sym, subst}
use Rattle.std.specs.Prelude.{⊤}
use Rattle.std.proofs.lemmas.Bool.{cases_lt}
use Rattle.imago_access.specs.Files.{IsNotResourceError, files}
use Rattle.imago_storage.specs.Steps.{IsOut}
use Rattle.imago_access.specs.Layer.{Layer, Fixed}
use Rattle.imago_access.specs.Room.{IsApart, IsUncutAt}
use Rattle.imago_access.proofs.Answers.{handed_on}
use Rattle.imago_access.proofs.Uncut.{uncut_start, part_within}
use Rattle.imago_access.specs.declared.access.zeroing.Zeroing.TheVariants as zeroing_is
use Rattle.imago_access.proofs.Room.{room_both, apart_out, apart_wider, given_on, begun_apart, left_on}
use Rattle.imago_access.specs.RangeCalls.{IsZeroedBy}
use Rattle.imago_access.specs.Stops.{GivesZero}
use Rattle.imago_access.proofs.ChangeCauses.{part_cause_left}
use Rattle.imago_access.proofs.Running.{ran_both}
use Rattle.imago_access.proofs.Zeroing.{zero_wider, zero_stays, ran_zeroed, cause_behind}
use Rattle.imago_access.proofs.FilePairs.{later_all_same}
use Rattle.imago_access.proofs.ImageCauses.{failed_left, failed_then}
use Rattle.imago_access.proofs.Works.{room_apart}
use Rattle.imago_access.proofs.Marking.{top_alone, top_behind, alone_plain}
use Rattle.imago_access.proofs.access.zeroing.zero_run.Goals as goal

pub returns-in_err-start-clause-does : goal.returns-in_err-start-clause-does
returns-in_err-start-clause-does g c = rw (handed_on _ _ c.from_residual.ensures.1) (record {
  range_change = let d = g.D.DriverModel in let b = g.B.LayersBelowModel in
      ran_zeroed d b g.met.D.FormatDriverInstance.free_loose (IsNotResourceError c.in_err-start.field-0.0) c.args.offset c.args.n c.args.driver.now c.zero_by_driver.new.driver c.args.below.now c.requires.free c.in_err-start.ensures.keeps_layer_state c.in_err-start.ensures.mutating_call c.in_err-start.ensures.values c.in_err-start.ensures.crash_images;
  room = λ i whole. room_apart g.D.DriverModel (λ (p : ℕ). (c.args.zeroing ≡ zeroing_is.Keep) ⊎ IsOut c.args.offset c.args.n p) c.args.offset c.args.n c.args.driver.now c.zero_by_driver.new.driver (c.in_err-start.ensures.room i.is_well_formed whole);
  stays_begun = λ e call begun part kind. tt;
})

pub returns-in_err-start-clause-refused : goal.returns-in_err-start-clause-refused
returns-in_err-start-clause-refused g c = rw (handed_on _ _ c.from_residual.ensures.1) (record {
  failed = let d = g.D.DriverModel in
      let y0 = c.args.driver.now in let y1 = c.zero_by_driver.new.driver in let others = g.B.LayersBelowModel.files_of_layers_below c.args.below.now in
      failed_left (files d y0) (files d y1) others others c.in_err-start.field-0.0 c.in_err-start.ensures.failed;
  marks_failed = let d = g.D.DriverModel in let b = g.B.LayersBelowModel in let y0 = c.args.driver.now in let y1 = c.zero_by_driver.new.driver in let x0 = c.args.below.now in
      top_alone d b y0 y0 y1 x0 x0 c.in_err-start.field-0.0 refl (λ i. i.is_well_formed) (alone_plain d y0 y1 c.in_err-start.field-0.0 c.in_err-start.ensures.marks_failed);
  cause = λ i e call begun part says. let d = g.D.DriverModel in let b = g.B.LayersBelowModel in
      let y0 = c.args.driver.now in let y1 = c.zero_by_driver.new.driver in let x0 = c.args.below.now in
      part_cause_left (b.layers_below x0) (d.layer y0) c.args.offset c.args.n (d.own_cause e (b.layers_below x0) call) (files d y0) (files d y1) (b.files_of_layers_below x0) (b.files_of_layers_below x0) c.in_err-start.field-0.0 (c.in_err-start.ensures.cause i.is_well_formed (b.layers_below x0) e call begun part.part says.0);
})

pub returns-clause-does : goal.returns-clause-does
returns-clause-does g c = record {
  range_change = let d = g.D.DriverModel in let b = g.B.LayersBelowModel in
      let y0 = c.args.driver.now in let y1 = c.zero_by_driver.new.driver in let y2 = c.write_zero_bytes.new.driver in let x0 = c.args.below.now in let x2 = c.write_zero_bytes.new.below in
      let start = c.in_ok-start.start in let done = c.in_ok-start.ensures in
      let inside : start ≤ c.args.offset + c.args.n = omega (arith, done.part.1, done.part.3) in
      let gap = start - c.args.offset in
      let gives = zero_wider c.args.offset c.args.n c.args.offset gap (omega arith) (omega (arith, inside, done.part.0)) in
      let one = ran_zeroed d b g.met.D.FormatDriverInstance.free_loose ⊤ c.args.offset c.args.n y0 y1 x0 c.requires.free done.keeps_layer_state done.mutating_call done.values done.crash_images in
      ran_both d b ⊤ (GivesZero c.args.offset c.args.n) (GivesZero c.args.offset gap) (GivesZero c.args.offset c.args.n) y0 y1 y2 x0 x0 x2 (λ p v gave. gave) gives one c.in_ok-write_zero_bytes.ensures.does.range_change;
  room = λ i whole. let d = g.D.DriverModel in let b = g.B.LayersBelowModel in
      let y0 = c.args.driver.now in let y1 = c.zero_by_driver.new.driver in let y2 = c.write_zero_bytes.new.driver in let x0 = c.args.below.now in let x2 = c.write_zero_bytes.new.below in
      let start = c.in_ok-start.start in let done = c.in_ok-start.ensures in
      let inside : start ≤ c.args.offset + c.args.n = omega (arith, done.part.1, done.part.3) in
      let gap = start - c.args.offset in
      let one = ran_zeroed d b g.met.D.FormatDriverInstance.free_loose ⊤ c.args.offset c.args.n y0 y1 x0 c.requires.free done.keeps_layer_state done.mutating_call done.values done.crash_images in
      let unit = (d.layer y0).fixed.unit in
      let left = (λ (p : ℕ). (c.args.zeroing ≡ zeroing_is.Keep) ⊎ IsOut c.args.offset c.args.n p) in
      room_both d left (λ _. ⊤) left (IsOut c.args.offset c.args.n) (IsApart (d.layer y1).fixed.unit c.args.offset gap) (IsApart unit c.args.offset c.args.n) y0 y1 y2 (λ p there. (there, tt))
      (λ p apart. (apart_out unit c.args.offset c.args.n p apart, subst (λ (f : Fixed). IsApart f.unit c.args.offset gap p) (sym done.keeps_layer_state.fixed) (apart_wider unit c.args.offset c.args.n c.args.offset gap p (omega arith) (omega (arith, inside, done.part.0)) apart)))
      (done.room i.is_well_formed tt) (c.in_ok-write_zero_bytes.ensures.does.room (one.intact tt i) tt);
  stays_begun = λ e call begun part kind. let done = c.in_ok-start.ensures in
      c.in_ok-write_zero_bytes.ensures.does.stays_begun e call (done.stays_begun e call begun part kind) (record { start = part.start; end = omega (arith, part.end, done.part.0, done.part.1, done.part.3) }) tt;
}

pub returns-clause-refused : goal.returns-clause-refused
returns-clause-refused g c = record {
  failed = tt;
  marks_failed = tt;
  cause = λ i e call begun part says. tt;
}

pub returns-in_err-write_zero_bytes-clause-does : goal.returns-in_err-write_zero_bytes-clause-does
returns-in_err-write_zero_bytes-clause-does g c = rw (handed_on _ _ c.from_residual-in_err-write_zero_bytes.ensures.1) (record {
  range_change = let d = g.D.DriverModel in let b = g.B.LayersBelowModel in
      let y0 = c.args.driver.now in let y1 = c.zero_by_driver.new.driver in let y2 = c.write_zero_bytes.new.driver in let x0 = c.args.below.now in let x2 = c.write_zero_bytes.new.below in
      let start = c.in_ok-start.start in let done = c.in_ok-start.ensures in
      let inside : start ≤ c.args.offset + c.args.n = omega (arith, done.part.1, done.part.3) in
      let gap = start - c.args.offset in
      let gives = zero_wider c.args.offset c.args.n c.args.offset gap (omega arith) (omega (arith, inside, done.part.0)) in
      let one = ran_zeroed d b g.met.D.FormatDriverInstance.free_loose ⊤ c.args.offset c.args.n y0 y1 x0 c.requires.free done.keeps_layer_state done.mutating_call done.values done.crash_images in
      ran_both d b (IsNotResourceError c.in_err-write_zero_bytes.field-0.0) (GivesZero c.args.offset c.args.n) (GivesZero c.args.offset gap) (GivesZero c.args.offset c.args.n) y0 y1 y2 x0 x0 x2 (λ p v gave. gave) gives one c.in_err-write_zero_bytes.ensures.does.range_change;
  room = λ i whole. let d = g.D.DriverModel in let b = g.B.LayersBelowModel in
      let y0 = c.args.driver.now in let y1 = c.zero_by_driver.new.driver in let y2 = c.write_zero_bytes.new.driver in let x0 = c.args.below.now in let x2 = c.write_zero_bytes.new.below in
      let start = c.in_ok-start.start in let done = c.in_ok-start.ensures in
      let inside : start ≤ c.args.offset + c.args.n = omega (arith, done.part.1, done.part.3) in
      let gap = start - c.args.offset in
      let one = ran_zeroed d b g.met.D.FormatDriverInstance.free_loose ⊤ c.args.offset c.args.n y0 y1 x0 c.requires.free done.keeps_layer_state done.mutating_call done.values done.crash_images in
      let unit = (d.layer y0).fixed.unit in
      let left = (λ (p : ℕ). (c.args.zeroing ≡ zeroing_is.Keep) ⊎ IsOut c.args.offset c.args.n p) in
      room_both d left (λ _. ⊤) left (IsOut c.args.offset c.args.n) (IsApart (d.layer y1).fixed.unit c.args.offset gap) (IsApart unit c.args.offset c.args.n) y0 y1 y2 (λ p there. (there, tt))
      (λ p apart. (apart_out unit c.args.offset c.args.n p apart, subst (λ (f : Fixed). IsApart f.unit c.args.offset gap p) (sym done.keeps_layer_state.fixed) (apart_wider unit c.args.offset c.args.n c.args.offset gap p (omega arith) (omega (arith, inside, done.part.0)) apart)))
      (done.room i.is_well_formed tt) (c.in_err-write_zero_bytes.ensures.does.room (one.intact tt i) whole);
  stays_begun = λ e call begun part kind. tt;
})

pub returns-in_err-write_zero_bytes-clause-refused : goal.returns-in_err-write_zero_bytes-clause-refused
returns-in_err-write_zero_bytes-clause-refused g c = rw (handed_on _ _ c.from_residual-in_err-write_zero_bytes.ensures.1) (record {
  failed = let d = g.D.DriverModel in let b = g.B.LayersBelowModel in
      let y0 = c.args.driver.now in let y1 = c.zero_by_driver.new.driver in let y2 = c.write_zero_bytes.new.driver in let others = b.files_of_layers_below c.args.below.now in
      failed_then (files d y0) (files d y1) (files d y2) others others (b.files_of_layers_below c.write_zero_bytes.new.below) c.in_err-write_zero_bytes.field-0.0 c.in_ok-start.ensures.mutating_call.counts_not_fallen (later_all_same others) c.in_err-write_zero_bytes.ensures.refused.failed;
  marks_failed = let d = g.D.DriverModel in let b = g.B.LayersBelowModel in let done = c.in_ok-start.ensures in
      let y0 = c.args.driver.now in let y1 = c.zero_by_driver.new.driver in let y2 = c.write_zero_bytes.new.driver in let x0 = c.args.below.now in let x2 = c.write_zero_bytes.new.below in
      let one = ran_zeroed d b g.met.D.FormatDriverInstance.free_loose ⊤ c.args.offset c.args.n y0 y1 x0 c.requires.free done.keeps_layer_state done.mutating_call done.values done.crash_images in
      top_behind d b y0 y1 y2 x0 x0 x2 c.in_err-write_zero_bytes.field-0.0 done.keeps_layer_state.fixed (done.mutating_call.faults tt) (one.intact tt) c.in_err-write_zero_bytes.ensures.refused.marks_failed;
  cause = λ i e call begun part says. let d = g.D.DriverModel in let b = g.B.LayersBelowModel in
      let y0 = c.args.driver.now in let y1 = c.zero_by_driver.new.driver in let y2 = c.write_zero_bytes.new.driver in let x0 = c.args.below.now in let x2 = c.write_zero_bytes.new.below in
      let start = c.in_ok-start.start in let done = c.in_ok-start.ensures in
      let inside : start ≤ c.args.offset + c.args.n = omega (arith, done.part.1, done.part.3) in
      let gap = start - c.args.offset in
      let gives = zero_wider c.args.offset c.args.n c.args.offset gap (omega arith) (omega (arith, inside, done.part.0)) in
      let one = ran_zeroed d b g.met.D.FormatDriverInstance.free_loose ⊤ c.args.offset c.args.n y0 y1 x0 c.requires.free done.keeps_layer_state done.mutating_call done.values done.crash_images in
      cause_behind d b g.met.D.FormatDriverInstance.well_formed_is_usable g.met.D.FormatDriverInstance.aligned (GivesZero c.args.offset c.args.n) c.args.offset c.args.n c.args.offset gap y0 y1 x0 x0 (files d y2 ++ b.files_of_layers_below x2)
      (λ (below : List Layer). d.own_cause e below call) c.in_err-write_zero_bytes.field-0.0 (omega arith) (omega (arith, inside, done.part.0)) one i
      (let back : start ≡ c.args.offset + gap = omega (arith, done.part.0) in
      c.in_err-write_zero_bytes.ensures.refused.cause (one.intact tt i) e call (done.stays_begun e call begun part.part says.0)
      (part_within (d.layer y0) (d.layer y1) call c.args.offset c.args.n c.args.offset gap done.keeps_layer_state.fixed done.keeps_layer_state.size (omega arith) (omega (arith, inside, done.part.0))
      (uncut_start (d.layer y0).fixed.unit (d.layer y0).size c.args.offset c.args.n)
      (subst (IsUncutAt (d.layer y0).fixed.unit (d.layer y0).size c.args.offset c.args.n) back (done.uncut i.is_well_formed).0) part) says.1);
})

pub returns-clause-shown : goal.returns-clause-shown
returns-clause-shown g c = λ i p from to. let d = g.D.DriverModel in let b = g.B.LayersBelowModel in
    let y0 = c.args.driver.now in let y1 = c.zero_by_driver.new.driver in let y2 = c.write_zero_bytes.new.driver in let x0 = c.args.below.now in let x2 = c.write_zero_bytes.new.below in
    let start = c.in_ok-start.start in let done = c.in_ok-start.ensures in
    let inside : start ≤ c.args.offset + c.args.n = omega (arith, done.part.1, done.part.3) in
    let gap = start - c.args.offset in
    let gives = zero_wider c.args.offset c.args.n c.args.offset gap (omega arith) (omega (arith, inside, done.part.0)) in
    let one = ran_zeroed d b g.met.D.FormatDriverInstance.free_loose ⊤ c.args.offset c.args.n y0 y1 x0 c.requires.free done.keeps_layer_state done.mutating_call done.values done.crash_images in
    let written = c.in_ok-write_zero_bytes.ensures in
    elim (cases_lt p start) [
      | inl low ↦ written.shown (one.intact tt i) p (from, omega (arith, low, from))
      | inr high ↦ zero_stays (b.layers_below x0) (d.layer y1) (d.layer y2) c.args.offset gap written.does.range_change.size (written.does.range_change.values tt (one.intact tt i)) p (done.zeroed i.is_well_formed (b.layers_below x0) p high to)
    ]

pub returns-clause-given : goal.returns-clause-given
returns-clause-given g c = λ i e call begun part is_for none. let d = g.D.DriverModel in let b = g.B.LayersBelowModel in
    let y0 = c.args.driver.now in let y1 = c.zero_by_driver.new.driver in let y2 = c.write_zero_bytes.new.driver in let x0 = c.args.below.now in let x2 = c.write_zero_bytes.new.below in
    let start = c.in_ok-start.start in let done = c.in_ok-start.ensures in
    let inside : start ≤ c.args.offset + c.args.n = omega (arith, done.part.1, done.part.3) in
    let gap = start - c.args.offset in
    let one = ran_zeroed d b g.met.D.FormatDriverInstance.free_loose ⊤ c.args.offset c.args.n y0 y1 x0 c.requires.free done.keeps_layer_state done.mutating_call done.values done.crash_images in
    let unit = (d.layer y0).fixed.unit in let size = (d.layer y0).size in
    let given = done.given i.is_well_formed (b.layers_below x0) e call begun part is_for none in
    let written = c.in_ok-write_zero_bytes.ensures.does.room (one.intact tt i) tt in
    given_on (IsZeroedBy c.args.zeroing (d.unallocated y1) (d.zeroed y1)) (IsZeroedBy c.args.zeroing (d.unallocated y2) (d.zeroed y2)) unit size c.args.offset c.args.n c.in_ok-start.end
    (λ u p whole of was. left_on d (λ _. ⊤) (IsApart (d.layer y1).fixed.unit c.args.offset gap) c.args.zeroing y1 y2 p (λ keep. tt) (subst (λ (f : Fixed). IsApart f.unit c.args.offset gap p) (sym done.keeps_layer_state.fixed) (begun_apart unit size c.args.offset start u p done.part.0 (given.none_before u whole) of)) written was)
    given.given

pub returns-clause-uncut : goal.returns-clause-uncut
returns-clause-uncut g c = λ i. (c.in_ok-start.ensures.uncut i.is_well_formed).1
