use Rattle.std.proofs.Common.{refl, [], ℕ, ◌≡◌, ◌≤◌, ◌+◌, List, length, arith, subst}
use Rattle.std.specs.Prelude.{⊤, replicate}
use Rattle.imago_access.specs.Layer.{Layer}
use Rattle.imago_access.specs.Changes.{Wrote}
use Rattle.imago_access.specs.Files.{IsNotResourceError, files}
use Rattle.imago_access.specs.Parts.{MappedCause}
use Rattle.imago_access.specs.Running.{DriverRangeChange, alone_ghosts}
use Rattle.imago_access.specs.Stops.{GivesBytes}
use Rattle.imago_access.proofs.Answers.{handed_on}
use Rattle.imago_access.proofs.Discarding.{like_both}
use Rattle.imago_access.proofs.HoldingRuns.{ran_wrote, ran_refused}
use Rattle.imago_access.proofs.Room.{room_same, takes_both}
use Rattle.imago_access.proofs.Running.{ran_same, ran_both, ran_weaker}
use Rattle.imago_access.proofs.ImageCauses.{failed_after}
use Rattle.imago_access.proofs.Units.{layer_aligned}
use Rattle.imago_access.proofs.Zeroing.{zeroes_long, wrote_none, wrote_more, zeroes_wider, mapped_later}
use Rattle.imago_access.proofs.Marking.{alone_behind, alone_plain}
use Rattle.imago_access.proofs.access.zeroing.write_mapped_zeroes.Goals as goal

pub loop-done-init : goal.loop-done-init
loop-done-init g c = let d = g.D.DriverModel in let y0 = c.args.driver.now in record {
  inside = omega arith;
  wrote = λ well_formed. wrote_none (d.layer y0) c.args.guest;
  like = record { fixed = refl; size = refl; unspent = refl; failed = λ f. f };
  room = λ well_formed. room_same d (λ _. ⊤) (λ _. ⊤) y0;
  range_change = λ below. ran_same {B = List Layer} d alone_ghosts ⊤ (GivesBytes c.args.guest (replicate c.args.n 0)) y0 below;
  began = λ x call begun. begun;
}

pub loop-done-preserved : goal.loop-done-preserved
loop-done-preserved g c = let d = g.D.DriverModel in let l = c.loop-done.invariant in
    let done = c.loop-done.done in let count = c.min-count.result in let bytes = c.zero_bytes.result.now in
    let y0 = c.args.driver.now in let y1 = c.loop-done.driver in let y2 = c.write_mapped.new.self in
    let inside : done + count ≤ c.args.n = omega (arith, c.min-count.ensures, c.loop-done-test.true, l.inside) in
    let wrote : d.well_formed y1 → Wrote (d.layer y1) (d.layer y2) (c.args.guest + done) (replicate count 0) = λ well_formed.
    subst (Wrote (d.layer y1) (d.layer y2) (c.args.guest + done)) c.zero_bytes.ensures (c.in_ok-write_mapped.ensures.writes.ok well_formed) in
    let safe_on : d.well_formed y0 → d.well_formed y1 = (l.range_change []).mutating_call.safely (tt, tt) in
    let gives = zeroes_wider c.args.guest c.args.n (c.args.guest + done) count (omega arith) (omega (arith, inside)) in
    record {
      inside = inside;
      wrote = λ well_formed. wrote_more (d.layer y0) (d.layer y1) (d.layer y2) c.args.guest done count (l.wrote well_formed) (wrote (safe_on well_formed));
      like = like_both (d.layer y0) (d.layer y1) (d.layer y2) l.like c.in_ok-write_mapped.ensures.writes.keeps_layer_state;
      room = λ well_formed. takes_both d (λ _. ⊤) (λ _. ⊤) (λ _. ⊤) y0 y1 y2 (λ p there. (tt, tt)) (l.room well_formed) (c.in_ok-write_mapped.ensures.writes.room (safe_on well_formed) tt);
      range_change = λ below. ran_both {B = List Layer} d alone_ghosts ⊤ (GivesBytes c.args.guest (replicate c.args.n 0)) (GivesBytes (c.args.guest + done) (replicate count 0)) (GivesBytes c.args.guest (replicate c.args.n 0)) y0 y1 y2 below below below
          (λ p v gave. gave) gives (l.range_change below)
          (ran_weaker {B = List Layer} d alone_ghosts ⊤ ⊤ (GivesBytes (c.args.guest + done) (replicate count 0)) y1 y2 below below (λ h. h)
          (subst (λ (z : List ℕ). DriverRangeChange d ⊤ (GivesBytes (c.args.guest + done) z) below y1 y2) c.zero_bytes.ensures
          (ran_wrote {B = List Layer} d alone_ghosts ⊤ y1 y2 below (c.args.guest + done) (c.args.place + done) bytes c.in_ok-write_mapped.ensures.writes.keeps_layer_state c.in_ok-write_mapped.ensures.writes.mutating_call (λ w well_formed. c.in_ok-write_mapped.ensures.writes.mapped (g.met.D.FormatDriverInstance.well_formed_is_coherent y1 well_formed)) (λ w. c.in_ok-write_mapped.ensures.writes.ok) c.in_ok-write_mapped.ensures.writes.crash_images)));
      began = λ x call begun. c.in_ok-write_mapped.ensures.writes.stays_begun x call (l.began x call begun);
    }

pub returns-in_err-write_mapped : goal.returns-in_err-write_mapped
returns-in_err-write_mapped g c = rw (handed_on _ _ c.from_residual.ensures.1) (let d = g.D.DriverModel in let l = c.loop-done.invariant in
    let done = c.loop-done.done in let count = c.min-count.result in let bytes = c.zero_bytes.result.now in
    let y0 = c.args.driver.now in let y1 = c.loop-done.driver in let y2 = c.write_mapped.new.self in let e = c.in_err-write_mapped.ensures in
    let inside : done + count ≤ c.args.n = omega (arith, c.min-count.ensures, c.loop-done-test.true, l.inside) in
    let long : length bytes ≡ count = zeroes_long count bytes c.zero_bytes.ensures in
    let safe_on : d.well_formed y0 → d.well_formed y1 = (l.range_change []).mutating_call.safely (tt, tt) in
    let gives = zeroes_wider c.args.guest c.args.n (c.args.guest + done) count (omega arith) (omega (arith, inside)) in
    record {
      ok = λ well_formed. tt;
      keeps_layer_state = like_both (d.layer y0) (d.layer y1) (d.layer y2) l.like e.writes.keeps_layer_state;
      range_change = λ below. ran_both {B = List Layer} d alone_ghosts (IsNotResourceError c.in_err-write_mapped.field-0.0) (GivesBytes c.args.guest (replicate c.args.n 0)) (GivesBytes (c.args.guest + done) (replicate count 0)) (GivesBytes c.args.guest (replicate c.args.n 0)) y0 y1 y2 below below below
          (λ p v gave. gave) gives (l.range_change below)
          (subst (λ (z : List ℕ). DriverRangeChange d (IsNotResourceError c.in_err-write_mapped.field-0.0) (GivesBytes (c.args.guest + done) z) below y1 y2) c.zero_bytes.ensures
          (ran_refused {B = List Layer} d alone_ghosts (IsNotResourceError c.in_err-write_mapped.field-0.0) (GivesBytes (c.args.guest + done) bytes) y1 y2 below e.writes.keeps_layer_state e.writes.mutating_call (λ not_resource_error well_formed. e.writes.err well_formed not_resource_error) e.writes.crash_images));
      room = λ well_formed not_resource_error. takes_both d (λ _. ⊤) (λ _. ⊤) (λ _. ⊤) y0 y1 y2 (λ p there. (tt, tt)) (l.room well_formed) (e.writes.room (safe_on well_formed) not_resource_error);
      stays_begun = λ x call begun. tt;
      failed = failed_after (files d y0) (files d y1) (files d y2) c.in_err-write_mapped.field-0.0 (l.range_change []).mutating_call.counts_not_fallen e.refused.failed;
      marks_failed = alone_behind d y0 y1 y2 c.in_err-write_mapped.field-0.0 l.like.fixed safe_on (alone_plain d y1 y2 c.in_err-write_mapped.field-0.0 e.refused.marks_failed);
      cause = λ well_formed.
          mapped_later (d.layer y0) (d.layer y1) c.args.guest c.args.place c.args.n done count (files d y0) (files d y1) (files d y2) l.like.fixed l.like.size (l.wrote well_formed).writable_location
          (g.met.D.FormatDriverInstance.well_formed_is_usable y0 well_formed) (g.met.D.FormatDriverInstance.well_formed_is_usable y1 (safe_on well_formed)) (layer_aligned d.layer g.met.D.FormatDriverInstance.aligned y0).positive inside (l.range_change []).mutating_call.counts_not_fallen c.in_err-write_mapped.field-0.0
          (subst (λ (m : ℕ). MappedCause (d.layer y1) (c.args.guest + done) (c.args.place + done) m (files d y1) (files d y2) c.in_err-write_mapped.field-0.0) long (e.refused.cause (safe_on well_formed)));
    })

pub returns-clause-range_change : goal.returns-clause-range_change
returns-clause-range_change g c = λ below. let d = g.D.DriverModel in
    c.loop-done.invariant.range_change below
