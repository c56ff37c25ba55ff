use Rattle.std.proofs.Common.{refl, [], ℕ, ◌≡◌, ◌∙◌, ◌-◌, ◌+◌, List, arith, subst}
use Rattle.std.specs.Prelude.{⊤}
use Rattle.imago_storage.specs.Steps.{IsOut}
use Rattle.imago_access.specs.Layer.{Layer, Fixed}
use Rattle.imago_access.specs.Room.{Reaches}
use Rattle.imago_access.proofs.Room.{room_same, gives_up_both, given_none, given_part, given_both, given_rest}
use Rattle.imago_access.specs.Files.{IsNotResourceError, IsDeclined, files}
use Rattle.imago_access.specs.RangeCalls.{GivesDiscarded}
use Rattle.imago_access.specs.Parts.{IsPartOf}
use Rattle.imago_access.proofs.ChangeCauses.{part_cause_later, undeclined_cause}
use Rattle.imago_access.proofs.Discarding.{declined_mild, undeclined, like_both, intact_alone, went_alone, then_discarded}
use Rattle.imago_access.proofs.Running.{went_weaker, ran_same}
use Rattle.imago_access.proofs.Units.{layer_aligned}
use Rattle.imago_access.proofs.ImageCauses.{failed_after}
use Rattle.imago_access.proofs.Marking.{alone_behind, alone_plain}
use Rattle.imago_access.proofs.access.discarding.discard_all.Goals as goal
use Rattle.imago_access.specs.Running.{alone_ghosts}

pub loop-at-init : goal.loop-at-init
loop-at-init g c = let d = g.D.DriverModel in record {
  from = omega arith;
  untouched = λ none. refl;
  like = record { fixed = refl; size = refl; unspent = refl; failed = λ f. f };
  range_change = λ below. ran_same {B = List Layer} d alone_ghosts ⊤ (GivesDiscarded c.args.discarding below c.args.offset c.args.n) c.args.driver.now below;
  room = λ well_formed. room_same d (IsOut c.args.offset c.args.n) (λ _. ⊤) c.args.driver.now;
  given = λ well_formed. given_none (d.unallocated c.args.driver.now) (d.layer c.args.driver.now).fixed.unit (d.layer c.args.driver.now).size c.args.offset c.args.n;
  began = λ x call b part kind. b;
}

pub loop-at-preserved : goal.loop-at-preserved
loop-at-preserved g c = let d = g.D.DriverModel in
    let l = c.loop-at.invariant in
    let done = c.in-Ok.ensures in
    let first = c.args.driver.now in let mid = c.loop-at.driver in let last = c.discard_part.new.driver in let at = c.loop-at.at in let rest = c.args.offset + c.args.n - at in
    let safe_on : d.well_formed first → d.well_formed mid = (l.range_change []).mutating_call.safely (tt, tt) in
    record {
      from = omega (arith, l.from, done.part.inside.0);
      untouched = λ none. absurd (omega (arith, none, l.from));
      like = like_both (d.layer c.args.driver.now) (d.layer c.loop-at.driver) (d.layer c.discard_part.new.driver) l.like done.keeps_layer_state;
      range_change = λ below. then_discarded d g.met.D.FormatDriverInstance.free_loose ⊤ c.args.discarding below c.args.offset c.args.n c.loop-at.at (c.args.offset + c.args.n - c.loop-at.at) c.args.driver.now c.loop-at.driver c.discard_part.new.driver
          l.from (omega (arith, l.from)) (l.like.unspent ∙ c.requires.free) (l.range_change below) done.keeps_layer_state done.mutating_call done.values done.crash_images;
      room = λ well_formed. gives_up_both d c.args.offset c.args.n at rest first mid last l.from (omega (arith, l.from)) (l.room well_formed) (done.room (safe_on well_formed) tt);
      given = λ well_formed. let s = safe_on well_formed in
          let unit = (d.layer first).fixed.unit in let size = (d.layer first).size in
          let reach : Reaches unit size at rest c.in-Ok.start c.in-Ok.given_up = subst (λ (f : Fixed). Reaches f.unit size at rest c.in-Ok.start c.in-Ok.given_up) l.like.fixed (subst (λ (z : ℕ). Reaches (d.layer mid).fixed.unit z at rest c.in-Ok.start c.in-Ok.given_up) l.like.size (done.reach s)) in
          given_both (d.unallocated last) unit size c.args.offset c.args.n (d.unallocated mid) at (c.in-Ok.start + c.in-Ok.given_up) (omega (arith, done.part.inside.0)) (λ p u of low is. (done.room s tt).free p tt is) (l.given well_formed)
          (given_part (d.unallocated last) unit size at rest c.in-Ok.start c.in-Ok.given_up reach (done.given s));
      began = λ x call b part kind. done.stays_begun x call (l.began x call b part kind) (record { start = omega (arith, part.start, l.from); end = omega (arith, part.end, l.from) }) kind tt;
    }

pub returns-in-Ok-2 : goal.returns-in-Ok-2
returns-in-Ok-2 g c = let d = g.D.DriverModel in
    let l = c.loop-at.invariant in
    let done = c.in-Ok.ensures in
    let ran = λ (below : List Layer). then_discarded d g.met.D.FormatDriverInstance.free_loose ⊤ c.args.discarding below c.args.offset c.args.n c.loop-at.at (c.args.offset + c.args.n - c.loop-at.at) c.args.driver.now c.loop-at.driver c.discard_part.new.driver
    l.from (omega (arith, l.from)) (l.like.unspent ∙ c.requires.free) (l.range_change below) done.keeps_layer_state done.mutating_call done.values done.crash_images in
    let first = c.args.driver.now in let mid = c.loop-at.driver in let last = c.discard_part.new.driver in let at = c.loop-at.at in let rest = c.args.offset + c.args.n - at in
    let safe_on : d.well_formed first → d.well_formed mid = (l.range_change []).mutating_call.safely (tt, tt) in
    record {
      idle = λ none. refl;
      untouched = λ none. absurd (omega (arith, none, l.from));
      values = λ well_formed below backed whole. (ran below).values whole (intact_alone d g.met.D.FormatDriverInstance.free_loose below c.args.driver.now c.requires.free well_formed backed);
      keeps_layer_state = like_both (d.layer c.args.driver.now) (d.layer c.loop-at.driver) (d.layer c.discard_part.new.driver) l.like done.keeps_layer_state;
      mutating_call = (went_alone d g.met.D.FormatDriverInstance.free_loose ⊤ (GivesDiscarded c.args.discarding [] c.args.offset c.args.n) [] c.args.driver.now c.discard_part.new.driver (ran []));
      crash_images = λ well_formed below backed. (ran below).crash_images (intact_alone d g.met.D.FormatDriverInstance.free_loose below c.args.driver.now c.requires.free well_formed backed);
      room = λ well_formed whole. gives_up_both d c.args.offset c.args.n at rest first mid last l.from (omega (arith, l.from)) (l.room well_formed) (done.room (safe_on well_formed) tt);
      gives_up = λ well_formed below x call began part is_for undeclined. let s = safe_on well_formed in
          let unit = (d.layer first).fixed.unit in let size = (d.layer first).size in
          let none : c.in-Ok.given_up ≡ 0 = omega (arith, c.if-start-at.false.0) in
          let reach : Reaches unit size at rest c.in-Ok.start 0 = subst (λ (m : ℕ). Reaches unit size at rest c.in-Ok.start m) none (subst (λ (f : Fixed). Reaches f.unit size at rest c.in-Ok.start c.in-Ok.given_up) l.like.fixed (subst (λ (z : ℕ). Reaches (d.layer mid).fixed.unit z at rest c.in-Ok.start c.in-Ok.given_up) l.like.size (done.reach s))) in
          given_rest (d.unallocated last) unit size c.args.offset c.args.n (d.unallocated mid) at c.in-Ok.start (λ p is. (done.room s tt).free p tt is) (l.given well_formed) reach;
      failed = tt;
      marks_failed = tt;
      cause = λ well_formed below x call began part is_for. tt;
    }

pub returns-in-Err : goal.returns-in-Err
returns-in-Err g c = let d = g.D.DriverModel in
    let l = c.loop-at.invariant in
    let done = c.in-Err.ensures in
    let declined : IsDeclined c.in-Err.fault = c.if-is_declined.ensures.0 refl in
    let not_resource_error = declined_mild c.in-Err.fault declined in
    let ran = λ (below : List Layer). then_discarded d g.met.D.FormatDriverInstance.free_loose ⊤ c.args.discarding below c.args.offset c.args.n c.loop-at.at (c.args.offset + c.args.n - c.loop-at.at) c.args.driver.now c.loop-at.driver c.discard_part.new.driver
    l.from (omega (arith, l.from)) (l.like.unspent ∙ c.requires.free) (l.range_change below) done.keeps_layer_state (went_weaker d (IsNotResourceError c.in-Err.fault) (IsNotResourceError c.in-Err.fault) ⊤ ⊤ c.loop-at.driver c.discard_part.new.driver (λ x. not_resource_error) (λ x. not_resource_error) done.mutating_call) (λ s under backed whole. done.values s under backed not_resource_error) done.crash_images in
    let first = c.args.driver.now in let mid = c.loop-at.driver in let last = c.discard_part.new.driver in let at = c.loop-at.at in let rest = c.args.offset + c.args.n - at in
    let safe_on : d.well_formed first → d.well_formed mid = (l.range_change []).mutating_call.safely (tt, tt) in
    record {
      idle = λ none. refl;
      untouched = λ none. absurd (omega (arith, none, l.from));
      values = λ well_formed below backed whole. (ran below).values whole (intact_alone d g.met.D.FormatDriverInstance.free_loose below c.args.driver.now c.requires.free well_formed backed);
      keeps_layer_state = like_both (d.layer c.args.driver.now) (d.layer c.loop-at.driver) (d.layer c.discard_part.new.driver) l.like done.keeps_layer_state;
      mutating_call = (went_alone d g.met.D.FormatDriverInstance.free_loose ⊤ (GivesDiscarded c.args.discarding [] c.args.offset c.args.n) [] c.args.driver.now c.discard_part.new.driver (ran []));
      crash_images = λ well_formed below backed. (ran below).crash_images (intact_alone d g.met.D.FormatDriverInstance.free_loose below c.args.driver.now c.requires.free well_formed backed);
      room = λ well_formed whole. gives_up_both d c.args.offset c.args.n at rest first mid last l.from (omega (arith, l.from)) (l.room well_formed) (done.room (safe_on well_formed) not_resource_error);
      gives_up = λ well_formed below x call began part is_for none.
          absurd (undeclined below (d.layer mid) at rest (d.own_cause x below call) (files d mid) (files d last) c.in-Err.fault none declined (done.refused.cause (safe_on well_formed) below x call (l.began x call began part is_for) (record { start = omega (arith, part.start, l.from); end = omega (arith, part.end, l.from) }) is_for));
      failed = tt;
      marks_failed = tt;
      cause = λ well_formed below x call began part is_for. tt;
    }

pub returns-in-Err-2 : goal.returns-in-Err-2
returns-in-Err-2 g c = let d = g.D.DriverModel in
    let l = c.loop-at.invariant in
    let done = c.in-Err.ensures in
    let ran = λ (below : List Layer). then_discarded d g.met.D.FormatDriverInstance.free_loose (IsNotResourceError c.in-Err.fault) c.args.discarding below c.args.offset c.args.n c.loop-at.at (c.args.offset + c.args.n - c.loop-at.at) c.args.driver.now c.loop-at.driver c.discard_part.new.driver
    l.from (omega (arith, l.from)) (l.like.unspent ∙ c.requires.free) (l.range_change below) done.keeps_layer_state (went_weaker d (IsNotResourceError c.in-Err.fault) (IsNotResourceError c.in-Err.fault) (IsNotResourceError c.in-Err.fault) (IsNotResourceError c.in-Err.fault) c.loop-at.driver c.discard_part.new.driver (λ x. x) (λ x. x) done.mutating_call) done.values done.crash_images in
    let first = c.args.driver.now in let mid = c.loop-at.driver in let last = c.discard_part.new.driver in let at = c.loop-at.at in let rest = c.args.offset + c.args.n - at in
    let safe_on : d.well_formed first → d.well_formed mid = (l.range_change []).mutating_call.safely (tt, tt) in
    record {
      idle = λ none. absurd (omega (arith, none, l.from));
      untouched = λ none. absurd (omega (arith, none, l.from));
      values = λ well_formed below backed whole. (ran below).values whole (intact_alone d g.met.D.FormatDriverInstance.free_loose below c.args.driver.now c.requires.free well_formed backed);
      keeps_layer_state = like_both (d.layer c.args.driver.now) (d.layer c.loop-at.driver) (d.layer c.discard_part.new.driver) l.like done.keeps_layer_state;
      mutating_call = went_alone d g.met.D.FormatDriverInstance.free_loose (IsNotResourceError c.in-Err.fault) (GivesDiscarded c.args.discarding [] c.args.offset c.args.n) [] c.args.driver.now c.discard_part.new.driver (ran []);
      crash_images = λ well_formed below backed. (ran below).crash_images (intact_alone d g.met.D.FormatDriverInstance.free_loose below c.args.driver.now c.requires.free well_formed backed);
      room = λ well_formed whole. gives_up_both d c.args.offset c.args.n at rest first mid last l.from (omega (arith, l.from)) (l.room well_formed) (done.room (safe_on well_formed) whole);
      gives_up = λ well_formed below x call began part is_for none. tt;
      failed = failed_after (files d c.args.driver.now) (files d c.loop-at.driver) (files d c.discard_part.new.driver) c.in-Err.fault (l.range_change []).mutating_call.counts_not_fallen done.refused.failed;
      marks_failed = alone_behind d first mid last c.in-Err.fault l.like.fixed safe_on (alone_plain d mid last c.in-Err.fault done.refused.marks_failed);
      cause = λ well_formed below x call began part is_for.
          let within : IsPartOf call c.loop-at.at (c.args.offset + c.args.n - c.loop-at.at) = record { start = omega (arith, part.start, l.from); end = omega (arith, part.end, l.from) } in
          let has_no_dirty_data = (l.range_change []).mutating_call.safely (tt, tt) well_formed in
          part_cause_later below (d.layer c.args.driver.now) (d.layer c.loop-at.driver) c.args.offset c.args.n c.loop-at.at (c.args.offset + c.args.n - c.loop-at.at) (files d c.args.driver.now) (files d c.loop-at.driver) (files d c.discard_part.new.driver)
          l.like.fixed l.like.size (g.met.D.FormatDriverInstance.well_formed_is_usable c.args.driver.now well_formed) (g.met.D.FormatDriverInstance.well_formed_is_usable c.loop-at.driver has_no_dirty_data) (layer_aligned d.layer g.met.D.FormatDriverInstance.aligned c.args.driver.now).positive
          l.from (omega (arith, l.from)) (l.range_change []).mutating_call.counts_not_fallen (d.own_cause x below call) (d.own_cause x below call) c.in-Err.fault (λ h. h) (undeclined_cause below (d.layer c.loop-at.driver) c.loop-at.at (c.args.offset + c.args.n - c.loop-at.at) (d.own_cause x below call) (files d c.loop-at.driver) (files d c.discard_part.new.driver) c.in-Err.fault (λ h. absurd (cc (c.if-is_declined.ensures.1 h))) (done.refused.cause has_no_dirty_data below x call (l.began x call began part is_for) within is_for));
    }

pub returns-clause-mutating_call : goal.returns-clause-mutating_call
returns-clause-mutating_call g c = let d = g.D.DriverModel in
    went_weaker d ⊤ ⊤ ⊤ ⊤ c.args.driver.now c.loop-at.driver (λ x. tt) (λ x. x)
    (went_alone d g.met.D.FormatDriverInstance.free_loose ⊤ (GivesDiscarded c.args.discarding [] c.args.offset c.args.n) [] c.args.driver.now c.loop-at.driver (c.loop-at.invariant.range_change []))
