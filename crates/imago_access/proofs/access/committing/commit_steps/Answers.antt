use Rattle.std.proofs.Common.{Err, Ok, inr, ◌∙◌}
use Rattle.imago_access.proofs.Answers.{handed_on}
use Rattle.imago_access.proofs.CommitSteps.{commits_unflushed, failed_unflushed, spared_unflushed, cause_unflushed, commits_filled, failed_filled, spared_filled, cause_filled, commits_emptied, failed_emptied, cause_emptied}
use Rattle.imago_access.proofs.Emptying.{Flushes}
use Rattle.imago_access.proofs.access.committing.commit_steps.Goals as goal

pub returns-in_err-flush : goal.returns-in_err-flush
returns-in_err-flush g c = rw (handed_on _ _ c.from_residual.ensures.1) (
    let d = g.D.DriverModel in let m = g.met.D.FormatDriverInstance in let f = c.in_err-flush.ensures in let e = c.in_err-flush.field-0.0 in
    let a = c.args.driver.now in let a1 = c.flush.new.self in let x = c.args.next.now in
    let flushed : Flushes d (Err e) a a1 = record { coherent = f.coherent; has_no_dirty_data = f.has_no_dirty_data; written = f.written; counted = f.counted; crash_images = f.crash_images; early_outcome = f.early_outcome; keeps_layer_state = f.keeps_layer_state; mutating_call = f.mutating_call; failed = f.failed; marks_failed = f.marks_failed; cause = f.cause } in
    record {
      does = commits_unflushed d m.free_loose m.well_formed_is_coherent m.well_formed_is_usable e a a1 x flushed c.requires.free;
      usable = λ marks. inr (λ i. i.is_well_formed);
      failed = failed_unflushed d m.free_loose m.well_formed_is_coherent m.well_formed_is_usable e a a1 x flushed;
      spared = λ is. spared_unflushed d m.free_loose m.well_formed_is_coherent m.well_formed_is_usable e a a1 x flushed;
      cause = cause_unflushed d m.free_loose m.well_formed_is_coherent m.well_formed_is_usable e a a1 x flushed c.requires.allowed;
    })

pub returns-in_err-fill_next : goal.returns-in_err-fill_next
returns-in_err-fill_next g c = rw (handed_on _ _ c.from_residual-in_err-fill_next.ensures.1) (
    let d = g.D.DriverModel in let m = g.met.D.FormatDriverInstance in let f = c.in_ok-flush.ensures in let v = c.in_ok-flush.field-0 in
    let a = c.args.driver.now in let a1 = c.flush.new.self in let a2 = c.fill_next.new.driver in let x = c.args.next.now in let y = c.fill_next.new.next in
    let e = c.in_err-fill_next.field-0.0 in let fill = c.in_err-fill_next.ensures in
    let flushed : Flushes d (Ok v) a a1 = record { coherent = f.coherent; has_no_dirty_data = f.has_no_dirty_data; written = f.written; counted = f.counted; crash_images = f.crash_images; early_outcome = f.early_outcome; keeps_layer_state = f.keeps_layer_state; mutating_call = f.mutating_call; failed = tt; marks_failed = tt; cause = λ w. tt } in
    record {
      does = commits_filled d m.free_loose m.well_formed_is_coherent m.well_formed_is_usable a a1 x v flushed c.requires.free c.requires.allowed e a2 y fill.copies fill.settled;
      usable = fill.copies.usable;
      failed = failed_filled d m.free_loose m.well_formed_is_coherent m.well_formed_is_usable a a1 x v flushed c.requires.free c.requires.allowed e a2 y fill.copies;
      spared = λ is. spared_filled d m.free_loose m.well_formed_is_coherent m.well_formed_is_usable a a1 x v flushed c.requires.free c.requires.allowed e a2 y fill.copies (fill.begun is);
      cause = cause_filled d m.free_loose m.well_formed_is_coherent m.well_formed_is_usable a a1 x v flushed c.requires.free c.requires.allowed e a2 y fill.copies;
    })

pub returns : goal.returns
returns g c =
    let d = g.D.DriverModel in let m = g.met.D.FormatDriverInstance in let f = c.in_ok-flush.ensures in let v = c.in_ok-flush.field-0 in
    let a = c.args.driver.now in let a1 = c.flush.new.self in let a2 = c.fill_next.new.driver in let a3 = c.empty_top.new.driver in let x = c.args.next.now in let y = c.fill_next.new.next in
    let u = c.in_ok-fill_next.field-0 in let fill = c.in_ok-fill_next.ensures in let r = c.empty_top.result in let empty = c.empty_top.ensures.empties in
    let flushed : Flushes d (Ok v) a a1 = record { coherent = f.coherent; has_no_dirty_data = f.has_no_dirty_data; written = f.written; counted = f.counted; crash_images = f.crash_images; early_outcome = f.early_outcome; keeps_layer_state = f.keeps_layer_state; mutating_call = f.mutating_call; failed = tt; marks_failed = tt; cause = λ w. tt } in
    record {
      does = commits_emptied d m.free_loose m.well_formed_is_coherent m.well_formed_is_usable a a1 x v flushed c.requires.free c.requires.allowed u a2 a3 y fill.copies fill.taken (λ i none. fill.settled i none tt) r empty;
      usable = fill.copies.usable;
      failed = failed_emptied d m.free_loose m.well_formed_is_coherent m.well_formed_is_usable a a1 x v flushed c.requires.free c.requires.allowed u a2 a3 y fill.copies fill.taken (λ i none. fill.settled i none tt) r empty;
      spared = λ is. absurd (cc (is, fill.all_begun));
      cause = cause_emptied d m.free_loose m.well_formed_is_coherent m.well_formed_is_usable a a1 x v flushed c.requires.free c.requires.allowed u a2 a3 y fill.copies fill.taken (λ i none. fill.settled i none tt) r empty;
    }

pub empty_top-requires : goal.empty_top-requires
empty_top-requires g c = let f = c.in_ok-flush.ensures in
    record { free = c.in_ok-fill_next.ensures.copies.top.keeps_layer_state.unspent ∙ f.keeps_layer_state.unspent ∙ c.requires.free }
