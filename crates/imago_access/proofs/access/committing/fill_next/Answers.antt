use Rattle.std.proofs.Common.{Ok, Err, List, sym, subst}
use Rattle.imago_access.specs.Committing.{CopiesDown, TakesOwnTo}
use Rattle.imago_access.specs.Layers.{layers}
use Rattle.std.specs.Prelude.{OnOk}
use Rattle.imago_access.proofs.Answers.{handed_on}
use Rattle.imago_access.proofs.Emptying.{copies_flushed, copies_unflushed, settled_behind, taken_flushed}
use Rattle.imago_access.proofs.access.committing.fill_next.Goals as goal

pub returns-in_err-flush-clause-copies : goal.returns-in_err-flush-clause-copies
returns-in_err-flush-clause-copies g c = rw (handed_on _ _ c.from_residual.ensures.1) (
    let d = g.D.DriverModel in let m = g.met.D.FormatDriverInstance in let f = c.in_err-flush.ensures in let e = c.in_err-flush.field-0.0 in let copied = c.copy_down-copied.result in
    let a = c.args.driver.now in let b = c.copy_down-copied.new.driver in let x = c.args.next.now in let y : g.row.D.Denot × List g.row.D.Denot = (c.next.inside.driver, layers c.next.inside.below) in
    let first : CopiesDown d copied a b x y = rw (c.next.view_is) c.copy_down-copied.ensures.copies in
    copies_unflushed d m.well_formed_is_coherent m.well_formed_is_usable copied e a b x y c.flush.new.self (c.had_resource_error.ensures.none c.if-had_resource_error.false) first
    (record { coherent = f.coherent; has_no_dirty_data = f.has_no_dirty_data; written = f.written; counted = f.counted; crash_images = f.crash_images; early_outcome = f.early_outcome; keeps_layer_state = f.keeps_layer_state; mutating_call = f.mutating_call; failed = f.failed; marks_failed = f.marks_failed; cause = f.cause }))

pub returns-in_err-flush-clause-settled : goal.returns-in_err-flush-clause-settled
returns-in_err-flush-clause-settled g c = rw (handed_on _ _ c.from_residual.ensures.1) (λ i none mild.
    let d = g.D.DriverModel in let m = g.met.D.FormatDriverInstance in let f = c.in_err-flush.ensures in let e = c.in_err-flush.field-0.0 in let copied = c.copy_down-copied.result in
    let a = c.args.driver.now in let b = c.copy_down-copied.new.driver in let x = c.args.next.now in let y : g.row.D.Denot × List g.row.D.Denot = (c.next.inside.driver, layers c.next.inside.below) in
    let first : CopiesDown d copied a b x y = rw (c.next.view_is) c.copy_down-copied.ensures.copies in
    settled_behind d m.well_formed_is_coherent m.well_formed_is_usable copied (Err e) a b x y c.flush.new.self (c.had_resource_error.ensures.none c.if-had_resource_error.false) first c.requires.free
    (record { coherent = f.coherent; has_no_dirty_data = f.has_no_dirty_data; written = f.written; counted = f.counted; crash_images = f.crash_images; early_outcome = f.early_outcome; keeps_layer_state = f.keeps_layer_state; mutating_call = f.mutating_call; failed = f.failed; marks_failed = f.marks_failed; cause = f.cause })
    i none mild)

pub returns-clause-copies : goal.returns-clause-copies
returns-clause-copies g c =
    let d = g.D.DriverModel in let m = g.met.D.FormatDriverInstance in let f = c.in_ok-flush.ensures in let v = c.in_ok-flush.field-0 in let copied = c.copy_down-copied.result in
    let a = c.args.driver.now in let b = c.copy_down-copied.new.driver in let x = c.args.next.now in let y : g.row.D.Denot × List g.row.D.Denot = (c.next.inside.driver, layers c.next.inside.below) in
    let first : CopiesDown d copied a b x y = rw (c.next.view_is) c.copy_down-copied.ensures.copies in
    copies_flushed d m.well_formed_is_coherent copied v a b x y c.flush.new.self (c.had_resource_error.ensures.none c.if-had_resource_error.false) first
    (record { coherent = f.coherent; has_no_dirty_data = f.has_no_dirty_data; written = f.written; counted = f.counted; crash_images = f.crash_images; early_outcome = f.early_outcome; keeps_layer_state = f.keeps_layer_state; mutating_call = f.mutating_call; failed = tt; marks_failed = tt; cause = λ w. tt })

pub returns-clause-taken : goal.returns-clause-taken
returns-clause-taken g c =
    let d = g.D.DriverModel in let m = g.met.D.FormatDriverInstance in let f = c.in_ok-flush.ensures in let v = c.in_ok-flush.field-0 in let copied = c.copy_down-copied.result in
    let a = c.args.driver.now in let b = c.copy_down-copied.new.driver in let x = c.args.next.now in let y : g.row.D.Denot × List g.row.D.Denot = (c.next.inside.driver, layers c.next.inside.below) in
    let first : CopiesDown d copied a b x y = rw (c.next.view_is) c.copy_down-copied.ensures.copies in
    let taken : OnOk copied (TakesOwnTo d (d.layer a).size a x y) = subst (λ (z : g.row.D.Denot × List g.row.D.Denot). OnOk copied (TakesOwnTo d (d.layer a).size a x z)) (sym c.next.view_is) c.copy_down-copied.ensures.taken in
    taken_flushed d m.well_formed_is_coherent copied v (d.layer a).size a b x y c.flush.new.self first
    (record { coherent = f.coherent; has_no_dirty_data = f.has_no_dirty_data; written = f.written; counted = f.counted; crash_images = f.crash_images; early_outcome = f.early_outcome; keeps_layer_state = f.keeps_layer_state; mutating_call = f.mutating_call; failed = tt; marks_failed = tt; cause = λ w. tt })
    taken

pub returns-clause-settled : goal.returns-clause-settled
returns-clause-settled g c = λ i none whole.
    let d = g.D.DriverModel in let m = g.met.D.FormatDriverInstance in let f = c.in_ok-flush.ensures in let v = c.in_ok-flush.field-0 in let copied = c.copy_down-copied.result in
    let a = c.args.driver.now in let b = c.copy_down-copied.new.driver in let x = c.args.next.now in let y : g.row.D.Denot × List g.row.D.Denot = (c.next.inside.driver, layers c.next.inside.below) in
    let first : CopiesDown d copied a b x y = rw (c.next.view_is) c.copy_down-copied.ensures.copies in
    settled_behind d m.well_formed_is_coherent m.well_formed_is_usable copied (Ok v) a b x y c.flush.new.self (c.had_resource_error.ensures.none c.if-had_resource_error.false) first c.requires.free
    (record { coherent = f.coherent; has_no_dirty_data = f.has_no_dirty_data; written = f.written; counted = f.counted; crash_images = f.crash_images; early_outcome = f.early_outcome; keeps_layer_state = f.keeps_layer_state; mutating_call = f.mutating_call; failed = tt; marks_failed = tt; cause = λ w. tt })
    i none tt
