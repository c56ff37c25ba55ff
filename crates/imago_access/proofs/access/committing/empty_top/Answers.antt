use Rattle.imago_access.proofs.Answers.{handed_on}
use Rattle.imago_access.proofs.Emptying.{emptied_err, emptied_ok}
use Rattle.imago_access.proofs.access.committing.empty_top.Goals as goal

pub returns-in_err-discard_all : goal.returns-in_err-discard_all
returns-in_err-discard_all g c = rw (handed_on _ _ c.from_residual.ensures.1) (let d = g.D.DriverModel in let m = g.met.D.FormatDriverInstance in let e = c.in_err-discard_all.ensures in record {
  empties = emptied_err d m.free_loose m.well_formed_is_coherent c.in_err-discard_all.field-0.0 c.args.driver.now c.discard_all.new.driver c.requires.free
      (rw (c.size-size.ensures) at e.values) e.keeps_layer_state e.mutating_call (rw (c.size-size.ensures) at e.crash_images) e.failed (rw (c.size-size.ensures) at e.cause) m.begins;
})

pub returns : goal.returns
returns g c = let d = g.D.DriverModel in let m = g.met.D.FormatDriverInstance in let e = c.in_ok-discard_all.ensures in let f = c.flush.ensures in record {
  empties = emptied_ok d m.free_loose m.well_formed_is_coherent c.in_ok-discard_all.field-0 c.flush.result c.args.driver.now c.discard_all.new.driver c.flush.new.self c.requires.free
      (rw (c.size-size.ensures) at e.values) e.keeps_layer_state e.mutating_call (rw (c.size-size.ensures) at e.crash_images) (rw (c.size-size.ensures) at e.gives_up) m.begins m.well_formed_is_usable
      (record { coherent = f.coherent; has_no_dirty_data = f.has_no_dirty_data; written = f.written; counted = f.counted; crash_images = f.crash_images; early_outcome = f.early_outcome; keeps_layer_state = f.keeps_layer_state; mutating_call = f.mutating_call; failed = f.failed; marks_failed = f.marks_failed; cause = f.cause });
}
