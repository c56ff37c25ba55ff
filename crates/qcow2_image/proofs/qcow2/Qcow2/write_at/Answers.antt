use Rattle.std.proofs.Common.{arith, ap, refl}
use Rattle.std.specs.Prelude.{Err, Ok, true}
use Rattle.imago_storage.specs.declared.padding.WriteFault.TheVariants.{Before, Within}
use Rattle.imago_storage.proofs.Once.{not-begun-below, put-below}
use Rattle.imago_storage.proofs.Trying.{untold}
use Rattle.qcow2_image.specs.Seen.{with_image}
use Rattle.qcow2_image.specs.Steps.{failed_by}
use Rattle.qcow2_image.proofs.WritesInPlace.{marks-before, marks-within}
use Rattle.qcow2_image.proofs.qcow2.Qcow2.write_at.Goals as goal

pub returns-in-Ok : goal.returns-in-Ok
returns-in-Ok g c = record {
  put = put-below (Ok tt) _ _ c.args.place c.args.bytes.now c.try_write.ensures.unit (omega (arith, c.requires.end_bounded)) (rw c.in-Ok.is at c.try_write.ensures.ok) tt c.try_write.ensures.crash_images c.try_write.ensures.shape c.try_write.ensures.counts_not_fallen;
  header = refl;
  l1 = refl;
  caches = refl;
  space = refl;
  mode = refl;
  number = refl;
  unspent = refl;
  failed = c.requires.runs;
}

pub returns-in-Err-Before : goal.returns-in-Err-Before
returns-in-Err-Before g c =
    let fault = c.in-Err-Before.fault in
    let refused = rw c.in-Err-Before.field-0-is at c.in-Err-Before.ensures.err in
    let before = with_image c.args.self.now c.try_write.new.self in
    rw c.mark.ensures (record {
      put = put-below (Err fault) _ _ c.args.place c.args.bytes.now c.try_write.ensures.unit (omega (arith, c.requires.end_bounded)) tt (untold _ _ _ _ (Before fault) refused) c.try_write.ensures.crash_images c.try_write.ensures.shape c.try_write.ensures.counts_not_fallen;
      header = refl;
      l1 = refl;
      caches = refl;
      space = refl;
      mode = refl;
      number = refl;
      unspent = refl;
      failed = marks-before g.S.Storage c.args.self.now (record before { failed = failed_by fault before.failed }) fault (ap (failed_by fault) c.requires.runs) (not-begun-below _ _ _ _ fault c.try_write.ensures.unit (omega (arith, c.requires.end_bounded)) refused);
    })

pub returns-in-Err-Within : goal.returns-in-Err-Within
returns-in-Err-Within g c =
    let fault = c.in-Err-Within.fault in
    let refused = rw c.in-Err-Within.field-0-is at c.in-Err-Within.ensures.err in record {
      put = put-below (Err fault) _ _ c.args.place c.args.bytes.now c.try_write.ensures.unit (omega (arith, c.requires.end_bounded)) tt (untold _ _ _ _ (Within fault) refused) c.try_write.ensures.crash_images c.try_write.ensures.shape c.try_write.ensures.counts_not_fallen;
      header = refl;
      l1 = refl;
      caches = refl;
      space = refl;
      mode = refl;
      number = refl;
      unspent = refl;
      failed = marks-within g.S.Storage c.args.self.now (record (with_image c.args.self.now c.try_write.new.self) { failed = true }) _ _ _ fault refl refused;
    }
