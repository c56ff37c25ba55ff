use Rattle.std.proofs.Common.{arith, refl, Ok, Err}
use Rattle.imago_storage.specs.declared.fault.Fault.TheVariants.{Failed}
use Rattle.qcow2_alloc.proofs.Faults.{handed-on}
use Rattle.qcow2_image.specs.Clearing.{MayClear}
use Rattle.qcow2_image.specs.Seen.{layer_of}
use Rattle.qcow2_image.proofs.CallsWithoutChanges.{runs-barrier}
use Rattle.qcow2_image.proofs.Clearings.RangeClears.{may-clear, range-cleared, range-empty, range-impossible, range-refused, range-skipped, range-unmet}
use Rattle.qcow2_image.proofs.qcow2.Qcow2.clear.Goals as goal

pub returns-then-self : goal.returns-then-self
returns-then-self g c = range-refused g.S.Storage c.args.clearing c.args.offset c.args.length c.args.self.now Failed (rw c.if-self.true refl)

pub returns-then-length-eq0 : goal.returns-then-length-eq0
returns-then-length-eq0 g c = range-empty g.S.Storage c.args.clearing c.args.offset c.args.length c.args.self.now c.if-length-eq0.true
    (runs-barrier (layer_of g.S.Storage c.args.self.now) c.if-self.false refl)

pub returns-in_err-check_change : goal.returns-in_err-check_change
returns-in_err-check_change g c = rw (handed-on _ _ c.from_residual.ensures.1)
    (range-refused g.S.Storage c.args.clearing c.args.offset c.args.length c.args.self.now c.in_err-check_change.field-0.0
    c.in_err-check_change.ensures.err)

pub returns-in_err-check_version : goal.returns-in_err-check_version
returns-in_err-check_version g c =
    let old = c.args.self.now in
    let change = c.in_ok-check_change.ensures in
    let some = c.if-length-eq0.false in
    let is = c.in_err-check_version.ensures.err in
    let may : MayClear g.S.Storage c.args.offset c.args.length old = may-clear g.S.Storage c.args.clearing c.args.offset c.args.length c.args.self.now change.ok change.writable change.inside change.fits change.runs
    (omega (arith, some)) in
    rw (handed-on _ _ c.from_residual-in_err-check_version.ensures.1, is.0)
    (range-impossible g.S.Storage c.args.clearing c.args.offset c.args.length old may is.1)

pub returns-then-count-eq0 : goal.returns-then-count-eq0
returns-then-count-eq0 g c =
    let change = c.in_ok-check_change.ensures in
    let some = c.if-length-eq0.false in
    let none = c.if-count-eq0.true in
    range-unmet g.S.Storage c.args.clearing c.args.offset c.args.length c.args.self.now (may-clear g.S.Storage c.args.clearing c.args.offset c.args.length c.args.self.now change.ok change.writable change.inside change.fits change.runs
    (omega (arith, some))) c.in_ok-check_version.ensures.ok c.whole_part-part.result c.whole_part-part.ensures (omega (arith, c.count.view_is, none))

pub returns-then-is_past_l1 : goal.returns-then-is_past_l1
returns-then-is_past_l1 g c =
    let change = c.in_ok-check_change.ensures in
    let some = c.if-length-eq0.false in
    let any = c.if-count-eq0.false in
    let past = c.is_past_l1.ensures.0 c.if-is_past_l1.true in
    range-skipped g.S.Storage c.args.clearing c.args.offset c.args.length c.args.self.now (may-clear g.S.Storage c.args.clearing c.args.offset c.args.length c.args.self.now change.ok change.writable change.inside change.fits change.runs
    (omega (arith, some))) c.in_ok-check_version.ensures.ok c.whole_part-part.result c.whole_part-part.ensures past.0
    (omega (arith, c.count.view_is, any)) past.1

pub returns-in_err-clear_part : goal.returns-in_err-clear_part
returns-in_err-clear_part g c =
    let change = c.in_ok-check_change.ensures in
    let some = c.if-length-eq0.false in
    let any = c.if-count-eq0.false in
    rw (handed-on _ _ c.from_residual-in_err-clear_part.ensures.1)
    (range-cleared g.S.Storage c.args.clearing c.args.offset c.args.length c.args.self.now (may-clear g.S.Storage c.args.clearing c.args.offset c.args.length c.args.self.now change.ok change.writable change.inside change.fits change.runs
    (omega (arith, some))) c.in_ok-check_version.ensures.ok c.whole_part-part.result c.whole_part-part.ensures (Err c.in_err-clear_part.field-0.0)
    c.clear_part.new.self (omega (arith, c.count.view_is, any)) c.in_err-clear_part.ensures)

pub returns : goal.returns
returns g c =
    let change = c.in_ok-check_change.ensures in
    let some = c.if-length-eq0.false in
    let any = c.if-count-eq0.false in
    range-cleared g.S.Storage c.args.clearing c.args.offset c.args.length c.args.self.now (may-clear g.S.Storage c.args.clearing c.args.offset c.args.length c.args.self.now change.ok change.writable change.inside change.fits change.runs
    (omega (arith, some))) c.in_ok-check_version.ensures.ok c.whole_part-part.result c.whole_part-part.ensures (Ok tt) c.clear_part.new.self
    (omega (arith, c.count.view_is, any)) c.in_ok-clear_part.ensures
