use Rattle.std.proofs.Common.{◌<◌, arith, length, refl}
use Rattle.qimg_core.proofs.Contents.Places.{adds-no-places, adds-no-place, adds-place, adds-all-places}
use Rattle.qimg_core.proofs.check.tables.reference_places.Goals as goal
use Rattle.qimg_core.proofs.check.tables.reference_places.Goals.{then-places-i-ne0+in_ok-reference_range, else-places-i-ne0}

pub loop-i-init : goal.loop-i-init
loop-i-init c = adds-no-places c.args.header.now.fields c.args.names.now c.args.places.now

pub loop-i-preserved : goal.loop-i-preserved
loop-i-preserved c =
    let h = c.args.header.now.fields in
    let inside : c.loop-i.i < length c.args.places.now = omega (arith, c.loop-i-test.true) in
    elim c.if-places-i-ne0.branch [
      | then-places-i-ne0+in_ok-reference_range w ↦ rw w.names-is (adds-place h c.args.names.now c.loop-i.names w.reference_range.new.names c.args.places.now c.loop-i.i _ inside refl w.if-places-i-ne0.true c.loop-i.invariant (rw (← c.cluster_size-size.ensures.value) w.in_ok-reference_range.ensures.ok))
      | else-places-i-ne0 w ↦ rw w.names-is (adds-no-place h c.args.names.now c.loop-i.names c.args.places.now c.loop-i.i inside w.if-places-i-ne0.false c.loop-i.invariant)
    ]

pub returns-clause-ok : goal.returns-clause-ok
returns-clause-ok c = adds-all-places c.args.header.now.fields c.args.names.now c.loop-i.names c.args.places.now c.loop-i.i (omega (arith, c.loop-i-test.false, c.loop-i.auto.i-end)) c.loop-i.invariant
