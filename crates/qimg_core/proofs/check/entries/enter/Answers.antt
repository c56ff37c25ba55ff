use Rattle.std.proofs.Common.{refl, arith, ap, ◌∙◌, length}
use Rattle.std.proofs.lemmas.List.{length_push}
use Rattle.qimg_core.proofs.Names.Entries.{EntersDigits, adds-skip, adds-push, digits-reach}
use Rattle.qimg_core.proofs.check.entries.enter.Goals as goal
use Rattle.qimg_core.proofs.check.entries.enter.Goals.{then-digit-ne0+in_ok-push, else-digit-ne0}

pub loop-place-preserved : goal.loop-place-preserved
loop-place-preserved c =
    let before : EntersDigits c.args.list.now.items c.loop-place.list.items c.args.cluster c.args.times c.loop-place.place = c.loop-place.invariant in
    let needed = digits-reach c.args.times c.loop-place.place c.if-rest-eq0.false in
    elim c.if-digit-ne0.branch [
      | then-digit-ne0+in_ok-push w ↦ rw w.list-is (record {
        adds = adds-push _ c.loop-place.list.items _ c.args.cluster c.args.times c.loop-place.place _ refl c.loop-place-test.true w.in_ok-push.ensures.items before.adds;
        few = omega (arith, before.few, ap length w.in_ok-push.ensures.items ∙ length_push c.loop-place.list.items _);
        needed = needed;
      })
      | else-digit-ne0 w ↦ rw w.list-is (record { adds = adds-skip _ _ c.args.cluster c.args.times c.loop-place.place w.if-digit-ne0.false before.adds; few = omega (arith, before.few); needed = needed })
    ]
