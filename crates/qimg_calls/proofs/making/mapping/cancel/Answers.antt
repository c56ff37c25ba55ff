use Rattle.std.specs.Prelude.{Some, IsTrue}
use Rattle.std.proofs.Common.{inl, inr, refl, arith, subst, sym}
use Rattle.imago_storage.specs.Steps.{done}
use Rattle.imago_access.specs.Running.{below_of, chain_disk}
use Rattle.qimg_calls.specs.Since.{Begun}
use Rattle.qimg_calls.specs.Held.{chain_with_mapping, disk_call}
use Rattle.qimg_calls.specs.declared.call.Call.TheVariants as calls
use Rattle.qimg_calls.proofs.Committing.{cancel-leads}
use Rattle.qimg_calls.proofs.EarlyEnds.{top-stays-failed}
use Rattle.qimg_calls.proofs.Spending.{cancelled-between, free-then}
use Rattle.qimg_calls.proofs.making.mapping.cancel.Goals as goal

pub returns : goal.returns
returns g c =
    let d = g.D.DriverModel in
    let old = c.args.chain.now in
    let new = c.cancel.new.self in
    let e = c.in-Ok.ensures in
    let m = c.args.mapping in
    let kept = c.requires.mapping_prepared in
    let call = disk_call d (chain_with_mapping old (Some m)) calls.Cancel in
    record {
      made = record {
        fits = refl;
        early_outcome = λ f is. absurd (cc is);
        idle = λ nothing usable. tt;
        untouched = λ early. elim early [ inl nothing ↦ absurd nothing | inr some ↦ absurd (cc some) ];
        stays_kept = λ some. absurd (cc some);
        room = λ intact on. tt;
        units = λ intact may was. tt;
        marks_failed = tt;
        stays_failed = top-stays-failed d old new (λ was. subst IsTrue (sym e.cancels.failed) was) e.below;
        failed = tt;
        cancels = λ _. (tt, refl);
        moves = λ intact. ((done, refl, e.ok kept.mine, tt), refl);
        leads = cancel-leads d g.met.D.FormatDriverInstance.well_formed_is_usable old new m e.below kept call _ e.cancels (omega arith) (λ ready. e.intact kept.mine ready.intact)
            (λ ready. cancelled-between (Begun (below_of d.layer old) (chain_disk d.layer old) call) (below_of d.layer old) _ _ (chain_disk d.layer old) (chain_disk d.layer new) (e.ok kept.mine));
        mapping_prepared = λ k. record { mine = tt; free = λ none. free-then d m.state (d.layer old.0) (d.layer new.0) (λ some. e.free kept.mine some) (λ none. e.stateless none) kept.free };
        same = λ no. absurd (cc no);
      };
      unasked = e.cancels.none.0;
    }
