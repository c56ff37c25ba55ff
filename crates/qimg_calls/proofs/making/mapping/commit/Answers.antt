use Rattle.std.proofs.Common.{inl, refl}
use Rattle.imago_storage.specs.Steps.{done}
use Rattle.imago_access.specs.Spending.{commit_refusal}
use Rattle.qimg_calls.proofs.Committing.{commit-leads, refused-makes}
use Rattle.qimg_calls.proofs.EarlyEnds.{top-stays-failed, value-of}
use Rattle.qimg_calls.proofs.Spending.{free-then}
use Rattle.qimg_calls.proofs.making.mapping.commit.Goals as goal

pub returns-in-Ok : goal.returns-in-Ok
returns-in-Ok g c =
    let d = g.D.DriverModel in
    let old = c.args.chain.now in
    let new = c.commit_data_mapping.new.self in
    let e = c.in-Ok.ensures in
    let m = c.args.mapping in
    let kept = c.requires.mapping_prepared in
    record {
      fits = refl;
      early_outcome = λ f is. absurd (e.refused.early_outcome f is);
      idle = λ nothing usable. tt;
      untouched = λ early. (e.refused.unchanged early, e.below);
      stays_kept = λ some. let f = value-of (commit_refusal d m.state (d.layer old.0)) some in absurd (e.refused.early_outcome f.0 f.1);
      room = λ intact on. tt;
      units = λ intact may was. tt;
      marks_failed = tt;
      stays_failed = top-stays-failed d old new e.commits.mutating_call.failed e.below;
      failed = tt;
      cancels = λ is. absurd (cc is);
      moves = λ intact. ((done, refl, e.ok intact kept.mine, e.writable_location intact kept.mine), refl);
      leads = commit-leads d g.met.D.FormatDriverInstance.well_formed_is_usable old new m e.below kept (λ ready. e.crash_images ready.intact kept.mine) e.commits (λ ready. e.intact kept.mine ready.intact) (λ ready. e.ok ready.intact kept.mine);
      mapping_prepared = λ k. record { mine = tt; free = λ none. free-then d m.state (d.layer old.0) (d.layer new.0) (λ some. e.free kept.mine some) (λ none. e.stateless none) kept.free };
      same = λ no. absurd (cc no);
    }

pub returns-in-Err : goal.returns-in-Err
returns-in-Err g c =
    let d = g.D.DriverModel in
    let old = c.args.chain.now in
    let new = c.commit_data_mapping.new.self in
    let e = c.in-Err.ensures in
    let kept = c.requires.mapping_prepared in
    refused-makes d g.met.D.FormatDriverInstance.well_formed_is_usable old new c.args.mapping e.below kept (λ ready. e.crash_images ready.intact kept.mine) c.in-Err.fault c.in-Err.back e.commits e.refused (λ intact. e.cause intact (inl kept.mine))
