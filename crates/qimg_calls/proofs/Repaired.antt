-- A repair of leaks as a call of a list.
use Rattle.std.proofs.Common.{◌≡◌, ℕ, ◌<◌, List, ◌∷◌, arith, refl, sym, ap, subst, inl, inr}
use Rattle.std.specs.Prelude.{Bool, true, false, Some, Vec, Result, Ok, Err, IsSome, drop, map}
use Rattle.std.specs.Global.{Global}
use Rattle.imago_storage.specs.State.{StorageState}
use Rattle.imago_storage.specs.Steps.{flush, done}
use Rattle.imago_storage.specs.declared.fault.Fault.{Fault}
use Rattle.imago_storage.specs.declared.fault.Fault.TheVariants.{Memory, Storage}
use Rattle.imago_access.specs.declared.driver_model.DriverModel.{Ghosts}
use Rattle.imago_access.specs.Chain.{at}
use Rattle.imago_access.specs.Files.{HadNoResourceError, IsNotResourceError, files, files_of}
use Rattle.imago_access.specs.Going.{IsUnchanged}
use Rattle.imago_access.specs.Layer.{Layer}
use Rattle.imago_access.specs.Running.{IsIntactChain, below_of, chain_disk}
use Rattle.imago_access.specs.Stops.{GivesNone}
use Rattle.imago_access.proofs.FilePairs.{kept_all_same}
use Rattle.qimg_calls.specs.declared.call.Call.TheVariants as calls
use Rattle.qimg_calls.specs.declared.call.Answer.TheVariants as told
use Rattle.qimg_calls.specs.Held.{IsReady}
use Rattle.qimg_calls.specs.Leading.{LeavesExcess, LeavesForNext}
use Rattle.qimg_calls.specs.Making.{MakesAlone}
use Rattle.qimg_calls.specs.Repairing.{RepairCause, RepairsLeaksOf, repair_refusal}
use Rattle.qimg_calls.specs.Since.{Begun}
use Rattle.qimg_calls.proofs.EarlyEnds.{top-stays-failed}
use Rattle.qimg_calls.proofs.Leading.{fewer-stops, stays-committable}
use Rattle.qimg_calls.proofs.Moving.{layer-stays, top-failed}

-- An error of a repair other than a resource error comes before anything is done.
refused-first : (layer : Layer) (olds news : List StorageState) (fault : Fault) → IsNotResourceError fault → RepairCause layer olds news fault → repair_refusal layer ≡ Some fault
refused-first layer olds news Memory not_resource_error cause = absurd not_resource_error
refused-first layer olds news Storage not_resource_error cause = absurd not_resource_error
refused-first layer olds news fault not_resource_error cause = cause

module _ {D St : Type 0} (g : Ghosts D St) (old new : D × List D) (below : new.1 ≡ old.1) where
  -- The disk stays the same, and the layers below are unchanged.
  repair-leads : (result : Result (Vec (ℕ × ℕ) Global) Fault) (repaired : Bool) → RepairsLeaksOf g old.0 result new.0 → (HadNoResourceError result → IsReady g old → LeavesExcess g repaired old.0 new.0)
      → LeavesForNext g (HadNoResourceError result) flush repaired old new
  repair-leads result repaired repairs excess =
      let top : HadNoResourceError result → IsReady g old → g.layer new.0 ≡ g.layer old.0 = λ w ready. repairs.same ready.intact.is_well_formed w in
      let intact : HadNoResourceError result → IsReady g old → IsIntactChain g new = λ w ready. record {
        is_well_formed = repairs.reloading_call.safely w ready.intact.is_well_formed;
        is_coherent = rw (below) ready.intact.is_coherent;
        backed = rw (top w ready, below) ready.intact.backed;
        held = rw (top w ready, below) ready.intact.held;
      } in
      record {
        fixed = repairs.reloading_call.fixed;
        counts_not_fallen = repairs.reloading_call.counts_not_fallen.0;
        faults = λ w ready. (repairs.reloading_call.faults w).0;
        excess_refcount = excess;
        layers_below = λ has_no_dirty_data. rw (below) (kept_all_same (files_of g old.1), has_no_dirty_data);
        deeper = λ clean. rw (below) (kept_all_same (files_of g (drop 1 old.1)), clean);
        committable = λ w ready i. stays-committable g old new (intact w ready) (rw (below) refl) (rw (below) (kept_all_same (files_of g old.1))) (rw (below) (λ f. f)) i;
        below = λ w ready. rw (below) refl;
        ready = λ w ready. record {
          intact = intact w ready;
          usable = rw (top w ready, below) ready.usable;
          has_no_dirty_data = rw (below) ready.has_no_dirty_data;
          layers_bounded = rw (below) ready.layers_bounded;
        };
        shows = λ w ready p inside. inl (subst (λ (l : Layer). p < l.size) (top w ready) inside, ap (λ l. at (l ∷ map g.layer old.1) p) (top w ready));
        crash_images = λ ready. fewer-stops g (map g.layer old.1) (g.layer old.0).size (g.layer old.0).size (g.layer old.0).size (g.layer old.0).size GivesNone (Begun (below_of g.layer old) (chain_disk g.layer old) flush) old.0 new.0
            (omega arith) (omega arith) (λ p v none. absurd none) (repairs.crash_images ready.intact.is_well_formed (map g.layer old.1));
      }

  -- If the repair fails early, nothing has changed.
  unchanged-early : (result : Result (Vec (ℕ × ℕ) Global) Fault) → RepairsLeaksOf g old.0 result new.0 → IsSome (repair_refusal (g.layer old.0)) → IsUnchanged g old.0 new.0
  unchanged-early result repairs some = repairs.early_outcome.unchanged (inr some)

  -- The repair succeeded.
  pub repaired-makes : (leaks : Vec (ℕ × ℕ) Global) → RepairsLeaksOf g old.0 (Ok leaks) new.0 → MakesAlone g calls.RepairLeaks (told.Leaks leaks) old new
  repaired-makes leaks repairs = record {
    fits = tt;
    early_outcome = λ f is. absurd (cc (repairs.early_outcome.refused f is));
    idle = λ nothing usable. tt;
    untouched = λ early. elim early [ inl nothing ↦ absurd nothing | inr some ↦ (unchanged-early (Ok leaks) repairs some, below) ];
    stays_kept = λ some. refl;
    moves = λ intact.
        let wf = intact.is_well_formed in
        let same : g.layer new.0 ≡ g.layer old.0 = repairs.same wf tt in
        ((done, refl, layer-stays g old new below same, (same, repairs.written wf refl, repairs.counted wf refl, repairs.listed wf)), refl);
    room = λ intact on. tt;
    units = λ intact may was. tt;
    marks_failed = tt;
    stays_failed = top-stays-failed g old new repairs.reloading_call.failed below;
    failed = tt;
    cancels = λ is. absurd (cc is);
    leads = repair-leads (Ok leaks) true repairs (λ w ready. repairs.repaired ready.intact.is_well_formed refl);
    mapping_prepared = λ kept. record { mine = tt; free = λ none. rw (repairs.keeps_layer_state.unspent) (kept.free refl) };
    same = λ _. refl;
  }

  -- The repair failed.
  pub refused-makes : (fault : Fault) → RepairsLeaksOf g old.0 (Err fault) new.0 → MakesAlone g calls.RepairLeaks (told.Refused fault) old new
  refused-makes fault repairs =
      let early : IsNotResourceError fault → g.well_formed old.0 → IsUnchanged g old.0 new.0 = λ not_resource_error wf.
      let first = refused-first (g.layer old.0) (files g old.0) (files g new.0) fault not_resource_error (repairs.cause wf) in
      unchanged-early (Err fault) repairs (subst IsSome (sym first) refl) in
      record {
        fits = tt;
        early_outcome = λ f is. ap told.Refused (cc (repairs.early_outcome.refused f is));
        idle = λ nothing usable. absurd nothing;
        untouched = λ early. elim early [ inl nothing ↦ absurd nothing | inr some ↦ (unchanged-early (Err fault) repairs some, below) ];
        stays_kept = λ some. refl;
        moves = λ intact. (repairs.cause intact.is_well_formed, λ not_resource_error. (layer-stays g old new below (repairs.same intact.is_well_formed not_resource_error), refl));
        room = λ intact on. tt;
        units = λ intact may was. tt;
        marks_failed = repairs.marks_failed;
        stays_failed = top-stays-failed g old new repairs.reloading_call.failed below;
        failed = top-failed g old new fault repairs.failed;
        cancels = λ is. absurd (cc is);
        leads = repair-leads (Err fault) false repairs (λ w ready. (early w ready.intact.is_well_formed).excess_refcount ready.intact.is_well_formed);
        mapping_prepared = λ kept. record { mine = tt; free = λ none. rw (repairs.keeps_layer_state.unspent) (kept.free refl) };
        same = λ _. refl;
      }
