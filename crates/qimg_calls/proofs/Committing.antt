-- A commit or a cancel of the kept mapping.
use Rattle.std.proofs.Common.{◌≡◌, ◌⊎◌, ◌<◌, ◌≤◌, List, ◌∷◌, arith, refl, sym, subst, ap, false}
use Rattle.std.specs.Prelude.{Option, Some, None, Result, Ok, Err, drop, map, ⊤}
use Rattle.imago_storage.specs.Steps.{Call}
use Rattle.imago_storage.specs.declared.fault.Fault.{Fault}
use Rattle.imago_access.specs.declared.driver_model.DriverModel.{Ghosts}
use Rattle.imago_access.specs.declared.mapping.PreparedDataMapping.{PreparedDataMapping}
use Rattle.imago_access.specs.Chain.{at}
use Rattle.imago_access.specs.ChainCalls.{ChainCause, ChainCommits, commit_of}
use Rattle.imago_access.specs.Files.{IsNotResourceError, IsLater, files_of}
use Rattle.imago_access.specs.Going.{IsUnchanged, LookupCallBelow}
use Rattle.imago_access.specs.PreparingCalls.{Commits, CommitRefused, Cancels}
use Rattle.imago_access.specs.Running.{IsIntactChain, below_ghosts, below_of, chain_disk}
use Rattle.imago_access.specs.Spending.{commit_refusal}
use Rattle.imago_access.specs.Stops.{KeepsCrashImages, KeepsCrashImagesTo, GivesHeld, Left}
use Rattle.imago_access.proofs.FilePairs.{is_later_same, kept_all_same}
use Rattle.imago_access.proofs.Looking.{looked_under_same}
use Rattle.imago_access.proofs.Stopping.{passes_none, passes_on}
use Rattle.qimg_calls.specs.declared.call.Call.TheVariants as calls
use Rattle.qimg_calls.specs.declared.call.Answer.TheVariants as told
use Rattle.qimg_calls.specs.Since.{Begun, least_size, most_size}
use Rattle.qimg_calls.specs.Held.{chain_with_mapping, MappingIsPrepared, IsReady}
use Rattle.qimg_calls.specs.Leading.{LeavesForNext}
use Rattle.qimg_calls.specs.Making.{CallOutcome}
use Rattle.qimg_calls.proofs.EarlyEnds.{top-stays-failed, value-of}
use Rattle.qimg_calls.proofs.Leading.{ValuesBetween, fewer-stops, stays-committable, step-leads, usable-by}
use Rattle.qimg_calls.proofs.Moving.{layer-stays, top-failed}
use Rattle.qimg_calls.proofs.Resizing.{stays-between}
use Rattle.qimg_calls.proofs.Spending.{committed-between, held-gives, not-given-back, not-spending, not-spent, spent-free}

module _ {D St : Type 0} (g : Ghosts D St) (well_formed_is_usable : (d : D) → g.well_formed d → (g.layer d).failed ≡ false) (old new : D × List D) (mapping : PreparedDataMapping St)
    (below : new.1 ≡ old.1) (kept : MappingIsPrepared g (chain_with_mapping old (Some mapping))) where
  abbrev call : Call
  call = commit_of g mapping.state old

  looked : (whole : Type 0) → LookupCallBelow (below_ghosts g) whole old.1 new.1
  looked whole = subst (LookupCallBelow (below_ghosts g) whole old.1) (sym below) (looked_under_same (below_ghosts g) whole old.1)

  unchanged-intact : IsUnchanged g old.0 new.0 → IsIntactChain g old → IsIntactChain g new
  unchanged-intact same intact = record {
    is_well_formed = same.safely intact.is_well_formed;
    is_coherent = rw (below) intact.is_coherent;
    backed = rw (same.layer, below) intact.backed;
    held = rw (same.layer, below) intact.held;
  }

  module _ (stops : IsReady g old → KeepsCrashImages g (map g.layer old.1) (GivesHeld (g.layer old.0)) old.0 new.0) where
    commit-stops : IsReady g old → KeepsCrashImagesTo g (map g.layer old.1) (least_size (chain_disk g.layer old) call) (most_size (chain_disk g.layer old) call) (Begun (below_of g.layer old) (chain_disk g.layer old) call) old.0 new.0
    commit-stops ready = fewer-stops g (map g.layer old.1) (g.layer old.0).size (g.layer old.0).size (g.layer old.0).size (g.layer old.0).size (GivesHeld (g.layer old.0)) (Begun (below_of g.layer old) (chain_disk g.layer old) call) old.0 new.0
        (omega arith) (omega arith) (λ p v gave. held-gives ((g.layer old.0).held p) v gave) (stops ready)

    -- The commit succeeded.
    pub commit-leads : Commits g mapping.state (Ok tt) old.0 new.0 → (IsReady g old → IsIntactChain g new) → (IsReady g old → ChainCommits g mapping.state old new) → LeavesForNext g ⊤ call false old new
    commit-leads does intact step = step-leads g old new ⊤ ⊤ call well_formed_is_usable does.mutating_call (looked ⊤) (λ w ready. tt) (λ w ready. does.mutating_call.excess_refcount (refl, kept.mine) ready.intact.is_well_formed) (λ w ready. intact ready)
        (λ w ready. committed-between (below_of g.layer old) (below_of g.layer old) _ _ (chain_disk g.layer old) (chain_disk g.layer new) (step ready)) commit-stops

    -- The commit failed, and returned the mapping or consumed it.
    pub refused-makes : (fault : Fault) (back : Option (PreparedDataMapping St)) → Commits g mapping.state (Err (fault, back)) old.0 new.0 → CommitRefused g mapping (Err (fault, back)) old.0 new.0
        → (IsIntactChain g old → ChainCause g call (λ _. ⊥) old new fault)
        → CallOutcome g calls.CommitDataMapping (told.Refused fault) (chain_with_mapping old (Some mapping)) (chain_with_mapping new back)
    refused-makes fault None does refused cause =
        let spent = refused.spent refl in
        let never : IsIntactChain g old → IsNotResourceError fault → ⊥ = λ intact not_resource_error. not-spent g mapping.state (g.layer old.0) (g.layer new.0) (g.well_formed old.0) fault kept.mine intact.is_well_formed not_resource_error spent.0 spent.3 in
        record {
          fits = tt;
          early_outcome = λ f is. ap told.Refused (refused.early_outcome f is).0;
          idle = λ none usable. absurd (cc (rw (none) at spent.0));
          untouched = λ early. (refused.unchanged early, below);
          stays_kept = λ some. let f = value-of (commit_refusal g mapping.state (g.layer old.0)) some in absurd (cc (refused.early_outcome f.0 f.1).1);
          room = λ intact on. tt;
          units = λ intact may was. tt;
          marks_failed = λ spending. spent.1;
          stays_failed = top-stays-failed g old new does.mutating_call.failed below;
          failed = top-failed g old new fault refused.failed;
          cancels = λ is. absurd (cc is);
          moves = λ intact. (cause intact, λ not_resource_error. absurd (never intact not_resource_error));
          leads = step-leads g old new (IsNotResourceError fault) (IsNotResourceError fault) call well_formed_is_usable does.mutating_call (looked (IsNotResourceError fault)) (λ not_resource_error ready. not_resource_error) (λ not_resource_error ready. absurd (never ready.intact not_resource_error)) (λ not_resource_error ready. absurd (never ready.intact not_resource_error)) (λ not_resource_error ready. absurd (never ready.intact not_resource_error)) commit-stops;
          mapping_prepared = λ k. record { mine = tt; free = λ none. spent-free g mapping.state (g.layer old.0) (g.layer new.0) (g.well_formed old.0 → IsNotResourceError fault → ⊥) kept.mine spent.0 spent.3 };
          same = λ no. absurd (cc no);
        }
    refused-makes fault (Some b) does refused cause =
        let back = refused.back in
        let stays = layer-stays g old new below back.2.layer in
        record {
          fits = tt;
          early_outcome = λ f is. ap told.Refused (refused.early_outcome f is).0;
          idle = λ none usable. not-given-back g.tag mapping.state (g.layer old.0) fault none usable back.1;
          untouched = λ early. (refused.unchanged early, below);
          stays_kept = λ some. ap Some back.0;
          room = λ intact on. tt;
          units = λ intact may was. tt;
          marks_failed = λ spending. absurd (not-spending g.tag mapping.state (g.layer old.0) fault back.1 spending);
          stays_failed = top-stays-failed g old new does.mutating_call.failed below;
          failed = top-failed g old new fault refused.failed;
          cancels = λ is. absurd (cc is);
          moves = λ intact. (cause intact, λ not_resource_error. (stays, ap Some back.0));
          leads = step-leads g old new (IsNotResourceError fault) (IsNotResourceError fault) call well_formed_is_usable does.mutating_call (looked (IsNotResourceError fault)) (λ not_resource_error ready. not_resource_error) (λ not_resource_error ready. back.2.excess_refcount ready.intact.is_well_formed) (λ not_resource_error ready. unchanged-intact back.2 ready.intact)
              (λ not_resource_error ready. stays-between (Begun (below_of g.layer old) (chain_disk g.layer old) call) (chain_disk g.layer old) (chain_disk g.layer new) stays) commit-stops;
          mapping_prepared = λ k. record { mine = rw (back.0, back.2.layer) kept.mine; free = λ none. rw (back.2.layer) (kept.free (rw (back.0) at none)) };
          same = λ no. absurd (cc no);
        }

  -- A cancelled mapping changes nothing on the disk.
  pub cancel-leads : (call : Call) (result : Result Unit (Fault × PreparedDataMapping St)) → Cancels g mapping result old.0 new.0 → ((g.layer old.0).size ≤ most_size (chain_disk g.layer old) call)
      → (IsReady g old → IsIntactChain g new)
      → (IsReady g old → ValuesBetween (Begun (below_of g.layer old) (chain_disk g.layer old) call) (chain_disk g.layer old) (chain_disk g.layer new))
      → LeavesForNext g ⊤ call false old new
  cancel-leads call result cancels high intact values =
      let same = cancels.none.0 in
      record {
        fixed = cancels.fixed;
        counts_not_fallen = subst (IsLater (g.image old.0)) (sym same) (is_later_same (g.image old.0));
        faults = λ w ready. rw (same) (refl, refl);
        excess_refcount = λ w ready. cancels.excess_refcount kept.mine ready.intact.is_well_formed;
        layers_below = λ has_no_dirty_data. rw (below) (kept_all_same (files_of g old.1), has_no_dirty_data);
        deeper = λ clean. rw (below) (kept_all_same (files_of g (drop 1 old.1)), clean);
        committable = λ w ready i. stays-committable g old new (intact ready) (rw (below) refl) (rw (below) (kept_all_same (files_of g old.1))) (rw (below) (λ f. f)) i;
        below = λ w ready. rw (below) refl;
        ready = λ w ready.
            let now = intact ready in
            record {
              intact = now;
              usable = (usable-by (g.layer new.0) (g.layer old.0) (well_formed_is_usable new.0 now.is_well_formed) (well_formed_is_usable old.0 ready.intact.is_well_formed) cancels.fixed ready.usable.0, rw (below) ready.usable.1);
              has_no_dirty_data = rw (below) ready.has_no_dirty_data;
              layers_bounded = rw (below) ready.layers_bounded;
            };
        shows = λ w ready p lt. subst (λ ds. ((p < (g.layer old.0).size) × (at (g.layer new.0 ∷ map g.layer ds) p ≡ at (g.layer old.0 ∷ map g.layer old.1) p)) ⊎ Begun (below_of g.layer old) (chain_disk g.layer old) call p (at (g.layer new.0 ∷ map g.layer ds) p))
            below (values ready p lt);
        crash_images = λ ready. passes_on (Left (map g.layer old.1) (g.layer old.0) (g.image old.0).bytes g.sound (least_size (chain_disk g.layer old) call) (most_size (chain_disk g.layer old) call) (Begun (below_of g.layer old) (chain_disk g.layer old) call)) (g.image old.0) (g.image old.0) (g.image new.0) same
            (passes_none _ (g.image old.0) (g.image old.0) refl (refl, refl, refl, refl));
      }
