-- The effect of a list of calls on a chain, with the cancel of a mapping that is left at the end.
use Rattle.std.proofs.Common.{◌≡◌, ℕ, zero, suc, List, [], ◌∷◌, refl, sym, subst, true, false}
use Rattle.std.specs.Prelude.{Bool, IsFalse, Some, None, Option, map, take}
use Rattle.imago_storage.specs.Disk.{Disk, Value}
use Rattle.imago_storage.specs.State.{StorageState}
use Rattle.imago_storage.specs.Calls.{IsFaultless}
use Rattle.imago_storage.specs.Steps.{Step, SameValues, cancel, done}
use Rattle.imago_access.specs.declared.driver_model.DriverModel.{Ghosts}
use Rattle.imago_access.specs.declared.mapping.PreparedDataMapping.{PreparedDataMapping}
use Rattle.imago_access.specs.Files.{IsLater}
use Rattle.imago_access.specs.ChainCalls.{ChainCancels, ChainSteps}
use Rattle.imago_access.specs.Layer.{Fixed, IsFree, Layer}
use Rattle.imago_access.specs.Running.{below_of, chain_disk}
use Rattle.imago_access.specs.Stops.{IsCovered}
use Rattle.qimg_calls.specs.declared.call.Call.{Call}
use Rattle.qimg_calls.specs.declared.call.Call.TheVariants as calls
use Rattle.qimg_calls.specs.declared.call.Answer.{Answer}
use Rattle.qimg_calls.specs.declared.call.Answer.TheVariants as told
use Rattle.qimg_calls.specs.Calls.{any_commit, any_commit_down, any_repair, commits_down}
use Rattle.qimg_calls.specs.Since.{Since, IsSince}
use Rattle.qimg_calls.specs.Held.{chain_with_mapping, MappingIsPrepared, IsReady, disk_call}
use Rattle.qimg_calls.specs.Making.{CallOutcome, AnswersAll, CancelsKept, MadeAll}
use Rattle.qimg_calls.specs.Runs.{reading_of, IfTelling, HoldsSince, MayCommit, Driven}
use Rattle.qimg_calls.proofs.Lists.{WritesBackCached, goes-made, going-all, going-made, going-same, going-with, ran-all}
use Rattle.qimg_calls.proofs.SameChains.{first-none, same-chain-then, second-none}
use Rattle.qimg_calls.proofs.Stops.{reading, reading_as, same-disk}

-- A cancel gives no byte a new value.
cancel-same : (under : ℕ → Value) (state own : Bool) (old new : Disk) → Step under old (cancel state own) done new → SameValues old new
cancel-same under true own old new step = step.1.values
cancel-same under false own old new step = record { size = step.size; value = step.value }

module _ {D St : Type 0} (g : Ghosts D St) (well_formed_is_coherent : (d : D) → g.well_formed d → g.coherent d) (well_formed_is_sound : (d : D) → g.well_formed d → IsCovered (g.layer d) g.sound (g.image d).bytes) where
  -- The step of a cancel.
  cancelled : (d new : D × List D) (m : PreparedDataMapping St) → CallOutcome g calls.Cancel told.Done (chain_with_mapping d (Some m)) (chain_with_mapping new None) → IsReady g d → ChainCancels g m.state d new
  cancelled d new m makes ready = let moves = makes.moves ready.intact in subst (λ says. ChainSteps g (disk_call g (chain_with_mapping d (Some m)) calls.Cancel) says d new) (sym (cc moves.0.1)) moves.0.2

  -- After a cancel the values are still those that were allowed before it.
  stands-cancelled : (d new : D × List D) (m : PreparedDataMapping St) (since : Since) → CallOutcome g calls.Cancel told.Done (chain_with_mapping d (Some m)) (chain_with_mapping new None) → g.image new.0 ≡ g.image d.0 → IsReady g d
      → HoldsSince g since d → HoldsSince g since new
  stands-cancelled d new m since makes same ready stands =
      let values : SameValues (chain_disk g.layer d) (chain_disk g.layer new) = cancel-same (below_of g.layer d) _ _ (chain_disk g.layer d) (chain_disk g.layer new) (cancelled d new m makes ready) in
      let below = map g.layer d.1 in
      let disk = chain_disk g.layer new in
      subst (λ (s : StorageState). IfTelling s ((s.crash_image ≡ s.bytes) × IsSince (reading (map g.layer new.1) g.sound (g.layer new.0) s.bytes) s.bytes disk since)) (sym same)
      (λ tells keeps room.
      let stood = stands tells keeps room in
      let bytes = (g.image d.0).bytes in
      let one : IsSince (reading below g.sound (g.layer d.0) bytes) bytes disk since = same-disk (reading_of g d) bytes (chain_disk g.layer d) disk since values stood.1 in
      let two : IsSince (reading below g.sound (g.layer new.0) bytes) bytes disk since = subst (λ (x : Fixed). IsSince (reading_as below g.sound x bytes) bytes disk since) (sym makes.leads.fixed) one in
      (stood.0, subst (λ (ls : List Layer). IsSince (reading ls g.sound (g.layer new.0) bytes) bytes disk since) (sym (makes.leads.below tt ready)) two))

  pub driven-free : (list : List Call) (answers : List Answer) (old d : D × List D) (since : Since) → AnswersAll g list answers (chain_with_mapping old None) (chain_with_mapping d None) → MappingIsPrepared g (chain_with_mapping old None) → IsReady g old
      → MayCommit g list old → HoldsSince g since old → Driven g since list answers old d
  driven-free list answers old d since all is_kept ready may stands =
      let ran = ran-all g well_formed_is_coherent well_formed_is_sound list answers (chain_with_mapping old None) (chain_with_mapping d None) since all is_kept ready may stands in
      record {
        last = ran.last;
        run = ran.run;
        ends = λ every. rw ((ran.ends every).0) refl;
        counts_not_fallen = ran.counts_not_fallen;
        faults = ran.no_change_refused;
        same_chain = ran.same_chain;
        committable = ran.committable;
        ready = λ every. (ran.ends every).1;
        stands = λ every. (ran.ends every).2;
      }

  driven-kept : (list : List Call) (answers : List Answer) (old d new : D × List D) (m : PreparedDataMapping St) (since : Since) → AnswersAll g list answers (chain_with_mapping old None) (chain_with_mapping d (Some m))
      → CallOutcome g calls.Cancel told.Done (chain_with_mapping d (Some m)) (chain_with_mapping new None) → g.image new.0 ≡ g.image d.0 → MappingIsPrepared g (chain_with_mapping old None) → IsReady g old → MayCommit g list old → HoldsSince g since old
      → Driven g since list answers old new
  driven-kept list answers old d new m since all makes same is_kept ready may stands =
      let ran = ran-all g well_formed_is_coherent well_formed_is_sound list answers (chain_with_mapping old None) (chain_with_mapping d (Some m)) since all is_kept ready may stands in
      record {
        last = ran.last;
        run = ran.run;
        ends = λ every. rw ((ran.ends every).0) (cancelled d new m makes (ran.ends every).1, same);
        counts_not_fallen = subst (IsLater (g.image ran.last.now.drivers.0)) (sym same) ran.counts_not_fallen;
        faults = λ every. subst (IsFaultless (g.image old.0)) (sym same) (ran.no_change_refused every);
        same_chain = λ every. same-chain-then g (any_repair list answers) (any_commit list answers) old d new (ran.same_chain every) (goes-made g calls.Cancel told.Done (chain_with_mapping d (Some m)) (chain_with_mapping new None) makes (ran.ends every).1 (λ is. absurd (cc is)) tt).same_chain;
        committable = λ every i. makes.leads.committable tt (ran.ends every).1 (ran.committable every i);
        ready = λ every. makes.leads.ready tt (ran.ends every).1;
        stands = λ every. stands-cancelled d new m ran.last.since makes same (ran.ends every).1 (ran.ends every).2;
      }

  -- The list's effect, whether or not a mapping is kept at the end.
  driven : (list : List Call) (answers : List Answer) (old d : D × List D) (kept : Option (PreparedDataMapping St)) (new : D × List D) (since : Since) → AnswersAll g list answers (chain_with_mapping old None) (chain_with_mapping d kept)
      → CancelsKept g (chain_with_mapping d kept) new → MappingIsPrepared g (chain_with_mapping old None) → IsReady g old → MayCommit g list old → HoldsSince g since old → Driven g since list answers old new
  driven list answers old d None new since all same is_kept ready may stands = rw (same) (driven-free list answers old d since all is_kept ready may stands)
  driven list answers old d (Some m) new since all up is_kept ready may stands = driven-kept list answers old d new m since all up.0 up.1 is_kept ready may stands

  -- The list's effect, from the outcome of each call.
  pub driven-made : (list : List Call) (answers : List Answer) (old new : D × List D) (since : Since) → MadeAll g list answers old new → IsFree (g.layer old.0) → IsReady g old → MayCommit g list old → HoldsSince g since old
      → Driven g since list answers old new
  driven-made list answers old new since made none ready may stands =
      driven list answers old made.0.drivers made.0.kept_mapping new since made.1 made.2 (record { mine = tt; free = λ _. none }) ready may stands

-- The state after a cancel.
pub given-up : {D St : Type 0} (g : Ghosts D St) (d : D × List D) (kept : Option (PreparedDataMapping St)) (new : D × List D) → CancelsKept g (chain_with_mapping d kept) new → WritesBackCached g false (chain_with_mapping d kept) (chain_with_mapping new None)
given-up g d None new same = rw (same) (going-same g false (chain_with_mapping d None))
given-up g d (Some m) new up = going-made g calls.Cancel told.Done (chain_with_mapping d (Some m)) (chain_with_mapping new None) up.0

-- The properties that a list of calls preserves, with the cancel at its end.
pub going-made-all : {D St : Type 0} (g : Ghosts D St) (list : List Call) (answers : List Answer) (old new : D × List D) → MadeAll g list answers old new → WritesBackCached g (any_commit_down list) (chain_with_mapping old None) (chain_with_mapping new None)
going-made-all g list answers old new made = let last = made.0 in
    going-with g (any_commit_down list) false (any_commit_down list) (chain_with_mapping old None) last (chain_with_mapping new None) (λ none. (none, refl)) (going-all g list answers (chain_with_mapping old None) last made.1) (given-up g last.drivers last.kept_mapping new made.2)

-- The first calls of a list without a commit to the layer below are one, too.
pub none-taken : (n : ℕ) (list : List Call) → IsFalse (any_commit_down list) → IsFalse (any_commit_down (take n list))
none-taken zero list none = refl
none-taken (suc n) [] none = refl
none-taken (suc n) (call ∷ list) none = rw (first-none (commits_down call) (any_commit_down list) none) (none-taken n list (second-none (commits_down call) (any_commit_down list) none))

-- If no mapping is kept, none is prepared.
pub none-kept : {D St : Type 0} {committed : Bool} (g : Ghosts D St) (old new : D × List D) → IsFree (g.layer old.0) → WritesBackCached g committed (chain_with_mapping old None) (chain_with_mapping new None) → IsFree (g.layer new.0)
none-kept g old new none going = (going.kept (record { mine = tt; free = λ _. none })).free refl
