-- A script over files that were just opened as a chain.
use Rattle.std.proofs.Common.{ℕ, List, [], ◌∷◌}
use Rattle.std.specs.Prelude.{Bool, IsSome, IsTrue, Option, Result, map}
use Rattle.imago_storage.specs.MemStorage.{mem_state}
use Rattle.imago_storage.specs.State.{CrashImageIsBytes}
use Rattle.imago_storage.specs.declared.memory.MemStorage.{MemStorage}
use Rattle.imago_access.specs.Chain.{Each}
use Rattle.imago_access.specs.Committing.{IsCommittable}
use Rattle.imago_access.specs.Layers.{chain}
use Rattle.imago_access.specs.Running.{chain_disk}
use Rattle.imago_access.specs.declared.driver_model.DriverModel.{Ghosts}
use Rattle.qimg_calls.specs.Held.{IsReady}
use Rattle.qimg_calls.specs.Runs.{HoldsSince}
use Rattle.qimg_calls.specs.Since.{flushed}
use Rattle.qimg_core.specs.declared.plain.ChainFile.{ChainFile}
use Rattle.qimg_chain.specs.Chains.{AreInPlace, AreLayers, IsFit, OfSecond, OfTop}
use Rattle.qimg_chain.specs.FileMeanings.{FindsByNames, IsDiskOf, files_bytes}
use Rattle.qimg_chain.specs.Headline.{RunFrom, ToOpen}
use Rattle.qimg_chain.specs.Refusals.{AreFormed}
use Rattle.qimg_chain.specs.Saving.{SavedFiles}
use Rattle.qimg_chain.specs.ScriptRuns.{Scripted, calls_of}
use Rattle.qimg_chain.specs.declared.run.fault.RunFault.{RunFault}
use Rattle.qimg_chain.proofs.FlushedFiles.{may-by-mode}

-- A storage in memory exposes no crash images.
silent : (m : MemStorage) → IsTrue (mem_state m).shape.tells → ⊥
unfolding mem_state
silent m tells = cc tells

in-step : (files : List (ChainFile MemStorage)) → OfTop (IsFit mem_state) files
    → OfTop (λ file. CrashImageIsBytes (mem_state file.image)) files
in-step [] fit = fit
in-step (file ∷ below) fit = λ tells keeps. absurd (silent file.image tells)

-- The chain that files were opened as, and when it is ready for calls.
pub record OpenedFor {D St : Type 0} (g : Ghosts D St) (names : D → ℕ → List ℕ) (what : ToOpen) (opened : D × List D) : Type 0 where
  pub formed : AreFormed mem_state what.mode what.files
  pub layers : AreLayers g mem_state what.mode what.files (chain opened)
  pub places : AreInPlace (map g.layer (chain opened))
  pub means : IsDiskOf (chain_disk g.layer opened) (files_bytes mem_state what.files)
  pub named : Each (FindsByNames g names) (chain opened)
  pub ready : OfTop (IsFit mem_state) what.files → IsReady g opened
  pub committable : OfTop (IsFit mem_state) what.files → IsSome what.mode.next → OfSecond (IsFit mem_state) what.files
      → IsCommittable g opened
  pub stands : OfTop (λ file. CrashImageIsBytes (mem_state file.image)) what.files
      → HoldsSince g (flushed (chain_disk g.layer opened)) opened

-- The script runs over that chain.
pub run-from : {D St : Type 0} {g : Ghosts D St} {names : D → ℕ → List ℕ} {what : ToOpen} {input before after : Option (List ℕ)}
    {result : Result (Option SavedFiles) RunFault} → (opened : D × List D) → OpenedFor g names what opened
    → (last : D × List D) × Scripted g names input before after result opened last
    → RunFrom g names what input before after result
run-from {g = g} {what = what} opened made (last, scripted) = record {
  opened = opened;
  last = last;
  formed = made.formed;
  layers = made.layers;
  places = made.places;
  means = made.means;
  named = made.named;
  scripted = scripted;
  headline = λ fit next. scripted.driven _ (made.ready fit)
      (may-by-mode g mem_state what.mode what.files opened (calls_of scripted.replies) made.layers
      (λ some. made.committable fit some (next some)))
      (made.stands (in-step what.files fit));
  committable = made.committable;
}
