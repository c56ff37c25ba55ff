-- Specifies a script (one call a line) that is run over files: the files are opened as a chain, and the script runs over the chain.
use Rattle.std.specs.Prelude.{◌≡◌, ◌≢◌, ◌⊎◌, ℕ, List, [], map, IsSome, Option, Result, Err}
use Rattle.std.specs.Io.KnownBytes.{Appends}
use Rattle.imago_storage.specs.MemStorage.{mem_state}
use Rattle.imago_storage.specs.declared.fault.Fault.TheVariants.{Memory, Storage}
use Rattle.imago_storage.specs.declared.memory.MemStorage.{MemStorage}
use Rattle.imago_access.specs.Chain.{Each}
use Rattle.imago_access.specs.Committing.{IsCommittable}
use Rattle.imago_access.specs.Layers.{chain}
use Rattle.imago_access.specs.Running.{chain_disk}
use Rattle.imago_access.specs.declared.driver_model.DriverModel.{Ghosts}
use Rattle.qimg_calls.specs.Runs.{Driven}
use Rattle.qimg_calls.specs.Since.{flushed}
use Rattle.qimg_core.specs.declared.plain.ChainFile.{ChainFile}
use Rattle.qimg_chain.specs.Saving.{SavedFiles}
use Rattle.qimg_chain.specs.Chains.{AreInPlace, AreLayers, IsFit, OfSecond, OfTop, OpenMode}
use Rattle.qimg_chain.specs.FileMeanings.{FindsByNames, IsDiskOf, files_bytes}
use Rattle.qimg_chain.specs.Refusals.{AreFormed, WhyNotFormed}
use Rattle.qimg_chain.specs.ScriptRuns.{Scripted, answers_of, calls_of}
use Rattle.qimg_chain.specs.declared.run.fault.RunFault.{RunFault}
use Rattle.qimg_chain.specs.declared.run.opened.ScriptFault.{ScriptFault}
use Rattle.qimg_chain.specs.declared.run.opened.ScriptFault.TheVariants.{Opening, Running}

-- The arguments of an opening: the files, the top first, and how they are opened.
pub record ToOpen : Type 0 where
  pub files : List (ChainFile MemStorage)
  pub mode : OpenMode

abbrev pub to_open : List (ChainFile MemStorage) → OpenMode → ToOpen
to_open files m = record { files = files; mode = m }

-- The files are opened as the layers of a chain, and the script runs over it to this result. The disk of the chain is the one that the
-- files' bytes mean. For each layer, its file means the same disk with the further files (VMDK extents) found by its names.
-- If the top is consistent and its storages keep what is written, the calls of all lines do what a list of calls does. The disk at opening
-- is the last flushed one. If the next layer is opened for writing, its file must satisfy this, too, and then `IsCommittable` holds.
pub record RunFrom {D St : Type 0} (g : Ghosts D St) (names : D → ℕ → List ℕ) (what : ToOpen) (input before after : Option (List ℕ))
    (result : Result (Option SavedFiles) RunFault) : Type 0 where
  pub opened : D × List D
  pub last : D × List D
  pub formed : AreFormed mem_state what.mode what.files
  pub layers : AreLayers g mem_state what.mode what.files (chain opened)
  pub places : AreInPlace (map g.layer (chain opened))
  pub means : IsDiskOf (chain_disk g.layer opened) (files_bytes mem_state what.files)
  pub named : Each (FindsByNames g names) (chain opened)
  pub scripted : Scripted g names input before after result opened last
  pub headline : OfTop (IsFit mem_state) what.files → (IsSome what.mode.next → OfSecond (IsFit mem_state) what.files)
      → Driven g (flushed (chain_disk g.layer opened)) (calls_of scripted.replies) (answers_of scripted.replies) opened last
  pub committable : OfTop (IsFit mem_state) what.files → IsSome what.mode.next → OfSecond (IsFit mem_state) what.files
      → IsCommittable g opened

-- The reason why a script doesn't run to its end. Either the files aren't opened, because memory runs out or with their first cause; no
-- storage fails, and nothing is written. Or they are opened, and the script ends with this fault.
abbrev pub NotRun : {D St : Type 0} → Ghosts D St → (D → ℕ → List ℕ) → ToOpen → Option (List ℕ) → Option (List ℕ) → Option (List ℕ)
    → ScriptFault → Type 0
NotRun g names what input before after (Opening fault) =
    (fault ≢ Storage) × ((fault ≡ Memory) ⊎ WhyNotFormed mem_state what.mode what.files fault) × Appends before after []
NotRun g names what input before after (Running fault) = RunFrom g names what input before after (Err fault)
