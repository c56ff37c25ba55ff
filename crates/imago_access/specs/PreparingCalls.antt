-- Specifies a driver's calls on prepared mappings (runs that are written and not yet committed): prepare, commit, cancel, and write.
use Rattle.std.specs.Prelude.{◌≡◌, ◌++◌, ⊤, ◌⊎◌, ℕ, ◌<◌, ◌+◌, List, length, Option, Some, None, IsTrue, Result, IsOk, OnOk, IfOk, IfErr, IfSome, IsSome, MatchResult}
use Rattle.imago_storage.specs.Steps.{Call}
use Rattle.imago_storage.specs.declared.fault.Fault.{Fault}
use Rattle.imago_storage.specs.declared.fault.Fault.TheVariants.{Foreign}
use Rattle.imago_access.specs.declared.driver_model.DriverModel.{Ghosts}
use Rattle.imago_access.specs.declared.driver_model.LayersBelowModel.{Ghosts as GhostsBelow}
use Rattle.imago_access.specs.declared.mapping.PreparedDataMapping.{PreparedDataMapping}
use Rattle.imago_access.specs.Layer.{Layer, IsFree, KeepsLayerState, loose}
use Rattle.imago_access.specs.Chain.{at}
use Rattle.imago_access.specs.Room.{IsApart, IsUncutAt, Takes}
use Rattle.imago_access.specs.Files.{ImageCause, IsNotResourceError, HadNoResourceError, Unasked, files}
use Rattle.imago_access.specs.Going.{IsUnchanged, KeepsExcessRefcounts, MarksFailed, MarksFailedOver, MutatingCall}
use Rattle.imago_access.specs.Changes.{Asked, Prepared, NotPrepared, Wrote, Committed, Cancelled}
use Rattle.imago_access.specs.Spending.{run_of, IsMine, Spends, IsSpending, commit_refusal, GivenBack, IsForeignTo}
use Rattle.imago_access.specs.Parts.{IsPartOf, IsUncutPart, announces, PartCause, IsMappedAt, MappedCause}
use Rattle.imago_access.specs.Failing.{FailsOver}
use Rattle.imago_access.specs.Stops.{KeepsCrashImages, GivesNone, GivesBytes, GivesSettled}

-- An empty mapping without state, at the start of storage 0.
abbrev pub nowhere : {St : Type 0} → PreparedDataMapping St
nowhere = record { storage = 0; offset = 0; length = 0; state = None }

-- The mapping is the one that the layer has prepared. If the mapping has no state, no mapping is prepared.
abbrev pub IsHeldBy : {D St : Type 0} → Ghosts D St → Option St → Layer → Type 0
IsHeldBy g state layer = IsMine g state layer × (state ≡ None → IsFree layer)

-- The errors of a call that changes a range and reads the layers below, as a part of a call that has begun.
pub record RunRefused {D St B T : Type 0} (g : Ghosts D St) (u : GhostsBelow B) (asked : Asked)
    (result : Result T Fault) (old new : D × B) : Type 0 where
  pub failed : IfErr result (FailsOver g u old new)
  pub marks_failed : IfErr result (MarksFailedOver g old.0 new.0)
  pub cause : g.well_formed old.0 → u.coherent_below old.1 → (d : D) (call : Call) → g.began d call old.0
      → IsUncutPart (g.layer old.0) call asked.offset asked.length → Some asked.overwrite ≡ announces call
      → IfErr result (PartCause (u.layers_below old.1) (g.layer old.0) asked.offset asked.length (g.own_cause d (u.layers_below old.1) call)
      (files g old.0 ++ u.files_of_layers_below old.1) (files g new.0 ++ u.files_of_layers_below new.1))

-- The effect of a preparation. Most fields need a well-formed driver, and layers below whose lookups agree with their files.
pub record Prepares {D St B : Type 0} (g : Ghosts D St) (u : GhostsBelow B) (asked : Asked)
    (result : Result (PreparedDataMapping St) Fault) (old new : D × B) : Type 0 where
  pub ok : g.well_formed old.0 → u.coherent_below old.1
      → IfOk result (λ m. Prepared (at (u.layers_below old.1)) (g.layer old.0) (g.layer new.0) asked (run_of g m))
  pub err : g.well_formed old.0 → u.coherent_below old.1 → IfErr result (λ e. IsNotResourceError e → NotPrepared (g.layer old.0) (g.layer new.0))
  pub uncut : g.well_formed old.0 → u.coherent_below old.1
      → IfOk result (λ m. IsUncutAt (g.layer old.0).fixed.unit (g.layer old.0).size asked.offset asked.length (asked.offset + m.length))
  pub no_range_overflow : g.well_formed old.0 → u.coherent_below old.1
      → OnOk result ((p : ℕ) → IsApart (g.layer old.0).fixed.unit asked.offset asked.length p → (g.layer new.0).held p ≡ loose)
  pub room : g.well_formed old.0 → u.coherent_below old.1 → HadNoResourceError result → Takes g (λ _. ⊤) old.0 new.0
  pub crash_images : g.well_formed old.0 → u.coherent_below old.1 → KeepsCrashImages g (u.layers_below old.1) GivesNone old.0 new.0
  pub mutating_call : MutatingCall g (HadNoResourceError result) (HadNoResourceError result × u.coherent_below old.1) old.0 new.0
  pub stays_begun : (d : D) (call : Call) → g.began d call old.0 → IsPartOf call asked.offset asked.length
      → HadNoResourceError result → g.began d call new.0
  pub refused : RunRefused g u asked result old new

-- The effect of a commit. A commit without state changes nothing, and succeeds if the image can be used.
pub record Commits {D St : Type 0} (g : Ghosts D St) (state : Option St)
    (result : Result Unit (Fault × Option (PreparedDataMapping St))) (old new : D) : Type 0 where
  pub ok : OnOk result (Spends g state (g.layer old) (g.layer new)
      (IsFree (g.layer new) × (g.well_formed old → Committed (g.layer old) (g.layer new))))
  pub size : (g.layer new).size ≡ (g.layer old).size
  pub room : g.well_formed old → IsMine g state (g.layer old) → OnOk result (Takes g (λ p. (g.layer old).held p ≡ loose) old new)
  pub crash_images : g.well_formed old → IsMine g state (g.layer old) → (below : List Layer)
      → KeepsCrashImages g below (GivesSettled below (g.layer old)) old new
  pub mutating_call : MutatingCall g (MatchResult result (λ _. ⊤) (λ e. IsNotResourceError e.0)) (IsOk result × IsMine g state (g.layer old)) old new
  pub coherent : state ≡ None → g.coherent old → g.coherent new
  pub stays_begun : (d : D) (call : Call) → g.began d call old → IsMine g state (g.layer old) → OnOk result (g.began d call new)

-- The errors of a commit. An early error returns the mapping, and nothing changes. After any other error the mapping is consumed, and the
-- image has failed.
pub record CommitRefused {D St : Type 0} (g : Ghosts D St) (mapping : PreparedDataMapping St)
    (result : Result Unit (Fault × Option (PreparedDataMapping St))) (old new : D) : Type 0 where
  pub early_outcome : (f : Fault) → commit_refusal g mapping.state (g.layer old) ≡ Some f
      → MatchResult result (λ _. ⊥) (λ e. (e.0 ≡ f) × IsSome e.1)
  pub unchanged : (mapping.state ≡ None) ⊎ IsSome (commit_refusal g mapping.state (g.layer old)) → IsUnchanged g old new
  pub back : IfErr result (λ e. IfSome e.1 (λ m. (m ≡ mapping) × GivenBack g.tag mapping.state (g.layer old) e.0 × IsUnchanged g old new))
  pub spent : IfErr result (λ e. e.1 ≡ None → IsSome mapping.state × IsTrue (g.layer new).failed × IsSpending e.0
      × Spends g mapping.state (g.layer old) (g.layer new) (IsFree (g.layer new) × (g.well_formed old → IsNotResourceError e.0 → ⊥)))
  pub failed : IfErr result (λ e. ImageCause (files g old) (files g new) e.0)

-- The effect of a cancel: the disk and the files are unchanged. A cancel without state changes nothing at all.
pub record Cancels {D St : Type 0} (g : Ghosts D St) (mapping : PreparedDataMapping St)
    (result : Result Unit (Fault × PreparedDataMapping St)) (old new : D) : Type 0 where
  pub ok : OnOk result (Spends g mapping.state (g.layer old) (g.layer new) (Cancelled (g.layer old) (g.layer new)))
  pub back : IfErr result (λ e. (e.1 ≡ mapping) × (e.0 ≡ Foreign) × IsForeignTo g.tag mapping.state (g.layer old) × IsUnchanged g old new)
  pub unchanged : mapping.state ≡ None → IsUnchanged g old new
  pub fixed : (g.layer new).fixed ≡ (g.layer old).fixed
  pub size : (g.layer new).size ≡ (g.layer old).size
  pub failed : (g.layer new).failed ≡ (g.layer old).failed
  pub none : Unasked g old new
  pub stable : g.stable old → g.stable new
  pub excess_refcount : IsMine g mapping.state (g.layer old) → g.well_formed old → KeepsExcessRefcounts g old new
  pub coherent : g.coherent old → g.coherent new
  pub well_formed : IsMine g mapping.state (g.layer old) → g.well_formed old → g.well_formed new
  pub room : g.well_formed old → IsMine g mapping.state (g.layer old) → Takes g (λ _. ⊤) old new
  pub stays_begun : (d : D) (call : Call) → g.began d call old → g.began d call new

-- The effect of a write to a mapped range, from this offset of a storage on.
pub record WritesMapped {D St : Type 0} (g : Ghosts D St) (guest place : ℕ) (bytes : List ℕ)
    (result : Result Unit Fault) (old new : D) : Type 0 where
  pub mapped : g.coherent old → OnOk result (0 < length bytes → IsMappedAt (g.layer old) guest place (length bytes))
  pub empty : length bytes ≡ 0 → g.layer new ≡ g.layer old
  pub keeps_layer_state : KeepsLayerState (g.layer old) (g.layer new)
  pub ok : g.well_formed old → OnOk result (Wrote (g.layer old) (g.layer new) guest bytes)
  pub err : g.well_formed old → IfErr result (λ e. IsNotResourceError e → g.layer new ≡ g.layer old)
  pub room : g.well_formed old → HadNoResourceError result → Takes g (λ _. ⊤) old new
  pub crash_images : g.well_formed old → (below : List Layer) → KeepsCrashImages g below (GivesBytes guest bytes) old new
  pub mutating_call : MutatingCall g (HadNoResourceError result) (HadNoResourceError result) old new
  pub stays_begun : (d : D) (call : Call) → g.began d call old → OnOk result (g.began d call new)

-- The errors of a write to a mapped range.
pub record WritingRefused {D St : Type 0} (g : Ghosts D St) (guest place n : ℕ) (result : Result Unit Fault) (old new : D) : Type 0 where
  pub failed : IfErr result (ImageCause (files g old) (files g new))
  pub marks_failed : IfErr result (MarksFailed g old new)
  pub cause : g.well_formed old → IfErr result (MappedCause (g.layer old) guest place n (files g old) (files g new))
