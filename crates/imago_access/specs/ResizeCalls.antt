-- Specifies `resize_grow` and `resize_shrink` of a driver: their effects and errors.
use Rattle.std.specs.Prelude.{◌≡◌, ◌++◌, ◌⊎◌, ℕ, ◌<◌, ◌≤◌, max, List, None, IsFalse, Result, OnOk, IfErr, IsErrOf, IsSome}
use Rattle.imago_storage.specs.Steps.{shrink}
use Rattle.imago_storage.specs.declared.fault.Fault.{Fault}
use Rattle.imago_storage.specs.declared.fault.Fault.TheVariants.{ReadOnly}
use Rattle.imago_access.specs.declared.driver_model.DriverModel.{Ghosts}
use Rattle.imago_access.specs.declared.driver_model.LayersBelowModel.{Ghosts as GhostsBelow}
use Rattle.imago_access.specs.declared.format.PreallocateMode.{PreallocateMode}
use Rattle.imago_access.specs.Layer.{Layer, IsFree}
use Rattle.imago_access.specs.Chain.{at, IsBacked}
use Rattle.imago_access.specs.Files.{ImageCause, IsNotResourceError, HadNoResourceError, files}
use Rattle.imago_access.specs.Failing.{FailsOver}
use Rattle.imago_access.specs.Going.{EarlyOutcome, IsUnchanged, MarksFailed, MarksFailedOver, MutatingCall}
use Rattle.imago_access.specs.Parts.{GrowthCause, ShrinkCause}
use Rattle.imago_access.specs.Refusals.{unusable_fault}
use Rattle.imago_access.specs.Resizes.{fill_of, Grown, NotGrown, Shrunk, NotShrunk}
use Rattle.imago_access.specs.Stops.{KeepsCrashImagesTo, GivesPast, GivesBelowPast}

-- The early outcomes of a resize. It has something to do only if the second size, in bytes, is below the first. An image that wasn't opened
-- for writing then fails with `ReadOnly`.
pub record Resizes {D St : Type 0} (g : Ghosts D St) (first second : ℕ) (result : Result Unit Fault) (old new : D) : Type 0 where
  pub nothing : first ≤ second → OnOk result (g.layer new ≡ g.layer old)
  pub free : IsFree (g.layer new)
  pub early_outcome : EarlyOutcome g (unusable_fault (g.layer old)) (first ≤ second) result old new
  pub read_only : unusable_fault (g.layer old) ≡ None → second < first → IsFalse (g.layer old).fixed.writable
      → IsErrOf result ReadOnly × IsUnchanged g old new

-- A growth to this size reads nothing of the layers below: it has nothing to do, or it fails early.
abbrev pub IsUngrown : Layer → ℕ → Type 0
IsUngrown layer size = (size ≤ layer.size) ⊎ (IsSome (unusable_fault layer) ⊎ IsFalse layer.fixed.writable)

-- The effect of a growth to a size, in bytes, over the layers below.
pub record Grows {D St B : Type 0} (g : Ghosts D St) (u : GhostsBelow B) (size : ℕ) (mode : PreallocateMode)
    (result : Result Unit Fault) (old new : D × B) : Type 0 where
  pub ok : g.well_formed old.0 → u.coherent_below old.1 → (g.layer old.0).size < size
      → OnOk result (Grown (at (u.layers_below old.1)) (g.layer old.0) (g.layer new.0) size (fill_of mode))
  pub err : g.well_formed old.0 → u.coherent_below old.1 → IfErr result (λ e. IsNotResourceError e → NotGrown (at (u.layers_below old.1)) (g.layer old.0) (g.layer new.0))
  pub crash_images : g.well_formed old.0 → u.coherent_below old.1 → KeepsCrashImagesTo g (u.layers_below old.1) (g.layer old.0).size (max (g.layer old.0).size size)
      (GivesPast (g.layer old.0).size) old.0 new.0
  pub mutating_call : MutatingCall g (HadNoResourceError result) (HadNoResourceError result × u.coherent_below old.1) old.0 new.0

-- The errors of a growth.
pub record GrowthRefused {D St B : Type 0} (g : Ghosts D St) (u : GhostsBelow B) (size : ℕ) (mode : PreallocateMode)
    (result : Result Unit Fault) (old new : D × B) : Type 0 where
  pub failed : IfErr result (FailsOver g u old new)
  pub marks_failed : IfErr result (MarksFailedOver g old.0 new.0)
  pub cause : g.well_formed old.0 → u.coherent_below old.1 → IfErr result (GrowthCause (u.layers_below old.1) (g.layer old.0) size
      (g.growth_cause old.0 (u.layers_below old.1) size mode) (files g old.0 ++ u.files_of_layers_below old.1) (files g new.0 ++ u.files_of_layers_below new.1))

-- The effect of a shrink to a size, in bytes.
pub record Shrinks {D St : Type 0} (g : Ghosts D St) (size : ℕ) (result : Result Unit Fault) (old new : D) : Type 0 where
  pub ok : g.well_formed old → size < (g.layer old).size → OnOk result (Shrunk (g.layer old) (g.layer new) size)
  pub err : g.well_formed old → IfErr result (λ e. IsNotResourceError e → NotShrunk (g.layer old) (g.layer new))
  pub crash_images : g.well_formed old → (below : List Layer) → IsBacked below (g.layer old)
      → KeepsCrashImagesTo g below size (g.layer old).size (GivesBelowPast below size) old new
  pub mutating_call : MutatingCall g (HadNoResourceError result) (HadNoResourceError result) old new

-- The errors of a shrink.
pub record ShrinkRefused {D St : Type 0} (g : Ghosts D St) (size : ℕ) (result : Result Unit Fault) (old new : D) : Type 0 where
  pub failed : IfErr result (ImageCause (files g old) (files g new))
  pub marks_failed : IfErr result (MarksFailed g old new)
  pub cause : g.well_formed old → (below : List Layer)
      → IfErr result (ShrinkCause below (g.layer old) size (g.own_cause old below (shrink size)) (files g old) (files g new))
