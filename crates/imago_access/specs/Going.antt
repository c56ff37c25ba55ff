-- Specifies what every call of a driver preserves: its bytes, its invariant and its refcounts. A parameter `whole` states that the call had
-- no resource error (`Fault::Memory`, `Fault::Storage`).
use Rattle.std.specs.Prelude.{◌≡◌, ◌∷◌, ◌⊎◌, ◌||◌, ⊤, ℕ, List, Option, Some, None, Result, IsTrue, IsOk, OnOk, IsErrOf, IsSome}
use Rattle.imago_storage.specs.Calls.{IsFaultless}
use Rattle.imago_storage.specs.Steps.{Call}
use Rattle.imago_storage.specs.declared.fault.Fault.{Fault}
use Rattle.imago_storage.specs.declared.fault.Fault.TheVariants.{Memory, Storage}
use Rattle.imago_access.specs.declared.driver_model.DriverModel.{Ghosts}
use Rattle.imago_access.specs.declared.driver_model.LayersBelowModel.{Ghosts as GhostsBelow}
use Rattle.imago_access.specs.Layer.{Layer, KeepsLayerState}
use Rattle.imago_access.specs.Chain.{KeepLayerStates}
use Rattle.imago_access.specs.Files.{Pairs, UnchangedButMoreFaults, IsLater, SomeRose, Unasked, files}
use Rattle.imago_access.specs.Refusals.{unusable_fault, own_refusal, SomeFailed}
use Rattle.imago_access.specs.Room.{Takes}
use Rattle.imago_access.specs.Stops.{KeepsCrashImages, GivesNone}

-- If lookups agreed with the files, the layer is unchanged and lookups still agree. A well-formed driver (its invariant holds) stays
-- well-formed.
pub record IsKnown {D St : Type 0} (g : Ghosts D St) (old new : D) : Type 0 where
  pub seen : g.coherent old → (g.layer new ≡ g.layer old) × g.coherent new
  pub safely : g.well_formed old → g.well_formed new

-- The excess refcount of each cluster is unchanged: nothing starts to leak, or stops.
abbrev pub KeepsExcessRefcounts : {D St : Type 0} → Ghosts D St → D → D → Type 0
KeepsExcessRefcounts g old new = (c : ℕ) → g.excess_refcount new c ≡ g.excess_refcount old c

-- Nothing has changed.
pub record IsUnchanged {D St : Type 0} (g : Ghosts D St) (old new : D) : Type 0 where
  pub layer : g.layer new ≡ g.layer old
  pub unasked : Unasked g old new
  pub seen : g.coherent old → g.coherent new
  pub safely : g.well_formed old → g.well_formed new
  pub stilled : g.has_no_dirty_data old → g.has_no_dirty_data new
  pub stays_stable : g.stable old → g.stable new
  pub excess_refcount : g.well_formed old → KeepsExcessRefcounts g old new
  pub room : g.well_formed old → Takes g (λ _. ⊤) old new
  pub stays_begun : (d : D) (call : Call) → g.began d call old → g.began d call new

-- A call with this early error fails with it. Without an early error, a call with nothing to do succeeds if the image can be used. If the
-- call fails early or has nothing to do, nothing changes.
pub record EarlyOutcome {D St T : Type 0} (g : Ghosts D St) (refusal : Option Fault) (nothing : Type 0)
    (result : Result T Fault) (old new : D) : Type 0 where
  pub refused : (f : Fault) → refusal ≡ Some f → IsErrOf result f
  pub idle : nothing → unusable_fault (g.layer old) ≡ None → IsOk result
  pub unchanged : nothing ⊎ IsSome refusal → IsUnchanged g old new

-- Like `EarlyOutcome`, for a change of a range in bytes.
abbrev pub RangeEarlyOutcome : {D St T : Type 0} → Ghosts D St → ℕ → ℕ → Result T Fault → D → D → Type 0
RangeEarlyOutcome g offset n result old new = EarlyOutcome g (own_refusal (g.layer old) offset n) (n ≡ 0) result old new

-- A reload right after a flush loses nothing.
abbrev pub KeepsWhatIsFlushed : {D St : Type 0} → Ghosts D St → Result Unit Fault → D → D → Type 0
KeepsWhatIsFlushed g result old new = IsTrue (g.layer old).fixed.keeps → g.coherent old → g.has_no_dirty_data old
    → OnOk result ((g.layer new ≡ g.layer old) × g.coherent new)

-- Nothing has changed except for fault counts: values, invariants, files, dirty data and allocations are unchanged.
pub record IsLeftUntouched {D St : Type 0} (g : Ghosts D St) (old new : D) : Type 0 where
  pub known : IsKnown g old new
  pub unchanged_but_faults : Pairs UnchangedButMoreFaults (files g old) (files g new)
  pub stilled : g.has_no_dirty_data old → g.has_no_dirty_data new
  pub room : g.well_formed old → Takes g (λ _. ⊤) old new
  pub stays_begun : (d : D) (call : Call) → g.began d call old → g.began d call new

-- The failed state after an error, in a format that marks failures. After `Storage` the image has failed. After `Memory` it has failed, or
-- nothing has changed except for fault counts.
abbrev pub MarksFailed : {D St : Type 0} → Ghosts D St → D → D → Fault → Type 0
MarksFailed g old new Storage = IsTrue (g.layer old).fixed.marks_failed → IsTrue (g.layer new).failed
MarksFailed g old new Memory = IsTrue (g.layer old).fixed.marks_failed → IsTrue (g.layer new).failed ⊎ IsLeftUntouched g old new
MarksFailed g old new fault = ⊤

-- The image has failed, if its format marks failures. Nothing else has changed.
pub record IsMarkedFailed {D St : Type 0} (g : Ghosts D St) (old new : D) : Type 0 where
  pub layer : g.layer new ≡ record (g.layer old) { failed = (g.layer old).failed || (g.layer old).fixed.marks_failed }
  pub unasked : Unasked g old new
  pub seen : g.coherent old → g.coherent new
  pub stilled : g.has_no_dirty_data old → g.has_no_dirty_data new
  pub stays_stable : g.stable old → g.stable new

-- Like `MarksFailed`, for a call that also reads the layers below. After `Storage` from a storage of its own the image has failed. After
-- `Storage` from a layer below, the image has failed, or nothing has changed except for fault counts.
abbrev pub MarksFailedOver : {D St : Type 0} → Ghosts D St → D → D → Fault → Type 0
MarksFailedOver g old new Storage = IsTrue (g.layer old).fixed.marks_failed
    → (SomeRose (files g old) (files g new) → IsTrue (g.layer new).failed) × (IsTrue (g.layer new).failed ⊎ IsLeftUntouched g old new)
MarksFailedOver g old new Memory = IsTrue (g.layer old).fixed.marks_failed → IsTrue (g.layer new).failed ⊎ IsLeftUntouched g old new
MarksFailedOver g old new fault = ⊤

-- A storage of one of the layers has failed, and so has that layer if its format marks failures.
abbrev pub SomeMarkedFailed : {D St : Type 0} → Ghosts D St → List D → List D → Type 0
SomeMarkedFailed g (old ∷ olds) (new ∷ news) = (SomeRose (files g old) (files g new) × MarksFailed g old new Storage) ⊎ SomeMarkedFailed g olds news
SomeMarkedFailed g _ _ = ⊥

-- The failed state of the layers after a read or a lookup that failed with `Storage`.
abbrev pub MarksSomeFailed : {D St : Type 0} → Ghosts D St → List D → List D → Fault → Type 0
MarksSomeFailed g olds news fault = fault ≡ Storage → SomeMarkedFailed g olds news

-- The effect of a call that only reads or looks up. If nothing is dirty, only fault counts of the files change. Otherwise crash images
-- still read as before.
pub record LookupCall {D St : Type 0} (g : Ghosts D St) (whole : Type 0) (old new : D) : Type 0 where
  pub keeps_layer_state : KeepsLayerState (g.layer old) (g.layer new)
  pub counts_not_fallen : Pairs IsLater (files g old) (files g new)
  pub faults : whole → Pairs IsFaultless (files g old) (files g new)
  pub stays : whole → g.coherent old → (g.layer new ≡ g.layer old) × g.coherent new
  pub safely : whole → g.well_formed old → g.well_formed new
  -- after a resource error the image has failed, or values and invariants are unchanged
  pub cut : IsTrue (g.layer new).failed ⊎ IsKnown g old new
  pub stays_stable : g.stable old → g.stable new
  pub excess_refcount : whole → g.well_formed old → KeepsExcessRefcounts g old new
  pub unchanged_but_faults : g.has_no_dirty_data old → Pairs UnchangedButMoreFaults (files g old) (files g new) × g.has_no_dirty_data new
  pub crash_images : g.well_formed old → (below : List Layer) → KeepsCrashImages g below GivesNone old new

-- The effect of a call that may change the image. An image that had failed still has.
pub record MutatingCall {D St : Type 0} (g : Ghosts D St) (ok whole : Type 0) (old new : D) : Type 0 where
  pub fixed : (g.layer new).fixed ≡ (g.layer old).fixed
  pub failed : IsTrue (g.layer old).failed → IsTrue (g.layer new).failed
  pub counts_not_fallen : Pairs IsLater (files g old) (files g new)
  pub faults : ok → Pairs IsFaultless (files g old) (files g new)
  pub safely : whole → g.well_formed old → g.well_formed new
  pub stays_stable : g.stable old → g.stable new
  pub excess_refcount : whole → g.well_formed old → KeepsExcessRefcounts g old new

-- Like `MutatingCall`, for a reload. Clusters that were still to be freed leak after the reload, so excess refcounts aren't preserved.
pub record ReloadingCall {D St : Type 0} (g : Ghosts D St) (ok whole : Type 0) (old new : D) : Type 0 where
  pub fixed : (g.layer new).fixed ≡ (g.layer old).fixed
  pub failed : IsTrue (g.layer old).failed → IsTrue (g.layer new).failed
  pub counts_not_fallen : Pairs IsLater (files g old) (files g new)
  pub faults : ok → Pairs IsFaultless (files g old) (files g new)
  pub safely : whole → g.well_formed old → g.well_formed new
  pub stays_stable : g.stable old → g.stable new

-- If lookups in the layers below (the backing chain) agreed with the files, the layers are unchanged and lookups still agree. Well-formed
-- layers stay well-formed.
pub record IsKnownUnder {B : Type 0} (u : GhostsBelow B) (old new : B) : Type 0 where
  pub seen : u.coherent_below old → (u.layers_below new ≡ u.layers_below old) × u.coherent_below new
  pub safely : u.well_formed_below old → u.well_formed_below new

-- The effect of a read or a lookup on the layers below.
pub record LookupCallBelow {B : Type 0} (u : GhostsBelow B) (whole : Type 0) (old new : B) : Type 0 where
  pub keeps_layer_state : KeepLayerStates (u.layers_below old) (u.layers_below new)
  pub counts_not_fallen : Pairs IsLater (u.files_of_layers_below old) (u.files_of_layers_below new)
  pub faults : whole → Pairs IsFaultless (u.files_of_layers_below old) (u.files_of_layers_below new)
  pub stays : whole → u.coherent_below old → (u.layers_below new ≡ u.layers_below old) × u.coherent_below new
  pub safely : whole → u.well_formed_below old → u.well_formed_below new
  pub cut : SomeFailed (u.layers_below new) ⊎ IsKnownUnder u old new
  pub stays_stable : u.stable_below old → u.stable_below new
  pub unchanged_but_faults : u.have_no_dirty_data_below old → Pairs UnchangedButMoreFaults (u.files_of_layers_below old) (u.files_of_layers_below new) × u.have_no_dirty_data_below new
  pub deeper : u.deeper_have_no_dirty_data old
      → Pairs UnchangedButMoreFaults (u.deeper_files old) (u.deeper_files new) × u.deeper_have_no_dirty_data new
