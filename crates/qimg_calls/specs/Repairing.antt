-- Specifies the repair of leaks: what it does to an image, which pairs it returns, and the causes of its errors.
use Rattle.std.specs.Prelude.{◌≡◌, ⊤, ℕ, ◌+◌, ◌<◌, Bool, true, false, List, Option, Some, None, Result, Vec, IfOk, IfErr, IsOk, is_some, not, if◌then◌else◌, slice_get}
use Rattle.std.specs.Global.{Global}
use Rattle.imago_storage.specs.State.{StorageState}
use Rattle.imago_storage.specs.declared.fault.Fault.{Fault}
use Rattle.imago_storage.specs.declared.fault.Fault.TheVariants.{Memory, ReadOnly, Storage, Unsupported}
use Rattle.imago_access.specs.declared.driver_model.DriverModel.{Ghosts}
use Rattle.imago_access.specs.declared.format.Format.{Format}
use Rattle.imago_access.specs.declared.format.Format.TheVariants as format
use Rattle.imago_access.specs.Failing.{Fails}
use Rattle.imago_access.specs.Files.{HadNoResourceError, SomeRose, files}
use Rattle.imago_access.specs.Going.{EarlyOutcome, KeepsExcessRefcounts, ReloadingCall}
use Rattle.imago_access.specs.Layer.{KeepsLayerState, Layer}
use Rattle.imago_access.specs.Refusals.{unusable_fault}
use Rattle.imago_access.specs.RunCalls.{DriverMarksFailed}
use Rattle.imago_access.specs.Stops.{GivesNone, IsCounted, IsWritten, KeepsCrashImages}

-- The format has refcounts.
abbrev pub has_refcounts : Format → Bool
has_refcounts format.Qcow2 = true
has_refcounts other = false

-- The first cause for which a repair fails before anything is done: the image can't be used, has no refcounts, or is read-only.
abbrev pub repair_refusal : Layer → Option Fault
repair_refusal layer =
    if is_some (unusable_fault layer) then unusable_fault layer
    else if not (has_refcounts layer.fixed.format) then Some Unsupported
    else if not layer.fixed.writable then Some ReadOnly
    else None

-- The pairs are the clusters with an excess refcount, by rising cluster, each with its excess.
pub record ListsExcess (excess : ℕ → ℕ) (pairs : List (ℕ × ℕ)) : Type 0 where
  pub each : (i c n : ℕ) → slice_get pairs i ≡ Some (c, n) → (n ≡ excess c) × (0 < n)
  pub all : (c : ℕ) → 0 < excess c → (i : ℕ) × (slice_get pairs i ≡ Some (c, excess c))
  pub rising : (i c n d m : ℕ) → slice_get pairs i ≡ Some (c, n) → slice_get pairs (i + 1) ≡ Some (d, m) → c < d

-- No cluster has an excess refcount.
abbrev pub HasNoExcess : {D St : Type 0} → Ghosts D St → D → Type 0
HasNoExcess g d = (c : ℕ) → g.excess_refcount d c ≡ 0

-- The errors of the repair of a well-formed image: an early one, or a resource error.
abbrev pub RepairCause : Layer → List StorageState → List StorageState → Fault → Type 0
RepairCause layer olds news Memory = ⊤
RepairCause layer olds news Storage = SomeRose olds news
RepairCause layer olds news fault = repair_refusal layer ≡ Some fault

-- The image once the repair has flushed it, and before it lowers a refcount: what leaks in its file is the excess at the call. The file says
-- what each byte is, and each later crash image reads as the disk, which doesn't change.
pub record FlushesFirst {D St : Type 0} (g : Ghosts D St) (old new : D) : Type 0 where
  pub mid : D
  pub layer : g.layer mid ≡ g.layer old
  pub written : IsWritten g mid
  pub counted : IsCounted g mid
  pub excess_refcount : KeepsExcessRefcounts g old mid
  pub flush : (below : List Layer) → KeepsCrashImages g below GivesNone old mid
  pub crash_images : (below : List Layer) → KeepsCrashImages g below GivesNone mid new

-- The leaks of an image are repaired. The disk is unchanged. On success the result lists the excess refcounts at the call, no cluster has
-- one now, and the file by itself says what each byte is.
pub record RepairsLeaksOf {D St : Type 0} (g : Ghosts D St) (old : D) (result : Result (Vec (ℕ × ℕ) Global) Fault) (new : D)
    : Type 0 where
  pub listed : g.well_formed old → IfOk result (λ pairs. ListsExcess (g.excess_refcount old) pairs.items)
  pub repaired : g.well_formed old → IsOk result → HasNoExcess g new
  pub written : g.well_formed old → IsOk result → IsWritten g new
  pub counted : g.well_formed old → IsOk result → IsCounted g new
  pub same : g.well_formed old → HadNoResourceError result → g.layer new ≡ g.layer old
  pub crash_images : g.well_formed old → (below : List Layer) → KeepsCrashImages g below GivesNone old new
  pub flushes_first : g.well_formed old → IsOk result → FlushesFirst g old new
  -- Early outcomes, and preserved state.
  pub early_outcome : EarlyOutcome g (repair_refusal (g.layer old)) ⊥ result old new
  pub keeps_layer_state : KeepsLayerState (g.layer old) (g.layer new)
  pub reloading_call : ReloadingCall g (HadNoResourceError result) (HadNoResourceError result) old new
  -- Errors.
  pub failed : IfErr result (Fails g old new)
  pub marks_failed : IfErr result (DriverMarksFailed g old new)
  pub cause : g.well_formed old → IfErr result (RepairCause (g.layer old) (files g old) (files g new))
