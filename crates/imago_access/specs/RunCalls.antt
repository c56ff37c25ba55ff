-- Specifies changes of a range that are carried out run by run: their effects and errors, for a driver and the layers below it (the backing
-- chain).
use Rattle.std.specs.Prelude.{◌≡◌, ◌⊎◌, ⊤, ℕ, ◌+◌, ◌<◌, ◌≤◌, List, ◌∷◌, ◌++◌, Option, Some, Result, OnOk, IfOk, IfErr, IsTrue, length, true}
use Rattle.imago_storage.specs.Disk.{Value, Shows, byte}
use Rattle.imago_storage.specs.Steps.{Call, IsIn, IsOut}
use Rattle.imago_storage.specs.declared.fault.Fault.{Fault}
use Rattle.imago_storage.specs.declared.fault.Fault.TheVariants.{Memory, Storage}
use Rattle.imago_access.specs.declared.driver_model.DriverModel.{Ghosts}
use Rattle.imago_access.specs.declared.driver_model.LayersBelowModel.{Ghosts as GhostsBelow}
use Rattle.imago_access.specs.declared.access.zeroing.Zeroing.{Zeroing}
use Rattle.imago_access.specs.declared.access.zeroing.Zeroing.TheVariants as zeroing_is
use Rattle.imago_access.specs.Layer.{Layer}
use Rattle.imago_access.specs.declared.access.discarding.Discarding.{Discarding}
use Rattle.imago_access.specs.Chain.{at, IsBacked}
use Rattle.imago_access.specs.ChainLooks.{ShowBytes}
use Rattle.imago_access.specs.Changes.{Committed, Cancelled}
use Rattle.imago_access.specs.RangeCalls.{GivesDiscarded, discard_by, IsZeroedBy, zero_by}
use Rattle.imago_access.specs.Failing.{FailsOver}
use Rattle.imago_access.specs.Files.{HadNoResourceError, SomeRose, files}
use Rattle.imago_access.specs.Parts.{IsPartOf, IsUncutPart, announces, PartCause, MappedCause}
use Rattle.imago_access.specs.PartCalls.{PartCall, IsFor}
use Rattle.imago_access.specs.Room.{IsApart, IsUncutAt, Reaches, IsUndeclined, IsGivenUp, IsGivenUpTo, IsGivenUpBehind, LeavesAllocation}
use Rattle.imago_access.specs.Running.{IsIntact, IsBetween, RangeChange, DriverRangeChange}
use Rattle.imago_access.specs.Spending.{Spends}
use Rattle.imago_access.specs.Stops.{KeepsCrashImages, GivesBytes, GivesZero, GivesSettled}

-- A change of a range, in bytes.
pub data Work : Type 0 where
  -- writes these bytes from an offset on
  writing : ℕ → List ℕ → Work
  -- writes zeroes
  writing_zeroes : ℕ → ℕ → Work
  -- zeroes in this way
  zeroing_by : Zeroing → ℕ → ℕ → Work

-- The start of the range, and then its length.
abbrev pub start_of : Work → ℕ
start_of (writing offset bytes) = offset
start_of (writing_zeroes offset n) = offset
start_of (zeroing_by how offset n) = offset

abbrev pub extent_of : Work → ℕ
extent_of (writing offset bytes) = length bytes
extent_of (writing_zeroes offset n) = n
extent_of (zeroing_by how offset n) = n

-- The values that the change gives at each offset.
abbrev pub WorkGives : Work → ℕ → Value → Type 0
WorkGives (writing offset bytes) = GivesBytes offset bytes
WorkGives (writing_zeroes offset n) = GivesZero offset n
WorkGives (zeroing_by how offset n) = GivesZero offset n

-- The bytes where the change deallocates nothing. A zeroing that deallocates does so in its range.
abbrev pub WorkKeeps : Work → ℕ → Type 0
WorkKeeps (writing offset bytes) p = ⊤
WorkKeeps (writing_zeroes offset n) p = ⊤
WorkKeeps (zeroing_by how offset n) p = (how ≡ zeroing_is.Keep) ⊎ IsOut offset n p

-- The call is one that such a change can be part of. A zeroing is only part of a call of its own kind.
abbrev pub IsKindOf : Work → Call → Type 0
IsKindOf (writing offset bytes) call = ⊤
IsKindOf (writing_zeroes offset n) call = ⊤
IsKindOf (zeroing_by how offset n) call = IsFor (zero_by how) call

-- The effect of the change: it gives its values to bytes of its range, and only allocates in units that the range touches.
pub record DoesWork {D St B T : Type 0} (g : Ghosts D St) (u : GhostsBelow B) (work : Work)
    (result : Result T Fault) (old new : D × B) : Type 0 where
  pub range_change : RangeChange g u (HadNoResourceError result) (WorkGives work) old new
  pub room : IsIntact g u old.0 old.1 → HadNoResourceError result
      → LeavesAllocation g (WorkKeeps work) (IsApart (g.layer old.0).fixed.unit (start_of work) (extent_of work)) old.0 new.0
  pub stays_begun : (d : D) (call : Call) → g.began d call old.0 → IsPartOf call (start_of work) (extent_of work)
      → IsKindOf work call → OnOk result (g.began d call new.0)

-- The failed state of an image whose format marks failures, if a change by the driver may be done in part. After `Storage` the image has
-- failed. After `Memory` it has failed or is still well-formed (its invariant holds).
abbrev pub DriverMarksFailed : {D St : Type 0} → Ghosts D St → D → D → Fault → Type 0
DriverMarksFailed g old new Storage = IsTrue (g.layer old).fixed.marks_failed → IsTrue (g.layer new).failed
DriverMarksFailed g old new Memory = IsTrue (g.layer old).fixed.marks_failed → IsTrue (g.layer new).failed ⊎ (g.well_formed old → g.well_formed new)
DriverMarksFailed g old new fault = ⊤

-- Like `DriverMarksFailed`, for a change that reads the layers below. After `Storage` from a storage of its own the image has failed. After
-- `Storage` from a layer below, the image has failed or is still well-formed.
abbrev pub MarksTopFailed : {D St B : Type 0} → Ghosts D St → GhostsBelow B → D × B → D × B → Fault → Type 0
MarksTopFailed g u old new Storage = IsTrue (g.layer old.0).fixed.marks_failed
    → (SomeRose (files g old.0) (files g new.0) → IsTrue (g.layer new.0).failed)
    × (IsTrue (g.layer new.0).failed ⊎ (IsIntact g u old.0 old.1 → g.well_formed new.0))
MarksTopFailed g u old new Memory = IsTrue (g.layer old.0).fixed.marks_failed → IsTrue (g.layer new.0).failed ⊎ (IsIntact g u old.0 old.1 → g.well_formed new.0)
MarksTopFailed g u old new fault = ⊤

-- The change can be a part of the call, and the call promises that its whole range will be written.
abbrev pub IsWorkOf : Work → Call → Type 0
IsWorkOf (writing offset bytes) call = Some true ≡ announces call
IsWorkOf (writing_zeroes offset n) call = Some true ≡ announces call
IsWorkOf (zeroing_by how offset n) call = IsFor (zero_by how) call × (Some true ≡ announces call)

-- The errors of the change, as a part of a call that has begun.
pub record WorkRefused {D St B T : Type 0} (g : Ghosts D St) (u : GhostsBelow B) (work : Work)
    (result : Result T Fault) (old new : D × B) : Type 0 where
  pub failed : IfErr result (FailsOver g u old new)
  pub marks_failed : IfErr result (MarksTopFailed g u old new)
  pub cause : IsIntact g u old.0 old.1 → (d : D) (call : Call) → g.began d call old.0
      → IsUncutPart (g.layer old.0) call (start_of work) (extent_of work) → IsWorkOf work call
      → IfErr result (PartCause (u.layers_below old.1) (g.layer old.0) (start_of work) (extent_of work) (g.own_cause d (u.layers_below old.1) call)
      (files g old.0 ++ u.files_of_layers_below old.1) (files g new.0 ++ u.files_of_layers_below new.1))

-- On a well-formed chain, the layers read as the bytes of the first run. `ShowsAll` is for all bytes.
abbrev pub ShowsRun : {D St B : Type 0} → Ghosts D St → GhostsBelow B → ℕ → List ℕ → Result ℕ Fault → D × B → D × B → Type 0
ShowsRun g u offset bytes result old new = IsIntact g u old.0 old.1 → IfOk result (ShowBytes (g.layer new.0 ∷ u.layers_below old.1) offset bytes)

abbrev pub ShowsAll : {D St B : Type 0} → Ghosts D St → GhostsBelow B → ℕ → List ℕ → Result Unit Fault → D × B → D × B → Type 0
ShowsAll g u offset bytes result old new = IsIntact g u old.0 old.1 → OnOk result (Shows (at (g.layer new.0 ∷ u.layers_below old.1)) offset bytes)

-- On a well-formed chain, the layers read as 0 in the first run (`ShowsZeroRun`), in the range (`ShowsZeroes`), or up to an end
-- (`ShowsZeroTo`).
abbrev pub ShowsZeroRun : {D St B : Type 0} → Ghosts D St → GhostsBelow B → ℕ → Result ℕ Fault → D × B → D × B → Type 0
ShowsZeroRun g u offset result old new = IsIntact g u old.0 old.1
    → IfOk result (λ count. (i : ℕ) → i < count → at (g.layer new.0 ∷ u.layers_below old.1) (offset + i) ≡ byte 0)

abbrev pub ShowsZeroes : {D St B : Type 0} → Ghosts D St → GhostsBelow B → ℕ → ℕ → Result Unit Fault → D × B → D × B → Type 0
ShowsZeroes g u offset n result old new = IsIntact g u old.0 old.1
    → OnOk result ((p : ℕ) → IsIn offset n p → at (g.layer new.0 ∷ u.layers_below old.1) p ≡ byte 0)

abbrev pub AreZeroTo : List Layer → ℕ → ℕ → Type 0
AreZeroTo layers offset end = (p : ℕ) → offset ≤ p → p < end → at layers p ≡ byte 0

abbrev pub ShowsZeroTo : {D St B : Type 0} → Ghosts D St → GhostsBelow B → ℕ → Result ℕ Fault → D × B → D × B → Type 0
ShowsZeroTo g u offset result old new = IsIntact g u old.0 old.1 → IfOk result (AreZeroTo (g.layer new.0 ∷ u.layers_below old.1) offset)

-- The offset `at` isn't inside a unit of the layer that is completely in the range. `EndsCutNone` requires this of both ends of a part, and
-- `RunIsUncut` of the end of the first run.
abbrev pub CutsNoUnit : Layer → ℕ → ℕ → ℕ → Type 0
CutsNoUnit layer offset n at = IsUncutAt layer.fixed.unit layer.size offset n at

abbrev pub EndsCutNone : Layer → ℕ → ℕ → ℕ × ℕ → Type 0
EndsCutNone layer offset n part = CutsNoUnit layer offset n part.0 × CutsNoUnit layer offset n part.1

abbrev pub RunIsUncut : {D St B : Type 0} → Ghosts D St → GhostsBelow B → ℕ → ℕ → Result ℕ Fault → D × B → Type 0
RunIsUncut g u offset n result old = IsIntact g u old.0 old.1 → IfOk result (λ count. CutsNoUnit (g.layer old.0) offset n (offset + count))

-- The mapping was committed (`SettlesMapping`) or cancelled (`GivesMappingUp`). Without state nothing changes.
abbrev pub SettlesMapping : {D St : Type 0} → Ghosts D St → Option St → D → D → Type 0
SettlesMapping g state old new = Spends g state (g.layer old) (g.layer new) (g.well_formed old → Committed (g.layer old) (g.layer new))

abbrev pub GivesMappingUp : {D St : Type 0} → Ghosts D St → Option St → D → D → Type 0
GivesMappingUp g state old new = Spends g state (g.layer old) (g.layer new) (Cancelled (g.layer old) (g.layer new))

-- A crash image of a commit (the file after a crash during it) may read a byte of the prepared mapping as the commit makes it.
abbrev pub WriteBackCrashImages : {D St : Type 0} → Ghosts D St → D → D → Type 0
WriteBackCrashImages g old new = g.well_formed old → (below : List Layer) → KeepsCrashImages g below (GivesSettled below (g.layer old)) old new

-- The errors of a commit include none of the driver's own, for any range of the mapping.
abbrev pub SettlingRefused : {D St : Type 0} → Ghosts D St → Result Unit Fault → D → D → Type 0
SettlingRefused g result old new = g.well_formed old → (below : List Layer) (offset n : ℕ) → 0 < n
    → IfErr result (PartCause below (g.layer old) offset n (λ _. ⊥) (files g old) (files g new))

-- If the part had no resource error, the call around it still counts as begun. The part is of the call's own kind.
abbrev pub StaysBegun : {D St : Type 0} → PartCall → Ghosts D St → ℕ → ℕ → Type 0 → D → D → Type 0
StaysBegun {D} part g offset n whole old new = (d : D) (call : Call) → g.began d call old → IsPartOf call offset n → IsFor part call → whole
    → g.began d call new

-- `DriverRangeChange` over all possible layers below.
abbrev pub DriverRangeChangeAnywhere : {D St : Type 0} → Ghosts D St → Type 0 → (ℕ → Value → Type 0) → D → D → Type 0
DriverRangeChangeAnywhere g whole gives old new = (below : List Layer) → DriverRangeChange g whole gives below old new

-- The errors of writing zeroes to a range that is mapped from this offset of a storage on.
abbrev pub MappedRefused : {D St : Type 0} → Ghosts D St → ℕ → ℕ → ℕ → Result Unit Fault → D → D → Type 0
MappedRefused g guest place n result old new = g.well_formed old
    → IfErr result (MappedCause (g.layer old) guest place n (files g old) (files g new))

-- The errors of a driver's call on a range, as a part of a call that has begun, over all possible layers below.
abbrev pub RangeRefused : {D St T : Type 0} → PartCall → Ghosts D St → ℕ → ℕ → Result T Fault → D → D → Type 0
RangeRefused {D} part g offset n result old new = g.well_formed old → (below : List Layer) (d : D) (call : Call)
    → g.began d call old → IsPartOf call offset n → IsFor part call
    → IfErr result (PartCause below (g.layer old) offset n (g.own_cause d below call) (files g old) (files g new))

-- After a zeroing by the driver, bytes of the range read as before or as 0. `DiscardsAlone` is for a discard over layers that the driver
-- reads through to. `DiscardCrashImages` is for crash images of such a discard.
abbrev pub ZeroesAlone : {D St T : Type 0} → Ghosts D St → ℕ → ℕ → Result T Fault → D → D → Type 0
ZeroesAlone g offset n result old new = g.well_formed old → (below : List Layer) → HadNoResourceError result
    → IsBetween (GivesZero offset n) below (g.layer old) (g.layer new)

abbrev pub DiscardsAlone : {D St T : Type 0} → Ghosts D St → Discarding → ℕ → ℕ → Result T Fault → D → D → Type 0
DiscardsAlone g how offset n result old new = g.well_formed old → (below : List Layer) → IsBacked below (g.layer old) → HadNoResourceError result
    → IsBetween (GivesDiscarded how below offset n) below (g.layer old) (g.layer new)

abbrev pub DiscardCrashImages : {D St : Type 0} → Ghosts D St → Discarding → ℕ → ℕ → D → D → Type 0
DiscardCrashImages g how offset n old new = g.well_formed old → (below : List Layer) → IsBacked below (g.layer old)
    → KeepsCrashImages g below (GivesDiscarded how below offset n) old new

-- The effect of a driver's zeroing on allocations. The zeroing allocates only in its range. It deallocates only in its range, and only if
-- it doesn't keep allocations.
abbrev pub ZeroingLeaves : {D St T : Type 0} → Ghosts D St → Zeroing → ℕ → ℕ → Result T Fault → D → D → Type 0
ZeroingLeaves g how offset n result old new = g.well_formed old → HadNoResourceError result
    → LeavesAllocation g (WorkKeeps (zeroing_by how offset n)) (IsOut offset n) old new

-- No unit that is completely in the range is before the part that was done, and the part ends inside no such unit. The part isn't empty if
-- the range has such a unit.
abbrev pub ReachesUnits : Layer → ℕ → ℕ → ℕ × ℕ → Type 0
ReachesUnits layer offset n part = Reaches layer.fixed.unit layer.size offset n part.0 part.1

-- Each byte of the part is zeroed or unallocated, as this way of zeroing says.
abbrev pub IsLeftIn : {D St : Type 0} → Ghosts D St → Zeroing → D → ℕ × ℕ → Type 0
IsLeftIn g how new part = (p : ℕ) → IsIn part.0 part.1 p → IsZeroedBy how (g.unallocated new) (g.zeroed new) p

-- If the range is part of a call that has begun, and the driver has no cause to decline that call, P holds.
abbrev pub UnlessDeclined : {D St : Type 0} → PartCall → Ghosts D St → List Layer → ℕ → ℕ → D → Type 0 → Type 0
UnlessDeclined {D} part g below offset n old P = (d : D) (call : Call) → g.began d call old → IsPartOf call offset n → IsFor part call
    → IsUndeclined (g.own_cause d below call) → P

-- If the driver doesn't decline the discard, each whole unit of the range is deallocated.
abbrev pub GivesUnitsUpAlone : {D St : Type 0} → Ghosts D St → Discarding → ℕ → ℕ → Result Unit Fault → D → D → Type 0
GivesUnitsUpAlone g how offset n result old new = g.well_formed old → (below : List Layer)
    → UnlessDeclined (discard_by how) g below offset n old
    (OnOk result (IsGivenUp (g.unallocated new) (g.layer old).fixed.unit (g.layer old).size offset n))

-- If the driver doesn't decline the zeroing, each whole unit is left as this way of zeroing says. `LeavesUnitsBehind`: between two offsets,
-- by the driver itself. `LeavesUnitsTo`: up to an offset. `LeavesUnits`: in the whole range.
abbrev pub LeavesUnitsBehind : {D St : Type 0} → Ghosts D St → Zeroing → ℕ → ℕ → Result (ℕ × ℕ) Fault → D → D → Type 0
LeavesUnitsBehind g how offset n result old new = g.well_formed old → (below : List Layer) → UnlessDeclined (zero_by how) g below offset n old
    (IfOk result (λ r. IsGivenUpBehind (IsZeroedBy how (g.unallocated new) (g.zeroed new)) (g.layer old).fixed.unit (g.layer old).size
    offset n r.0 r.1))

abbrev pub LeavesUnitsTo : {D St B : Type 0} → Ghosts D St → GhostsBelow B → Zeroing → ℕ → ℕ → Result ℕ Fault → D × B → D × B → Type 0
LeavesUnitsTo g u how offset n result old new = IsIntact g u old.0 old.1 → UnlessDeclined (zero_by how) g (u.layers_below old.1) offset n old.0
    (IfOk result (IsGivenUpTo (IsZeroedBy how (g.unallocated new.0) (g.zeroed new.0)) (g.layer old.0).fixed.unit (g.layer old.0).size offset n))

abbrev pub LeavesUnits : {D St B : Type 0} → Ghosts D St → GhostsBelow B → Zeroing → ℕ → ℕ → Result Unit Fault → D × B → D × B → Type 0
LeavesUnits g u how offset n result old new = IsIntact g u old.0 old.1 → UnlessDeclined (zero_by how) g (u.layers_below old.1) offset n old.0
    (OnOk result (IsGivenUp (IsZeroedBy how (g.unallocated new.0) (g.zeroed new.0)) (g.layer old.0).fixed.unit (g.layer old.0).size offset n))
