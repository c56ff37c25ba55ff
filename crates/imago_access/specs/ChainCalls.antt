-- Specifies the calls of a chain of images (`FormatAccess`): results, errors and effects, given its drivers before and after a call.
use Rattle.std.specs.Prelude.{◌≡◌, ◌⊎◌, ℕ, ◌+◌, ◌<◌, max, List, Option, Some, None, Result, OnOk, IfErr, IsErrOf, IsSome, IsFalse, length, is_some, map}
use Rattle.imago_storage.specs.Steps.{Call, Answer, Step, Stays, ensure, run, prepare, prepared, commit, cancel, write_mapped, shrink, done, IsOut}
use Rattle.imago_storage.specs.Causes.{PartlyDone, offset_of, length_of}
use Rattle.imago_storage.specs.declared.fault.Fault.{Fault}
use Rattle.imago_storage.specs.declared.fault.Fault.TheVariants.{ReadOnly, Outdated}
use Rattle.imago_access.specs.declared.driver_model.DriverModel.{Ghosts}
use Rattle.imago_access.specs.declared.mapping.Mapping.{Mapping}
use Rattle.imago_access.specs.declared.mapping.PreparedDataMapping.{PreparedDataMapping}
use Rattle.imago_access.specs.declared.format.PreallocateMode.{PreallocateMode}
use Rattle.imago_access.specs.Layer.{Layer}
use Rattle.imago_access.specs.Chain.{unit_of_chain}
use Rattle.imago_access.specs.Layers.{chain}
use Rattle.imago_access.specs.Changes.{Asked}
use Rattle.imago_access.specs.Files.{ImageCause, IsNotResourceError, HadNoResourceError, files_of}
use Rattle.imago_access.specs.Going.{IsUnchanged}
use Rattle.imago_access.specs.Parts.{IsMappedAt, GrowthCause, ShrinkCause}
use Rattle.imago_access.specs.Refusals.{unusable_fault, change_refusal, look_refusal, ChangeCause}
use Rattle.imago_access.specs.Resizes.{fill_of, resizing}
use Rattle.imago_access.specs.Room.{IsApart, Takes, LeavesAllocation, IsUndeclined, IsGivenUp, IsZeroed}
use Rattle.imago_access.specs.Running.{IsIntactChain, chain_disk, below_of}
use Rattle.imago_access.specs.Spending.{IsMine, IsForeignTo, is_own}
use Rattle.imago_access.specs.Stops.{KeepsCrashImages, KeepsCrashImagesTo, GivesHeld, GivesPast, GivesBelowPast}

-- The call is a step of the chain's disk with this answer.
abbrev pub ChainSteps : {D St : Type 0} → Ghosts D St → Call → Answer → D × List D → D × List D → Type 0
ChainSteps g call answer old new = Step (below_of g.layer old) (chain_disk g.layer old) call answer (chain_disk g.layer new)

-- The call failed and was done in part.
abbrev pub ChainPartly : {D St : Type 0} → Ghosts D St → Call → D × List D → D × List D → Type 0
ChainPartly g call old new = PartlyDone (below_of g.layer old) call (chain_disk g.layer old) (chain_disk g.layer new)

-- The disk is unchanged.
abbrev pub ChainStays : {D St : Type 0} → Ghosts D St → D × List D → D × List D → Type 0
ChainStays g old new = Stays (chain_disk g.layer old) (chain_disk g.layer new)

-- The early error of a call that changes a range, in bytes, if it has one. `chain_look_refusal` is the early error of a read or a lookup.
abbrev pub chain_refusal : {D St : Type 0} → Ghosts D St → D × List D → ℕ → ℕ → Option Fault
chain_refusal g c offset n = change_refusal (unit_of_chain (map g.layer (chain c))) (g.layer c.0) offset n

abbrev pub chain_look_refusal : {D St : Type 0} → Ghosts D St → D × List D → ℕ → ℕ → Option Fault
chain_look_refusal g c offset n = look_refusal (unit_of_chain (map g.layer (chain c))) (g.layer c.0) offset n

-- The errors of any chain, well-formed or not.
abbrev pub ChainFails : {D St : Type 0} → Ghosts D St → D × List D → D × List D → Fault → Type 0
ChainFails g old new = ImageCause (files_of g (chain old)) (files_of g (chain new))

-- The errors of a call that changes a well-formed chain, with these causes of the driver's own. `OwnCause` takes the causes of the top
-- driver.
abbrev pub ChainCause : {D St : Type 0} → Ghosts D St → Call → (Fault → Type 0) → D × List D → D × List D → Fault → Type 0
ChainCause g call causes old new =
    ChangeCause (map g.layer old.1) (g.layer old.0) call causes (files_of g (chain old)) (files_of g (chain new))

abbrev pub OwnCause : {D St : Type 0} → Ghosts D St → Call → D × List D → D × List D → Fault → Type 0
OwnCause g call old new = ChainCause g call (g.own_cause old.0 (map g.layer old.1) call) old new

-- If the call failed with an error other than a resource error, P holds.
abbrev pub UnlessResourceError : {T : Type 0} → Result T Fault → Type 0 → Type 0
UnlessResourceError result P = IfErr result (λ e. IsNotResourceError e → P)

-- A call that changes a range, in bytes, has nothing to do or has an early error. `LookEndsAtOnce` is for a read or a lookup.
abbrev pub EndsAtOnce : {D St : Type 0} → Ghosts D St → D × List D → ℕ → ℕ → Type 0
EndsAtOnce g c offset n = (n ≡ 0) ⊎ IsSome (chain_refusal g c offset n)

abbrev pub LookEndsAtOnce : {D St : Type 0} → Ghosts D St → D × List D → ℕ → ℕ → Type 0
LookEndsAtOnce g c offset n = (n ≡ 0) ⊎ IsSome (chain_look_refusal g c offset n)

-- The top driver is unchanged, and the drivers below are too.
abbrev pub AllUnchanged : {D St : Type 0} → Ghosts D St → D × List D → D × List D → Type 0
AllUnchanged g old new = IsUnchanged g old.0 new.0 × (new.1 ≡ old.1)

-- The chain stays well-formed.
abbrev pub StaysIntact : {D St : Type 0} → Ghosts D St → D × List D → D × List D → Type 0
StaysIntact g old new = IsIntactChain g old → IsIntactChain g new

-- The top driver has no cause of its own to decline the call.
abbrev pub WontDecline : {D St : Type 0} → Ghosts D St → Call → D × List D → Type 0
WontDecline g call c = IsUndeclined (g.own_cause c.0 (map g.layer c.1) call)

-- If the call succeeds, a well-formed chain has carried it out. `IsDoneInPart` is for errors other than resource errors, and `CallRefused`
-- lists all errors.
abbrev pub IsCarriedOut : {D St : Type 0} → Ghosts D St → Call → Result Unit Fault → D × List D → D × List D → Type 0
IsCarriedOut g call result old new = IsIntactChain g old → OnOk result (ChainSteps g call done old new)

abbrev pub IsDoneInPart : {D St : Type 0} → Ghosts D St → Call → Result Unit Fault → D × List D → D × List D → Type 0
IsDoneInPart g call result old new = IsIntactChain g old → UnlessResourceError result (ChainPartly g call old new)

abbrev pub CallRefused : {D St T : Type 0} → Ghosts D St → Call → Result T Fault → D × List D → D × List D → Type 0
CallRefused g call result old new = IsIntactChain g old → IfErr result (OwnCause g call old new)

-- If the top driver doesn't decline the call, each unit (a cluster in qcow2) that is completely in its range is deallocated
-- (`GivesUnitsUp`) or zeroed (`ZeroesUnits`). This says nothing about a raw or VMDK top, where each byte counts as unallocated and zeroed.
-- A qcow2 top of version 3 declines none of these calls, and one of version 2 all but a discard to the backing file.
abbrev pub GivesUnitsUp : {D St : Type 0} → Ghosts D St → Call → Result Unit Fault → D × List D → D × List D → Type 0
GivesUnitsUp g call result old new = IsIntactChain g old → WontDecline g call old
    → OnOk result (IsGivenUp (g.unallocated new.0) (g.layer old.0).fixed.unit (g.layer old.0).size (offset_of call) (length_of call))

abbrev pub ZeroesUnits : {D St : Type 0} → Ghosts D St → Call → Result Unit Fault → D × List D → D × List D → Type 0
ZeroesUnits g call result old new = IsIntactChain g old → WontDecline g call old
    → OnOk result (IsZeroed (g.zeroed new.0) (g.layer old.0).fixed.unit (g.layer old.0).size (offset_of call) (length_of call))

-- The call only allocates in units that the range touches. `TakesNear` is for a call that deallocates nothing, and `GivesUpNear` for one
-- that deallocates only inside the range.
abbrev pub TakesNear : {D St T : Type 0} → Ghosts D St → ℕ → ℕ → Result T Fault → D × List D → D × List D → Type 0
TakesNear g offset n result old new = IsIntactChain g old → HadNoResourceError result
    → Takes g (IsApart (g.layer old.0).fixed.unit offset n) old.0 new.0

abbrev pub GivesUpNear : {D St T : Type 0} → Ghosts D St → ℕ → ℕ → Result T Fault → D × List D → D × List D → Type 0
GivesUpNear g offset n result old new = IsIntactChain g old → HadNoResourceError result
    → LeavesAllocation g (IsOut offset n) (IsApart (g.layer old.0).fixed.unit offset n) old.0 new.0

-- A run of the range was mapped as part of the disk. In `ChainPrepares` the run was prepared, so that it can be written and then committed.
abbrev pub ChainEnsures : {D St : Type 0} → Ghosts D St → Asked → D × List D → D × List D → Mapping × ℕ → Type 0
ChainEnsures g asked old new answer = ChainSteps g (ensure asked.offset asked.length asked.overwrite) (run answer.1) old new

abbrev pub ChainPrepares : {D St : Type 0} → Ghosts D St → Asked → D × List D → D × List D → PreparedDataMapping St → Type 0
ChainPrepares g asked old new m =
    ChainSteps g (prepare asked.offset asked.length asked.overwrite) (prepared m.length (is_some m.state)) old new

-- Each byte of a prepared run can be written at the location in the mapping.
abbrev pub CanWriteRun : {St : Type 0} → Layer → ℕ → PreparedDataMapping St → Type 0
CanWriteRun layer offset m = (i : ℕ) → i < m.length → layer.writable_location (offset + i) ≡ Some (m.storage, m.offset + i)

-- The commit of a mapping, by whether it has state, and whether it was prepared under the top driver's number.
abbrev pub commit_of : {D St : Type 0} → Ghosts D St → Option St → D × List D → Call
commit_of g state c = commit (is_some state) (is_own g.tag state (g.layer c.0))

-- The prepared mapping was committed. In `ChainCancels` the mapping was cancelled.
abbrev pub ChainCommits : {D St : Type 0} → Ghosts D St → Option St → D × List D → D × List D → Type 0
ChainCommits g state old new = ChainSteps g (commit_of g state old) done old new

abbrev pub ChainCancels : {D St : Type 0} → Ghosts D St → Option St → D × List D → D × List D → Type 0
ChainCancels g state old new = ChainSteps g (cancel (is_some state) (is_own g.tag state (g.layer old.0))) done old new

-- If the chain is well-formed and its top driver has prepared the mapping, P holds.
abbrev pub WhereMine : {D St : Type 0} → Ghosts D St → Option St → D × List D → Type 0 → Type 0
WhereMine g state c P = IsIntactChain g c → IsMine g state (g.layer c.0) → P

-- Each byte that had a writable location keeps it.
abbrev pub KeepsWritableLocations : Layer → Layer → Type 0
KeepsWritableLocations old new = (p : ℕ) (place : ℕ × ℕ) → old.writable_location p ≡ Some place → new.writable_location p ≡ Some place

-- A crash image of a commit reads as before, or as the bytes written to the mapping.
abbrev pub CommitCrashImages : {D St : Type 0} → Ghosts D St → D × List D → D × List D → Type 0
CommitCrashImages g old new = KeepsCrashImages g (map g.layer old.1) (GivesHeld (g.layer old.0)) old.0 new.0

-- The errors of a commit, if the top driver or an image with another number prepared the mapping.
abbrev pub ChainCommitRefused : {D St T : Type 0} → Ghosts D St → Option St → Result Unit (Fault × T) → D × List D → D × List D → Type 0
ChainCommitRefused g state result old new = IsIntactChain g old → IsMine g state (g.layer old.0) ⊎ IsForeignTo g.tag state (g.layer old.0)
    → IfErr result (λ e. ChainCause g (commit_of g state old) (λ _. ⊥) old new e.0)

-- If the range isn't empty, it is mapped in place from this offset of one of the top driver's storages.
abbrev pub IsMappedFor : Layer → ℕ → ℕ → ℕ → Type 0
IsMappedFor layer guest place n = 0 < n → IsMappedAt layer guest place n

-- The fault is `Outdated`, and the range isn't mapped there. `ChainMappedCause` lists the errors of a write to a mapped range.
abbrev pub IsUnmapped : Layer → ℕ → ℕ → ℕ → Fault → Type 0
IsUnmapped layer guest place n f = (f ≡ Outdated) × (0 < n) × (IsMappedAt layer guest place n → ⊥)

abbrev pub ChainMappedCause : {D St : Type 0} → Ghosts D St → ℕ → ℕ → List ℕ → D × List D → D × List D → Fault → Type 0
ChainMappedCause g guest place bytes old new =
    ChainCause g (write_mapped guest bytes) (IsUnmapped (g.layer old.0) guest place (length bytes)) old new

-- If a resize has something to do and the top image wasn't opened for writing, the call fails with `ReadOnly` and nothing changes.
abbrev pub NeedsWritable : {D St : Type 0} → Ghosts D St → Type 0 → Result Unit Fault → D × List D → D × List D → Type 0
NeedsWritable g Alters result old new = unusable_fault (g.layer old.0) ≡ None → Alters → IsFalse (g.layer old.0).fixed.writable
    → IsErrOf result ReadOnly × AllUnchanged g old new

-- The disk was resized to this size.
abbrev pub ChainResizes : {D St : Type 0} → Ghosts D St → ℕ → PreallocateMode → D × List D → D × List D → Type 0
ChainResizes g size mode old new = ChainSteps g (resizing (g.layer old.0).size size (fill_of mode)) done old new

-- A crash image of a growth may read any value past the old size. One of a shrink may read the layers below past the new size.
abbrev pub GrowthCrashImages : {D St : Type 0} → Ghosts D St → ℕ → D × List D → D × List D → Type 0
GrowthCrashImages g size old new =
    KeepsCrashImagesTo g (map g.layer old.1) (g.layer old.0).size (max (g.layer old.0).size size) (GivesPast (g.layer old.0).size) old.0 new.0

abbrev pub ShrinkCrashImages : {D St : Type 0} → Ghosts D St → ℕ → D × List D → D × List D → Type 0
ShrinkCrashImages g size old new =
    KeepsCrashImagesTo g (map g.layer old.1) size (g.layer old.0).size (GivesBelowPast (map g.layer old.1) size) old.0 new.0

-- The errors of a growth to this size, and then the errors of a shrink.
abbrev pub ChainGrowthRefused : {D St : Type 0} → Ghosts D St → ℕ → PreallocateMode → Result Unit Fault → D × List D → D × List D → Type 0
ChainGrowthRefused g size mode result old new = IsIntactChain g old → IfErr result (GrowthCause (map g.layer old.1) (g.layer old.0) size
    (g.growth_cause old.0 (map g.layer old.1) size mode) (files_of g (chain old)) (files_of g (chain new)))

abbrev pub ChainShrinkRefused : {D St : Type 0} → Ghosts D St → ℕ → Result Unit Fault → D × List D → D × List D → Type 0
ChainShrinkRefused g size result old new = IsIntactChain g old → IfErr result (ShrinkCause (map g.layer old.1) (g.layer old.0) size
    (g.own_cause old.0 (map g.layer old.1) (shrink size)) (files_of g (chain old)) (files_of g (chain new)))
