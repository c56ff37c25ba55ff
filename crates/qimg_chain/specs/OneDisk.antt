-- Specifies a list of calls over files as calls of one flat disk: what each does to the disk, and what a crash in it may leave of the top's
-- file. Drivers, caches and tables don't occur here.
use Rattle.std.specs.Prelude.{◌≡◌, ◌⊎◌, ⊤, ℕ, ◌<◌, ◌≤◌, Bool, true, false, List, [], ◌∷◌, length, take, Option, None, Some, is_some, IsFalse, IsTrue, Result, Ok, Err, Vec}
use Rattle.std.specs.Global.{Global}
use Rattle.imago_storage.specs.Calls.{IsFaultless}
use Rattle.imago_storage.specs.Causes.{PartlyDone}
use Rattle.imago_storage.specs.Disk.{Disk, Value, IsFree}
use Rattle.imago_storage.specs.Passing.{UnrefusedCrashImages}
use Rattle.imago_storage.specs.State.{StorageState}
use Rattle.imago_storage.specs.Steps.{Answer as DiskAnswer, SameValues, Stays, Step}
use Rattle.imago_storage.specs.declared.fault.Fault.{Fault}
use Rattle.imago_storage.specs.declared.fault.Fault.TheVariants.{BadArgument, Memory}
use Rattle.imago_access.specs.Files.{IsLater, IsNotResourceError, UnchangedButMoreFaults as IsKeptFile}
use Rattle.imago_access.specs.Stops.{MakesNone}
use Rattle.imago_access.specs.declared.format.Format.{Format}
use Rattle.imago_access.specs.declared.format.Format.TheVariants.{Raw}
use Rattle.qimg_calls.specs.Calls.{Either, Fits, GoesOn, WasDone, commits_down, is_out_of_place, said}
use Rattle.qimg_calls.specs.Held.{call_as}
use Rattle.qimg_calls.specs.Runs.{IfTelling}
use Rattle.qimg_calls.specs.Since.{LeftSince, Reading, Since, begun, flushed, since_next, value_over}
use Rattle.qimg_calls.specs.declared.call.Answer.{Answer}
use Rattle.qimg_calls.specs.declared.call.Answer.TheVariants as told
use Rattle.qimg_calls.specs.declared.call.Call.{Call}
use Rattle.qimg_calls.specs.declared.call.Call.TheVariants as calls
use Rattle.qimg_chain.specs.Chains.{IsSoundAs}
use Rattle.qimg_chain.specs.FileMeanings.{FileBytes, file_meaning, value_of}
use Rattle.qimg_chain.specs.FlushedFiles.{with_image}

-- A raw file doesn't state the size of its disk.
abbrev pub states_size : Format → Bool
states_size Raw = false
states_size format = true

-- The way to read a file as the top file, over the files below.
abbrev pub reading_over : FileBytes → List FileBytes → Reading
reading_over top below = record {
  below = value_of below;
  means = λ f. file_meaning (with_image top f);
  sound = IsSoundAs top.format;
  exact = states_size top.format;
  backed = (file_meaning top).backed;
}

-- The same way to read a file, over layers below that have these values.
abbrev pub over_values : Reading → (ℕ → Value) → Reading
over_values top below = record top { below = below }

-- The state between two calls: the disk, the values of the layers below the top, the storages of the top's file and of the next layer's
-- file (the file below the top), the values that a crash may show, and the kept mapping, if any, by whether it has something to commit.
pub record DiskMoment : Type 0 where
  pub disk : Disk
  pub below : ℕ → Value
  pub top : StorageState
  pub next : Option StorageState
  pub since : Since
  pub kept : Option Bool

-- A mapping is kept that has something to commit.
abbrev pub is_prepared : Option Bool → Bool
is_prepared None = false
is_prepared (Some state) = state

-- The call may be done in part if it fails.
abbrev pub changes_range : Call → Bool
changes_range (calls.Write offset bytes) = true
changes_range (calls.WriteZeroes offset n) = true
changes_range (calls.DiscardToZero offset n) = true
changes_range (calls.DiscardToAny offset n) = true
changes_range (calls.DiscardToBacking offset n) = true
changes_range call = false

-- The effect on the disk. A call that succeeds is a step of the disk. A write, zeroing or discard that fails without a resource error
-- leaves each byte of its range old or as the call gives it. Any other call that fails so changes nothing.
abbrev pub HasEffect : (below : ℕ → Value) → (prepared : Bool) → Call → Answer → Disk → Disk → Type 0
HasEffect below prepared call (told.Refused fault) old new = IsNotResourceError fault
    → Either (changes_range call) (PartlyDone below (call_as prepared prepared call) old new) (Stays old new)
HasEffect below prepared call answer old new =
    (says : DiskAnswer) × (said call answer ≡ Some says) × Step below old (call_as prepared prepared call) says new

-- The kept mapping after a call without a resource error. A prepared one is kept until it is committed or cancelled.
abbrev pub KeepsOrEnds : Call → Answer → Option Bool → Option Bool → Type 0
KeepsOrEnds (calls.PrepareDataMapping offset n overwrite) (told.Prepared storage place count state) old new = new ≡ Some state
KeepsOrEnds calls.CommitDataMapping told.Done old new = new ≡ None
KeepsOrEnds calls.Cancel told.Done old new = new ≡ None
KeepsOrEnds call (told.Refused fault) old new = IsNotResourceError fault → new ≡ old
KeepsOrEnds call answer old new = new ≡ old

-- ---- A commit to the layer below.

-- After a successful commit the layers below read as the disk. Past the disk's size they read as before.
pub record TakesDisk (disk : Disk) (old new : ℕ → Value) : Type 0 where
  pub taken : (p : ℕ) → p < disk.size → new p ≡ disk.value p
  pub rest : (p : ℕ) → disk.size ≤ p → new p ≡ old p

-- The file is that of the next layer after a crash. It is consistent, and the top's file `top_file` over it reads as the disk.
pub record IsPairOf (top next : Reading) (disk : Disk) (top_file : List ℕ) (file : List ℕ) : Type 0 where
  pub is_sound : next.sound file
  pub pair : LeftSince (over_values top (value_over next.below (next.means file))) (flushed disk) top_file

-- The crash images of a commit that doesn't fail early. `flushed_top` is the storage of the top's file after the first flush of the top.
-- Until then its crash images are such as any call leaves. Right after that flush the top's file reads as the disk. If the flush failed,
-- the next layer's storage is unchanged.
--
-- Then the next layer is written and flushed, while the top's file doesn't change. Each crash image of the next layer's file is a pair with
-- the top's file, which reads as the disk. Last, the top is emptied. Each crash image of its file reads as the disk over the next layer,
-- whose file says what the layer is, as far as the disk reaches. Or the commit ended before.
pub record CommitStops (top next : Reading) (old new : DiskMoment) : Type 0 where
  pub flushed_top : StorageState
  pub kept_top : StorageState
  pub old_next : StorageState
  pub new_next : StorageState
  pub old_is : old.next ≡ Some old_next
  pub new_is : new.next ≡ Some new_next
  pub flush : UnrefusedCrashImages (LeftSince (over_values top old.below) (begun old.since old.disk (call_as false false calls.CommitDown)))
      old.top flushed_top
  pub counts_before : IsLater old.top flushed_top
  pub counts_after : IsLater kept_top new.top
  pub left : IfTelling flushed_top (LeftSince (over_values top old.below) (flushed old.disk) flushed_top.bytes) ⊎ (new_next ≡ old_next)
  pub top_unchanged : IsKeptFile flushed_top kept_top
  pub copied : IfTelling flushed_top (UnrefusedCrashImages (IsPairOf top next old.disk flushed_top.bytes) old_next new_next)
  pub settled : ((p : ℕ) → p < old.disk.size → value_over next.below (next.means new_next.bytes) p ≡ new.below p)
      ⊎ MakesNone kept_top new.top
  pub emptied : UnrefusedCrashImages (LeftSince (over_values top new.below) (flushed old.disk)) kept_top new.top

-- Without a layer below the top, a commit fails early.
abbrev pub CommitsInto : FileBytes → List FileBytes → DiskMoment → DiskMoment → Type 0
CommitsInto top [] old new = ⊥
CommitsInto top (next ∷ deeper) old new = CommitStops (reading_over top (next ∷ deeper)) (reading_over next deeper) old new

-- ---- One call.

-- A call that fails early makes no request and changes nothing.
pub record IsUntouched (answer : Answer) (old new : DiskMoment) : Type 0 where
  pub refused : WasDone answer → ⊥
  pub below : new.below ≡ old.below
  pub top : new.top ≡ old.top
  pub next : new.next ≡ old.next

-- The crash images of a call.
abbrev pub OneCallStops : FileBytes → List FileBytes → Call → DiskMoment → DiskMoment → Type 0
OneCallStops top below call old new = let does = call_as (is_prepared old.kept) (is_prepared old.kept) call in
    Either (commits_down call) (CommitsInto top below old new)
    (UnrefusedCrashImages (LeftSince (over_values (reading_over top below) old.below) (begun old.since old.disk does)) old.top new.top)

-- The next layer's file isn't changed.
abbrev pub NextKept : Option StorageState → Option StorageState → Type 0
NextKept None new = new ≡ None
NextKept (Some a) new = (b : StorageState) × (new ≡ Some b) × IsKeptFile a b

-- One call that is made, over these files. Each crash image in it is consistent, and reads as at the last flush or as a call gives that has
-- begun since, this one among them. So does the file right after the call, before the next request. After a successful flush or repair of
-- leaks, with nothing prepared to commit, that is the disk as it is. So it is after a commit to the layer below.
pub record OneCall (top : FileBytes) (below : List FileBytes) (call : Call) (answer : Answer) (old new : DiskMoment) : Type 0 where
  -- The call fails before anything is done.
  pub early : Bool
  pub untouched : IsTrue early → IsUntouched answer old new
  pub fits : Fits call answer
  pub effect : HasEffect old.below (is_prepared old.kept) call answer old.disk new.disk
  pub kept : KeepsOrEnds call answer old.kept new.kept
  pub since : let does = call_as (is_prepared old.kept) (is_prepared old.kept) call in
      new.since ≡ since_next call answer (is_prepared old.kept) early old.since old.disk does new.disk
  pub crash_images : IsFalse early → OneCallStops top below call old new
  -- Only a commit changes the next layer.
  pub below_kept : IsFalse (commits_down call) → GoesOn answer → (new.below ≡ old.below) × NextKept old.next new.next
  pub below_taken : IsTrue (commits_down call) → WasDone answer → TakesDisk old.disk old.below new.below
  -- The storage keeps its fixed properties, and its counts don't fall. Without a resource error none of its requests has failed.
  pub counts_not_fallen : IsLater old.top new.top
  pub faults : GoesOn answer → IsFaultless old.top new.top
  pub file_now : GoesOn answer → IfTelling new.top
      ((new.top.crash_image ≡ new.top.bytes) × LeftSince (over_values (reading_over top below) new.below) new.since new.top.bytes)

-- A call that is for a mapping when none is kept, or changes the disk while one is, isn't made, and nothing changes.
abbrev pub OneStep : FileBytes → List FileBytes → Call → Answer → DiskMoment → DiskMoment → Type 0
OneStep top below call answer old new =
    Either (is_out_of_place (is_some old.kept) call) ((answer ≡ told.Refused BadArgument) × (new ≡ old)) (OneCall top below call answer old new)

-- A list of calls with the answer to each. After the first resource error (`Memory` or `Storage`) nothing is specified. The causes of
-- errors aren't stated here but with the drivers (`Run`).
abbrev pub RunsOnDisk : FileBytes → List FileBytes → List Call → List Answer → DiskMoment → DiskMoment → Type 0
RunsOnDisk top below [] [] old new = new ≡ old
RunsOnDisk top below (call ∷ calls) (answer ∷ answers) old new =
    (mid : DiskMoment) × OneStep top below call answer old mid × (GoesOn answer → RunsOnDisk top below calls answers mid new)
RunsOnDisk top below _ _ old new = ⊥

-- The end of the list: a kept mapping is cancelled. That changes no value and makes no request. If none is kept, nothing changes.
pub record EndsAs (last : DiskMoment) (disk : Disk) (below : ℕ → Value) (top : StorageState) (next : Option StorageState) : Type 0 where
  pub values : SameValues last.disk disk
  pub is_free : IsFree disk
  pub below_is : last.kept ≡ None → below ≡ last.below
  pub top_is : top ≡ last.top
  pub next_is : last.kept ≡ None → next ≡ last.next

-- These are the answers of the calls that were made. All calls of the list were, unless memory for an answer ran out.
abbrev pub AreTold : Result (Vec Answer Global) Fault → List Call → List Answer → Type 0
AreTold (Ok told) list answers = (answers ≡ told.items) × (length answers ≡ length list)
AreTold (Err fault) list answers = (fault ≡ Memory) × (length answers < length list)
