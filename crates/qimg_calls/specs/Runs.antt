-- Specifies `drive`, a list of calls on a chain (an image and its backing files). Each call reads or changes the guest disk. A crash image
-- (the top's file after a crash between two requests) reads as flushed data, or as data of calls begun since the flush.
use Rattle.std.specs.Prelude.{◌≡◌, ⊤, ℕ, ◌+◌, ◌<◌, ◌^◌, Bool, List, [], ◌∷◌, length, map, drop, take, Some, None, MatchOption, if◌then◌else◌, is_some, IsFalse, IsSome, IsTrue}
use Rattle.imago_storage.specs.Calls.{IsFaultless}
use Rattle.imago_storage.specs.Passing.{UnrefusedCrashImages}
use Rattle.imago_storage.specs.State.{StorageState}
use Rattle.imago_storage.specs.declared.fault.Fault.{Fault}
use Rattle.imago_storage.specs.declared.fault.Fault.TheVariants.{BadArgument}
use Rattle.imago_access.specs.declared.driver_model.DriverModel.{Ghosts}
use Rattle.imago_access.specs.Files.{Pairs, UnchangedButMoreFaults as IsKeptFile, IsLater, files_of}
use Rattle.imago_access.specs.ChainCalls.{AllUnchanged, ChainCancels, WontDecline}
use Rattle.imago_access.specs.Committing.{IsCommittable}
use Rattle.imago_access.specs.Layers.{chain}
use Rattle.imago_access.specs.Running.{below_of, chain_disk}
use Rattle.qimg_calls.specs.declared.call.Call.{Call}
use Rattle.qimg_calls.specs.declared.call.Call.TheVariants as calls
use Rattle.qimg_calls.specs.declared.call.Answer.{Answer}
use Rattle.qimg_calls.specs.declared.call.Answer.TheVariants as told
use Rattle.qimg_calls.specs.Calls.{Either, Fits, any_commit, any_commit_down, any_repair, commits_down, is_out_of_place, GoesOn, IfRefused, repairs, WasDone}
use Rattle.qimg_calls.specs.CommittingDown.{CommitCourse, takes_commits}
use Rattle.qimg_calls.specs.Since.{Since, Reading, begun, since_next, LeftSince, IsSince}
use Rattle.qimg_calls.specs.Held.{ChainWithMapping, chain_with_mapping, MappingIsPrepared, IsReady, disk_call, state_of}
use Rattle.qimg_calls.specs.Leading.{LeavesExcess}
use Rattle.qimg_calls.specs.Making.{MadeAll}
use Rattle.qimg_calls.specs.Marking.{MarksRefusedFailed, StaysFailed}
use Rattle.qimg_calls.specs.Moves.{IsIdle, CallEffect, EndsEarly, refusal_at_once}
use Rattle.qimg_calls.specs.RoomTaken.{LeavesRoomFor, SettlesUnits}

-- The state between two calls of a list: the chain with its kept mapping, and the values that its bytes may have since the last flush.
pub record Moment (D St : Type 0) : Type 0 where
  pub now : ChainWithMapping D St
  pub since : Since

abbrev pub moment : {D St : Type 0} → ChainWithMapping D St → Since → Moment D St
moment now since = record { now = now; since = since }

-- The values that the chain may show after one more call. A successful flush, repair of leaks or commit to the layer below starts again
-- from the disk, unless a mapping with something to commit is prepared.
abbrev pub since_after : {D St : Type 0} → Ghosts D St → Call → Answer → Moment D St → ChainWithMapping D St → Since
since_after g call answer old new = since_next call answer (is_some (state_of old.now.kept_mapping)) (is_some (refusal_at_once g call old.now)) old.since
    (chain_disk g.layer old.now.drivers) (disk_call g old.now call) (chain_disk g.layer new.drivers)

-- A file read as the top's file, over the layers below.
abbrev pub reading_of : {D St : Type 0} → Ghosts D St → D × List D → Reading
reading_of g c = let fixed = (g.layer c.0).fixed in record {
  below = below_of g.layer c;
  means = fixed.means;
  sound = g.sound fixed.kind;
  exact = fixed.exact;
  backed = (fixed.means (g.image c.0).bytes).backed;
}

-- `f` is a valid crash image of the call.
abbrev pub IsLeftBy : {D St : Type 0} → Ghosts D St → Call → Moment D St → List ℕ → Type 0
IsLeftBy g call old = LeftSince (reading_of g old.now.drivers)
    (begun old.since (chain_disk g.layer old.now.drivers) (disk_call g old.now call))

-- `P` holds if the storage exposes its crash images and keeps what is written, and its count of refused changes is below the maximum.
abbrev pub IfTelling : StorageState → Type 0 → Type 0
IfTelling s P = IsTrue s.shape.tells → IsTrue s.shape.keeps → s.refusals + 1 < 2 ^ 64 → P

-- A crash now leaves the bytes of the top's file, which are a valid crash image, as a file of the chain `c`.
abbrev pub IsLeftNow : {D St : Type 0} → Ghosts D St → D × List D → Moment D St → Type 0
IsLeftNow g c m = let top = g.image m.now.drivers.0 in
    IfTelling top ((top.crash_image ≡ top.bytes) × LeftSince (reading_of g c) m.since top.bytes)

-- The crash images of a commit to the layer below. Until its first flush has ended, those of the top's file are such as any call leaves.
-- The later ones are of the top's file and the next layer's file as a pair, which reads as the disk (`CommitMoments`).
pub record CommitCrashImages {D St : Type 0} (g : Ghosts D St) (answer : Answer) (old new : Moment D St) : Type 0 where
  pub course : CommitCourse g answer old.now.drivers new.now.drivers
  pub flush : UnrefusedCrashImages (IsLeftBy g calls.CommitDown old) (g.image old.now.drivers.0) (g.image course.flushed)

abbrev pub CallCrashImages : {D St : Type 0} → Ghosts D St → Call → Answer → Moment D St → Moment D St → Type 0
CallCrashImages g call answer old new = Either (commits_down call) (CommitCrashImages g answer old new)
    (UnrefusedCrashImages (IsLeftBy g call old) (g.image old.now.drivers.0) (g.image new.now.drivers.0))

-- The chain as whose file the top's file is read after a call: the old one. After a commit to the layer below, the layers below are the new
-- ones.
abbrev pub read_over : {D : Type 0} → Call → (old new : D × List D) → D × List D
read_over call old new = if commits_down call then (old.0, new.1) else old

-- One call that is made, from one moment to the next.
pub record Made {D St : Type 0} (g : Ghosts D St) (call : Call) (answer : Answer) (old new : Moment D St) : Type 0 where
  -- The effect on the disk, or the cause of the error.
  pub fits : Fits call answer
  pub early_outcome : (f : Fault) → refusal_at_once g call old.now ≡ Some f → answer ≡ told.Refused f
  pub idle : IsIdle g call old.now → WasDone answer
  -- A call that fails early or has nothing to do makes no request, and changes no layer. If it fails early, the kept mapping stays kept.
  pub untouched : EndsEarly g call old.now → AllUnchanged g old.now.drivers new.now.drivers
  pub stays_kept : IsSome (refusal_at_once g call old.now) → new.now.kept_mapping ≡ old.now.kept_mapping
  pub moves : CallEffect g call answer old.now new.now
  -- The allocation that the call changes. `units` says nothing about a raw or VMDK top, where each byte counts as unallocated and zeroed.
  -- A qcow2 top of version 3 declines no zeroing and no discard, and one of version 2 all but a discard to the backing file.
  pub room : GoesOn answer → LeavesRoomFor g call old.now.drivers.0 new.now.drivers.0
  pub units : WontDecline g (disk_call g old.now call) old.now.drivers → WasDone answer
      → SettlesUnits g call old.now.drivers.0 new.now.drivers.0
  -- The image that is marked failed after an error. A layer that had failed still has.
  pub marks_failed : IfRefused answer (MarksRefusedFailed g call old.now.drivers new.now.drivers)
  pub stays_failed : StaysFailed g old.now.drivers new.now.drivers
  -- The crash images of the call, and the one right after it. They only have a meaning if the storage of the top's file exposes its crash
  -- images and keeps what is written, and not for a `MemStorage`.
  pub crash_images : CallCrashImages g call answer old new
  pub file_now : GoesOn answer → IsLeftNow g (read_over call old.now.drivers new.now.drivers) new
  pub counts_not_fallen : IsLater (g.image old.now.drivers.0) (g.image new.now.drivers.0)
  pub since : new.since ≡ since_after g call answer old new.now
  -- Only a commit changes a file below the top, and only that of the next layer. The other layers below read as before.
  pub files : IsFalse (commits_down call) → Pairs IsKeptFile (files_of g old.now.drivers.1) (files_of g new.now.drivers.1)
  pub below : IsFalse (commits_down call) → GoesOn answer → map g.layer new.now.drivers.1 ≡ map g.layer old.now.drivers.1
  pub deeper_files : Pairs IsKeptFile (files_of g (drop 1 old.now.drivers.1)) (files_of g (drop 1 new.now.drivers.1))
  pub deeper_layers : GoesOn answer → map g.layer (drop 1 new.now.drivers.1) ≡ map g.layer (drop 1 old.now.drivers.1)
  -- The conditions for the next call.
  pub fixed : (g.layer new.now.drivers.0).fixed ≡ (g.layer old.now.drivers.0).fixed
  pub mapping_prepared : MappingIsPrepared g new.now
  pub faults : GoesOn answer → IsFaultless (g.image old.now.drivers.0) (g.image new.now.drivers.0)
  -- No new cluster leaks. After a repair of leaks none does.
  pub excess_refcount : GoesOn answer → LeavesExcess g (repairs call answer) old.now.drivers.0 new.now.drivers.0
  pub ready : GoesOn answer → IsReady g new.now.drivers
  pub committable : GoesOn answer → IsCommittable g old.now.drivers → IsCommittable g new.now.drivers

-- One call of a list. A call with `is_out_of_place` isn't made, and nothing changes.
abbrev pub ListStep : {D St : Type 0} → Ghosts D St → Call → Answer → Moment D St → Moment D St → Type 0
ListStep g call answer old new =
    Either (is_out_of_place (is_some old.now.kept_mapping) call) ((answer ≡ told.Refused BadArgument) × (new ≡ old)) (Made g call answer old new)

-- A list of calls with the answer to each, from moment to moment. After the first resource error (`Memory` or `Storage`) nothing is
-- specified, except that the counts of the top's file don't fall.
abbrev pub Run : {D St : Type 0} → Ghosts D St → List Call → List Answer → Moment D St → Moment D St → Type 0
Run g [] [] old new = new ≡ old
Run {D} {St} g (call ∷ calls) (answer ∷ answers) old new = (mid : Moment D St) × ListStep g call answer old mid
    × (GoesOn answer → Run g calls answers mid new) × IsLater (g.image mid.now.drivers.0) (g.image new.now.drivers.0)
Run g _ _ old new = ⊥

-- No answer is a resource error.
abbrev pub AllGoOn : List Answer → Type 0
AllGoOn [] = ⊤
AllGoOn (answer ∷ answers) = GoesOn answer × AllGoOn answers

-- A mapping that is left at the end is cancelled: the disk is unchanged, and the top's file gets no request.
abbrev pub Ends : {D St : Type 0} → Ghosts D St → Moment D St → D × List D → Type 0
Ends g last new = MatchOption last.now.kept_mapping (new ≡ last.now.drivers)
    (λ m. ChainCancels g m.state last.now.drivers new × (g.image new.0 ≡ g.image last.now.drivers.0))

-- Each byte of the file and the disk has a value that `since` allows, and a crash now leaves the file's bytes.
abbrev pub HoldsSince : {D St : Type 0} → Ghosts D St → Since → D × List D → Type 0
HoldsSince g since c = IfTelling (g.image c.0) (((g.image c.0).crash_image ≡ (g.image c.0).bytes)
    × IsSince (reading_of g c) (g.image c.0).bytes (chain_disk g.layer c) since)

-- A list with a commit to the layer below needs a chain for which `IsCommittable` holds, unless the top or that layer is read-only. Each
-- call keeps it.
abbrev pub MayCommit : {D St : Type 0} → Ghosts D St → List Call → D × List D → Type 0
MayCommit g list c = IsTrue (any_commit_down list) → IsTrue (takes_commits (map g.layer (chain c))) → IsCommittable g c

-- The chain after calls without a resource error. They keep the fixed properties of the top, and the layers below and their files.
-- `repaired` says that one of them was a repair of leaks: then no cluster has an excess refcount. Otherwise the excess refcounts are kept.
-- `committed` says that one was a commit to the layer below: then only the layers from the third on and their files are kept.
pub record IsSameChain {D St : Type 0} (g : Ghosts D St) (repaired committed : Bool) (old new : D × List D) : Type 0 where
  pub fixed : (g.layer new.0).fixed ≡ (g.layer old.0).fixed
  pub files : IsFalse committed → Pairs IsKeptFile (files_of g old.1) (files_of g new.1)
  pub below : IsFalse committed → map g.layer new.1 ≡ map g.layer old.1
  pub deeper_files : Pairs IsKeptFile (files_of g (drop 1 old.1)) (files_of g (drop 1 new.1))
  pub deeper_layers : map g.layer (drop 1 new.1) ≡ map g.layer (drop 1 old.1)
  pub excess_refcount : LeavesExcess g repaired old.0 new.0

-- The effect of a list of calls, from a disk that was flushed and calls begun since. `Run` states each call and its crash images, in order.
pub record Driven {D St : Type 0} (g : Ghosts D St) (since : Since) (list : List Call) (answers : List Answer)
    (old new : D × List D) : Type 0 where
  pub last : Moment D St
  pub run : Run g list answers (moment (chain_with_mapping old None) since) last
  pub ends : AllGoOn answers → Ends g last new
  pub counts_not_fallen : IsLater (g.image last.now.drivers.0) (g.image new.0)
  -- The conditions for the next list.
  pub faults : AllGoOn answers → IsFaultless (g.image old.0) (g.image new.0)
  pub same_chain : AllGoOn answers → IsSameChain g (any_repair list answers) (any_commit list answers) old new
  pub ready : AllGoOn answers → IsReady g new
  pub committable : AllGoOn answers → IsCommittable g old → IsCommittable g new
  pub stands : AllGoOn answers → HoldsSince g last.since new

-- A list of calls that ended early because memory for an answer ran out. The first `count` calls were made, and no later one.
pub record CutShort {D St : Type 0} (g : Ghosts D St) (list : List Call) (old new : D × List D) : Type 0 where
  pub count : ℕ
  pub fewer : count < length list
  pub answers : List Answer
  pub made : MadeAll g (take count list) answers old new
  pub driven : (since : Since) → IsReady g old → MayCommit g (take count list) old → HoldsSince g since old
      → Driven g since (take count list) answers old new
