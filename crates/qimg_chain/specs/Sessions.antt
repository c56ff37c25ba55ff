-- Specifies files that are checked and opened as a chain, and a list of calls on it: the headline of this project.
use Rattle.std.specs.Prelude.{◌≡◌, ◌≢◌, ⊤, ℕ, Bool, List, [], ◌∷◌, ◌++◌, All, IsTrue, length, map, take, IsFalse, IsSome, None, Option, Some, Result, Vec}
use Rattle.std.specs.Global.{Global}
use Rattle.imago_storage.specs.Disk.{IsFree}
use Rattle.imago_storage.specs.State.{CrashImageIsBytes, StorageState}
use Rattle.imago_storage.specs.Calls.{UnchangedButFaults}
use Rattle.imago_storage.specs.declared.fault.Fault.{Fault}
use Rattle.imago_access.specs.Files.{Pairs, UnchangedButMoreFaults, files_of}
use Rattle.imago_access.specs.Layer.{IsFree as IsLayerFree}
use Rattle.imago_access.specs.Running.{below_of, chain_disk}
use Rattle.imago_access.specs.declared.driver_model.DriverModel.{Ghosts}
use Rattle.imago_access.specs.declared.format.Format.TheVariants.{Vmdk}
use Rattle.qimg_calls.specs.Calls.{any_commit_down}
use Rattle.qimg_calls.specs.Held.{IsReady}
use Rattle.qimg_calls.specs.Making.{MadeAll}
use Rattle.qimg_calls.specs.Runs.{AllGoOn, Driven, HoldsSince}
use Rattle.qimg_calls.specs.Since.{flushed}
use Rattle.qimg_calls.specs.declared.call.Answer.{Answer}
use Rattle.qimg_calls.specs.declared.call.Call.{Call}
use Rattle.qimg_core.specs.declared.plain.ChainFile.{ChainFile}
use Rattle.qimg_chain.specs.Chains.{OfTop, OpenMode, mode_below}
use Rattle.qimg_chain.specs.FileLayers.{IsLayer}
use Rattle.qimg_chain.specs.FileMeanings.{IsDiskOf, file_bytes, files_bytes, value_of}
use Rattle.qimg_chain.specs.FlushedFiles.{IsChainOf}
use Rattle.qimg_chain.specs.OneDisk.{AreTold, DiskMoment, EndsAs, RunsOnDisk}

-- The file can be the top of a list of calls: it is a raw or qcow2 file, and its storages keep what is written. If its storage exposes
-- crash images, a crash at the start leaves the bytes of the file.
pub record CanBeTop {S : Type 0} (state : S → StorageState) (file : ChainFile S) : Type 0 where
  pub format : file.format ≢ Vmdk
  pub crash_image : CrashImageIsBytes (state file.image)
  pub keeps : IsTrue (state file.image).shape.keeps
  pub others : All (λ other. IsTrue (state other.1).shape.keeps) file.extras.items

abbrev pub bytes_of_state : StorageState → List ℕ
bytes_of_state s = s.bytes

-- The bytes of all files of the layers below a top, which were opened in this mode: the file of each layer, and after it the further files
-- that were taken for it.
abbrev pub AreBytesBelow : {S : Type 0} → (S → StorageState) → OpenMode → List (ChainFile S) → List (List ℕ) → Type 0
AreBytesBelow state m [] bytes = bytes ≡ []
AreBytesBelow state m (file ∷ files) bytes = (named : Bool) × (further : List StorageState) × (others : List (List ℕ))
    × IsLayer state m.writable file named further × (bytes ≡ (state file.image).bytes ∷ (map bytes_of_state further ++ others))
    × AreBytesBelow state (mode_below m) files others

-- The files of these layers have the bytes of the files that they were opened over.
abbrev pub HaveBytesOf : {S D St : Type 0} → Ghosts D St → (S → StorageState) → OpenMode → List (ChainFile S) → List D → Type 0
HaveBytesOf g state m files ds = AreBytesBelow state m files (map bytes_of_state (files_of g ds))

-- The storage of the next layer's file is that of the first of these files, if any.
abbrev pub NextStarts : {S : Type 0} → (S → StorageState) → List (ChainFile S) → Option StorageState → Type 0
NextStarts state [] next = next ≡ None
NextStarts state (file ∷ files) next = (s : StorageState) × (next ≡ Some s) × UnchangedButFaults (state file.image) s

-- The storage of the next layer's file, if any.
abbrev pub next_image : {D St : Type 0} → Ghosts D St → List D → Option StorageState
next_image g [] = None
next_image g (d ∷ ds) = Some (g.image d)

-- The start of a list: the disk and the layers below are those that the files' bytes mean. No mapping is kept, and the disk counts as
-- flushed.
pub record StartsAs {S : Type 0} (state : S → StorageState) (top : ChainFile S) (below : List (ChainFile S)) (start : DiskMoment) : Type 0 where
  pub means : IsDiskOf start.disk (files_bytes state (top ∷ below))
  pub is_free : IsFree start.disk
  pub none : start.kept ≡ None
  pub flushed : start.since ≡ flushed start.disk
  pub top_is : UnchangedButFaults (state top.image) start.top
  pub below_is : start.below ≡ value_of (files_bytes state below)
  pub next_is : NextStarts state below start.next

-- The arguments of an opening: the files, the top first, and how they are opened.
pub record Opening (S : Type 0) : Type 0 where
  pub files : List (ChainFile S)
  pub mode : OpenMode

abbrev pub opening : {S : Type 0} → List (ChainFile S) → OpenMode → Opening S
opening files m = record { files = files; mode = m }

-- If the next layer is opened for writing, its file can be the top of a list of calls, too.
abbrev pub CanTakeCommits : {S : Type 0} → (S → StorageState) → OpenMode → List (ChainFile S) → Type 0
CanTakeCommits state m below = IsSome m.next → OfTop (CanBeTop state) below

-- A list of calls reads and changes one flat disk, from the chain `opened` to `new`. If no call ended with a resource error, the chain is ready
-- for more calls. `driven` says of each call all that is specified: its effect, the cause of its error, and what it leaves.
pub record OnOneDisk {S D St : Type 0} (g : Ghosts D St) (state : S → StorageState) (top : ChainFile S) (below : List (ChainFile S))
    (list : List Call) (answers : List Answer) (opened new : D × List D) : Type 0 where
  pub start : DiskMoment
  pub last : DiskMoment
  pub starts : StartsAs state top below start
  pub run : RunsOnDisk (file_bytes state top) (files_bytes state below) list answers start last
  pub ends : AllGoOn answers → EndsAs last (chain_disk g.layer new) (below_of g.layer new) (g.image new.0) (next_image g new.1)
  pub ready : AllGoOn answers → IsReady g new
  pub stands : AllGoOn answers → HoldsSince g last.since new
  pub driven : Driven g (flushed (chain_disk g.layer opened)) list answers opened new

-- `P` holds for the top and the files below it, or the list of files is empty.
abbrev pub IfTop : {S : Type 0} → (ChainFile S → List (ChainFile S) → Type 0) → List (ChainFile S) → Type 0
IfTop P [] = ⊤
IfTop P (file ∷ below) = P file below

-- Files are opened as a chain, and a list of calls is made on it, until memory for an answer runs out. `new` is the chain at the end, with
-- nothing prepared. Without a commit to the layer below in the list, no file below the top changes, also if calls fail: each has its bytes,
-- and got no request that changes it.
pub record Session {S D St : Type 0} (g : Ghosts D St) (names : D → ℕ → List ℕ) (state : S → StorageState) (what : Opening S)
    (list : List Call) (outcome : Result (Vec Answer Global) Fault) (new : D × List D) : Type 0 where
  pub opened : D × List D
  pub chain : IsChainOf g names state what.mode what.files opened
  pub answers : List Answer
  pub told : AreTold outcome list answers
  pub made : MadeAll g (take (length answers) list) answers opened new
  pub files_below : IsFalse (any_commit_down list) → Pairs UnchangedButMoreFaults (files_of g opened.1) (files_of g new.1)
  pub bytes_below : IsFalse (any_commit_down list) → IfTop (λ top below. HaveBytesOf g state (mode_below what.mode) below new.1) what.files
  pub free : IsLayerFree (g.layer new.0)
  pub one_disk : IfTop (λ top below. CanBeTop state top → CanTakeCommits state what.mode below
      → OnOneDisk g state top below (take (length answers) list) answers opened new) what.files
