-- Crash images (the bytes of a file after a crash between two requests) that the storage of a chain's top reports during a list of calls.
use Rattle.std.specs.Prelude.{◌≡◌, ◌⊎◌, ℕ, ◌+◌, ◌<◌, ◌^◌, List, [], ◌∷◌, Some, None, take, slice_get, map, IsTrue}
use Rattle.imago_storage.specs.Log.{telling}
use Rattle.imago_storage.specs.MemStorage.{memory}
use Rattle.imago_storage.specs.State.{StorageState}
use Rattle.imago_storage.specs.Through.{EachCrashImageIn}
use Rattle.imago_access.specs.Committing.{IsPairAbove}
use Rattle.imago_access.specs.Layers.{chain}
use Rattle.imago_access.specs.Running.{chain_disk}
use Rattle.imago_access.specs.declared.format.Format.TheVariants.{Qcow2}
use Rattle.imago_access.specs.declared.driver_model.DriverModel.{Ghosts}
use Rattle.qcow2_types.specs.Bytes.{bytes_of}
use Rattle.qcow2_types.specs.Consistency.{Consistent, IsConsistent}
use Rattle.qcow2_types.specs.Header.{Header}
use Rattle.qimg_calls.specs.Calls.{commits_down}
use Rattle.qimg_calls.specs.CommittingDown.{CommitCourse}
use Rattle.qimg_calls.specs.Held.{IsReady}
use Rattle.qimg_calls.specs.Runs.{AllGoOn, Driven, ListStep, IsLeftBy, Moment, Run, HoldsSince}
use Rattle.qimg_calls.specs.Since.{Since, flushed}
use Rattle.qimg_calls.specs.declared.call.Call.{Call}
use Rattle.qimg_calls.specs.declared.call.Answer.{Answer}
use Rattle.qimg_core.specs.declared.plain.ChainFile.{ChainFile}
use Rattle.qimg_chain.specs.Chains.{AreInPlace, AreLayers, OfTop, OpenMode}
use Rattle.qimg_chain.specs.Refusals.{AreFormed}

-- The preconditions for the crash images of a list of calls. Calls can be made, and the disk is one that may follow the last flush. The
-- storage of the top's file exposes its crash images, keeps what is written, and can count one more refused change.
pub record TellsStops {D St : Type 0} (g : Ghosts D St) (since : Since) (c : D × List D) : Type 0 where
  pub ready : IsReady g c
  pub stands : HoldsSince g since c
  pub tells : IsTrue (g.image c.0).shape.tells
  pub keeps : IsTrue (g.image c.0).shape.keeps
  pub room : (g.image c.0).refusals + 1 < 2 ^ 64

-- `f` is a crash image of the top's file in a commit to the layer below, after that layer was written and flushed.
pub record IsLeftAbove {D St : Type 0} (g : Ghosts D St) (answer : Answer) (old new : Moment D St) (f : List ℕ) : Type 0 where
  pub course : CommitCourse g answer old.now.drivers new.now.drivers
  pub pair : IsPairAbove g old.now.drivers course.mid f

-- `f` is a crash image that one call may leave. In a commit to the layer below it may also be one after the first flush, which reads as the
-- disk over the new layers below.
abbrev pub CallStops : {D St : Type 0} → Ghosts D St → Call → Answer → Moment D St → Moment D St → List ℕ → Type 0
CallStops g call answer old new f = IsLeftBy g call old f ⊎ (IsTrue (commits_down call) × IsLeftAbove g answer old new f)

-- `f` is a crash image of one call of a list. The call begins at the moment after the calls before it.
pub record IsLeftIn {D St : Type 0} (g : Ghosts D St) (list : List Call) (answers : List Answer) (old : Moment D St)
    (f : List ℕ) : Type 0 where
  pub before : ℕ
  pub call : Call
  pub entry : Moment D St
  pub answer : Answer
  pub end : Moment D St
  pub is_call : slice_get list before ≡ Some call
  pub is_answer : slice_get answers before ≡ Some answer
  pub run : Run g (take before list) (take before answers) old entry
  pub step : ListStep g call answer entry end
  pub left : CallStops g call answer entry end f

-- A list of calls, from moment to moment, with the crash images in order. The crash images of each call are such as that call may leave.
abbrev pub TellsRun : {D St : Type 0} → Ghosts D St → List Call → List Answer → Moment D St → Moment D St → Type 0
TellsRun g [] [] old new = new ≡ old
TellsRun {D} {St} g (call ∷ calls) (answer ∷ answers) old new = (mid : Moment D St) × ListStep g call answer old mid
    × EachCrashImageIn (CallStops g call answer old mid) (g.image old.now.drivers.0) (g.image mid.now.drivers.0)
    × TellsRun g calls answers mid new
TellsRun g _ _ old new = ⊥

-- Like `TellsRun`, for a list after which a chain is known. The top's file doesn't change at its end.
abbrev pub TellsAll : {D St : Type 0} → Ghosts D St → List Call → List Answer → Moment D St → D × List D → Type 0
TellsAll {D} {St} g list answers old new =
    (last : Moment D St) × TellsRun g list answers old last × (g.image new.0 ≡ g.image last.now.drivers.0)

-- The chain exposes its crash images, a list of calls is made on it, and no call ends with a resource error.
pub record GoesOnTelling {D St : Type 0} (g : Ghosts D St) (since : Since) (list : List Call) (answers : List Answer)
    (old new : D × List D) : Type 0 where
  pub telling : TellsStops g since old
  pub driven : Driven g since list answers old new
  pub on : AllGoOn answers

-- A file is a consistent qcow2 image without further files. Its storage has just begun to expose its crash images over new memory.
pub record IsLoggedImage {S : Type 0} (state : S → StorageState) (file : ChainFile S) : Type 0 where
  pub format : file.format ≡ Qcow2
  pub none : file.extras.items ≡ []
  pub bytes : List ℕ
  pub align : ℕ
  pub logged : state file.image ≡ telling (memory bytes align 0)
  pub header : Header
  pub sound : IsConsistent (bytes_of bytes) header

-- Like `IsLoggedImage`, for an image without a backing file.
abbrev pub IsLoggedAlone : {S : Type 0} → (S → StorageState) → ChainFile S → Type 0
IsLoggedAlone state file = (image : IsLoggedImage state file) × (image.header.backing_name ≡ None)

-- Files that form a chain in this mode, and the file of its top satisfies `IsLoggedImage`.
abbrev pub AreLoggedFiles : {S : Type 0} → (S → StorageState) → OpenMode → List (ChainFile S) → Type 0
AreLoggedFiles state m files = AreFormed state m files × OfTop (IsLoggedImage state) files

-- The chain is one that `open_chain` or `open_for_commit` returns for these files.
pub record IsOpenedOver {S D St : Type 0} (g : Ghosts D St) (state : S → StorageState) (m : OpenMode) (files : List (ChainFile S))
    (c : D × List D) : Type 0 where
  pub layers : AreLayers g state m files (chain c)
  pub places : AreInPlace (map g.layer (chain c))

-- Each chain that is opened over these files exposes its crash images, with its disk as the last flushed one.
abbrev pub OpensTelling : {S D St : Type 0} → Ghosts D St → (S → StorageState) → OpenMode → List (ChainFile S) → Type 0
OpensTelling {D = D} g state m files =
    (c : D × List D) → IsOpenedOver g state m files c → TellsStops g (flushed (chain_disk g.layer c)) c

-- Each crash image during a list of calls on a chain over these files is a consistent image, if no call ends with a resource error.
abbrev pub CrashImagesConsistent : {S D St : Type 0} → Ghosts D St → (S → StorageState) → OpenMode → List (ChainFile S) → Type 0
CrashImagesConsistent {D = D} g state m files = (list : List Call) (answers : List Answer) (c new : D × List D)
    → IsOpenedOver g state m files c → Driven g (flushed (chain_disk g.layer c)) list answers c new → AllGoOn answers
    → EachCrashImageIn (λ f. Consistent (bytes_of f)) (g.image c.0) (g.image new.0)
