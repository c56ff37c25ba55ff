-- Specifies a commit as a call of a list: `commit_down` of the top's data to the layer below it, which is called the next layer here.
use Rattle.std.specs.Prelude.{◌≡◌, ◌⊎◌, ◌&&◌, Bool, false, List, [], ◌∷◌, Option, Some, None, drop, if◌then◌else◌, is_some, map}
use Rattle.imago_storage.specs.Calls.{IsFaultless}
use Rattle.imago_storage.specs.declared.fault.Fault.{Fault}
use Rattle.imago_storage.specs.declared.fault.Fault.TheVariants.{BadArgument, Failed}
use Rattle.imago_access.specs.declared.driver_model.DriverModel.{Ghosts}
use Rattle.imago_access.specs.Chain.{Each}
use Rattle.imago_access.specs.ChainCalls.{ChainStays}
use Rattle.imago_access.specs.Committing.{BelowTakesDisk, CommitDownRefused, CommitMoments, FlushesFirst, IsCommittable, IsSettled, OfNext, Vacates, commit_down_refusal}
use Rattle.imago_access.specs.Files.{Pairs, UnchangedButMoreFaults as IsKeptFile, IsLater, files_of}
use Rattle.imago_access.specs.Going.{KeepsExcessRefcounts}
use Rattle.imago_access.specs.Layer.{Layer}
use Rattle.imago_access.specs.Layers.{chain}
use Rattle.qimg_calls.specs.declared.call.Answer.{Answer}
use Rattle.qimg_calls.specs.Calls.{GoesOn, WasDone}
use Rattle.qimg_calls.specs.Held.{IsReady}

-- A mapping with something to commit is prepared in the next layer.
abbrev pub next_is_prepared : List Layer → Bool
next_is_prepared [] = false
next_is_prepared (next ∷ rest) = is_some next.unspent

-- The first cause for which a commit fails before anything is done: the top has failed, a mapping is prepared in the next layer, or
-- `commit_down` has an early error.
abbrev pub commit_call_refusal : Layer → List Layer → Option Fault
commit_call_refusal top below =
    if top.failed then Some Failed else if next_is_prepared below then Some BadArgument else commit_down_refusal top below

-- The top and the next layer were opened for writing. Otherwise a commit fails early.
abbrev pub takes_commits : List Layer → Bool
takes_commits (top ∷ (next ∷ rest)) = top.fixed.writable && next.fixed.writable
takes_commits layers = false

-- If the commit doesn't fail early, `IsCommittable` holds.
abbrev pub MayBegin : {D St : Type 0} → Ghosts D St → D × List D → Type 0
MayBegin g c = commit_call_refusal (g.layer c.0) (map g.layer c.1) ≡ None → IsCommittable g c

-- The errors of a commit.
abbrev pub CommitCallCause : {D St : Type 0} → Ghosts D St → D × List D → D × List D → Fault → Type 0
CommitCallCause g old new fault =
    (commit_call_refusal (g.layer old.0) (map g.layer old.1) ≡ Some fault) ⊎ CommitDownRefused g old new fault

-- After a successful commit the layers below read as the disk. The files of the top and of the next layer say what their disks are.
pub record FillsNext {D St : Type 0} (g : Ghosts D St) (old new : D × List D) : Type 0 where
  pub below : BelowTakesDisk g old new
  pub top : IsSettled g new.0
  pub next : OfNext (λ n. IsSettled g n.0) new.1

-- The course of a commit. `flushed` is the top after its first flush, and `mid` the chain when the next layer was written and flushed: see
-- `CommitMoments`. After success each unit of the top is deallocated. If there was no early error, the first flush is as in `FlushesFirst`.
pub record CommitCourse {D St : Type 0} (g : Ghosts D St) (answer : Answer) (old new : D × List D) : Type 0 where
  pub flushed : D
  pub mid : D × List D
  pub moments : CommitMoments g old new flushed mid
  pub vacates : WasDone answer → Vacates g mid new.0
  pub flushes_first : commit_call_refusal (g.layer old.0) (map g.layer old.1) ≡ None → GoesOn answer
      → FlushesFirst g old flushed mid

-- If nothing in these layers was dirty, nothing is, and their files are unchanged except for fault counts.
abbrev pub StayClean : {D St : Type 0} → Ghosts D St → List D → List D → Type 0
StayClean g olds news =
    Each g.has_no_dirty_data olds → Pairs IsKeptFile (files_of g olds) (files_of g news) × Each g.has_no_dirty_data news

-- The state after a commit. The disk is unchanged, and so are the layers from the third on.
pub record LeavesAfterCommit {D St : Type 0} (g : Ghosts D St) (answer : Answer) (old new : D × List D) : Type 0 where
  pub fixed : (g.layer new.0).fixed ≡ (g.layer old.0).fixed
  pub counts_not_fallen : IsLater (g.image old.0) (g.image new.0)
  pub faults : GoesOn answer → IsFaultless (g.image old.0) (g.image new.0)
  pub excess_refcount : GoesOn answer → MayBegin g old → KeepsExcessRefcounts g old.0 new.0
  pub disk : GoesOn answer → MayBegin g old → ChainStays g old new
  pub deeper : StayClean g (drop 1 old.1) (drop 1 new.1)
  pub deeper_layers : GoesOn answer → MayBegin g old → map g.layer (drop 1 new.1) ≡ map g.layer (drop 1 old.1)
  pub committable : GoesOn answer → IsCommittable g old → IsCommittable g new
  pub ready : GoesOn answer → IsReady g old → MayBegin g old → IsReady g new
  pub writable : takes_commits (map g.layer (chain new)) ≡ takes_commits (map g.layer (chain old))
  pub course : MayBegin g old → CommitCourse g answer old new
