-- Specifies the state that a call leaves for the next call, and the crash images (the file after a crash between two requests) of the call.
use Rattle.std.specs.Prelude.{◌≡◌, ◌⊎◌, ℕ, ◌<◌, Bool, List, ◌∷◌, drop, map}
use Rattle.imago_storage.specs.Calls.{IsFaultless}
use Rattle.imago_storage.specs.Disk.{Value}
use Rattle.imago_storage.specs.Steps.{Call}
use Rattle.imago_access.specs.declared.driver_model.DriverModel.{Ghosts}
use Rattle.imago_access.specs.Layer.{Layer}
use Rattle.imago_access.specs.Chain.{at}
use Rattle.imago_access.specs.Committing.{IsCommittable}
use Rattle.imago_access.specs.Files.{IsLater}
use Rattle.imago_access.specs.Running.{below_of, chain_disk}
use Rattle.imago_access.specs.Stops.{KeepsCrashImagesTo}
use Rattle.imago_access.specs.Going.{KeepsExcessRefcounts}
use Rattle.qimg_calls.specs.declared.call.Answer.{Answer}
use Rattle.qimg_calls.specs.declared.call.Call.{Call as CallMade}
use Rattle.qimg_calls.specs.Calls.{Either, GoesOn, commits_down, repairs}
use Rattle.qimg_calls.specs.CommittingDown.{LeavesAfterCommit, StayClean}
use Rattle.qimg_calls.specs.Repairing.{HasNoExcess}
use Rattle.qimg_calls.specs.Since.{Begun, least_size, most_size}
use Rattle.qimg_calls.specs.Held.{ChainWithMapping, IsReady, disk_call}

-- Each byte of the disk reads as before, or as the call gives it.
abbrev pub ShowsBetween : (ℕ → Value → Type 0) → List Layer → Layer → Layer → Type 0
ShowsBetween gives below old new = (p : ℕ) → p < new.size
    → ((p < old.size) × (at (new ∷ below) p ≡ at (old ∷ below) p)) ⊎ gives p (at (new ∷ below) p)

-- The excess refcount of each cluster after a call or a list of calls. It is unchanged, or 0 with a repair of leaks.
abbrev pub LeavesExcess : {D St : Type 0} → Ghosts D St → (repaired : Bool) → D → D → Type 0
LeavesExcess g repaired old new = Either repaired (HasNoExcess g new) (KeepsExcessRefcounts g old new)

-- The state after a call of a chain, other than a commit to the layer below. `whole` says that the call had no resource error (`Memory` or
-- `Storage`), and `repaired` that it was a repair of leaks.
pub record LeavesForNext {D St : Type 0} (g : Ghosts D St) (whole : Type 0) (call : Call) (repaired : Bool) (old new : D × List D)
    : Type 0 where
  pub fixed : (g.layer new.0).fixed ≡ (g.layer old.0).fixed
  pub counts_not_fallen : IsLater (g.image old.0) (g.image new.0)
  pub faults : whole → IsReady g old → IsFaultless (g.image old.0) (g.image new.0)
  pub excess_refcount : whole → IsReady g old → LeavesExcess g repaired old.0 new.0
  -- No file below the top changes.
  pub layers_below : StayClean g old.1 new.1
  pub deeper : StayClean g (drop 1 old.1) (drop 1 new.1)
  pub below : whole → IsReady g old → map g.layer new.1 ≡ map g.layer old.1
  pub ready : whole → IsReady g old → IsReady g new
  pub committable : whole → IsReady g old → IsCommittable g old → IsCommittable g new
  pub shows : whole → IsReady g old
      → ShowsBetween (Begun (below_of g.layer old) (chain_disk g.layer old) call) (map g.layer old.1) (g.layer old.0) (g.layer new.0)
  pub crash_images : IsReady g old → let disk = chain_disk g.layer old in
      KeepsCrashImagesTo g (map g.layer old.1) (least_size disk call) (most_size disk call) (Begun (below_of g.layer old) disk call) old.0 new.0

-- The state after a call of a list.
abbrev pub CallLeaves : {D St : Type 0} → Ghosts D St → CallMade → Answer → ChainWithMapping D St → ChainWithMapping D St → Type 0
CallLeaves g call answer old new = Either (commits_down call) (LeavesAfterCommit g answer old.drivers new.drivers)
    (LeavesForNext g (GoesOn answer) (disk_call g old call) (repairs call answer) old.drivers new.drivers)
