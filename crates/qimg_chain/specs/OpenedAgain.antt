-- Specifies a crash image that is opened again over the files below.
use Rattle.std.specs.Prelude.{◌≡◌, ◌≢◌, ◌<◌, ◌≤◌, ℕ, Bool, false, List, ◌∷◌, IsTrue}
use Rattle.imago_storage.specs.Disk.{Disk}
use Rattle.imago_storage.specs.State.{StorageState}
use Rattle.imago_access.specs.declared.driver_model.DriverModel.{Ghosts}
use Rattle.imago_access.specs.declared.format.Format.TheVariants.{Vmdk}
use Rattle.qimg_calls.specs.Runs.{IsSameChain, reading_of}
use Rattle.qimg_calls.specs.Since.{LeftSince, Shows, Since, known_to}
use Rattle.qimg_core.specs.declared.plain.ChainFile.{ChainFile}
use Rattle.qimg_chain.specs.Chains.{OpenMode}
use Rattle.qimg_chain.specs.FileMeanings.{file_bytes, files_bytes}
use Rattle.qimg_chain.specs.FlushedFiles.{IsChainOf}
use Rattle.qimg_chain.specs.OneDisk.{reading_over}

-- The disk reads as a crash image may since the last flush.
pub record IsDiskSince {S : Type 0} (state : S → StorageState) (top : ChainFile S) (below : List (ChainFile S)) (since : Since)
    (disk : Disk) : Type 0 where
  pub long : since.least ≤ disk.size
  pub short : IsTrue (reading_over (file_bytes state top) (files_bytes state below)).exact → disk.size ≤ since.most
  pub shows : let reading = reading_over (file_bytes state top) (files_bytes state below) in
      (p : ℕ) → p < disk.size → p < known_to reading since → Shows reading.below since p (disk.value p)

-- The file `again` is a crash image of `top`, in any storage. The files `others` have the bytes of the files below.
pub record IsLeftOf {S T : Type 0} (state : S → StorageState) (other_state : T → StorageState) (top : ChainFile S)
    (below : List (ChainFile S)) (since : Since) (again : ChainFile T) (others : List (ChainFile T)) : Type 0 where
  pub no_vmdk : top.format ≢ Vmdk
  pub format : again.format ≡ top.format
  pub left : LeftSince (reading_over (file_bytes state top) (files_bytes state below)) since (other_state again.image).bytes
  pub same : files_bytes other_state others ≡ files_bytes state below

-- A crash image of a chain that was opened over these files, as its drivers read it, is one as the files say. Since the opening the chain was
-- driven without a resource error and without a commit to the layer below, and its top refers to a backing file exactly if it did.
abbrev pub ReadsAsFiles : {S D St : Type 0} → Ghosts D St → (D → ℕ → List ℕ) → (S → StorageState) → Type 0
ReadsAsFiles {S = S} {D = D} g names state = (m : OpenMode) (top : ChainFile S) (below : List (ChainFile S))
    (opened now : D × List D) (repaired : Bool) → top.format ≢ Vmdk → IsChainOf g names state m (top ∷ below) opened
    → IsSameChain g repaired false opened now
    → (let means = (g.layer opened.0).fixed.means in (means (g.image now.0).bytes).backed ≡ (means (g.image opened.0).bytes).backed)
    → (since : Since) (f : List ℕ) → LeftSince (reading_of g now) since f
    → LeftSince (reading_over (file_bytes state top) (files_bytes state below)) since f
