-- Lists of calls on files of the host.
use Rattle.std.specs.Prelude.{◌≡◌, ◌≢◌, ◌⊎◌, ℕ, IsTrue, List, [], ◌∷◌, length, map, None}
use Rattle.imago_access.specs.declared.format.Format.TheVariants.{Vmdk}
use Rattle.imago_storage.specs.Disk.{IsFree}
use Rattle.imago_storage.specs.Log.{files_before, replay}
use Rattle.imago_storage.specs.declared.log.Request.{Request}
use Rattle.host_file.specs.FileState.{FileState, IsOnlyRead}
use Rattle.host_file.specs.declared.file.HostFile.{Ghosts}
use Rattle.paged_storage.specs.Replaying.{IsReplayed, StoppedIn}
use Rattle.qimg_calls.specs.Runs.{AllGoOn}
use Rattle.qimg_calls.specs.Since.{flushed}
use Rattle.qimg_calls.specs.declared.call.Answer.{Answer}
use Rattle.qimg_calls.specs.declared.call.Call.{Call}
use Rattle.qimg_chain.specs.Chains.{IsSoundAs}
use Rattle.qimg_chain.specs.FileMeanings.{FileBytes, IsDiskOf, value_of}
use Rattle.qimg_chain.specs.OneDisk.{DiskMoment, RunsOnDisk}
use Rattle.host_disk.specs.Layers.{AreOnlyRead, held_by, state_of}
use Rattle.host_disk.specs.declared.layer.HostLayer.{HostLayer}

-- A list of calls reads and changes one flat disk, which is at first what the files mean. `requests` are the changes of the top's file, in
-- order. Each file that they make of it in between is a crash image of the list, and so is the last one.
pub record ChangesOneDisk (top : FileBytes) (below : List FileBytes) (list : List Call) (answers : List Answer)
    (requests : List Request) : Type 0 where
  pub start : DiskMoment
  pub last : DiskMoment
  -- The start.
  pub means : IsDiskOf start.disk (top ∷ below)
  pub is_free : IsFree start.disk
  pub none : start.kept ≡ None
  pub flushed_at_start : start.since ≡ flushed start.disk
  pub below_is : start.below ≡ value_of below
  pub exposes : IsTrue start.top.shape.tells × IsTrue start.top.shape.keeps × (start.top.refusals ≡ 0)
  pub bytes_at_start : (start.top.bytes ≡ top.bytes) × (start.top.crash_image ≡ top.bytes) × (start.top.past_crash_images ≡ [])
  -- The calls.
  pub run : RunsOnDisk top below list answers start last
  pub each : length answers ≡ length list
  pub goes_on : AllGoOn answers
  -- The end.
  pub bytes : last.top.bytes ≡ replay top.bytes requests
  pub crash_images : last.top.crash_image ∷ last.top.past_crash_images ≡ replay top.bytes requests ∷ files_before top.bytes requests
  pub is_sound : IsSoundAs top.format last.top.bytes

-- `ChangesOneDisk`, if the top's file can be the top of a list: it is raw, or a consistent qcow2 file.
abbrev pub IfSound : FileBytes → List FileBytes → List Call → List Answer → List Request → Type 0
IfSound top below list answers requests = IsSoundAs top.format top.bytes → top.format ≢ Vmdk → ChangesOneDisk top below list answers requests

-- The same for the files of a chain, the top first.
abbrev pub OnFiles : List FileBytes → List Call → List Answer → List Request → Type 0
OnFiles [] list answers requests = ⊥
OnFiles (top ∷ below) list answers requests = IfSound top below list answers requests

module _ {H : Type 0} (g : Ghosts H) where
  -- A list of calls was made on the files. The top's file got its requests, in order, and no others. The files below were only read.
  abbrev pub DrivenOn : List Call → List Answer → List (HostLayer H g) → List (HostLayer H g) → Type 0
  DrivenOn list answers (top ∷ below) (new ∷ news) =
      (requests : List Request) × IfSound (held_by g top) (map (held_by g) below) list answers requests
      × (new.format ≡ top.format) × IsReplayed requests (state_of g top) (state_of g new) × AreOnlyRead g below news
  DrivenOn list answers olds news = ⊥

  -- The top's file got these requests, in order, and no others. The other files are as before.
  abbrev pub PutOn : List Request → List (HostLayer H g) → List (HostLayer H g) → Type 0
  PutOn requests [] news = news ≡ []
  PutOn requests (top ∷ below) news = (new : HostLayer H g) × (news ≡ new ∷ below)
      × (new.format ≡ top.format) × IsReplayed requests (state_of g top) (state_of g new)

  -- The same with the first of the requests.
  abbrev pub PutInPart : List Request → List (HostLayer H g) → List (HostLayer H g) → Type 0
  PutInPart requests [] news = news ≡ []
  PutInPart requests (top ∷ below) news = (new : HostLayer H g) × (news ≡ new ∷ below)
      × (new.format ≡ top.format) × StoppedIn requests (state_of g top) (state_of g new)

  -- The files were only read, or the list was made and the top's file got the first of its requests.
  abbrev pub StoppedOn : List Call → List (HostLayer H g) → List (HostLayer H g) → Type 0
  StoppedOn list (top ∷ below) (new ∷ news) = (new.format ≡ top.format)
      × (IsOnlyRead (state_of g top) (state_of g new)
      ⊎ ((answers : List Answer) × (requests : List Request) × IfSound (held_by g top) (map (held_by g) below) list answers requests
      × StoppedIn requests (state_of g top) (state_of g new))) × AreOnlyRead g below news
  StoppedOn list olds news = AreOnlyRead g olds news

  -- A list of calls was made on the files, and the top's file isn't a VMDK image.
  abbrev pub SurelyDrivenOn : List Call → List Answer → List (HostLayer H g) → List (HostLayer H g) → Type 0
  SurelyDrivenOn list answers (top ∷ below) (new ∷ news) = top.format ≢ Vmdk
      → (requests : List Request) × ChangesOneDisk (held_by g top) (map (held_by g) below) list answers requests
      × (new.format ≡ top.format) × IsReplayed requests (state_of g top) (state_of g new) × AreOnlyRead g below news
  SurelyDrivenOn list answers olds news = ⊥
