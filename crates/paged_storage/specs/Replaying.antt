-- Requests that are handed to a file of the host, in order.
use Rattle.std.specs.Prelude.{◌≡◌, ℕ, ◌≤◌, List, ◌++◌, length, take}
use Rattle.imago_storage.specs.Log.{files_before, replay}
use Rattle.imago_storage.specs.declared.log.Request.{Request}
use Rattle.host_file.specs.FileState.{FileState}

-- The file got these requests, in order, and no others.
pub record IsReplayed (requests : List Request) (old new : FileState) : Type 0 where
  pub held : new.held ≡ replay old.held requests
  pub past : new.past ≡ files_before old.held requests ++ old.past

-- The file got the first of these requests, in order, and no others.
abbrev pub StoppedIn : List Request → FileState → FileState → Type 0
StoppedIn requests old new = (k : ℕ) × (k ≤ length requests) × IsReplayed (take k requests) old new
