-- A `PagedFile`: what it shows, and the state of the file of the host.
use Rattle.std.specs.Prelude.{ℕ, List}
use Rattle.host_file.specs.FileState.{FileState}
use Rattle.host_file.specs.declared.file.HostFile.{Ghosts}
use Rattle.paged_storage.specs.Pages.{shown}
use Rattle.paged_storage.specs.declared.paged_file.PagedFile.{PagedFile}

-- The bytes of the file, as a storage over it shows them.
abbrev pub file_shown : {H : Type 0} (g : Ghosts H) → PagedFile H g → List ℕ
file_shown g f = shown f.size f.pages.entries (g.state f.file).held

-- The state of the file of the host.
abbrev pub host_state : {H : Type 0} (g : Ghosts H) → PagedFile H g → FileState
host_state g f = g.state f.file
