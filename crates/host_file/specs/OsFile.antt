-- The state of an `OsFile`.
use Rattle.std.specs.Prelude.{◌≡◌, ℕ, List, [], IsTrue}
use Rattle.host_file.specs.Events.{state_after}
use Rattle.host_file.specs.FileState.{FileState}
use Rattle.host_file.specs.declared.first_bytes.FirstBytes.{Ghosts}
use Rattle.host_file.specs.declared.os_file.OsFile.{OsFile}

-- The state of a file. When it was opened, it held what `first` says of its number.
unfoldable pub os_state : {C : Type 0} → (first : Ghosts C) → OsFile C → FileState
os_state first file = state_after (first.bytes file.number) file.calls.events

-- The state of a file that was just opened, and held `bytes`.
pub record IsFresh (bytes : List ℕ) (state : FileState) : Type 0 where
  pub held : state.held ≡ bytes
  pub past : state.past ≡ []
  pub truthful : IsTrue state.truthful
