-- The state of a `MemoryFile`.
use Rattle.std.specs.Prelude.{ℕ, ◌<◌, true, List, [], ◌∷◌, slice_index}
use Rattle.host_file.specs.Events.{Event, Written}
use Rattle.host_file.specs.FileState.{FileState}
use Rattle.host_file.specs.declared.memory_file.MemoryFile.{MemoryFile}

-- The bytes of the writes, the newest first.
abbrev pub bytes_written : List Event → List (List ℕ)
bytes_written [] = []
bytes_written (Written offset bytes ∷ earlier) = bytes ∷ bytes_written earlier
bytes_written (event ∷ earlier) = bytes_written earlier

-- The state of a file. Before each change, the record notes a write of all that the file holds. Every answer is true.
unfoldable pub memory_state : MemoryFile → FileState
memory_state file = record { held = file.bytes.items; past = bytes_written file.calls.events; truthful = true }

-- The file's content consists of bytes.
pub memory_are_bytes : (file : MemoryFile) → (k : ℕ) → slice_index (memory_state file).held k < 256
unfolding memory_state
memory_are_bytes file = file.are_bytes
