-- The record of an `OsFile`: the calls that succeeded with their answers, the newest first, and what the file holds after them if
-- it held `first` when it was opened.
use Rattle.std.specs.Prelude.{ℕ, ◌%◌, ◌==◌, Bool, true, false, ◌&&◌, if◌then◌else◌, List, [], ◌∷◌, length, take, drop, map, replicate, bytes_eq}
use Rattle.imago_storage.specs.Log.{resized, splice}
use Rattle.host_file.specs.FileState.{FileState}

-- A call that succeeded, with its answer.
pub data Event : Type 0 where
  -- The file was said to have this length.
  Sized : ℕ → Event
  -- The bytes from this offset on were read, and these came.
  Read : ℕ → List ℕ → Event
  -- At this offset, these bytes were written.
  Written : ℕ → List ℕ → Event
  -- From this offset on, this number of zeroes was written.
  Zeroed : ℕ → ℕ → Event
  -- The length was set.
  Resized : ℕ → Event

-- The list as bytes. A byte stays as it is.
unfoldable pub as_bytes : List ℕ → List ℕ
as_bytes = map (λ n. n % 256)

-- The bytes of the file after a call, if they were `file` before.
abbrev pub after : Event → List ℕ → List ℕ
after (Sized size) file = file
after (Read offset bytes) file = file
after (Written offset bytes) file = splice file offset (as_bytes bytes)
after (Zeroed offset size) file = splice file offset (replicate size 0)
after (Resized size) file = resized file size

-- The call changes the file.
abbrev pub is_change : Event → Bool
is_change (Sized size) = false
is_change (Read offset bytes) = false
is_change event = true

-- The answer is true of a file that holds `file`.
abbrev pub is_true : List ℕ → Event → Bool
is_true file (Sized size) = size == length file
is_true file (Read offset bytes) = bytes_eq (take (length bytes) (drop offset file)) bytes
is_true file event = true

-- The bytes of the file after the calls.
abbrev pub held : List ℕ → List Event → List ℕ
held first [] = as_bytes first
held first (event ∷ earlier) = after event (held first earlier)

-- The bytes of the file before each call that changes it, the newest first.
abbrev pub past : List ℕ → List Event → List (List ℕ)
past first [] = []
past first (event ∷ earlier) = if is_change event then held first earlier ∷ past first earlier else past first earlier

-- Every answer was true.
abbrev pub truthful : List ℕ → List Event → Bool
truthful first [] = true
truthful first (event ∷ earlier) = is_true (held first earlier) event && truthful first earlier

-- The state of a file that held `first` when it was opened, after the calls.
unfoldable pub state_after : List ℕ → List Event → FileState
state_after first events = record { held = held first events; past = past first events; truthful = truthful first events }
