-- The arguments of `Record::note` for a call.
use Rattle.std.specs.Prelude.{ℕ, ◌==◌, List, if◌then◌else◌}
use Rattle.host_file.specs.Events.{Event, Sized, Read, Written, Zeroed, Resized}

-- The call of a kind. The constants of src/record.rt are the kinds.
abbrev pub event_of : ℕ → ℕ → ℕ → List ℕ → Event
event_of kind offset size bytes =
    if kind == 0 then Sized size
    else if kind == 1 then Read offset bytes
    else if kind == 2 then Written offset bytes
    else if kind == 3 then Zeroed offset size
    else Resized size
