-- Limits on what a call of a list allocates and deallocates in the top image. A unit is a cluster of qcow2, or a byte of a raw image.
use Rattle.std.specs.Prelude.{⊤, length}
use Rattle.imago_storage.specs.Steps.{IsOut}
use Rattle.imago_access.specs.declared.driver_model.DriverModel.{Ghosts}
use Rattle.imago_access.specs.Room.{GivesUp, IsApart, IsGivenUp, IsZeroed, LeavesAllocation, Takes}
use Rattle.qimg_calls.specs.declared.call.Call.{Call}
use Rattle.qimg_calls.specs.declared.call.Call.TheVariants as calls

-- A write or a zeroing only allocates units that its range touches. A discard deallocates nothing outside its range. A discard to any
-- bytes, or to the backing file, allocates nothing.
abbrev pub LeavesRoomFor : {D St : Type 0} → Ghosts D St → Call → D → D → Type 0
LeavesRoomFor g (calls.Write offset bytes) old new = Takes g (IsApart (g.layer old).fixed.unit offset (length bytes.items)) old new
LeavesRoomFor g (calls.WriteZeroes offset n) old new = Takes g (IsApart (g.layer old).fixed.unit offset n) old new
LeavesRoomFor g (calls.DiscardToZero offset n) old new = LeavesAllocation g (IsOut offset n) (IsApart (g.layer old).fixed.unit offset n) old new
LeavesRoomFor g (calls.DiscardToAny offset n) old new = GivesUp g offset n old new
LeavesRoomFor g (calls.DiscardToBacking offset n) old new = GivesUp g offset n old new
LeavesRoomFor g call old new = ⊤

-- A successful zeroing or discard zeroes or deallocates each unit that its range covers completely, unless the top driver declines.
abbrev pub SettlesUnits : {D St : Type 0} → Ghosts D St → Call → D → D → Type 0
SettlesUnits g (calls.WriteZeroes offset n) old new = IsZeroed (g.zeroed new) (g.layer old).fixed.unit (g.layer old).size offset n
SettlesUnits g (calls.DiscardToZero offset n) old new = IsGivenUp (g.unallocated new) (g.layer old).fixed.unit (g.layer old).size offset n
SettlesUnits g (calls.DiscardToAny offset n) old new = IsGivenUp (g.unallocated new) (g.layer old).fixed.unit (g.layer old).size offset n
SettlesUnits g (calls.DiscardToBacking offset n) old new = IsGivenUp (g.unallocated new) (g.layer old).fixed.unit (g.layer old).size offset n
SettlesUnits g call old new = ⊤
