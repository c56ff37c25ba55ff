-- The calls of a driver that zeroings and discards of a chain of images make, and their effect on the bytes of a range.
use Rattle.std.specs.Prelude.{ℕ, List}
use Rattle.imago_storage.specs.Disk.{Value}
use Rattle.imago_access.specs.Layer.{Layer}
use Rattle.imago_access.specs.Stops.{GivesAny, GivesBelow}
use Rattle.imago_access.specs.PartCalls.{PartCall, ensures_zero, discards_to_zero, discards_to_any, discards_to_backing}
use Rattle.imago_access.specs.declared.access.discarding.Discarding.{Discarding}
use Rattle.imago_access.specs.declared.access.discarding.Discarding.TheVariants.{ToAny, ToBacking}
use Rattle.imago_access.specs.declared.access.zeroing.Zeroing.{Zeroing}
use Rattle.imago_access.specs.declared.access.zeroing.Zeroing.TheVariants.{Keep, GiveUp}

abbrev pub zero_by : Zeroing → PartCall
zero_by Keep = ensures_zero
zero_by GiveUp = discards_to_zero

-- A zeroing leaves each byte zeroed, or unallocated if it deallocates.
abbrev pub IsZeroedBy : Zeroing → (ℕ → Type 0) → (ℕ → Type 0) → ℕ → Type 0
IsZeroedBy Keep unallocated zeroed = zeroed
IsZeroedBy GiveUp unallocated zeroed = unallocated

abbrev pub discard_by : Discarding → PartCall
discard_by ToAny = discards_to_any
discard_by ToBacking = discards_to_backing

-- A discard gives any byte, or the byte of the layers below.
abbrev pub GivesDiscarded : Discarding → List Layer → ℕ → ℕ → ℕ → Value → Type 0
GivesDiscarded ToAny below offset n = GivesAny offset n
GivesDiscarded ToBacking below offset n = GivesBelow below offset n
