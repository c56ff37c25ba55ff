-- Specifies how writing fails for a header that doesn't fit the first cluster.
use Rattle.std.specs.Prelude.{◌≡◌, length, IsFalse, Result, IsErrAnd}
use Rattle.imago_storage.specs.State.{StorageState}
use Rattle.imago_storage.specs.declared.fault.Fault.{Fault}
use Rattle.imago_storage.specs.declared.fault.Fault.TheVariants.{Limit, Memory}
use Rattle.qcow2_types.specs.Header.{Header as HeaderRecord}
use Rattle.qcow2_types.specs.HeaderBytes.{header_bytes, fits_first_cluster}

-- The fault of a header that is too long: its length in bytes, or memory ran out.
abbrev pub IsTooLong : HeaderRecord → Fault → Type 0
IsTooLong h (Limit count) = count ≡ length (header_bytes h)
IsTooLong h Memory = Unit {0}
IsTooLong h fault = ⊥

-- If the fault is a limit, it is the header's length, and the header doesn't fit.
abbrev pub IsUnfit : HeaderRecord → Fault → Type 0
IsUnfit h (Limit count) = (count ≡ length (header_bytes h)) × IsFalse (fits_first_cluster h)
IsUnfit h Memory = Unit {0}
IsUnfit h fault = ⊥

-- Writing a header that doesn't fit fails, without I/O.
abbrev pub NotAsked : {T : Type 0} → HeaderRecord → StorageState → StorageState → Result T Fault → Type 0
NotAsked h old new result = IsErrAnd result (IsTooLong h) × (new ≡ old)
