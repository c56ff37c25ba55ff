-- The error clauses of zeroing, for each call that zeroes the whole units of a range.
use Rattle.std.specs.Prelude.{ℕ, replicate}
use Rattle.imago_storage.specs.State.{StorageState}
use Rattle.imago_storage.specs.Calls.{UnlessUnsupported}
use Rattle.imago_storage.specs.Through.{WriteFailed, NotZeroed}
use Rattle.imago_storage.specs.declared.fault.Fault.{Fault}
use Rattle.imago_storage.specs.declared.zeroing.Zeroing.{Zeroing}
use Rattle.imago_storage.specs.declared.zeroing.Zeroing.TheVariants.{Any, Allocated}

-- Only a call for allocated zeroes fails with `Unsupported`, which changes nothing.
abbrev pub UnlessLeft : Zeroing → StorageState → StorageState → (Fault → Type 0) → Fault → Type 0
UnlessLeft Any old new P fault = P fault
UnlessLeft Allocated old new P fault = UnlessUnsupported old new P fault

-- The error clauses of `write_zeroes` and of `write_allocated_zeroes`.
abbrev pub NotZeroedBy : Zeroing → StorageState → StorageState → ℕ → ℕ → Fault → Type 0
NotZeroedBy Any old new at n fault = WriteFailed old new at (replicate n 0) fault
NotZeroedBy Allocated old new at n fault = NotZeroed old new at n fault
