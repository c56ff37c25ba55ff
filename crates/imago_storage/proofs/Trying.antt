-- A `try_write` as a `write`: the error without the information if the write had begun.
use Rattle.std.proofs.Common.{ℕ, List, length}
use Rattle.std.specs.Prelude.{Result, Ok, Err, OnOk, IfErr}
use Rattle.imago_storage.specs.State.{StorageState, unit_of}
use Rattle.imago_storage.specs.Fault.{cause_of}
use Rattle.imago_storage.specs.Through.{Overflows, UnlessOverflow, NotBegun, WriteSucceeded, WriteFailed, WriteRefused}
use Rattle.imago_storage.specs.declared.fault.Fault.{Fault}
use Rattle.imago_storage.specs.declared.fault.Fault.TheVariants.{RangeOverflow}
use Rattle.imago_storage.specs.declared.padding.WriteFault.{WriteFault}
use Rattle.imago_storage.specs.declared.padding.WriteFault.TheVariants.{Before, Within}
use Rattle.imago_storage.proofs.Calls.{halted-not, kept-not}
use Rattle.imago_storage.proofs.ZeroSteps.{not-overflowed}

module _ (old new : StorageState) (at : ℕ) (bytes : List ℕ) where
  untold-before : (fault : Fault) → UnlessOverflow (Overflows (unit_of old.shape) at (length bytes)) old new (NotBegun old new) fault → WriteFailed old new at bytes fault
  untold-before RangeOverflow refused = refused
  untold-before fault refused = kept-not (unit_of old.shape) old new at bytes fault refused.unchanged_but_faults refused.cause

  -- In both cases the error clause of `write` holds.
  pub untold : (e : WriteFault) → WriteRefused old new at bytes e → WriteFailed old new at bytes (cause_of e)
  untold (Before fault) refused = untold-before fault refused
  untold (Within fault) refused = not-overflowed old new at bytes fault (halted-not (unit_of old.shape) old new at bytes fault refused)

  -- A result of `write` exists with the same clauses.
  pub as-write : {T : Type 0} (r : Result T WriteFault) → OnOk r (WriteSucceeded old new at bytes) → IfErr r (WriteRefused old new at bytes)
      → (q : Result T Fault) × OnOk q (WriteSucceeded old new at bytes) × IfErr q (WriteFailed old new at bytes)
  as-write (Ok x) ok err = (Ok x, ok, tt)
  as-write (Err e) ok err = (Err (cause_of e), tt, untold e err)
