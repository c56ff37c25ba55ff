-- Specifies the faults with which loading a header fails.
use Rattle.std.specs.Prelude.{◌≡◌, Option, Some, None, Result, Err}
use Rattle.imago_storage.specs.State.{StorageState, HasRisen}
use Rattle.imago_storage.specs.declared.fault.Fault.{Fault}
use Rattle.imago_storage.specs.declared.fault.Fault.TheVariants.{Memory, Storage}
use Rattle.qcow2_types.specs.Bytes.{Bytes, bytes_of}
use Rattle.qcow2_types.specs.Header.{Header as HeaderRecord, fields_of, first_fault, rules_of_kind, rules_of_shape, rules_of_size}

-- The bytes of a storage by offset.
abbrev pub file : StorageState → Bytes
file s = bytes_of s.bytes

-- The first fault, or the second if the first is `None`.
infixr 10 ◌or-else◌
abbrev pub ◌or-else◌ : Option Fault → Option Fault → Option Fault
None or-else r = r
(Some e) or-else r = Some e

-- The fault of the first broken rule on the fields, both for reading and for writing.
unfoldable pub fields_fault : Bytes → Option Fault
fields_fault f =
    let h = fields_of f in
    let sizes = first_fault (rules_of_shape h) or-else first_fault (rules_of_size h) in
    first_fault (rules_of_kind f) or-else sizes

-- The fault is the defined one, or memory ran out.
abbrev pub RefusedBy : {T : Type 0} → Result T Fault → Fault → Type 0
RefusedBy defined Memory = Unit {0}
RefusedBy defined fault = defined ≡ Err fault

-- The fault of a failed load, with the storage's fault counts: memory ran out, the storage failed, or the first broken
-- rule.
abbrev pub NotLoaded : Result HeaderRecord Fault → StorageState → StorageState → Fault → Type 0
NotLoaded defined old new Memory = new.faults ≡ old.faults
NotLoaded defined old new Storage = HasRisen old.faults new.faults
NotLoaded defined old new fault = (defined ≡ Err fault) × (new.faults ≡ old.faults)
