-- The numbers and kinds of faults.
use Rattle.std.specs.Prelude.{ℕ}
use Rattle.imago_storage.specs.declared.fault.Fault.{Fault}
use Rattle.imago_storage.specs.declared.fault.Fault.TheVariants.{ReadOnly, PastEnd, RangeOverflow, DamagedHeader, DamagedTable, DamagedDescriptor, Unsupported, Barred, Outdated, Foreign, VersionLimit, Limit, MissingBelow, ExtraLayer, MissingData, CacheFull, Counter, BadArgument, Failed, Memory, Storage, BadCommand}
use Rattle.imago_storage.specs.declared.padding.WriteFault.{WriteFault}
use Rattle.imago_storage.specs.declared.padding.WriteFault.TheVariants.{Before, Within}
use Rattle.imago_storage.specs.declared.fault.FaultKind.{FaultKind}
use Rattle.imago_storage.specs.declared.fault.FaultKind.TheVariants as kind

-- The number of a fault, which is in its text.
abbrev pub number_of : Fault → ℕ
number_of ReadOnly = 1
number_of PastEnd = 2
number_of RangeOverflow = 3
number_of DamagedHeader = 4
number_of DamagedTable = 5
number_of DamagedDescriptor = 6
number_of Unsupported = 7
number_of Barred = 8
number_of Outdated = 9
number_of Foreign = 10
number_of VersionLimit = 11
number_of (Limit n) = 12
number_of MissingBelow = 13
number_of ExtraLayer = 14
number_of MissingData = 15
number_of CacheFull = 16
number_of Counter = 17
number_of BadArgument = 18
number_of Failed = 19
number_of Memory = 20
number_of Storage = 21
number_of BadCommand = 22

-- The kind of a fault.
abbrev pub kind_of : Fault → FaultKind
kind_of ReadOnly = kind.Other
kind_of PastEnd = kind.UnexpectedEof
kind_of RangeOverflow = kind.InvalidInput
kind_of DamagedHeader = kind.InvalidData
kind_of DamagedTable = kind.InvalidData
kind_of DamagedDescriptor = kind.InvalidData
kind_of Unsupported = kind.Unsupported
kind_of Barred = kind.Unsupported
kind_of Outdated = kind.Other
kind_of Foreign = kind.InvalidInput
kind_of VersionLimit = kind.Unsupported
kind_of (Limit n) = kind.Other
kind_of MissingBelow = kind.Other
kind_of ExtraLayer = kind.InvalidInput
kind_of MissingData = kind.Other
kind_of CacheFull = kind.Other
kind_of Counter = kind.InvalidData
kind_of BadArgument = kind.InvalidInput
kind_of Failed = kind.Other
kind_of Memory = kind.OutOfMemory
kind_of Storage = kind.Other
kind_of BadCommand = kind.InvalidInput

-- The fault of a failed write.
abbrev pub cause_of : WriteFault → Fault
cause_of (Before fault) = fault
cause_of (Within fault) = fault
