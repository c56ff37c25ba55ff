-- The storages (files) of an image or of a chain of images before and after a call, and the errors that depend on them.
use Rattle.std.specs.Prelude.{◌≡◌, ◌⊎◌, ⊤, ◌<◌, ◌≤◌, ◌+◌, ◌∷◌, [], ◌++◌, ◌&&◌, max, ℕ, zero, suc, Bool, List, Result, MatchResult, slice_index}
use Rattle.imago_storage.specs.State.{StorageState, HasRisen, unit_of}
use Rattle.imago_storage.specs.Calls.{UnchangedButFaults, CountsNotFallen}
use Rattle.imago_storage.specs.Through.{Overflows}
use Rattle.imago_access.specs.declared.driver_model.DriverModel.{Ghosts}
use Rattle.imago_storage.specs.declared.fault.Fault.{Fault}
use Rattle.imago_storage.specs.declared.fault.Fault.TheVariants.{DamagedHeader, DamagedTable, DamagedDescriptor, Unsupported, VersionLimit, Limit, MissingBelow, ExtraLayer, CacheFull, BadArgument, Memory, Storage, BadCommand}

-- R holds for each pair of an old and a new item, and the lists have the same length.
abbrev pub Pairs : {A : Type 0} → (A → A → Type 0) → List A → List A → Type 0
Pairs R [] [] = ⊤
Pairs R (old ∷ olds) (new ∷ news) = R old new × Pairs R olds news
Pairs R _ _ = ⊥

-- Nothing has changed except for the storage's count of faults, which has not fallen.
abbrev pub UnchangedButMoreFaults : StorageState → StorageState → Type 0
UnchangedButMoreFaults old new = UnchangedButFaults old new × (old.faults ≤ new.faults)

-- The fixed properties of the storage are the same, and no count has fallen.
abbrev pub IsLater : StorageState → StorageState → Type 0
IsLater old new = (new.shape ≡ old.shape) × CountsNotFallen old new

-- At least one storage has failed.
abbrev pub SomeRose : List StorageState → List StorageState → Type 0
SomeRose (old ∷ olds) (new ∷ news) = HasRisen old.faults new.faults ⊎ SomeRose olds news
SomeRose _ _ = ⊥

-- The errors of a call of any image, well-formed or not. Only `Storage` depends on the storages: one of them has failed.
abbrev pub ImageCause : List StorageState → List StorageState → Fault → Type 0
ImageCause olds news DamagedHeader = ⊥
ImageCause olds news DamagedDescriptor = ⊥
ImageCause olds news MissingBelow = ⊥
ImageCause olds news ExtraLayer = ⊥
ImageCause olds news CacheFull = ⊥
ImageCause olds news BadArgument = ⊥
ImageCause olds news BadCommand = ⊥
ImageCause olds news Storage = SomeRose olds news
ImageCause olds news fault = ⊤

-- The fault is neither `Memory` nor `Storage`.
abbrev pub IsNotResourceError : Fault → Type 0
IsNotResourceError Memory = ⊥
IsNotResourceError Storage = ⊥
IsNotResourceError fault = ⊤

-- The call succeeded, or failed with an error other than a resource error.
abbrev pub HadNoResourceError : {T : Type 0} → Result T Fault → Type 0
HadNoResourceError result = MatchResult result (λ _. ⊤) IsNotResourceError

-- The format or its storage doesn't support the call.
abbrev pub IsDeclined : Fault → Type 0
IsDeclined Unsupported = ⊤
IsDeclined VersionLimit = ⊤
IsDeclined fault = ⊥

-- The files no longer agree with what was read of them, or can't be loaded.
abbrev pub IsStale : Fault → Type 0
IsStale DamagedHeader = ⊤
IsStale DamagedTable = ⊤
IsStale Unsupported = ⊤
IsStale (Limit bound) = ⊤
IsStale CacheFull = ⊤
IsStale fault = ⊥

-- The storages of a driver: its image file, followed by the others.
abbrev pub files : {D St : Type 0} → Ghosts D St → D → List StorageState
files g d = g.image d ∷ g.extras d

-- The storages of several drivers, the highest layer first.
abbrev pub files_of : {D St : Type 0} → Ghosts D St → List D → List StorageState
files_of g [] = []
files_of g (d ∷ ds) = files g d ++ files_of g ds

-- `s` is the storage with this index.
abbrev pub IsStorageAt : List StorageState → ℕ → StorageState → Type 0
IsStorageAt [] index s = ⊥
IsStorageAt (t ∷ ts) zero s = s ≡ t
IsStorageAt (t ∷ ts) (suc index) s = IsStorageAt ts index s

-- The byte at an offset of the storage with this number. It is 0 past the end of the storage, and if no storage has this number.
abbrev pub byte_in : List StorageState → ℕ → ℕ → ℕ
byte_in [] storage place = 0
byte_in (s ∷ ss) zero place = slice_index s.bytes place
byte_in (s ∷ ss) (suc storage) place = byte_in ss storage place

-- The padded end of a range of the storage with this number doesn't fit 64 bits.
abbrev pub OverflowsIn : List StorageState → ℕ → (place n : ℕ) → Type 0
OverflowsIn [] storage place n = ⊥
OverflowsIn (s ∷ ss) zero place n = Overflows (unit_of s.shape) place n
OverflowsIn (s ∷ ss) (suc storage) place n = OverflowsIn ss storage place n

-- The greatest value of a measure of the storages.
abbrev pub greatest : (StorageState → ℕ) → StorageState → List StorageState → ℕ
greatest measure s [] = measure s
greatest measure s (t ∷ ts) = max (measure s) (greatest measure t ts)

-- Each storage keeps what is written.
abbrev pub keep_all : StorageState → List StorageState → Bool
keep_all s [] = s.shape.keeps
keep_all s (t ∷ ts) = s.shape.keeps && keep_all t ts

-- A buffer of `n` bytes has the bytes of a storage from an offset on.
abbrev pub AreRead : List StorageState → ℕ → ℕ → ℕ → List ℕ → Type 0
AreRead storages storage place n buf = (i : ℕ) → i < n → slice_index buf i ≡ byte_in storages storage (place + i)

-- The driver's files are unchanged, fault counts included.
abbrev pub Unasked : {D St : Type 0} → Ghosts D St → D → D → Type 0
Unasked g old new = (g.image new ≡ g.image old) × (g.extras new ≡ g.extras old)
