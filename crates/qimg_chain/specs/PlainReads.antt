-- Specifies plain reads: files are opened as a chain, and a range of its disk is read.
use Rattle.std.specs.Prelude.{◌≡◌, ◌⊎◌, ⊤, ℕ, ◌+◌, ◌^◌, ◌<◌, ◌≤◌, min, false, List, Some, None}
use Rattle.imago_storage.specs.State.{StorageState}
use Rattle.imago_storage.specs.Disk.{Value, Shows}
use Rattle.imago_storage.specs.declared.fault.Fault.{Fault}
use Rattle.imago_storage.specs.declared.fault.Fault.TheVariants.{Barred, DamagedTable, Memory, RangeOverflow, Storage}
use Rattle.imago_access.specs.Chain.{Each}
use Rattle.imago_access.specs.Files.{files}
use Rattle.imago_access.specs.declared.driver_model.DriverModel.{Ghosts}
use Rattle.qimg_core.specs.Plain.{IsFirstFault, value_fault}
use Rattle.qimg_core.specs.declared.plain.ChainFile.{ChainFile}
use Rattle.qimg_chain.specs.FileMeanings.{FileBytes, files_bytes, size_of, value_of}
use Rattle.qimg_chain.specs.Refusals.{FirstCause, FormChain, HadResourceError}

-- No file of a driver of this kind ever fails.
abbrev pub NoFileFails : {D St : Type 0} → Ghosts D St → Type 0
NoFileFails {D} g = (d : D) → Each (λ s. s.faults ≡ 0) (files g d)

-- A file of a driver of this kind may fail.
abbrev pub SomeFileMayFail : {D St : Type 0} → Ghosts D St → Type 0
SomeFileMayFail g = NoFileFails g → ⊥

-- The reason why drivers of this kind don't read `n` values from `offset` on. Memory runs out, a file fails, the end is so near 2^64 that
-- padded requests don't fit, or a value can't be read.
abbrev pub NotReadInOrder : {D St : Type 0} → Ghosts D St → (ℕ → Value) → (offset n : ℕ) → Fault → Type 0
NotReadInOrder g value offset n Memory = ⊤
NotReadInOrder g value offset n Storage = SomeFileMayFail g
NotReadInOrder g value offset n RangeOverflow = (0 < n) × (2 ^ 64 ≤ offset + n + 2 ^ 20)
NotReadInOrder g value offset n fault = IsFirstFault value offset n fault

-- The fault is that of a value that can't be read.
abbrev pub IsOfPlace : Fault → Type 0
IsOfPlace Barred = ⊤
IsOfPlace DamagedTable = ⊤
IsOfPlace fault = ⊥

-- One of the `n` values from `offset` on can't be read, and has this fault.
abbrev pub HasFault : (ℕ → Value) → (offset n : ℕ) → Fault → Type 0
HasFault value offset n fault = (i : ℕ) × (i < n) × (value_fault (value (offset + i)) ≡ Some fault)

-- The first `good` of the `n` values from `offset` on can be read. One of those from `good` up to `end` has this fault.
pub record IsNarrowed (value : ℕ → Value) (offset n good end : ℕ) (fault : Fault) : Type 0 where
  pub most : end ≤ n
  pub before : (i : ℕ) → i < good → value_fault (value (offset + i)) ≡ None
  pub faulty : (i : ℕ) × (good ≤ i) × (i < end) × (value_fault (value (offset + i)) ≡ Some fault)

-- The part of the range inside the disk isn't empty, and ends so near 2^64 that padded requests don't fit.
abbrev pub IsOutOfReach : List FileBytes → (offset n : ℕ) → Type 0
IsOutOfReach files offset n = (offset < size_of files) × (0 < n) × (2 ^ 64 ≤ min (size_of files) (offset + n) + 2 ^ 20)

-- The reason why a range of opened files isn't read. Its end doesn't fit 64 bits; or else a value can't be read, or padded requests don't
-- reach the end of the part inside the disk.
abbrev pub RefusesRange : List FileBytes → (offset n : ℕ) → Fault → Type 0
RefusesRange files offset n fault =
    ((2 ^ 64 ≤ offset + n) × (fault ≡ RangeOverflow))
    ⊎ ((offset + n < 2 ^ 64)
    × (IsFirstFault (value_of files) offset n fault ⊎ (IsOutOfReach files offset n × (fault ≡ RangeOverflow))))

-- The reason why files aren't read: a resource error, the first cause against opening them for reading, or a reason of the range.
abbrev pub NotPlainlyRead : {S : Type 0} → (S → StorageState) → List (ChainFile S) → (offset n : ℕ) → Fault → Type 0
NotPlainlyRead state files offset n fault =
    HadResourceError state fault
    ⊎ (FirstCause state false files fault ⊎ (FormChain state false files × RefusesRange (files_bytes state files) offset n fault))

-- The files are opened for reading, the end of the range fits 64 bits, and the buffer holds the bytes of their disk.
pub record IsPlainlyRead {S : Type 0} (state : S → StorageState) (files : List (ChainFile S)) (offset n : ℕ)
    (buffer : List ℕ) : Type 0 where
  pub formed : FormChain state false files
  pub fits : offset + n < 2 ^ 64
  pub shows : Shows (value_of (files_bytes state files)) offset buffer
