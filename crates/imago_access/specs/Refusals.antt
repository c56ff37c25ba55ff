-- The errors of calls of a driver or of a chain of images: early errors (before the call does anything), and the causes of each fault.
use Rattle.std.specs.Prelude.{◌≡◌, ◌⊎◌, ⊤, ℕ, ◌+◌, ◌<◌, ◌^◌, max, Bool, Option, Some, None, List, [], ◌∷◌, if◌then◌else◌, ltb, leb, eqb, not, IsTrue, IsFalse, IsSome}
use Rattle.imago_storage.specs.State.{StorageState, unit_of}
use Rattle.imago_storage.specs.Through.{round_up, Overflows}
use Rattle.imago_storage.specs.Disk.{Value, barred, damaged_place}
use Rattle.imago_storage.specs.Steps.{Call}
use Rattle.imago_storage.specs.Causes.{offset_of, length_of, Alters, IsForeign}
use Rattle.imago_storage.specs.declared.fault.Fault.{Fault}
use Rattle.imago_storage.specs.declared.fault.Fault.TheVariants.{ReadOnly, PastEnd, RangeOverflow, DamagedTable, Unsupported, Barred, VersionLimit, Foreign, MissingData, Counter, Failed, Memory, Storage}
use Rattle.imago_access.specs.Layer.{Layer, own, unit_of_layer}
use Rattle.imago_access.specs.declared.format.Format.{Format}
use Rattle.imago_access.specs.declared.format.Format.TheVariants as format
use Rattle.imago_access.specs.Chain.{disk_of, unit_of_chain}
use Rattle.imago_access.specs.Files.{SomeRose, IsStale, greatest, keep_all}

-- The fault with which every call fails, except getters and a cancel, while the image can't be used.
abbrev pub unusable_fault : Layer → Option Fault
unusable_fault layer = if layer.failed then Some Failed else if layer.fixed.missing then Some MissingData else None

abbrev pub IsUnusable : Layer → Type 0
IsUnusable layer = IsSome (unusable_fault layer)

-- The first error of a change of a range, in bytes, that depends on the setting for writing, the unit of requests and the size.
abbrev pub range_refusal : Bool → (unit size offset n : ℕ) → Option Fault
range_refusal writable unit size offset n =
    if eqb n 0 then None
    else if not writable then Some ReadOnly
    else if leb (2 ^ 64) (round_up unit (offset + n)) then Some RangeOverflow
    else if ltb size (offset + n) then Some PastEnd
    else None

-- The first early error of a read or lookup of a range, in bytes, by the unit of requests. `change_refusal` is the first early error of a
-- change.
abbrev pub look_refusal : ℕ → Layer → ℕ → ℕ → Option Fault
look_refusal unit layer offset n =
    if layer.failed then Some Failed
    else if layer.fixed.missing then Some MissingData
    else if eqb n 0 then None
    else if leb (2 ^ 64) (round_up unit (offset + n)) then Some RangeOverflow
    else None

abbrev pub change_refusal : ℕ → Layer → ℕ → ℕ → Option Fault
change_refusal unit layer offset n =
    if layer.failed then Some Failed
    else if layer.fixed.missing then Some MissingData
    else range_refusal layer.fixed.writable unit layer.size offset n

-- Like `change_refusal`, with the layer's own unit.
abbrev pub own_refusal : Layer → ℕ → ℕ → Option Fault
own_refusal layer offset n = change_refusal (unit_of_layer layer) layer offset n

-- The ranges that a layer can zero by itself. Raw: what its image file can zero. qcow2: its units, or nothing. VMDK: nothing.
abbrev pub ZeroesBy : Format → Layer → StorageState → Type 0
ZeroesBy format.Raw layer image = layer.fixed.granularity ≡ Some (max (unit_of image.shape) image.shape.zero_align)
ZeroesBy format.Qcow2 layer image = (layer.fixed.granularity ≡ None) ⊎ (layer.fixed.granularity ≡ Some layer.fixed.unit)
ZeroesBy format.Vmdk layer image = layer.fixed.granularity ≡ None

-- The storages of a layer determine its alignments, which are the greatest ones. The layer keeps what is written if each storage does. It
-- can zero by itself what its format can.
pub record IsOfStorages (layer : Layer) (image : StorageState) (extras : List StorageState) : Type 0 where
  pub requests : layer.fixed.req_align ≡ greatest (λ s. s.shape.req_align) image extras
  pub memory : layer.fixed.mem_align ≡ greatest (λ s. s.shape.mem_align) image extras
  pub keeps : layer.fixed.keeps ≡ keep_all image extras
  pub zeroing : ZeroesBy layer.fixed.format layer image

-- A layer of the chain can't be used, with this fault.
abbrev pub SomeUnusable : List Layer → Fault → Type 0
SomeUnusable [] fault = ⊥
SomeUnusable (layer ∷ below) fault = (unusable_fault layer ≡ Some fault) ⊎ SomeUnusable below fault

-- A layer of the chain has failed.
abbrev pub SomeFailed : List Layer → Type 0
SomeFailed [] = ⊥
SomeFailed (layer ∷ below) = IsTrue layer.failed ⊎ SomeFailed below

-- A byte of the range has this value.
abbrev pub SomeIs : (ℕ → Value) → ℕ → ℕ → Value → Type 0
SomeIs value offset n v = (i : ℕ) × (i < n) × (value (offset + i) ≡ v)

-- The errors of a lookup in one layer. They come from the image's state, a damaged table entry for a byte of the range, memory, or a
-- storage.
abbrev pub LookCause : Layer → ℕ → ℕ → List StorageState → List StorageState → Fault → Type 0
LookCause layer offset n olds news Failed = unusable_fault layer ≡ Some Failed
LookCause layer offset n olds news MissingData = unusable_fault layer ≡ Some MissingData
LookCause layer offset n olds news DamagedTable =
    (i : ℕ) × (i < n) × (offset + i < layer.size) × (layer.cell (offset + i) ≡ own damaged_place)
LookCause layer offset n olds news Memory = ⊤
LookCause layer offset n olds news Storage = SomeRose olds news
LookCause layer offset n olds news fault = ⊥

-- The errors of a read of a chain. They include a padded end of more than 64 bits, and a byte that can't be read.
abbrev pub ReadCause : List Layer → (ℕ → Value) → ℕ → ℕ → ℕ → List StorageState → List StorageState → Fault → Type 0
ReadCause layers value unit offset n olds news Failed = SomeUnusable layers Failed
ReadCause layers value unit offset n olds news MissingData = SomeUnusable layers MissingData
ReadCause layers value unit offset n olds news RangeOverflow = Overflows unit offset n
ReadCause layers value unit offset n olds news DamagedTable = SomeIs value offset n damaged_place
ReadCause layers value unit offset n olds news Barred = SomeIs value offset n barred
ReadCause layers value unit offset n olds news Memory = ⊤
ReadCause layers value unit offset n olds news Storage = SomeRose olds news
ReadCause layers value unit offset n olds news fault = ⊥

-- The errors of a call that changes, as seen from its entry. They include the driver's own, but not that the format can't zero or discard a
-- part by itself.
abbrev pub ChangeCause : List Layer → Layer → Call → (Fault → Type 0) → List StorageState → List StorageState → Fault → Type 0
ChangeCause below layer call causes olds news ReadOnly = Alters (disk_of below layer) call × IsFalse layer.fixed.writable
ChangeCause below layer call causes olds news PastEnd = Alters (disk_of below layer) call × (layer.size < offset_of call + length_of call)
ChangeCause below layer call causes olds news RangeOverflow = Overflows (unit_of_chain (layer ∷ below)) (offset_of call) (length_of call)
ChangeCause below layer call causes olds news Counter = ⊥
ChangeCause below layer call causes olds news Foreign = IsForeign call
ChangeCause below layer call causes olds news Unsupported = ⊥
ChangeCause below layer call causes olds news VersionLimit = ⊥
ChangeCause below layer call causes olds news Failed = SomeUnusable (layer ∷ below) Failed
ChangeCause below layer call causes olds news MissingData = SomeUnusable (layer ∷ below) MissingData
ChangeCause below layer call causes olds news Memory = ⊤
ChangeCause below layer call causes olds news Storage = SomeRose olds news
ChangeCause below layer call causes olds news fault = causes fault

-- The errors of a read of a storage.
abbrev pub ReadMappedCause : Layer → ℕ → ℕ → List StorageState → List StorageState → Fault → Type 0
ReadMappedCause layer place n olds news Failed = unusable_fault layer ≡ Some Failed
ReadMappedCause layer place n olds news MissingData = unusable_fault layer ≡ Some MissingData
ReadMappedCause layer place n olds news RangeOverflow = Overflows (unit_of_layer layer) place n
ReadMappedCause layer place n olds news Memory = ⊤
ReadMappedCause layer place n olds news Storage = SomeRose olds news
ReadMappedCause layer place n olds news fault = ⊥

-- The errors of a lookup through a chain.
abbrev pub DeepLookCause : List Layer → (ℕ → Value) → ℕ → ℕ → List StorageState → List StorageState → Fault → Type 0
DeepLookCause layers value offset n olds news Failed = SomeUnusable layers Failed
DeepLookCause layers value offset n olds news MissingData = SomeUnusable layers MissingData
DeepLookCause layers value offset n olds news DamagedTable = SomeIs value offset n damaged_place
DeepLookCause layers value offset n olds news Memory = ⊤
DeepLookCause layers value offset n olds news Storage = SomeRose olds news
DeepLookCause layers value offset n olds news fault = ⊥

-- The errors of a reload of the layers.
abbrev pub InvalidateCause : List Layer → List StorageState → List StorageState → Fault → Type 0
InvalidateCause layers olds news Failed = SomeUnusable layers Failed
InvalidateCause layers olds news MissingData = SomeUnusable layers MissingData
InvalidateCause layers olds news Memory = ⊤
InvalidateCause layers olds news Storage = SomeRose olds news
InvalidateCause layers olds news fault = IsStale fault
