-- A call of a chain of images makes several calls of the top driver, each for a part of its range. Specifies the ranges of these parts, and
-- their errors.
use Rattle.std.specs.Prelude.{◌≡◌, ⊤, ℕ, ◌+◌, ◌<◌, ◌≤◌, Bool, true, Option, Some, None, List, [], ◌∷◌, IsFalse}
use Rattle.imago_storage.specs.State.{StorageState}
use Rattle.imago_storage.specs.Through.{Overflows}
use Rattle.imago_storage.specs.Steps.{Call, write, write_zeroes, discard_to_zero, prepare, ensure}
use Rattle.imago_storage.specs.Causes.{offset_of, length_of}
use Rattle.imago_storage.specs.declared.fault.Fault.{Fault}
use Rattle.imago_storage.specs.declared.fault.Fault.TheVariants.{ReadOnly, PastEnd, RangeOverflow, Unsupported, VersionLimit, Foreign, MissingData, Failed, Outdated, Counter, Memory, Storage}
use Rattle.imago_access.specs.Layer.{Layer, unit_of_layer}
use Rattle.imago_access.specs.Files.{SomeRose}
use Rattle.imago_access.specs.Room.{IsUncutAt}
use Rattle.imago_access.specs.Refusals.{unusable_fault, SomeUnusable}

-- The range is inside that of the call.
pub record IsPartOf (call : Call) (offset n : ℕ) : Type 0 where
  pub start : offset_of call ≤ offset
  pub end : offset + n ≤ offset_of call + length_of call

-- Neither end of the range is inside a unit that the call covers completely. So the old data of a unit that the call covers completely is
-- never needed.
pub record IsUncutPart (layer : Layer) (call : Call) (offset n : ℕ) : Type 0 where
  pub part : IsPartOf call offset n
  pub start : IsUncutAt layer.fixed.unit layer.size (offset_of call) (length_of call) offset
  pub end : IsUncutAt layer.fixed.unit layer.size (offset_of call) (length_of call) (offset + n)

-- The promise of a call that prepares mappings: whether its whole range will be written.
abbrev pub announces : Call → Option Bool
announces (write offset bytes) = Some true
announces (write_zeroes offset n) = Some true
announces (discard_to_zero offset n) = Some true
announces (prepare offset n overwrite) = Some overwrite
announces (ensure offset n overwrite) = Some overwrite
announces call = None

-- The errors of a driver's call over a range that reads the layers below. They come from the image's state, the range, or the driver
-- itself. The call commits or cancels no mapping, so none is foreign (of another image), and it needs nothing that the format doesn't
-- support.
abbrev pub PartCause : List Layer → Layer → ℕ → ℕ → (Fault → Type 0) → List StorageState → List StorageState → Fault → Type 0
PartCause below layer offset n causes olds news ReadOnly = (0 < n) × IsFalse layer.fixed.writable
PartCause below layer offset n causes olds news PastEnd = (0 < n) × (layer.size < offset + n)
PartCause below layer offset n causes olds news RangeOverflow = Overflows (unit_of_layer layer) offset n
PartCause below layer offset n causes olds news Outdated = ⊥
PartCause below layer offset n causes olds news Foreign = ⊥
PartCause below layer offset n causes olds news Counter = ⊥
PartCause below layer offset n causes olds news Unsupported = ⊥
PartCause below layer offset n causes olds news VersionLimit = ⊥
PartCause below layer offset n causes olds news Failed = SomeUnusable (layer ∷ below) Failed
PartCause below layer offset n causes olds news MissingData = SomeUnusable (layer ∷ below) MissingData
PartCause below layer offset n causes olds news Memory = ⊤
PartCause below layer offset n causes olds news Storage = SomeRose olds news
PartCause below layer offset n causes olds news fault = causes fault

-- Like `PartCause`, for a zeroing or a discard, which the format or its storage may decline.
abbrev pub DeclinableCause : List Layer → Layer → ℕ → ℕ → (Fault → Type 0) → List StorageState → List StorageState → Fault → Type 0
DeclinableCause below layer offset n causes olds news Unsupported = causes Unsupported
DeclinableCause below layer offset n causes olds news VersionLimit = causes VersionLimit
DeclinableCause below layer offset n causes olds news fault = PartCause below layer offset n causes olds news fault

-- The errors of a call without a range.
abbrev pub PlainCause : Layer → List StorageState → List StorageState → Fault → Type 0
PlainCause layer olds news Failed = unusable_fault layer ≡ Some Failed
PlainCause layer olds news MissingData = unusable_fault layer ≡ Some MissingData
PlainCause layer olds news Memory = ⊤
PlainCause layer olds news Storage = SomeRose olds news
PlainCause layer olds news fault = ⊥

-- The range can be written in place, from this offset of one storage on.
abbrev pub IsMappedAt : Layer → ℕ → ℕ → ℕ → Type 0
IsMappedAt layer guest place n = (storage : ℕ) × ((i : ℕ) → i < n → layer.writable_location (guest + i) ≡ Some (storage, place + i))

-- The errors of a write to a mapped range, which include that the range isn't mapped there.
abbrev pub MappedCause : Layer → ℕ → ℕ → ℕ → List StorageState → List StorageState → Fault → Type 0
MappedCause layer guest place n olds news Outdated = (0 < n) × (IsMappedAt layer guest place n → ⊥)
MappedCause layer guest place n olds news fault = PartCause [] layer guest n (λ _. ⊥) olds news fault

-- The errors of a resize, and then the errors of a growth and of a shrink.
abbrev pub ResizeCause : Type 0 → List Layer → Layer → (Fault → Type 0) → List StorageState → List StorageState → Fault → Type 0
ResizeCause Alters below layer causes olds news ReadOnly = Alters × IsFalse layer.fixed.writable
ResizeCause Alters below layer causes olds news PastEnd = ⊥
ResizeCause Alters below layer causes olds news RangeOverflow = ⊥
ResizeCause Alters below layer causes olds news Outdated = ⊥
ResizeCause Alters below layer causes olds news Counter = ⊥
ResizeCause Alters below layer causes olds news Foreign = ⊥
ResizeCause Alters below layer causes olds news Failed = SomeUnusable (layer ∷ below) Failed
ResizeCause Alters below layer causes olds news MissingData = SomeUnusable (layer ∷ below) MissingData
ResizeCause Alters below layer causes olds news Memory = ⊤
ResizeCause Alters below layer causes olds news Storage = SomeRose olds news
ResizeCause Alters below layer causes olds news fault = causes fault

abbrev pub GrowthCause : List Layer → Layer → ℕ → (Fault → Type 0) → List StorageState → List StorageState → Fault → Type 0
GrowthCause below layer size = ResizeCause (layer.size < size) below layer

abbrev pub ShrinkCause : List Layer → Layer → ℕ → (Fault → Type 0) → List StorageState → List StorageState → Fault → Type 0
ShrinkCause below layer size = ResizeCause (size < layer.size) below layer
