-- Specifies results of lookups, in one image and through its backing files: when a result is true of a run, and how long the run is.
use Rattle.std.specs.Prelude.{◌≡◌, ◌⊎◌, ⊤, ℕ, ◌+◌, ◌<◌, ◌≤◌, ◌^◌, List, [], ◌∷◌, length, Bool, true, false, suc, zero, ◌&&◌, Some, IsSome, IsTrue}
use Rattle.imago_storage.specs.Through.{Overflows}
use Rattle.imago_storage.specs.Disk.{Value, byte, barred}
use Rattle.imago_access.specs.Layer.{Layer, Cell, own, unmapped, unit_of_layer, IsFree}
use Rattle.imago_access.specs.declared.driver_model.DriverModel.{Ghosts}
use Rattle.imago_access.specs.Files.{byte_in, files}
use Rattle.imago_access.specs.declared.mapping.ShallowMapping.{ShallowMapping}
use Rattle.imago_access.specs.declared.mapping.ShallowMapping.TheVariants as shallow
use Rattle.imago_access.specs.declared.mapping.Mapping.{Mapping}
use Rattle.imago_access.specs.declared.mapping.Mapping.TheVariants as deep

-- Each byte of the range is this cell.
abbrev pub EachIs : (ℕ → Cell) → ℕ → ℕ → (ℕ → Cell) → Type 0
EachIs cell offset n value = (i : ℕ) → i < n → cell (offset + i) ≡ value i

-- The result is true of each byte of the run in one layer, given the bytes of its storages. A writable run can be written in place. A layer
-- reports all runs of the layers below as writable, or none. A zero that isn't explicit only occurs in a layer that reads through to no
-- layer below.
abbrev pub Names : Layer → (ℕ → ℕ → ℕ) → ℕ → ℕ → ShallowMapping → Type 0
Names layer stored offset n (shallow.Raw storage place writable) =
    EachIs layer.cell offset n (λ i. own (byte (stored storage (place + i))))
    × (IsTrue writable → IsTrue layer.fixed.writable)
    × (IsTrue writable → (i : ℕ) → i < n → layer.writable_location (offset + i) ≡ Some (storage, place + i))
Names layer stored offset n (shallow.Indirect place writable) =
    EachIs layer.cell offset n (λ i. unmapped) × (place ≡ offset)
    × (writable ≡ layer.fixed.lets_through) × (IsTrue writable → IsTrue layer.fixed.writable)
Names layer stored offset n (shallow.Zero explicit) =
    EachIs layer.cell offset n (λ i. own (byte 0)) × (explicit ≡ false → layer.fixed.blank ≡ own (byte 0))
Names layer stored offset n (shallow.Special place) = EachIs layer.cell offset n (λ i. own barred) × (place ≡ offset)
Names layer stored offset n shallow.Eof = ⊤

-- The length of the run: 0 exactly at or past the size, and otherwise at least 1 byte, unless 0 were asked.
abbrev pub IsRun : Layer → ℕ → ℕ → ShallowMapping → ℕ → Type 0
IsRun layer offset asked shallow.Eof n = (n ≡ 0) × (layer.size ≤ offset)
IsRun layer offset asked mapping n = (offset < layer.size) × (n ≤ asked) × (offset + n ≤ layer.size) × (0 < asked → 0 < n)

-- If the padded end of the run in the storage doesn't fit 64 bits, the padded end of the run on the disk doesn't either.
abbrev pub IsAddressable : Layer → ℕ → ShallowMapping → ℕ → Type 0
IsAddressable layer offset (shallow.Raw storage place writable) n =
    Overflows (unit_of_layer layer) place n → Overflows (unit_of_layer layer) offset n
IsAddressable layer offset mapping n = ⊤

-- While no mapping is prepared, a byte that can be written in place is reported as writable.
abbrev pub ReportsWritable : Layer → ℕ → ℕ → ShallowMapping → Type 0
ReportsWritable layer offset asked mapping = IsFree layer → 0 < asked
    → (storage place : ℕ) → layer.writable_location offset ≡ Some (storage, place) → mapping ≡ shallow.Raw storage place true

-- If the layer reports allocations, no byte of the run is unallocated or zeroed. `ReportsAllocation` requires this of each run that is
-- stored or can't be read.
abbrev pub HasStoredAllocation : Layer → (unallocated zeroed : ℕ → Type 0) → ℕ → ℕ → Type 0
HasStoredAllocation layer unallocated zeroed offset n =
    IsTrue layer.fixed.reports_allocation → (i : ℕ) → i < n → (unallocated (offset + i) ⊎ zeroed (offset + i)) → ⊥

abbrev pub ReportsAllocation : Layer → (unallocated zeroed : ℕ → Type 0) → ℕ → ℕ → ShallowMapping → Type 0
ReportsAllocation layer unallocated zeroed offset n (shallow.Raw storage place writable) = HasStoredAllocation layer unallocated zeroed offset n
ReportsAllocation layer unallocated zeroed offset n (shallow.Special place) = HasStoredAllocation layer unallocated zeroed offset n
ReportsAllocation layer unallocated zeroed offset n mapping = ⊤

-- True if the result is an explicit zero. `is_deep_explicit` is for a lookup through a chain.
abbrev pub is_explicit : ShallowMapping → Bool
is_explicit (shallow.Zero explicit) = explicit
is_explicit mapping = false

abbrev pub is_deep_explicit : Mapping → Bool
is_deep_explicit (deep.Zero explicit) = explicit
is_deep_explicit mapping = false

-- Each byte of the run is an explicit zero, or none is.
abbrev pub AreExplicitZeroes : (ℕ → Type 0) → ℕ → ℕ → Bool → Type 0
AreExplicitZeroes explicit_zero offset n true = (i : ℕ) → i < n → explicit_zero (offset + i)
AreExplicitZeroes explicit_zero offset n false = (i : ℕ) → i < n → explicit_zero (offset + i) → ⊥

-- The result is an explicit zero exactly if the layer maps the bytes as 0 itself. For a chain only the top layer counts.
abbrev pub ReportsExplicitZero : (ℕ → Type 0) → ℕ → ShallowMapping × ℕ → Type 0
ReportsExplicitZero explicit_zero offset answer = AreExplicitZeroes explicit_zero offset answer.1 (is_explicit answer.0)

abbrev pub DeepReportsExplicitZero : (ℕ → Type 0) → ℕ → Mapping × ℕ → Type 0
DeepReportsExplicitZero explicit_zero offset answer = AreExplicitZeroes explicit_zero offset answer.1 (is_deep_explicit answer.0)

-- The properties of a lookup's result in one layer.
pub record Looks (layer : Layer) (stored : ℕ → ℕ → ℕ) (offset asked : ℕ) (mapping : ShallowMapping) (n : ℕ) : Type 0 where
  pub names : Names layer stored offset n mapping
  pub reach : IsAddressable layer offset mapping n
  pub writable_location : ReportsWritable layer offset asked mapping

-- A storage number in the result is below `count`.
abbrev pub IsOneOf : ℕ → ShallowMapping → Type 0
IsOneOf count (shallow.Raw storage place writable) = storage < count
IsOneOf count mapping = ⊤

-- `Looks` for a lookup of a driver, with the bytes of its files. `ReportsAllocationIn` is `ReportsAllocation` for such a lookup.
abbrev pub LooksIn : {D St : Type 0} → Ghosts D St → ℕ → ℕ → D → D → ShallowMapping × ℕ → Type 0
LooksIn g offset asked old new answer = Looks (g.layer old) (byte_in (files g new)) offset asked answer.0 answer.1

abbrev pub ReportsAllocationIn : {D St : Type 0} → Ghosts D St → ℕ → D → ShallowMapping × ℕ → Type 0
ReportsAllocationIn g offset old answer = ReportsAllocation (g.layer old) (g.unallocated old) (g.zeroed old) offset answer.1 answer.0

-- The byte at an offset of a storage, in the driver at this depth.
abbrev pub stored_at : {D St : Type 0} → Ghosts D St → List D → ℕ → ℕ → ℕ → ℕ
stored_at g [] depth storage place = 0
stored_at g (d ∷ ds) zero storage place = byte_in (files g d) storage place
stored_at g (d ∷ ds) (suc depth) storage place = stored_at g ds depth storage place

-- Each layer down to this depth was opened for writing, and each but the last allows writing in the layer below. In the last one each byte
-- of the run can be written at this storage and offset.
abbrev pub AreWritable : ℕ → List Layer → ℕ → ℕ → ℕ → ℕ → Type 0
AreWritable depth [] storage place offset n = ⊥
AreWritable zero (layer ∷ below) storage place offset n =
    IsTrue layer.fixed.writable × ((i : ℕ) → i < n → layer.writable_location (offset + i) ≡ Some (storage, place + i))
AreWritable (suc depth) (layer ∷ below) storage place offset n =
    IsTrue layer.fixed.writable × IsTrue layer.fixed.lets_through × AreWritable depth below storage place offset n

-- The bytes are 0 in the top layer itself.
abbrev pub SaysZero : List Layer → ℕ → ℕ → Type 0
SaysZero [] offset n = ⊥
SaysZero (layer ∷ below) offset n = EachIs layer.cell offset n (λ i. own (byte 0))

-- The top layer has no explicit zero to report. It reads through to the layers below, it ends before the bytes, or it reads as 0 where it
-- has nothing.
abbrev pub LeavesZero : List Layer → ℕ → ℕ → Type 0
LeavesZero [] offset n = ⊤
LeavesZero (layer ∷ below) offset n =
    EachIs layer.cell offset n (λ i. unmapped) ⊎ ((layer.size ≤ offset) ⊎ (layer.fixed.blank ≡ own (byte 0)))

-- In the layer at this depth itself the bytes can't be read.
abbrev pub SaysBarred : ℕ → List Layer → ℕ → ℕ → Type 0
SaysBarred depth [] offset n = ⊥
SaysBarred zero (layer ∷ below) offset n = EachIs layer.cell offset n (λ i. own barred)
SaysBarred (suc depth) (layer ∷ below) offset n = SaysBarred depth below offset n

-- The result is true of each byte of the run in the chain, given the bytes of its storages. A writable run can be written in place through
-- each layer down to its own. An explicit zero is the top layer's own.
abbrev pub DeepNames : List Layer → (ℕ → Value) → (ℕ → ℕ → ℕ → ℕ) → ℕ → ℕ → Mapping → Type 0
DeepNames chain value stored offset n (deep.Raw depth storage place writable) =
    ((i : ℕ) → i < n → value (offset + i) ≡ byte (stored depth storage (place + i)))
    × (IsTrue writable → AreWritable depth chain storage place offset n)
DeepNames chain value stored offset n (deep.Zero explicit) =
    ((i : ℕ) → i < n → value (offset + i) ≡ byte 0) × (IsTrue explicit → SaysZero chain offset n)
    × (explicit ≡ false → LeavesZero chain offset n)
DeepNames chain value stored offset n (deep.Special depth place) =
    ((i : ℕ) → i < n → value (offset + i) ≡ barred) × (place ≡ offset) × SaysBarred depth chain offset n
DeepNames chain value stored offset n deep.Eof = ⊤

-- While no mapping is prepared, a byte of the top layer that can be written in place is reported as writable.
abbrev pub DeepReportsWritable : Layer → ℕ → ℕ → Mapping → Type 0
DeepReportsWritable layer offset asked mapping = IsFree layer → 0 < asked
    → (storage place : ℕ) → layer.writable_location offset ≡ Some (storage, place) → mapping ≡ deep.Raw 0 storage place true

-- No mapping is prepared in the layer at this depth, and it can write the byte in place. Each layer above allows writing in the layer
-- below.
abbrev pub CanWrite : ℕ → List Layer → ℕ → Type 0
CanWrite depth [] offset = ⊥
CanWrite zero (layer ∷ below) offset = IsFree layer × IsSome (layer.writable_location offset)
CanWrite (suc depth) (layer ∷ below) offset = IsTrue layer.fixed.lets_through × CanWrite depth below offset

-- If the byte can be written in that layer, a result with a storage is writable.
abbrev pub DeepNamesWritable : List Layer → ℕ → ℕ → Mapping → Type 0
DeepNamesWritable chain offset asked (deep.Raw depth storage place writable) = 0 < asked → CanWrite depth chain offset → IsTrue writable
DeepNamesWritable chain offset asked mapping = ⊤

-- The length of a run in the layers below, which have no end. `IsDeepRun` is the length of a run in a chain.
abbrev pub IsRunBelow : ℕ → Mapping → ℕ → Type 0
IsRunBelow asked deep.Eof n = ⊥
IsRunBelow asked mapping n = (n ≤ asked) × (0 < asked → 0 < n)

abbrev pub IsDeepRun : ℕ → ℕ → ℕ → Mapping → ℕ → Type 0
IsDeepRun size offset asked deep.Eof n = (n ≡ 0) × (size ≤ offset)
IsDeepRun size offset asked mapping n = (offset < size) × (n ≤ asked) × (offset + n ≤ size) × (0 < asked → 0 < n)

-- The length of a prepared run: inside the disk, not above the requested length, and not 0 unless 0 bytes were requested.
abbrev pub IsMappedRun : Layer → ℕ → ℕ → ℕ → Type 0
IsMappedRun layer offset asked n = (n ≤ asked) × (0 < asked → 0 < n) × (0 < asked → offset + n ≤ layer.size)

-- A writable run in a storage of the top layer, whose end fits 64 bits.
abbrev pub IsTopRun : Mapping → ℕ → Type 0
IsTopRun mapping n = (storage : ℕ) × (place : ℕ) × (mapping ≡ deep.Raw 0 storage place true) × (place + n < 2 ^ 64)

-- The run is in the top layer, and each of its bytes can be written at the location in the result.
abbrev pub IsWritableRun : Layer → ℕ → Mapping → ℕ → Type 0
IsWritableRun layer offset (deep.Raw depth storage place writable) n =
    (depth ≡ 0) × IsTrue writable × ((i : ℕ) → i < n → layer.writable_location (offset + i) ≡ Some (storage, place + i))
IsWritableRun layer offset mapping n = ⊥

-- A depth in the result is below `n`.
abbrev pub IsDeepBelow : ℕ → Mapping → Type 0
IsDeepBelow n (deep.Raw depth storage place writable) = depth < n
IsDeepBelow n (deep.Special depth place) = depth < n
IsDeepBelow n mapping = ⊤

-- The chain has a driver at this depth, and the driver has a storage with this number.
abbrev pub HasStorage : {D St : Type 0} → Ghosts D St → List D → ℕ → ℕ → Type 0
HasStorage g [] depth storage = ⊥
HasStorage g (d ∷ ds) zero storage = storage < length (files g d)
HasStorage g (d ∷ ds) (suc depth) storage = HasStorage g ds depth storage

-- The storage in the result is one of the driver at that depth.
abbrev pub IsThere : {D St : Type 0} → Ghosts D St → List D → Mapping → Type 0
IsThere g ds (deep.Raw depth storage place writable) = HasStorage g ds depth storage
IsThere g ds mapping = ⊤

abbrev pub is_deep_end : Mapping → Bool
is_deep_end deep.Eof = true
is_deep_end mapping = false

-- A result of the layer below, as the layer above returns it.
abbrev pub lower : Bool → Mapping → Mapping
lower above (deep.Raw depth storage place writable) = deep.Raw (depth + 1) storage place (writable && above)
lower above (deep.Special depth place) = deep.Special (depth + 1) place
lower above (deep.Zero explicit) = deep.Zero false
lower above deep.Eof = deep.Eof
