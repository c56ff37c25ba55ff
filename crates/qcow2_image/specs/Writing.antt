-- Specifies how an image before and after a write are related, and the errors of the write.
use Rattle.std.proofs.Common.{inl, refl}
use Rattle.std.specs.Prelude.{◌≡◌, ◌≢◌, ◌⊎◌, ⊤, ℕ, ◌+◌, ◌/◌, ◌<◌, ◌≤◌, ◌∷◌, List, Some, None, IsSome, Result, MatchResult, false, true}
use Rattle.imago_storage.specs.State.{HasRisen}
use Rattle.imago_storage.specs.Calls.{UnchangedButFaults}
use Rattle.imago_storage.specs.Causes.{offset_of, length_of}
use Rattle.imago_storage.specs.Steps.{Call, shrink, IsIn}
use Rattle.imago_storage.specs.Through.{WriteOutcome}
use Rattle.imago_storage.specs.declared.fault.Fault.{Fault}
use Rattle.imago_storage.specs.declared.fault.Fault.TheVariants.{Barred, DamagedTable, Limit, Memory, VersionLimit}
use Rattle.imago_storage.specs.declared.storage.Storage.{Ghosts}
use Rattle.imago_storage.specs.Disk.{Value, barred, byte, damaged_place}
use Rattle.imago_access.specs.Chain.{at}
use Rattle.imago_access.specs.Layer.{Cell, Layer, own, unmapped}
use Rattle.imago_access.specs.PartCalls.{PartCall, discards_to_backing, IsFor}
use Rattle.imago_access.specs.Parts.{announces}
use Rattle.imago_access.specs.Room.{IsOfUnit, IsWholeUnit}
use Rattle.qcow2_types.specs.Header.{Fields, cluster_size}
use Rattle.qcow2_alloc.specs.Causes.{Causes}
use Rattle.qcow2_clusters.specs.Clearing.{IsPossible}
use Rattle.qcow2_image.specs.Clearing.{clearing_of}
use Rattle.qcow2_image.specs.FreeSpace.{LacksPlaceForTable}
use Rattle.qcow2_image.specs.Rooms.{IsWellFormed}
use Rattle.qcow2_image.specs.Seen.{writable_locations_of, layer_of}
use Rattle.qcow2_image.specs.declared.qcow2.Qcow2.{Qcow2}
use Rattle.qcow2_image.specs.declared.tables.Tables.{Tables}
use Rattle.qcow2_image.specs.Leaking.{KeepsLeaks}
use Rattle.qcow2_image.specs.Looking.{looking_causes}
use Rattle.qcow2_image.specs.Preparing.{LacksPlace}

-- The call zeroes or discards a range. The driver clears entries of L2 tables for it, if the image's version has such entries.
abbrev pub IsClearing : Call → Type 0
IsClearing call = (part : PartCall) × IsFor part call

-- The call may clear the entry of the cluster of this byte: it zeroes or discards, the image's version has such an entry, and the range
-- of the call covers the cluster completely. The last cluster of the disk may be shorter.
pub record MayBeCleared (h : Fields) (call : Call) (p : ℕ) : Type 0 where
  pub part : PartCall
  pub is_for : IsFor part call
  pub possible : IsPossible (clearing_of part) h.version
  pub cluster : ℕ
  pub here : IsOfUnit (cluster_size h) h.size cluster p
  pub whole : IsWholeUnit (cluster_size h) h.size (offset_of call) (length_of call) cluster

-- The call clears entries that need the zero flag, which version 2 of the format doesn't have.
abbrev pub NeedsZeroFlag : Call → Type 0
NeedsZeroFlag call = (part : PartCall) × IsFor part call × (part ≢ discards_to_backing)

-- The call is a shrink.
abbrev pub IsShrink : Call → Type 0
IsShrink (shrink size) = ⊤
IsShrink call = ⊥

-- The call is a shrink of a disk with `old` bytes, and this byte is past the new size.
abbrev pub CutsOff : (old : ℕ) → Call → ℕ → Type 0
CutsOff old (shrink size) p = (size ≤ p) × (p < old)
CutsOff old call p = ⊥

-- If this byte can be written in place by its entry, it still can, at the same location.
abbrev pub KeepsWritableLocation : {S : Type 0} (g : Ghosts S) → Qcow2 S g → Qcow2 S g → ℕ → Type 0
KeepsWritableLocation g d now p = (at : ℕ × ℕ) → writable_locations_of g d p ≡ Some at → writable_locations_of g now p ≡ Some at

-- Each byte that can be written in place by an entry still can.
abbrev pub KeepsWritableLocations : {S : Type 0} (g : Ghosts S) → Qcow2 S g → Qcow2 S g → Type 0
KeepsWritableLocations g d now = (p : ℕ) → KeepsWritableLocation g d now p

-- Each byte has the same cell as before, or is now a byte of the image's own.
abbrev pub ComesToBytes : (old new : ℕ → Cell) → Type 0
ComesToBytes old new = (p : ℕ) → (new p ≡ old p) ⊎ ((b : ℕ) × (new p ≡ own (byte b)))

-- While the call runs, a byte keeps its cell, or becomes a byte of the image's own. A discard to the backing file may also unmap it.
abbrev pub MayBecome : Call → (was is : Cell) → Type 0
MayBecome call was is = (is ≡ was) ⊎ (((b : ℕ) × (is ≡ own (byte b))) ⊎ (IsFor discards_to_backing call × (is ≡ unmapped)))

-- The changes of an image since this call began. Only a byte whose entry the call may clear can lose its writable location.
pub record Since {S : Type 0} (g : Ghosts S) (d : Qcow2 S g) (call : Call) (now : Qcow2 S g) : Type 0 where
  pub writable_locations : (p : ℕ) → (MayBeCleared d.tables.file.header.fields call p → ⊥) → KeepsWritableLocation g d now p
  pub cells : (p : ℕ) → MayBecome call ((layer_of g d).cell p) ((layer_of g now).cell p)
  pub size : now.tables.file.header.fields.size ≡ d.tables.file.header.fields.size
  pub bits : now.tables.file.header.fields.cluster_bits ≡ d.tables.file.header.fields.cluster_bits
  pub version : now.tables.file.header.fields.version ≡ d.tables.file.header.fields.version
  pub leaks : KeepsLeaks g d now

-- This call has begun on a well-formed image. The image is still well-formed, nothing has leaked, and `Since` holds.
abbrev pub HasBegun : {S : Type 0} (g : Ghosts S) → Qcow2 S g → Call → Qcow2 S g → Type 0
HasBegun g d call now = IsWellFormed g d → IsWellFormed g now × Since g d call now

-- Law: if a call has just started on a well-formed image, `HasBegun` holds between the image and itself.
pub begun_itself : {S : Type 0} (g : Ghosts S) (d : Qcow2 S g) (call : Call) → HasBegun g d call d
begun_itself g d call = λ well_formed. (
  well_formed,
  record {
    writable_locations = λ p keeps at is. is;
    cells = λ p. inl refl;
    size = refl;
    bits = refl;
    version = refl;
    leaks = λ c. refl;
  },
)

-- A call needs what the guest reads at this offset: it prepares mappings, and its range meets the cluster of the byte and doesn't overwrite
-- it completely.
pub record IsNeeded (unit size : ℕ) (call : Call) (p : ℕ) : Type 0 where
  pub cluster : ℕ
  pub here : IsOfUnit unit size cluster p
  pub met : ℕ
  pub in_range : IsIn (offset_of call) (length_of call) met
  pub in_unit : IsOfUnit unit size cluster met
  pub prepares : IsSome (announces call)
  pub part : announces call ≡ Some true → IsWholeUnit unit size (offset_of call) (length_of call) cluster → ⊥

-- A needed byte has this value, over the layers below.
abbrev pub NeedsValue : {S : Type 0} (g : Ghosts S) → Qcow2 S g → List Layer → Call → Value → Type 0
NeedsValue g d below call value = let h = d.tables.file.header.fields in
    (p : ℕ) × IsNeeded (cluster_size h) h.size call p × (at (layer_of g d ∷ below) p ≡ value)

-- A call that prepares mappings can't allocate a missing part of the mapping of a guest cluster, or its L2 table. A shrink, or a call that
-- `clears` the entry, can't allocate the L2 table.
abbrev pub LacksFor : {S : Type 0} (g : Ghosts S) → Call → (clears : Type 0) → (guest : ℕ) → (old new : Tables S g) → ℕ → Type 0
LacksFor g call clears guest old new number = (IsSome (announces call) × LacksPlace g guest old new number)
    ⊎ ((clears ⊎ IsShrink call) × LacksPlaceForTable g guest old new number)

-- The call may need clusters for this byte. The byte is in its range, and has no writable location, unless the call may clear its entry. Or the
-- call is a shrink, and the byte is past the new size.
abbrev pub MayNeedClusters : {S : Type 0} (g : Ghosts S) → Qcow2 S g → Call → ℕ → Type 0
MayNeedClusters g d call p =
    (IsIn (offset_of call) (length_of call) p
    × ((MayBeCleared d.tables.file.header.fields call p → ⊥) → writable_locations_of g d p ≡ None))
    ⊎ CutsOff d.tables.file.header.fields.size call p

-- At some point since the call began, what it needs for the guest cluster of a byte couldn't be allocated. The number is that of the limit.
-- The search kept the disk, and leaked nothing.
pub record HadNoPlace {S : Type 0} (g : Ghosts S) (d : Qcow2 S g) (call : Call) (p number : ℕ) : Type 0 where
  pub now : Qcow2 S g
  pub well_formed : IsWellFormed g now
  pub since : Since g d call now
  pub left : Qcow2 S g
  pub left_safe : IsWellFormed g left
  pub left_disk : layer_of g left ≡ layer_of g now
  pub left_leaks : KeepsLeaks g now left
  pub lacks : LacksFor g call (MayBeCleared d.tables.file.header.fields call p) (p / cluster_size now.tables.file.header.fields)
      now.tables left.tables number

-- The driver's own reasons for not changing an image. The version of the image doesn't support the call. What the call needs for a byte
-- can't be allocated. A needed byte can't be read. The causes of a growth are separate.
abbrev pub WhyUnwritten : {S : Type 0} (g : Ghosts S) → Qcow2 S g → List Layer → Call → Fault → Type 0
WhyUnwritten g d below call VersionLimit = (d.tables.file.header.fields.version < 3) × NeedsZeroFlag call
WhyUnwritten g d below call (Limit number) = (p : ℕ) × MayNeedClusters g d call p × HadNoPlace g d call p number
WhyUnwritten g d below call DamagedTable = NeedsValue g d below call damaged_place
WhyUnwritten g d below call Barred = NeedsValue g d below call barred
WhyUnwritten g d below call fault = ⊥

-- Each byte of the range can be written in the image file, from `place` on.
abbrev pub IsWritableAt : Layer → (offset place n : ℕ) → Type 0
IsWritableAt layer offset place n = (i : ℕ) → i < n → layer.writable_location (offset + i) ≡ Some (0, place + i)

-- It can't be decided whether a range is mapped if a lookup in it fails.
abbrev pub telling_causes : {S : Type 0} (g : Ghosts S) → Qcow2 S g → Qcow2 S g → Causes
telling_causes g old new = looking_causes
    ((p : ℕ) × (p < (layer_of g old).size) × ((layer_of g old).cell p ≡ own damaged_place))
    (g.state old.tables.file.image).faults (g.state new.tables.file.image).faults

-- A failed write has set the image to failed, or memory ran out and the file is unchanged. Running out of memory also sets it to failed if
-- the storage refused a change.
abbrev pub MarksFailedOnWrite : {S : Type 0} (g : Ghosts S) → Qcow2 S g → Qcow2 S g → Fault → Type 0
MarksFailedOnWrite g old new Memory =
    ((new.failed ≡ true) × HasRisen (g.state old.tables.file.image).refusals (g.state new.tables.file.image).refusals)
    ⊎ ((new.failed ≡ false) × UnchangedButFaults (g.state old.tables.file.image) (g.state new.tables.file.image))
MarksFailedOnWrite g old new fault = new.failed ≡ true

-- Bytes are written to the image file at `place`.
pub record WritesAt {S : Type 0} (g : Ghosts S) (place : ℕ) (bytes : List ℕ) (old : Qcow2 S g) (result : Result Unit Fault)
    (new : Qcow2 S g) : Type 0 where
  pub put : WriteOutcome (g.state old.tables.file.image) (g.state new.tables.file.image) place bytes result
  pub header : new.tables.file.header ≡ old.tables.file.header
  pub l1 : new.tables.l1 ≡ old.tables.l1
  pub caches : new.tables.caches ≡ old.tables.caches
  pub space : new.tables.space ≡ old.tables.space
  pub mode : new.mode ≡ old.mode
  pub number : new.number ≡ old.number
  pub unspent : new.unspent ≡ old.unspent
  pub failed : MatchResult result (λ _. new.failed ≡ false) (MarksFailedOnWrite g old new)

-- Running out of memory has set the image to failed only if the storage refused a change.
abbrev pub OutOfMemoryLeavesUntouched : {S : Type 0} (g : Ghosts S) → Qcow2 S g → Qcow2 S g → Fault → Type 0
OutOfMemoryLeavesUntouched g old new fault = fault ≡ Memory
    → (new.failed ≡ old.failed) ⊎ HasRisen (g.state old.tables.file.image).refusals (g.state new.tables.file.image).refusals
