-- Specifies the creation of an image: the file afterwards, and the errors.
use Rattle.std.specs.Prelude.{◌≡◌, ◌≢◌, ◌⊎◌, ⊤, Bool, ℕ, ◌-◌, ◌^◌, ◌<◌, ◌≤◌, List, [], ◌∷◌, Option, Some, None, length, IsFalse, IsTrue}
use Rattle.imago_storage.specs.State.{StorageState}
use Rattle.imago_storage.specs.Disk.{byte}
use Rattle.imago_storage.specs.declared.fault.Fault.{Fault}
use Rattle.imago_storage.specs.declared.fault.Fault.TheVariants.{BadArgument, Counter, DamagedHeader, DamagedTable, Limit, Memory, Storage, Unsupported}
use Rattle.imago_storage.specs.declared.storage.Storage.{Ghosts}
use Rattle.imago_access.specs.Layer.{Cell, own, unmapped}
use Rattle.imago_access.specs.declared.format.PreallocateMode.{PreallocateMode}
use Rattle.imago_access.specs.declared.format.PreallocateMode.TheVariants as mode
use Rattle.qcow2_types.specs.Bytes.{bytes_of}
use Rattle.qcow2_types.specs.Consistency.{IsConsistent, leaks}
use Rattle.qcow2_types.specs.Entries.{entry}
use Rattle.qcow2_types.specs.Header.{Header, cluster_size}
use Rattle.qcow2_types.specs.HeaderBytes.{fits_first_cluster, header_bytes, new_header, written}
use Rattle.qcow2_types.specs.Switched.{with_refcount_table}
use Rattle.qcow2_metadata.specs.HeaderView.{seen_text}
use Rattle.qcow2_metadata.specs.Reloading.{is_text}
use Rattle.qcow2_alloc.specs.Causes.{HasCause}
use Rattle.qcow2_steps.specs.SmallestImage.{IsSmallestImage, smallest_header}
use Rattle.qcow2_image.specs.Allocating.{reserving_causes}
use Rattle.qcow2_image.specs.Growing.{IsAllocating, LacksRoom}
use Rattle.qcow2_image.specs.ImageLayer.{qcow2_meaning}
use Rattle.qcow2_image.specs.Leaking.{KeepsLeaks}
use Rattle.qcow2_image.specs.KeepsDisk.{HasSameFormat, value_in}
use Rattle.qcow2_image.specs.Resizing.{LacksL1}
use Rattle.qcow2_image.specs.Rooms.{IsWellFormed}
use Rattle.qcow2_image.specs.Seen.{file_of}
use Rattle.qcow2_image.specs.declared.creating.Qcow2CreateBuilder.{Qcow2CreateBuilder}
use Rattle.qcow2_image.specs.declared.qcow2.Qcow2.{Qcow2}

-- The options of a new image. The sizes of the disk and of a cluster are in bytes, and the refcount width is in bits.
pub record Options : Type 0 where
  pub size : ℕ
  pub preallocate : PreallocateMode
  pub cluster_size : ℕ
  pub refcount_width : ℕ
  pub backing_name : Option (List ℕ)
  pub backing_format : Option (List ℕ)

-- The name of the backing file. An empty name means that there is no backing file.
abbrev pub named : Option (List ℕ) → Option (List ℕ)
named (Some (first ∷ others)) = Some (first ∷ others)
named name = None

-- The format of the backing file with this name. Without a backing file there is no format.
abbrev pub format_with : (name format : Option (List ℕ)) → Option (List ℕ)
format_with (Some (first ∷ others)) format = format
format_with name format = None

abbrev pub options_of : {S : Type 0} → Qcow2CreateBuilder S → Options
options_of b = record {
  size = b.base.size;
  preallocate = b.base.preallocate;
  cluster_size = b.cluster_size;
  refcount_width = b.refcount_width;
  backing_name = named (seen_text b.backing_name);
  backing_format = format_with (seen_text b.backing_name) (seen_text b.backing_format);
}

-- `n` is a power of two, with an exponent from `least` to `most`.
abbrev pub IsPowerWithin : (least most n : ℕ) → Type 0
IsPowerWithin least most n = (bits : ℕ) × (least ≤ bits) × (bits ≤ most) × (n ≡ 2 ^ bits)

-- The cluster size is a power of two from 512 to 2 MiB, and the refcount width is one from 1 to 64.
abbrev pub AreAllowed : (cluster_size refcount_width : ℕ) → Type 0
AreAllowed cluster_size refcount_width = IsPowerWithin 9 21 cluster_size × IsPowerWithin 0 6 refcount_width

-- Each byte of a new disk: not mapped without preallocation, otherwise 0.
abbrev pub new_cell : PreallocateMode → Cell
new_cell mode.None = unmapped
new_cell way = own (byte 0)

-- The bytes are a consistent image with this header, which leaks nothing. Its disk has this size, and its bytes are as this mode of
-- preallocation says.
pub record IsNewImage (size : ℕ) (way : PreallocateMode) (bytes : List ℕ) (H : Header) : Type 0 where
  pub consistent : IsConsistent (bytes_of bytes) H
  pub no_leaks : leaks (bytes_of bytes) H.fields ≡ []
  pub size_is : H.fields.size ≡ size
  pub shows : (p : ℕ) → p < size → (qcow2_meaning unmapped bytes).cell p ≡ new_cell way

-- The bytes are an image as asked.
pub record IsImageOf (o : Options) (bytes : List ℕ) (H : Header) : Type 0 where
  pub image : IsNewImage o.size o.preallocate bytes H
  pub cluster_size : 2 ^ H.fields.cluster_bits ≡ o.cluster_size
  pub refcount_width : 2 ^ H.fields.refcount_order ≡ o.refcount_width
  pub backing_name : H.backing_name ≡ o.backing_name
  pub backing_format : H.backing_format ≡ o.backing_format

-- If the storage keeps what is written, it has an image as asked.
pub record IsNewQcow2 (o : Options) (old new : StorageState) : Type 0 where
  pub shape : new.shape ≡ old.shape
  pub faults : new.faults ≡ old.faults
  pub image : IsTrue old.shape.keeps → (H : Header) × IsImageOf o new.bytes H

-- The disk of an image gets a size, in bytes, if its size is 0. The format stays the same. Without preallocation the meaning of each L2
-- entry stays the same, otherwise the new guest clusters read as zeroes.
pub record Lengthens {S : Type 0} (g : Ghosts S) (size : ℕ) (way : PreallocateMode) (old new : Qcow2 S g) : Type 0 where
  pub shape : (g.state new.tables.file.image).shape ≡ (g.state old.tables.file.image).shape
  pub faults : (g.state new.tables.file.image).faults ≡ (g.state old.tables.file.image).faults
  pub unspent : new.unspent ≡ old.unspent
  pub well_formed : IsWellFormed g old → IsWellFormed g new
  pub leaks : IsWellFormed g old → KeepsLeaks g old new
  pub size_is : old.tables.file.header.fields.size ≡ 0 → new.tables.file.header.fields.size ≡ size
  pub format : HasSameFormat old.tables.file.header new.tables.file.header
  pub raw_entries : way ≡ mode.None → IsWellFormed g old → (guest : ℕ)
      → entry (file_of g new.tables) new.tables.file.header.fields guest ≡ entry (file_of g old.tables) old.tables.file.header.fields guest
  pub zeroed : (way ≢ mode.None) → IsWellFormed g old → old.tables.file.header.fields.size ≡ 0
      → (p : ℕ) → p < size → value_in g new.tables p ≡ Some (byte 0)

-- If the storage keeps what is written, its disk of size 0 got a size, in bytes. The format is the same.
pub record GrowsSmallest (size : ℕ) (way : PreallocateMode) (old new : StorageState) : Type 0 where
  pub shape : new.shape ≡ old.shape
  pub faults : new.faults ≡ old.faults
  pub image : IsTrue old.shape.keeps → (H : Header) → IsSmallestImage (bytes_of old.bytes) H
      → (K : Header) × IsNewImage size way new.bytes K × HasSameFormat H K

-- The header of the new image, of `number` bytes, doesn't fit its cluster, or the backing file's name has more than 1,023 bytes.
pub record IsHeaderTooLong (o : Options) (number : ℕ) : Type 0 where
  pub bits : ℕ
  pub order : ℕ
  pub cluster_size : o.cluster_size ≡ 2 ^ bits
  pub refcount_width : o.refcount_width ≡ 2 ^ order
  pub unfit : IsFalse (fits_first_cluster (smallest_header bits order o.backing_name o.backing_format))
  pub number_is : number ≡ length (header_bytes (smallest_header bits order o.backing_name o.backing_format))

-- The L1 table of a disk of this size can't be allocated. With preallocation, a guest cluster may be what can't be allocated.
abbrev pub LacksNewRoom : {S : Type 0} (g : Ghosts S) → Qcow2 S g → (size : ℕ) → PreallocateMode → (number : ℕ) → Type 0
LacksNewRoom g d size mode.None number = LacksL1 g d size number
LacksNewRoom g d size way number = LacksRoom g d size number

-- The errors of making the disk of a new image longer. `DamagedHeader` means that the image isn't of version 3.
abbrev pub WhyNotLengthened : {S : Type 0} (g : Ghosts S) → (size : ℕ) → PreallocateMode → (old new : Qcow2 S g) → Fault → Type 0
WhyNotLengthened g size way old new DamagedHeader = old.tables.file.header.fields.version ≢ 3
WhyNotLengthened g size way old new fault = HasCause (reserving_causes g (LacksNewRoom g old size way) old new) fault

-- A disk of this size can't be allocated in the smallest image.
abbrev pub LacksFirstRoom : {S : Type 0} (g : Ghosts S) → (size : ℕ) → PreallocateMode → (number : ℕ) → Type 0
LacksFirstRoom {S} g size way number = (d : Qcow2 S g) × IsWellFormed g d
    × IsSmallestImage (file_of g d.tables) d.tables.file.header × LacksNewRoom g d size way number

-- The errors of opening the smallest image and making its disk longer. Other errors than a limit and resource errors occur only if the
-- storage doesn't keep what is written.
abbrev pub WhyNotGrown : {S : Type 0} (g : Ghosts S) → (size : ℕ) → PreallocateMode → (small : Type 0) → Fault → Type 0
WhyNotGrown g size way small Memory = ⊤
WhyNotGrown g size way small Storage = ⊤
WhyNotGrown g size way small (Limit number) = small → LacksFirstRoom g size way number
WhyNotGrown g size way small DamagedHeader = small → ⊥
WhyNotGrown g size way small DamagedTable = small → ⊥
WhyNotGrown g size way small Unsupported = small → ⊥
WhyNotGrown g size way small Counter = small → ⊥
WhyNotGrown g size way small fault = ⊥

-- A new header, without an external data file. An empty name isn't given.
pub record IsFirstHeader (H : Header) : Type 0 where
  pub bits : ℕ
  pub order : ℕ
  pub low : 9 ≤ bits
  pub high : bits ≤ 21
  pub narrow : order ≤ 6
  pub name : Option (List ℕ)
  pub format : Option (List ℕ)
  pub named : name ≢ Some []
  pub name_text : IsTrue (is_text name)
  pub format_text : IsTrue (is_text format)
  pub is : H ≡ new_header bits order name format None

-- The header with its refcount table in cluster 1.
abbrev pub with_first_table : Header → Header
with_first_table H = with_refcount_table H (cluster_size H.fields) 1

-- The smallest image with this header was written, if the storage keeps what is written.
pub record HasParts (H : Header) (old new : StorageState) : Type 0 where
  pub faults : new.faults ≡ old.faults
  pub image : IsTrue old.shape.keeps → IsSmallestImage (bytes_of new.bytes) (written (with_first_table H))

-- The errors of writing the smallest image. `Limit` means that the header is too long.
abbrev pub WhyNotPut : Header → Fault → Type 0
WhyNotPut H Memory = ⊤
WhyNotPut H Storage = ⊤
WhyNotPut H (Limit number) = IsFalse (fits_first_cluster (with_first_table H)) × (number ≡ length (header_bytes (with_first_table H)))
WhyNotPut H fault = ⊥

-- The storage keeps what is written, and has the smallest image, of version 3.
abbrev pub HoldsSmallest : StorageState → Type 0
HoldsSmallest s = IsTrue s.shape.keeps × ((H : Header) × IsSmallestImage (bytes_of s.bytes) H × (H.fields.version ≡ 3))

-- The reasons why no disk of this size, in bytes, is created in this mode.
abbrev pub WhyNoDisk : (size : ℕ) → PreallocateMode → (has_backing : Bool) → Fault → Type 0
WhyNoDisk size way has_backing Unsupported = IsAllocating way × IsTrue has_backing
WhyNoDisk size way has_backing (Limit number) = (2 ^ 63 - 1 < size) × (number ≡ size)
WhyNoDisk size way has_backing fault = ⊥

-- The limits: the size is above 2^63 - 1 bytes, the header is too long, or the L1 table or a guest cluster can't be allocated.
abbrev pub IsPastLimit : {S : Type 0} (g : Ghosts S) → (keeps : Type 0) → Options → (number : ℕ) → Type 0
IsPastLimit g keeps o number = ((2 ^ 63 - 1 < o.size) × (number ≡ o.size)) ⊎ (IsHeaderTooLong o number
    ⊎ (keeps → LacksFirstRoom g o.size o.preallocate number))

-- The errors of a creation with allowed values.
abbrev pub WhyNotMade : {S : Type 0} (g : Ghosts S) → (keeps : Type 0) → Options → Fault → Type 0
WhyNotMade g keeps o Unsupported = ⊤
WhyNotMade g keeps o (Limit number) = IsPastLimit g keeps o number
WhyNotMade g keeps o Memory = ⊤
WhyNotMade g keeps o Storage = ⊤
WhyNotMade g keeps o DamagedHeader = keeps → ⊥
WhyNotMade g keeps o DamagedTable = keeps → ⊥
WhyNotMade g keeps o Counter = keeps → ⊥
WhyNotMade g keeps o fault = ⊥

-- The errors of a creation. `BadArgument` means that the cluster size or the refcount width isn't allowed, and nothing else.
abbrev pub WhyNotCreated : {S : Type 0} (g : Ghosts S) → (keeps : Type 0) → Options → Fault → Type 0
WhyNotCreated g keeps o BadArgument = AreAllowed o.cluster_size o.refcount_width → ⊥
WhyNotCreated g keeps o fault = AreAllowed o.cluster_size o.refcount_width × WhyNotMade g keeps o fault
