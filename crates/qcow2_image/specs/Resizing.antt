-- Specifies how the disk of an image gets another size.
use Rattle.std.specs.Prelude.{◌≡◌, ◌⊎◌, ⊤, ℕ, ◌+◌, ◌-◌, ◌/◌, ◌^◌, ◌<◌, ◌≤◌, max, min, true, List, length, IsTrue, IsSome, Result, OnOk, OnErr, IfErr, ◌≢◌, ◌*◌, IsFalse}
use Rattle.imago_storage.specs.Calls.{CountsNotFallen, IsFaultless}
use Rattle.imago_storage.specs.Disk.{Value}
use Rattle.imago_storage.specs.Passing.{UnrefusedCrashImages}
use Rattle.imago_storage.specs.declared.fault.Fault.{Fault}
use Rattle.imago_storage.specs.declared.fault.Fault.TheVariants.{Limit}
use Rattle.imago_storage.specs.declared.storage.Storage.{Ghosts}
use Rattle.imago_access.specs.Chain.{at}
use Rattle.imago_access.specs.Files.{HadNoResourceError, IsNotResourceError}
use Rattle.imago_access.specs.Layer.{Layer, through}
use Rattle.imago_access.specs.Stops.{GivesNone, Left}
use Rattle.qcow2_types.specs.Entries.{entry, l2_table}
use Rattle.qcow2_types.specs.Header.{Fields, cluster_size, entries_of_cluster}
use Rattle.qcow2_types.specs.Switched.{with_size}
use Rattle.qcow2_metadata.specs.Tables.{padded}
use Rattle.qcow2_types.specs.Words.{unmapped}
use Rattle.qcow2_alloc.specs.Causes.{HasCause}
use Rattle.qcow2_alloc.specs.Crowding.{space}
use Rattle.qcow2_alloc.specs.Going.{writing_causes}
use Rattle.qcow2_steps.specs.Advancing.{KeepsHeader}
use Rattle.qcow2_clusters.specs.Lengthening.{l1_clusters}
use Rattle.qcow2_image.specs.Allocating.{allocation_causes, failed_by_resource_error, reserving_causes, HasOwnTable}
use Rattle.qcow2_image.specs.FreeSpace.{HasNoPlace, LacksPlaceForTable, LeavesFree, enough_for_entry}
use Rattle.qcow2_image.specs.ImageLayer.{blank_of}
use Rattle.qcow2_image.specs.KeepsDisk.{HasSameFormat, KeepsDisk, value_in}
use Rattle.qcow2_image.specs.Leaking.{KeepsLeaks}
use Rattle.qcow2_image.specs.Preparing.{LeavesMarkedFailed}
use Rattle.qcow2_image.specs.Rooms.{IsWellFormed, is_sound}
use Rattle.qcow2_image.specs.Seen.{file_of, layer_of}
use Rattle.qcow2_image.specs.declared.qcow2.Qcow2.{Qcow2}
use Rattle.qcow2_image.specs.declared.tables.Tables.{Tables}

-- The index of the L1 entry of the last byte of a disk of this size, in bytes.
abbrev pub last_entry : Fields → (size : ℕ) → ℕ
last_entry h size = (size - 1) / cluster_size h / entries_of_cluster h

-- The header references an L1 table in newly allocated clusters, which has an entry at index `i`. It has the old entries, followed by
-- entries that reference nothing. The guest reads the same bytes as before.
pub record MovesL1 {S : Type 0} (g : Ghosts S) (i : ℕ) (old : Qcow2 S g) (result : Result Unit Fault) (new : Qcow2 S g) : Type 0 where
  pub keeps : KeepsDisk g (HadNoResourceError result) old new
  pub leaks : IsWellFormed g old → HadNoResourceError result → KeepsLeaks g old new
  pub known : IsSome old.tables.space → IsSome new.tables.space
  pub header : OnOk result (KeepsHeader old.tables.file.header new.tables.file.header)
  pub long : OnOk result (i < new.tables.file.header.fields.l1_entries)
  pub raw_entries : OnOk result (new.tables.l1.raw_entries ≡ padded old.tables.l1.raw_entries (max (length old.tables.l1.raw_entries) (i + 1)))
  pub leaves : IsWellFormed g old → OnOk result (LeavesFree g (enough_for_entry old.tables i) old.tables new.tables)
  pub cause : IfErr result (HasCause (allocation_causes g
      (HasNoPlace g (λ n. n ≡ l1_clusters old.tables.file.header.fields old.tables.l1 i) i (enough_for_entry old.tables i) old.tables new.tables) old new))

-- The disk of the image has the size `n`, in bytes. Bytes inside both sizes read as before, and entries have the same meaning. A crash image
-- has the old or the new size. On error the size is the old one. No mapping is prepared.
pub record SizesImage {S : Type 0} (g : Ghosts S) (n : ℕ) (old : Qcow2 S g) (result : Result Unit Fault) (new : Qcow2 S g) : Type 0 where
  pub mode : new.mode ≡ old.mode
  pub number : new.number ≡ old.number
  pub unspent : new.unspent ≡ old.unspent
  pub shape : (g.state new.tables.file.image).shape ≡ (g.state old.tables.file.image).shape
  pub counts_not_fallen : CountsNotFallen (g.state old.tables.file.image) (g.state new.tables.file.image)
  pub failed : new.failed ≡ failed_by_resource_error result true old.failed
  pub bits : new.tables.file.header.fields.cluster_bits ≡ old.tables.file.header.fields.cluster_bits
  pub version : new.tables.file.header.fields.version ≡ old.tables.file.header.fields.version
  pub faults : HadNoResourceError result → IsFaultless (g.state old.tables.file.image) (g.state new.tables.file.image)
  pub header : OnOk result (new.tables.file.header ≡ with_size old.tables.file.header n)
  pub size : OnOk result (new.tables.file.header.fields.size ≡ n)
  pub unsized : OnErr result (new.tables.file.header.fields.size ≡ old.tables.file.header.fields.size)
  pub crash_images : IsWellFormed g old → n ≤ 2 ^ 63 - 1 → (below : List Layer)
      → UnrefusedCrashImages (Left below (layer_of g old) (g.state old.tables.file.image).bytes is_sound
      (min (layer_of g old).size n) (max (layer_of g old).size n) GivesNone) (g.state old.tables.file.image) (g.state new.tables.file.image)
  pub well_formed : IsWellFormed g old → n ≤ 2 ^ 63 - 1 → OnOk result (IsWellFormed g new)
  pub cells : IsWellFormed g old → n ≤ 2 ^ 63 - 1
      → OnOk result ((p : ℕ) → p < (layer_of g old).size → p < n → (layer_of g new).cell p ≡ (layer_of g old).cell p)
  pub raw_entries : IsWellFormed g old → n ≤ 2 ^ 63 - 1 → OnOk result ((guest : ℕ)
      → entry (file_of g new.tables) new.tables.file.header.fields guest ≡ entry (file_of g old.tables) old.tables.file.header.fields guest)
  pub values : IsWellFormed g old → n ≤ 2 ^ 63 - 1 → OnOk result ((p : ℕ) → value_in g new.tables p ≡ value_in g old.tables p)
  pub leaks : IsWellFormed g old → n ≤ 2 ^ 63 - 1 → OnOk result (KeepsLeaks g old new)
  pub cause : IfErr result (HasCause (writing_causes ⊤ (g.state old.tables.file.image).faults (g.state new.tables.file.image).faults))

-- An L2 table of a guest cluster from `first` to before `last` couldn't be allocated. By then the disk and what leaks were as in `d`.
pub record LacksSomeTable {S : Type 0} (g : Ghosts S) (first last : ℕ) (d : Qcow2 S g) (number : ℕ) : Type 0 where
  pub guest : ℕ
  pub from : first ≤ guest
  pub to : guest < last
  pub before : Qcow2 S g
  pub kept : KeepsDisk g ⊤ d before
  pub kept_leaks : KeepsLeaks g d before
  pub left : Qcow2 S g
  pub left_kept : KeepsDisk g ⊤ before left
  pub left_leaks : KeepsLeaks g before left
  pub lacks : LacksPlaceForTable g guest before.tables left.tables number

-- The guest cluster has no L2 table, or one that isn't shared.
abbrev pub SharesNone : {S : Type 0} (g : Ghosts S) → (guest : ℕ) → Tables S g → Type 0
SharesNone g guest t = let h = t.file.header.fields in
    (l2_table (file_of g t) h (guest / entries_of_cluster h) ≡ 0) ⊎ HasOwnTable g guest t

-- L2 tables of some guest clusters may have been copied. The guest reads the same bytes as before. `Limit` means that a table of one of
-- these guest clusters can't be allocated.
pub record OwnsTables {S : Type 0} (g : Ghosts S) (first last : ℕ) (old : Qcow2 S g) (result : Result Unit Fault) (new : Qcow2 S g)
    : Type 0 where
  pub keeps : KeepsDisk g (HadNoResourceError result) old new
  pub leaks : IsWellFormed g old → HadNoResourceError result → KeepsLeaks g old new
  pub known : IsSome old.tables.space → IsSome new.tables.space
  pub cause : IfErr result (HasCause (allocation_causes g (LacksSomeTable g first last old) old new))

-- The value of a byte of the disk from guest cluster `first` on, once it is unmapped.
abbrev pub GivesUnmapped : (first : ℕ) → Layer → List Layer → ℕ → Value → Type 0
GivesUnmapped first layer below p v = (first ≤ p / layer.fixed.unit) × (v ≡ through layer.fixed.blank (at below p))

-- Guest clusters from guest cluster `first` on may have been unmapped. Other bytes read as before. A crash image reads as before, or as
-- some of these guest clusters are unmapped.
pub record UnmapsFrom {S : Type 0} (g : Ghosts S) (first : ℕ) (ok : Type 0) (old new : Qcow2 S g) : Type 0 where
  pub mode : new.mode ≡ old.mode
  pub number : new.number ≡ old.number
  pub unspent : new.unspent ≡ old.unspent
  pub shape : (g.state new.tables.file.image).shape ≡ (g.state old.tables.file.image).shape
  pub counts_not_fallen : CountsNotFallen (g.state old.tables.file.image) (g.state new.tables.file.image)
  pub failed : IsTrue old.failed → IsTrue new.failed
  pub size : new.tables.file.header.fields.size ≡ old.tables.file.header.fields.size
  pub bits : new.tables.file.header.fields.cluster_bits ≡ old.tables.file.header.fields.cluster_bits
  pub version : new.tables.file.header.fields.version ≡ old.tables.file.header.fields.version
  pub faults : ok → IsFaultless (g.state old.tables.file.image) (g.state new.tables.file.image)
  pub known : IsSome old.tables.space → IsSome new.tables.space
  pub crash_images : IsWellFormed g old → IsSome old.tables.space → (below : List Layer)
      → UnrefusedCrashImages (Left below (layer_of g old) (g.state old.tables.file.image).bytes is_sound
      (layer_of g old).size (layer_of g old).size (GivesUnmapped first (layer_of g old) below))
      (g.state old.tables.file.image) (g.state new.tables.file.image)
  pub well_formed : IsWellFormed g old → IsSome old.tables.space → ok → IsWellFormed g new
  pub cells : IsWellFormed g old → IsSome old.tables.space → ok → (p : ℕ) → ((layer_of g new).cell p ≡ (layer_of g old).cell p)
      ⊎ ((first ≤ p / cluster_size old.tables.file.header.fields) × (p < (layer_of g old).size)
      × ((layer_of g new).cell p ≡ blank_of old.mode.backing))
  pub raw_entries : IsWellFormed g old → IsSome old.tables.space → ok → (x : ℕ)
      → (entry (file_of g new.tables) new.tables.file.header.fields x ≡ entry (file_of g old.tables) old.tables.file.header.fields x)
      ⊎ ((first ≤ x) × (entry (file_of g new.tables) new.tables.file.header.fields x ≡ unmapped))
  pub leaks : IsWellFormed g old → IsSome old.tables.space → ok → KeepsLeaks g old new

-- The guest clusters from `first` on, up to `last`, are unmapped, if the free space is loaded. Only a resource error can prevent it in a
-- well-formed image.
pub record UnmapsTail {S : Type 0} (g : Ghosts S) (first last : ℕ) (old : Qcow2 S g) (result : Result Unit Fault) (new : Qcow2 S g)
    : Type 0 where
  pub unmaps : UnmapsFrom g first (HadNoResourceError result) old new
  pub cleared : IsWellFormed g old → IsSome old.tables.space → OnOk result ((guest : ℕ) → first ≤ guest → guest < last
      → entry (file_of g new.tables) new.tables.file.header.fields guest ≡ unmapped)
  pub cause : IfErr result (HasCause (writing_causes (IsWellFormed g old × IsSome old.tables.space)
      (g.state old.tables.file.image).faults (g.state new.tables.file.image).faults))

-- The L1 table of a disk of this size, in bytes, couldn't be allocated. No run of a quarter of the space was free. By then the disk and what
-- leaks were as in `d`.
pub record LacksL1 {S : Type 0} (g : Ghosts S) (d : Qcow2 S g) (size number : ℕ) : Type 0 where
  pub now : Qcow2 S g
  pub well_formed : IsWellFormed g now
  pub same_disk : layer_of g now ≡ layer_of g d
  pub same_leaks : KeepsLeaks g d now
  pub left : Qcow2 S g
  pub left_safe : IsWellFormed g left
  pub left_disk : layer_of g left ≡ layer_of g now
  pub left_leaks : KeepsLeaks g now left
  pub lacks : let h = now.tables.file.header.fields in let i = last_entry h size in
      HasNoPlace g (λ n. n ≡ l1_clusters h now.tables.l1 i) i (space h / 4) now.tables left.tables number

-- The value of a byte of the disk in a guest cluster that is `cut`, once it is unmapped.
abbrev pub GivesBlank : (cut : ℕ → Type 0) → Layer → List Layer → ℕ → Value → Type 0
GivesBlank cut layer below p v = cut (p / layer.fixed.unit) × (v ≡ through layer.fixed.blank (at below p))

-- The disk of the image gets the size `n`, in bytes. Before that, guest clusters that are `cut` may be unmapped. Other bytes inside both
-- sizes read as before. A crash image has the old or the new size. After an error that is no resource error the disk is unchanged.
pub record ResizesDisk {S : Type 0} (g : Ghosts S) (cut : ℕ → Type 0) (n : ℕ) (full : ℕ → Type 0) (old : Qcow2 S g)
    (result : Result Unit Fault) (new : Qcow2 S g) : Type 0 where
  pub mode : new.mode ≡ old.mode
  pub number : new.number ≡ old.number
  pub unspent : new.unspent ≡ old.unspent
  pub shape : (g.state new.tables.file.image).shape ≡ (g.state old.tables.file.image).shape
  pub counts_not_fallen : CountsNotFallen (g.state old.tables.file.image) (g.state new.tables.file.image)
  pub failed : IsTrue old.failed → IsTrue new.failed
  pub bits : new.tables.file.header.fields.cluster_bits ≡ old.tables.file.header.fields.cluster_bits
  pub version : new.tables.file.header.fields.version ≡ old.tables.file.header.fields.version
  pub faults : HadNoResourceError result → IsFaultless (g.state old.tables.file.image) (g.state new.tables.file.image)
  pub marked : IfErr result (LeavesMarkedFailed g old new)
  pub size : OnOk result (new.tables.file.header.fields.size ≡ n)
  pub unsized : OnErr result (new.tables.file.header.fields.size ≡ old.tables.file.header.fields.size)
  pub crash_images : IsWellFormed g old → (below : List Layer)
      → UnrefusedCrashImages (Left below (layer_of g old) (g.state old.tables.file.image).bytes is_sound
      (min (layer_of g old).size n) (max (layer_of g old).size n) (GivesBlank cut (layer_of g old) below))
      (g.state old.tables.file.image) (g.state new.tables.file.image)
  pub well_formed : IsWellFormed g old → HadNoResourceError result → IsWellFormed g new
  pub cells : IsWellFormed g old → OnOk result ((p : ℕ) → p < (layer_of g old).size → p < n
      → (cut (p / cluster_size old.tables.file.header.fields) → ⊥) → (layer_of g new).cell p ≡ (layer_of g old).cell p)
  pub kept : IsWellFormed g old → IfErr result (λ e. IsNotResourceError e → layer_of g new ≡ layer_of g old)
  pub leaks : IsWellFormed g old → HadNoResourceError result → KeepsLeaks g old new
  pub cause : IfErr result (HasCause (reserving_causes g full old new))

-- The disk becomes longer. `Limit` means that the L1 table for the new size can't be allocated.
abbrev pub GrowsDisk : {S : Type 0} (g : Ghosts S) → (n : ℕ) → Qcow2 S g → Result Unit Fault → Qcow2 S g → Type 0
GrowsDisk g n old result new = ResizesDisk g (λ guest. ⊥) n (LacksL1 g old n) old result new

-- The header has the same cluster size, refcount width, and backing file as before. Each L2 entry means the same.
pub record KeepsMappings {S : Type 0} (g : Ghosts S) (old new : Qcow2 S g) : Type 0 where
  pub format : HasSameFormat old.tables.file.header new.tables.file.header
  pub raw_entries : IsWellFormed g old → (guest : ℕ)
      → entry (file_of g new.tables) new.tables.file.header.fields guest ≡ entry (file_of g old.tables) old.tables.file.header.fields guest

-- The disk becomes shorter. Guest clusters that are wholly past the new size, from `first` to before `last`, may be unmapped before. `Limit`
-- means that an L2 table of one of these can't be allocated.
pub record ShrinksDisk {S : Type 0} (g : Ghosts S) (n : ℕ) (old : Qcow2 S g) (result : Result Unit Fault) (new : Qcow2 S g)
    : Type 0 where
  pub first : ℕ
  pub last : ℕ
  pub past : n ≤ first * cluster_size old.tables.file.header.fields
  pub inside : (guest : ℕ) → guest < last → guest * cluster_size old.tables.file.header.fields < old.tables.file.header.fields.size
  pub resizes : ResizesDisk g (λ guest. first ≤ guest) n (LacksSomeTable g first last old) old result new
