-- The effect of calls that change the file of an image, but not what the guest reads.
use Rattle.std.specs.Prelude.{◌≡◌, ℕ, List, Option, IsTrue}
use Rattle.imago_storage.specs.Calls.{CountsNotFallen, IsFaultless}
use Rattle.imago_storage.specs.Disk.{Value}
use Rattle.imago_storage.specs.Passing.{UnrefusedCrashImages}
use Rattle.imago_storage.specs.declared.storage.Storage.{Ghosts}
use Rattle.imago_access.specs.Layer.{Layer}
use Rattle.imago_access.specs.Stops.{GivesNone, Left}
use Rattle.qcow2_types.specs.Entries.{entry}
use Rattle.qcow2_types.specs.Header.{Header}
use Rattle.qcow2_steps.specs.Values.{own_value}
use Rattle.qcow2_image.specs.Rooms.{IsWellFormed, is_sound}
use Rattle.qcow2_image.specs.Seen.{file_of, layer_of}
use Rattle.qcow2_image.specs.declared.qcow2.Qcow2.{Qcow2}
use Rattle.qcow2_image.specs.declared.tables.Tables.{Tables}

-- Both headers have the same cluster size, refcount width, and backing file.
pub record HasSameFormat (H K : Header) : Type 0 where
  pub cluster_bits : K.fields.cluster_bits ≡ H.fields.cluster_bits
  pub refcount_order : K.fields.refcount_order ≡ H.fields.refcount_order
  pub backing_name : K.backing_name ≡ H.backing_name
  pub backing_format : K.backing_format ≡ H.backing_format

-- The value that the file's tables and data give to a byte offset of the guest, also past the end of the disk. `None` means that its guest
-- cluster isn't allocated.
abbrev pub value_in : {S : Type 0} (g : Ghosts S) → Tables S g → ℕ → Option Value
value_in g t = own_value (file_of g t) (file_of g t) t.file.header.fields

-- The call keeps what the guest reads, the meaning of each entry, and the prepared mapping. Each crash image reads like the disk. If `ok`
-- holds, the call had no resource error, and the image is well-formed afterwards. The claims on the disk need `sure`, which says that the
-- image was well-formed.
pub record KeepsDiskWhere {S : Type 0} (g : Ghosts S) (sure ok : Type 0) (old new : Qcow2 S g) : Type 0 where
  pub mode : new.mode ≡ old.mode
  pub number : new.number ≡ old.number
  pub unspent : new.unspent ≡ old.unspent
  pub shape : (g.state new.tables.file.image).shape ≡ (g.state old.tables.file.image).shape
  pub counts_not_fallen : CountsNotFallen (g.state old.tables.file.image) (g.state new.tables.file.image)
  pub failed : IsTrue old.failed → IsTrue new.failed
  pub size : new.tables.file.header.fields.size ≡ old.tables.file.header.fields.size
  pub bits : new.tables.file.header.fields.cluster_bits ≡ old.tables.file.header.fields.cluster_bits
  pub version : new.tables.file.header.fields.version ≡ old.tables.file.header.fields.version
  pub format : HasSameFormat old.tables.file.header new.tables.file.header
  pub faults : ok → IsFaultless (g.state old.tables.file.image) (g.state new.tables.file.image)
  pub crash_images : sure → (below : List Layer)
      → UnrefusedCrashImages (Left below (layer_of g old) (g.state old.tables.file.image).bytes is_sound (layer_of g old).size (layer_of g old).size
      GivesNone) (g.state old.tables.file.image) (g.state new.tables.file.image)
  pub safely : sure → ok → IsWellFormed g new
  pub layer : sure → ok → layer_of g new ≡ layer_of g old
  pub raw_entries : sure → ok → (guest : ℕ)
      → entry (file_of g new.tables) new.tables.file.header.fields guest ≡ entry (file_of g old.tables) old.tables.file.header.fields guest
  pub values : sure → ok → (p : ℕ) → value_in g new.tables p ≡ value_in g old.tables p

-- Like `KeepsDiskWhere`, for every image that was well-formed.
abbrev pub KeepsDisk : {S : Type 0} (g : Ghosts S) (ok : Type 0) → Qcow2 S g → Qcow2 S g → Type 0
KeepsDisk g ok old new = KeepsDiskWhere g (IsWellFormed g old) ok old new
