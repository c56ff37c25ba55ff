-- Specifies the creation of a raw image: the state of its storage afterwards, and the errors.
use Rattle.std.specs.Prelude.{◌≡◌, ⊤, ℕ, length, slice_index, IsTrue}
use Rattle.imago_storage.specs.State.{StorageState, CrashImageIsBytes}
use Rattle.imago_storage.specs.declared.fault.Fault.{Fault}
use Rattle.imago_storage.specs.declared.fault.Fault.TheVariants.{Unsupported, Memory, Storage}

-- The storage has the size of the disk, and all its bytes are 0.
pub record IsNewRaw (old new : StorageState) (asked : ℕ) : Type 0 where
  pub shape : new.shape ≡ old.shape
  pub faults : new.faults ≡ old.faults
  pub size : length new.bytes ≡ asked
  pub bytes : IsTrue old.shape.keeps → (k : ℕ) → slice_index new.bytes k ≡ 0
  pub crash_image_is_bytes : CrashImageIsBytes old → CrashImageIsBytes new

-- The errors of creating a raw image: the storage can't be resized, memory ran out, or the storage failed.
abbrev pub NotCreated : Fault → Type 0
NotCreated Unsupported = ⊤
NotCreated Memory = ⊤
NotCreated Storage = ⊤
NotCreated fault = ⊥
