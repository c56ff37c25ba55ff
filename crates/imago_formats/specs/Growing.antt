-- Specifies how the storage of a raw image grows and is truncated. The storage is at least as long as the disk.
use Rattle.std.specs.Prelude.{◌≡◌, ◌⊎◌, ◌<◌, ◌≤◌, ℕ, List, length, slice_index, IsTrue}
use Rattle.imago_storage.specs.State.{StorageState, HasRisen, CrashImageIsBytes}
use Rattle.imago_storage.specs.Calls.{Cause, NotResized, UnlessUnsupported}
use Rattle.imago_storage.specs.Through.{EachCrashImage}
use Rattle.imago_storage.specs.declared.fault.Fault.{Fault}
use Rattle.imago_storage.specs.declared.fault.Fault.TheVariants.{Unsupported}

-- `f` begins with the first `n` bytes of `old`.
pub record HasFirst (old : List ℕ) (n : ℕ) (f : List ℕ) : Type 0 where
  pub long : n ≤ length f
  pub same : (k : ℕ) → k < n → slice_index f k ≡ slice_index old k

-- The storage is truncated to the first `from` bytes.
pub record CutTo (old new : StorageState) (from : ℕ) : Type 0 where
  pub shape : new.shape ≡ old.shape
  pub faults : new.faults ≡ old.faults
  pub refusals : new.refusals ≡ old.refusals
  pub size : length new.bytes ≡ from
  pub prefix_unchanged : IsTrue old.shape.keeps → (k : ℕ) → k < from → slice_index new.bytes k ≡ slice_index old.bytes k
  pub crash_image_is_bytes : CrashImageIsBytes old → CrashImageIsBytes new
  pub crash_images : EachCrashImage (HasFirst old.bytes from) old new

-- The first `from` bytes are unchanged, and all bytes after them are 0.
pub record GrownTo (old new : StorageState) (from to : ℕ) : Type 0 where
  pub faults : new.faults ≡ old.faults
  pub refusals : new.refusals ≡ old.refusals
  pub size : length new.bytes ≡ to
  pub prefix_unchanged : IsTrue old.shape.keeps → (k : ℕ) → k < from → slice_index new.bytes k ≡ slice_index old.bytes k
  pub filled : IsTrue old.shape.keeps → (k : ℕ) → from ≤ k → k < to → slice_index new.bytes k ≡ 0
  pub crash_image_is_bytes : CrashImageIsBytes old → CrashImageIsBytes new
  pub crash_images : EachCrashImage (HasFirst old.bytes from) old new

-- The error of a failed resize of a storage.
abbrev pub StorageResizeCause : StorageState → StorageState → Fault → Type 0
StorageResizeCause old new Unsupported = (new.faults ≡ old.faults) × (new.refusals ≡ old.refusals)
StorageResizeCause old new fault = Cause old.faults new.faults fault

-- A growth failed: the first `from` bytes are unchanged.
pub record NotLengthened (old new : StorageState) (from : ℕ) (fault : Fault) : Type 0 where
  pub cause : StorageResizeCause old new fault
  pub long : from ≤ length old.bytes → from ≤ length new.bytes
  pub prefix_unchanged : IsTrue old.shape.keeps → (k : ℕ) → k < from → slice_index new.bytes k ≡ slice_index old.bytes k
  pub crash_image_is_bytes : HasRisen old.refusals new.refusals ⊎ (CrashImageIsBytes old → CrashImageIsBytes new)
  pub crash_images : EachCrashImage (HasFirst old.bytes from) old new

-- A truncation failed. If it is unsupported nothing has changed, otherwise the bytes are unchanged.
abbrev pub NotCut : StorageState → StorageState → Fault → Type 0
NotCut old new = UnlessUnsupported old new (NotResized old new)
