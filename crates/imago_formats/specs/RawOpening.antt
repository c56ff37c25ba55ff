-- A raw image that was just opened.
use Rattle.std.proofs.Common.{◌≡◌, refl}
use Rattle.std.proofs.Math.Nat.{le_refl}
use Rattle.imago_storage.specs.State.{StorageState}
use Rattle.std.specs.Prelude.{Bool, ℕ, length}
use Rattle.imago_access.specs.declared.driver_model.DriverModel.{Ghosts}
use Rattle.imago_access.specs.Files.{UnchangedButMoreFaults}
use Rattle.imago_formats.specs.RawLayer.{raw_layer}

-- Opening makes no request to the storage.
pub kept_same : (before image : StorageState) → image ≡ before → UnchangedButMoreFaults before image
kept_same before image is = rw is (record { shape = refl; bytes = refl; refusals = refl; crash_image = refl; past_crash_images = refl }, le_refl before.faults)

-- The image is as long as its storage.
pub as_long : (before image : StorageState) (size : ℕ) → image ≡ before → size ≡ length before.bytes → size ≡ length image.bytes
as_long before image size is long = rw is long

-- A raw image over a storage, with a size of at most the storage's length.
abbrev pub IsRaw : {R St : Type 0} → Ghosts R St → StorageState → Bool → R → Type 0
IsRaw r state writable d = (r.layer d ≡ raw_layer state (length state.bytes) writable) × r.stable d
