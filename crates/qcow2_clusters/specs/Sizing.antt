-- Specifies how the disk gets another size: the header is changed by one request.
use Rattle.std.specs.Prelude.{◌≡◌, ◌⊎◌, ◌≤◌, ◌-◌, ◌^◌, ℕ, List, IsTrue, Result, OnOk, OnErr}
use Rattle.imago_storage.specs.State.{StorageState}
use Rattle.imago_storage.specs.Passing.{UnrefusedCrashImages}
use Rattle.imago_storage.specs.Through.{AtomicWriteOutcome}
use Rattle.imago_storage.specs.declared.fault.Fault.{Fault}
use Rattle.qcow2_types.specs.Bytes.{bytes_of}
use Rattle.qcow2_types.specs.HeaderBytes.{first_bytes}
use Rattle.qcow2_types.specs.Pending.{FreeEntry}
use Rattle.qcow2_types.specs.Switched.{with_size}
use Rattle.qcow2_metadata.specs.Tables.{TableValue}
use Rattle.qcow2_alloc.specs.declared.file.ImageFile.{ImageFile}
use Rattle.qcow2_alloc.specs.GuestView.{IsSound}
use Rattle.qcow2_alloc.specs.Opening.{IsL1Of}
use Rattle.qcow2_steps.specs.Sizes.{KeepsAllButSize, rested}

-- The header has another disk size, in the file in one request. If that fails, the header in memory has the old size. A
-- consistent image with nothing cached stays consistent if the format allows the size, and its L1 table is unchanged. A crash
-- image is the old file, or has the new size and all else as before.
pub record SizesDisk {S : Type 0} (state : S → StorageState) (n : ℕ) (before : ImageFile S) (result : Result Unit Fault)
    (after : ImageFile S) : Type 0 where
  pub put : AtomicWriteOutcome (state before.image) (state after.image) 0 (first_bytes (with_size before.header n).fields) result
  pub ok : OnOk result (after.header ≡ with_size before.header n)
  pub err : OnErr result (after.header ≡ before.header)
  pub sized : (table : TableValue) (pending : List FreeEntry) → n ≤ 2 ^ 63 - 1 → IsTrue (state before.image).shape.keeps
      → IsSound (rested (bytes_of (state before.image).bytes) before.header table pending)
      → OnOk result (KeepsAllButSize (bytes_of (state before.image).bytes) before.header n (bytes_of (state after.image).bytes) table pending)
  pub l1 : (table : TableValue) (pending : List FreeEntry) → n ≤ 2 ^ 63 - 1 → IsTrue (state before.image).shape.keeps
      → IsSound (rested (bytes_of (state before.image).bytes) before.header table pending)
      → (l1 : TableValue) → IsL1Of (bytes_of (state before.image).bytes) before.header.fields l1
      → OnOk result (IsL1Of (bytes_of (state after.image).bytes) after.header.fields l1)
  pub crash_images : (table : TableValue) (pending : List FreeEntry) → n ≤ 2 ^ 63 - 1 → IsTrue (state before.image).shape.keeps
      → IsSound (rested (bytes_of (state before.image).bytes) before.header table pending)
      → UnrefusedCrashImages (λ x. (x ≡ (state before.image).bytes)
      ⊎ KeepsAllButSize (bytes_of (state before.image).bytes) before.header n (bytes_of x) table pending) (state before.image) (state after.image)
