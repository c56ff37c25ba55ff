-- Specifies reads of the bytes of an image's own files (image file, extents), without the mapping of the disk.
use Rattle.std.specs.Prelude.{◌≡◌, ⊤, ℕ, zero, suc, List, [], ◌∷◌}
use Rattle.imago_storage.specs.State.{StorageState}
use Rattle.imago_storage.specs.Calls.{IsFaultless}
use Rattle.imago_storage.specs.Steps.{Call}
use Rattle.imago_storage.specs.declared.fault.Fault.{Fault}
use Rattle.imago_storage.specs.declared.fault.Fault.TheVariants.{RangeOverflow, Memory, Storage}
use Rattle.imago_access.specs.declared.driver_model.DriverModel.{Ghosts}
use Rattle.imago_access.specs.Files.{Pairs, UnchangedButMoreFaults, SomeRose, files}
use Rattle.imago_access.specs.Going.{KeepsExcessRefcounts}
use Rattle.imago_access.specs.Room.{Takes}

-- The bytes of the storage with this number, or none if no storage has it.
abbrev pub file_bytes_in : List StorageState → ℕ → List ℕ
file_bytes_in [] number = []
file_bytes_in (s ∷ ss) zero = s.bytes
file_bytes_in (s ∷ ss) (suc number) = file_bytes_in ss number

-- The storages of the layer with this number, or none if no layer has it. The top layer has the number 0.
abbrev pub files_at : {D St : Type 0} → Ghosts D St → List D → ℕ → List StorageState
files_at g [] layer = []
files_at g (d ∷ ds) zero = files g d
files_at g (d ∷ ds) (suc layer) = files_at g ds layer

-- A read of a driver's files: nothing changes except for fault counts. If `whole` holds, the call had no resource error, and the fault
-- counts are unchanged too.
pub record FilesRead {D St : Type 0} (g : Ghosts D St) (whole : Type 0) (old new : D) : Type 0 where
  pub layer : g.layer new ≡ g.layer old
  pub unchanged_but_faults : Pairs UnchangedButMoreFaults (files g old) (files g new)
  pub faults : whole → Pairs IsFaultless (files g old) (files g new)
  pub seen : g.coherent old → g.coherent new
  pub safely : g.well_formed old → g.well_formed new
  pub stilled : g.has_no_dirty_data old → g.has_no_dirty_data new
  pub stays_stable : g.stable old → g.stable new
  pub excess_refcount : g.well_formed old → KeepsExcessRefcounts g old new
  pub room : g.well_formed old → Takes g (λ _. ⊤) old new
  pub stays_begun : (d : D) (call : Call) → g.began d call old → g.began d call new

-- The errors of a read of a driver's files. Its padded end doesn't fit 64 bits, memory ran out and no storage failed, or a storage failed.
abbrev pub FileReadCause : (overflows : Type 0) → List StorageState → List StorageState → Fault → Type 0
FileReadCause overflows olds news RangeOverflow = overflows
FileReadCause overflows olds news Memory = Pairs IsFaultless olds news
FileReadCause overflows olds news Storage = SomeRose olds news
FileReadCause overflows olds news fault = ⊥
