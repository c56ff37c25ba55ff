-- Copy on write: the bytes of a host cluster for a guest cluster that can't be written in place.
use Rattle.std.specs.Prelude.{◌≡◌, ◌⊎◌, ⊤, ℕ, ◌+◌, ◌-◌, ◌*◌, ◌/◌, ◌%◌, ◌^◌, ◌<◌, ◌≤◌, List, length, min, slice_index, Result, IfOk, IfErr, OnOk, IsTrue, Vec}
use Rattle.std.specs.declared.alloc.Global.{Global}
use Rattle.imago_storage.specs.Calls.{Cause}
use Rattle.imago_storage.specs.Disk.{Value, barred, byte, damaged_place}
use Rattle.imago_storage.specs.Steps.{IsOut}
use Rattle.imago_storage.specs.declared.fault.Fault.{Fault}
use Rattle.imago_storage.specs.declared.fault.Fault.TheVariants.{Barred, DamagedTable, Failed, Memory, MissingData, RangeOverflow, Storage}
use Rattle.imago_storage.specs.declared.storage.Storage.{Ghosts}
use Rattle.imago_access.specs.Chain.{at, unit_of_chain}
use Rattle.imago_access.specs.Changes.{Asked, IsCopied}
use Rattle.imago_access.specs.Files.{ImageCause, SomeRose, HadNoResourceError}
use Rattle.imago_access.specs.Going.{LookupCallBelow}
use Rattle.imago_access.specs.Layer.{through}
use Rattle.imago_access.specs.Refusals.{ReadCause, SomeUnusable}
use Rattle.imago_access.specs.Room.{IsWholeUnit}
use Rattle.imago_access.specs.declared.driver_model.LayersBelowModel.{Ghosts as GhostsBelow}
use Rattle.qcow2_types.specs.Header.{Fields, cluster_size}
use Rattle.qcow2_alloc.specs.Causes.{HasCause}
use Rattle.qcow2_image.specs.Allocating.{shown_cell, reserving_causes}
use Rattle.qcow2_image.specs.Rooms.{IsWellFormed}
use Rattle.qcow2_image.specs.Seen.{file_of, layer_of}
use Rattle.qcow2_image.specs.Steps.{KeepsImage}
use Rattle.qcow2_image.specs.declared.allocating.Shown.{Shown}
use Rattle.qcow2_image.specs.declared.qcow2.Qcow2.{Qcow2}

-- The byte at this offset may stay unwritten: it isn't certain that the range overwrites it.
abbrev pub IsLeft : Asked → ℕ → Type 0
IsLeft asked p = IsTrue asked.overwrite → IsOut asked.offset asked.length p

-- The offset is on the disk, in the guest cluster in which the range starts.
abbrev pub IsInFirst : Fields → Asked → ℕ → Type 0
IsInFirst h asked p = (p / cluster_size h ≡ asked.offset / cluster_size h) × (p < h.size)

-- The start and the end of the part of the disk that is in the guest cluster of an offset.
abbrev pub first_places : Fields → ℕ → ℕ × ℕ
first_places h offset = let start = offset / cluster_size h * cluster_size h in (start, min (start + cluster_size h) h.size)

-- `part` must be copied of the bytes from `start` to `end`: all of them, except a range at either end that will be overwritten.
pub record CopiesPart (start end : ℕ) (asked : Asked) (part : ℕ × ℕ) : Type 0 where
  pub low : start ≤ part.0
  pub order : part.0 ≤ part.1
  pub high : part.1 ≤ end
  pub all : (p : ℕ) → start ≤ p → p < end → IsLeft asked p → (part.0 ≤ p) × (p < part.1)
  pub none : IsTrue asked.overwrite → asked.offset ≤ start → end ≤ asked.offset + asked.length → part.0 ≡ part.1

-- The bytes that the guest reads in a guest cluster, given where the cluster is read from and the layers below.
abbrev pub shown_over : {S B : Type 0} (g : Ghosts S) → GhostsBelow B → Shown → Qcow2 S g × B → ℕ → Value
shown_over g u shown image p =
    through (shown_cell (file_of g image.0.tables) image.0.tables.file.header.fields p shown) (at (u.layers_below image.1) p)

-- The error is one of a read of the layers below, where the bytes of `part` have these values.
pub record RefusesPart {B : Type 0} (u : GhostsBelow B) (value : ℕ → Value) (part : ℕ × ℕ) (old now : B) (fault : Fault) : Type 0 where
  pub failed : ImageCause (u.files_of_layers_below old) (u.files_of_layers_below now) fault
  pub cause : u.coherent_below old
      → ReadCause (u.layers_below old) value (unit_of_chain (u.layers_below old)) part.0 (part.1 - part.0) (u.files_of_layers_below old) (u.files_of_layers_below now) fault
  pub no_range_overflow : u.coherent_below old → part.1 ≤ 2 ^ 63 → fault ≡ RangeOverflow → ⊥

-- The bytes of `part` that the guest reads in a guest cluster are copied to `bytes`, or the image's own file or a layer below fails. Any
-- storage fault sets the image to failed.
pub record CopiesShown {S B : Type 0} (g : Ghosts S) (u : GhostsBelow B) (shown : Shown) (part : ℕ × ℕ) (old : Qcow2 S g × B)
    (result : Result Unit Fault) (new : Qcow2 S g × B) (bytes : ℕ → ℕ) : Type 0 where
  pub below : LookupCallBelow u (HadNoResourceError result) old.1 new.1
  pub keeps : KeepsImage g old.0 result new.0
  pub shows : OnOk result (u.coherent_below old.1
      → (p : ℕ) → part.0 ≤ p → p < part.1 → shown_over g u shown old p ≡ byte (bytes p))
  pub err : IfErr result (λ e. Cause (g.state old.0.tables.file.image).faults (g.state new.0.tables.file.image).faults e
      ⊎ RefusesPart u (shown_over g u shown old) part old.1 new.1 e)

-- The bytes of a host cluster for a part of a guest cluster: each is what the guest reads, unless it will be overwritten. Bytes past the end
-- of the disk are 0.
pub record Fills {S B : Type 0} (g : Ghosts S) (u : GhostsBelow B) (asked : Asked) (old : Qcow2 S g × B) (content : List ℕ)
    : Type 0 where
  pub long : length content ≡ cluster_size old.0.tables.file.header.fields
  pub shows : IsWellFormed g old.0 → u.coherent_below old.1 → let h = old.0.tables.file.header.fields in
      (p : ℕ) → IsInFirst h asked p → IsLeft asked p
      → IsCopied (at (u.layers_below old.1)) (layer_of g old.0) p (slice_index content (p % cluster_size h))
  pub rest : let h = old.0.tables.file.header.fields in (p : ℕ) → h.size ≤ p → p / cluster_size h ≡ asked.offset / cluster_size h
      → slice_index content (p % cluster_size h) ≡ 0

-- The guest's byte at this offset is needed: the range doesn't overwrite the whole guest cluster.
pub record IsNeededFor (h : Fields) (asked : Asked) (p : ℕ) : Type 0 where
  pub first : IsInFirst h asked p
  pub part : IsTrue asked.overwrite → IsWholeUnit (cluster_size h) h.size asked.offset asked.length (asked.offset / cluster_size h) → ⊥

-- A needed byte has this value.
abbrev pub NeedsShown : {S B : Type 0} (g : Ghosts S) → GhostsBelow B → Asked → Qcow2 S g × B → Value → Type 0
NeedsShown g u asked old value = (p : ℕ) × IsNeededFor old.0.tables.file.header.fields asked p
    × (through ((layer_of g old.0).cell p) (at (u.layers_below old.1) p) ≡ value)

-- The reasons why needed bytes can't be read.
abbrev pub WhyNotCopied : {S B : Type 0} (g : Ghosts S) → GhostsBelow B → Asked → Qcow2 S g × B → B → Fault → Type 0
WhyNotCopied g u asked old now Failed = SomeUnusable (u.layers_below old.1) Failed
WhyNotCopied g u asked old now MissingData = SomeUnusable (u.layers_below old.1) MissingData
WhyNotCopied g u asked old now DamagedTable = NeedsShown g u asked old damaged_place
WhyNotCopied g u asked old now Barred = NeedsShown g u asked old barred
WhyNotCopied g u asked old now Memory = ⊤
WhyNotCopied g u asked old now Storage = SomeRose (u.files_of_layers_below old.1) (u.files_of_layers_below now)
WhyNotCopied g u asked old now fault = ⊥

-- The error comes from a read of the guest cluster's current bytes.
pub record RefusesCopy {S B : Type 0} (g : Ghosts S) (u : GhostsBelow B) (asked : Asked) (old : Qcow2 S g × B) (now : B) (fault : Fault)
    : Type 0 where
  pub failed : ImageCause (u.files_of_layers_below old.1) (u.files_of_layers_below now) fault
  pub cause : IsWellFormed g old.0 → u.coherent_below old.1 → WhyNotCopied g u asked old now fault

-- The bytes are made from what the guest reads in the guest cluster, or the call fails. The image changes only as in a lookup. Any storage
-- fault, also one of the layers below, sets it to failed.
pub record MakesContent {S B : Type 0} (g : Ghosts S) (u : GhostsBelow B) (asked : Asked) (old : Qcow2 S g × B)
    (result : Result (Vec ℕ Global) Fault) (new : Qcow2 S g × B) : Type 0 where
  pub below : LookupCallBelow u (HadNoResourceError result) old.1 new.1
  pub keeps : KeepsImage g old.0 result new.0
  pub ok : IfOk result (λ content. Fills g u asked old content.items)
  pub err : IfErr result (λ e. HasCause (reserving_causes g (λ number. ⊥) old.0 new.0) e ⊎ RefusesCopy g u asked old new.1 e)
